use Rattle.std.proofs.Common.{◌≡◌, ◌∙◌, sym, subst}
use Rattle.std.specs.List.{AllByRecursion}
use Rattle.zb_forming.specs.declared.draft.Drafts.{Drafts}
use Rattle.zb_forming.specs.Drafts.{drafted, known, Fits, IsOrdered}
use Rattle.zb_forming.proofs.Asked.{ok-more}
use Rattle.zb_forming.proofs.Joining.{in-order, all-fit}
use Rattle.zb_forming.proofs.forming.drafts_of.Goals as goal

pub drafted-requires-clause-found : goal.drafted-requires-clause-found
drafted-requires-clause-found c =
    subst (AllByRecursion IsOrdered) (sym c.slice.ensures) (in-order c.args.block c.args.room c.args.calls.now c.args.basis.now c.requires.given)

pub returns-clause-fit : goal.returns-clause-fit
returns-clause-fit c =
    ok-more (λ (s : Drafts). s ≡ _) (λ (s : Drafts). AllByRecursion (Fits c.args.block) s.blocks) _
    (λ s e. subst (λ (d : Drafts). AllByRecursion (Fits c.args.block) d.blocks)
    (sym (e ∙ (λ i. drafted c.args.block (known (c.slice-2.ensures i)) c.args.calls.now (c.slice.ensures i) (c.in_ok-s.ensures i))))
    (all-fit c.args.block c.args.room c.args.calls.now c.args.basis.now c.requires.given)) c.drafted.ensures
