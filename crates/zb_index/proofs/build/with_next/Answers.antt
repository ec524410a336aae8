use Rattle.std.proofs.Common.{◌≡◌, ◌&&◌, Bool, true, false, not, eqb, Option, Some, None, refl, sym, ap, ◌∙◌, subst}
use Rattle.std.proofs.lemmas.Bool.{cond-false}
use Rattle.zb_types.specs.declared.ids.FragId.{FragId}
use Rattle.zb_holding.specs.Carrying.{same_frag}
use Rattle.zb_slots.specs.declared.header.Header.{Header}
use Rattle.zb_slots.specs.Holding.{named}
use Rattle.zb_slots.specs.Shown.{Says}
use Rattle.zb_index.proofs.Twinning.{next_other}
use Rattle.zb_index.proofs.build.with_next.Goals as goal

apart : (p q r : Bool) → not (p && (q && r)) ≡ true → ((p && q) && r) ≡ false
apart true true true h = sym h
apart true true false h = refl
apart true false r h = refl
apart false q r h = refl

other : (a b : FragId) → not (eqb a.log.0 b.log.0 && (eqb a.stripe b.stripe && eqb a.index b.index)) ≡ true → same_frag a b ≡ false
other a b h = apart (eqb a.log.0 b.log.0) (eqb a.stripe b.stripe) (eqb a.index b.index) h

pub returns-then-ne : goal.returns-then-ne
returns-then-ne c slots says are =
    let h = c.in-Some-holder_of.ensures (slots c.args.slot) (subst (λ (o : Option Header). Says o (slots c.args.slot)) c.in-Some.is says) in
    let id = c.args.id in
    let none = ap (named id) h.full ∙ cond-false (same_frag h.stored.id id) (Some h.stored) None (ap (λ (a : FragId). same_frag a id) h.name ∙ other c.in-Some-holder_of.named id (sym c.if-ne.ensures)) in
    next_other c.args.slot slots id c.args.holders none are
