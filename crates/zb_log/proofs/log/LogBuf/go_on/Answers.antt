use Rattle.std.proofs.Common.{◌≡◌, ℕ, List, ap, subst, sym, ◌∙◌, arith}
use Rattle.std.proofs.lemmas.Grind.{common_steps}
use Rattle.zb_stripe.specs.declared.flush.Flush.{Flush}
use Rattle.zb_stripe.specs.declared.flush.FreshFlush.{FreshFlush}
use Rattle.zb_stripe.specs.Fresh.{IsFreshFlush}
use Rattle.zb_log.specs.declared.placed.Placed.{Placed}
use Rattle.zb_log.specs.Logs.{SeenLog, AreGiven, IsSound, IsSealed, parity_with, bytes_with, end_with, last_of, gone_on}
use Rattle.zb_log.proofs.Parting.{sound_with, goes_on_gives, given_on}
use Rattle.zb_log.proofs.log.LogBuf.go_on.Goals as goal

pub invariant_of-self : goal.invariant_of-self
invariant_of-self c =
    let sealed = subst (λ (z : SeenLog). IsSealed z c.args.placed.now c.args.fresh) (sym c.self.view_is) c.requires in
    sound_with _ c.args.placed.now c.args.fresh _ c.self.invariant sealed (sym (ap (parity_with c.self.inside.parity.items) (sym c.last_part.ensures ∙ c.in_default.is)))

pub returns-in_default-clause-gives : goal.returns-in_default-clause-gives
returns-in_default-clause-gives c = goes_on_gives c.args.self.now c.args.placed.now c.args.fresh (subst IsSound c.self.view_is c.self.invariant) c.requires

pub invariant_of-self-2 : goal.invariant_of-self-2
invariant_of-self-2 c =
    let sealed = subst (λ (z : SeenLog). IsSealed z c.args.placed.now c.args.fresh) (sym c.self.view_is) c.requires in
    sound_with _ c.args.placed.now c.args.fresh _ c.self.invariant sealed (c.into_items.ensures ∙ sym (ap (parity_with c.self.inside.parity.items) (sym c.last_part.ensures ∙ c.in-Some.is)))

pub returns-clause-gives : goal.returns-clause-gives
returns-clause-gives c = goes_on_gives c.args.self.now c.args.placed.now c.args.fresh (subst IsSound c.self.view_is c.self.invariant) c.requires

-- the log as it is then
behind : (seen : SeenLog) (new : SeenLog) (placed : Placed) (given : List ℕ) (flush : Flush) (fresh : FreshFlush) → new ≡ gone_on seen placed.next fresh.parts → AreGiven seen given → IsFreshFlush seen.servers seen.fragment flush fresh
    → end_with seen.next (last_of flush.parts) ≡ placed.next → AreGiven new (bytes_with given (last_of flush.parts))
behind seen new placed given flush fresh is are new_of end = subst (λ (z : SeenLog). AreGiven z (bytes_with given (last_of flush.parts))) (sym is) (given_on seen placed.next given flush fresh are new_of end)

pub returns-in_default-clause-given : goal.returns-in_default-clause-given
returns-in_default-clause-given c given flush are is end =
    behind c.args.self.now _ c.args.placed.now given flush c.args.fresh (grind (arith, common_steps)) are is end

pub returns-clause-given : goal.returns-clause-given
returns-clause-given c given flush are is end =
    behind c.args.self.now _ c.args.placed.now given flush c.args.fresh (grind (arith, common_steps)) are is end
