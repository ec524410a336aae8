use Rattle.std.proofs.Common.{subst, sym}
use Rattle.std.specs.List.Sorted.{IsStrictlySortedBy}
use Rattle.std.proofs.lemmas.List.{map-id}
use Rattle.zb_tables.specs.Checkpoint.{held_cmp}
use Rattle.zb_spelling.proofs.Fitting.{failed}
use Rattle.zb_spelling.proofs.InOrder.{held_transitive}
use Rattle.zb_spelling.proofs.limits.stripes_fit.Goals as goal

pub rise-requires : goal.rise-requires
rise-requires c = held_transitive

pub returns-then-rise : goal.returns-then-rise
returns-then-rise c =
    (λ told. record { rising = subst (IsStrictlySortedBy held_cmp) (map-id c.args.held.now) (c.rise.ensures.0 c.if-rise.true); each = c.each_stripe_fits.ensures.0 told }, λ fit. c.each_stripe_fits.ensures.1 fit.each)

pub returns-else-rise : goal.returns-else-rise
returns-else-rise c = (failed c.rise.result c.if-rise.false, λ fit. c.rise.ensures.1 (subst (IsStrictlySortedBy held_cmp) (sym (map-id c.args.held.now)) fit.rising))
