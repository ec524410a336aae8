use Rattle.std.proofs.Common.{◌≡◌, ◌-◌, ℕ, List, Bool}
use Rattle.zb_stripe.specs.Reading.{reading, sought}
use Rattle.zb_stripe.proofs.progress.next_covered.Given as goal

abbrev pub invariant-loop-k : goal.invariant-loop-k
invariant-loop-k l =
    (lost : List Bool) (sum : List ℕ) → sought (reading l.source lost l.read) l.lengths sum (l.source.geo.servers - 1 - l.k) ≡ sought (reading l.source lost l.read) l.lengths sum (l.source.geo.servers - 1 - l.from)
