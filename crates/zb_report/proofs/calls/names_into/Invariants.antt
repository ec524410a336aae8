use Rattle.std.proofs.Common.{◌≡◌, ◌++◌, ◌∷◌, length}
use Rattle.std.specs.List.{flat_map}
use Rattle.zb_claims.specs.Text.{AreNames}
use Rattle.zb_report.proofs.calls.names_into.Given as goal

abbrev pub invariant-loop-rest : goal.invariant-loop-rest
invariant-loop-rest l = record {
  text : l.out.items ++ flat_map (λ name. 32 ∷ name) l.rest ≡ l.fn.out.items ++ flat_map (λ name. 32 ∷ name) l.names;
  values : AreNames l.rest → AreNames l.names;
}

abbrev pub decreases-loop-rest : goal.decreases-loop-rest
decreases-loop-rest l = length l.rest
