use Rattle.std.proofs.Common.{◌≡◌, ◌++◌, length}
use Rattle.std.specs.List.{flat_map}
use Rattle.zb_claims.specs.Text.{byte_text, AreBytes}
use Rattle.zb_report.proofs.text.bytes_into.Given as goal

abbrev pub invariant-loop-rest : goal.invariant-loop-rest
invariant-loop-rest l = record {
  text : l.out.items ++ flat_map byte_text l.rest ≡ l.fn.out.items ++ flat_map byte_text l.bytes;
  values : AreBytes l.rest → AreBytes l.bytes;
}

abbrev pub decreases-loop-rest : goal.decreases-loop-rest
decreases-loop-rest l = length l.rest
