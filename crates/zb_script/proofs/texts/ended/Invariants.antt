use Rattle.std.proofs.Common.{◌≡◌, ◌++◌, length}
use Rattle.std.specs.List.{flat_map}
use Rattle.zb_claims.specs.Text.{byte_text, AreBytes}
use Rattle.zb_script.proofs.texts.ended.Given as goal

abbrev pub invariant-loop-b : goal.invariant-loop-b
invariant-loop-b l = record {
  valid : AreBytes l.bytes.items;
  text : flat_map byte_text l.bytes.items ++ l.rest ≡ l.text;
}

abbrev pub decreases-loop-b : goal.decreases-loop-b
decreases-loop-b l = length l.rest
