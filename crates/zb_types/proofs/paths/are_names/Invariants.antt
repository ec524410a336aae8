use Rattle.std.proofs.Common.{◌≡◌, ◌≤◌, ◌-◌, [], take, drop}
use Rattle.zb_types.specs.Paths.{are_names}
use Rattle.zb_types.proofs.paths.are_names.Given as goal

abbrev pub invariant-loop-i : goal.invariant-loop-i
invariant-loop-i l = record {
  within : l.start ≤ l.i;
  rest : are_names (take (l.i - l.start) (drop l.start l.text)) (drop l.i l.text) ≡ are_names [] l.text;
}
