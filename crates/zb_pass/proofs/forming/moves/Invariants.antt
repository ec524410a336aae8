use Rattle.std.proofs.Common.{◌≡◌, ◌++◌, drop}
use Rattle.zb_pass.specs.Moving.{moves}
use Rattle.zb_pass.proofs.forming.moves.Given as goal

abbrev pub invariant-loop-body : goal.invariant-loop-body
invariant-loop-body l = l.deltas.items ++ moves (drop l.body-index l.live) l.rest ≡ moves l.live l.initial.rest
