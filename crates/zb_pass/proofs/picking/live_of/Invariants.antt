use Rattle.std.proofs.Common.{◌≡◌, ◌++◌, drop}
use Rattle.zb_pass.specs.Picking.{live_of}
use Rattle.zb_pass.proofs.picking.live_of.Given as goal

abbrev pub invariant-loop-body : goal.invariant-loop-body
invariant-loop-body l = l.found.items ++ live_of l.log l.stripe (drop l.body-index l.live) ≡ live_of l.log l.stripe l.live
