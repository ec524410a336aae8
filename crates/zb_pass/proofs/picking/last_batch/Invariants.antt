use Rattle.std.proofs.Common.{◌≡◌, drop}
use Rattle.zb_pass.specs.Picking.{last_batch}
use Rattle.zb_pass.proofs.picking.last_batch.Given as goal

abbrev pub invariant-loop-found : goal.invariant-loop-found
invariant-loop-found l = last_batch l.log (drop l.found-index l.uses) ≡ last_batch l.log l.uses
