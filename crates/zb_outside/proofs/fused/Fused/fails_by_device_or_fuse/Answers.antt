use Rattle.zb_outside.proofs.Causes.{device_or_fuse}
use Rattle.zb_outside.proofs.fused.Fused.fails_by_device_or_fuse.Goals as goal

pub returns : goal.returns
returns g c = device_or_fuse _ _
