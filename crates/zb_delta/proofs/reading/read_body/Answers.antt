use Rattle.zb_delta.proofs.Missing.{no_body}
use Rattle.zb_delta.proofs.reading.read_body.Goals as goal

pub returns-in_err-was : goal.returns-in_err-was
returns-in_err-was c =
    rw c.from_residual.ensures (no_body _ _ _ _ _ _ _ c.split_u32-fid.ensures.whole c.split_u64-version.ensures.whole c.split_u32-block.ensures.whole c.in_err-was.ensures.front)
