use Rattle.zb_script.proofs.Fields.{Field, no_truncate-1, no_truncate-2}
use Rattle.zb_script.proofs.calls.truncate.Goals as goal

pub returns-in_err-fid : goal.returns-in_err-fid
returns-in_err-fid c = rw c.from_residual.ensures (no_truncate-1 c.in_err-fid.ensures)

pub returns-in_err-length : goal.returns-in_err-length
returns-in_err-length c =
    let fid : Field c.args.rest.now c.in_ok-fid.fid c.in_ok-fid.rest.now = record { number = c.in_ok-fid.ensures.0; text = c.in_ok-fid.ensures.1 } in
    rw c.from_residual-in_err-length.ensures (no_truncate-2 fid c.in_err-length.ensures)
