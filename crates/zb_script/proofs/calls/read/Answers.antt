use Rattle.zb_script.proofs.Fields.{Field, no_read-1, no_read-2, no_read-3}
use Rattle.zb_script.proofs.calls.read.Goals as goal
use Rattle.zb_script.proofs.calls.read.Goals.{In_ok-fid, In_ok-offset}

fid : (c : In_ok-fid) → Field c.args.rest.now c.in_ok-fid.fid c.in_ok-fid.rest.now
fid c = record { number = c.in_ok-fid.ensures.0; text = c.in_ok-fid.ensures.1 }

offset : (c : In_ok-offset) → Field c.in_ok-fid.rest.now c.in_ok-offset.offset c.in_ok-offset.rest.now
offset c = record { number = c.in_ok-offset.ensures.0; text = c.in_ok-offset.ensures.1 }

pub returns-in_err-fid : goal.returns-in_err-fid
returns-in_err-fid c = rw c.from_residual.ensures (no_read-1 c.in_err-fid.ensures)

pub returns-in_err-offset : goal.returns-in_err-offset
returns-in_err-offset c =
    let p = goal.at.returns-in_err-offset c in
    rw c.from_residual-in_err-offset.ensures (no_read-2 (fid p.In_ok-fid) c.in_err-offset.ensures)

pub returns-in_err-len : goal.returns-in_err-len
returns-in_err-len c =
    let p = goal.at.returns-in_err-len c in
    rw c.from_residual-in_err-len.ensures (no_read-3 (fid p.In_ok-fid) (offset p.In_ok-offset) c.in_err-len.ensures)
