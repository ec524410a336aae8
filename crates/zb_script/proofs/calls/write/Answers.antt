use Rattle.zb_script.proofs.Fields.{Field, no_write-1, no_write-2, no_write-3}
use Rattle.zb_script.proofs.calls.write.Goals as goal
use Rattle.zb_script.proofs.calls.write.Goals.{In-Some, In-Some-field}

fid : (c : In-Some) → Field c.args.rest.now c.in-Some.fid c.in-Some.rest.now
fid c = record { number = c.in-Some.ensures.0; text = c.in-Some.ensures.1 }

offset : (c : In-Some-field) → Field c.in-Some.rest.now c.in-Some-field.offset c.in-Some-field.rest.now
offset c = record { number = c.in-Some-field.ensures.0; text = c.in-Some-field.ensures.1 }

pub returns-in_default : goal.returns-in_default
returns-in_default c = no_write-1 c.in_default.ensures

pub returns-in_default-field : goal.returns-in_default-field
returns-in_default-field c = no_write-2 (fid (goal.at.returns-in_default-field c).In-Some) c.in_default-field.ensures

pub returns-in_default-2 : goal.returns-in_default-2
returns-in_default-2 c =
    let p = goal.at.returns-in_default-2 c in
    no_write-3 (fid p.In-Some) (offset p.In-Some-field) (rw c.in_default-2.is at c.in_ok-bytes.ensures)
