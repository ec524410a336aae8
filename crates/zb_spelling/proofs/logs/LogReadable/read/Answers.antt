use Rattle.zb_tables.specs.Fold.{following}
use Rattle.zb_spelling.proofs.Once.{reply_once}
use Rattle.zb_spelling.proofs.Missing.{log_too_short, no_owner_no_log, no_replies_no_log}
use Rattle.zb_spelling.proofs.logs.LogReadable.read.Goals as goal

pub returns-then-bytes-lt-LOG : goal.returns-then-bytes-lt-LOG
returns-then-bytes-lt-LOG c = log_too_short c.args.bytes.now c.if-bytes-lt-LOG.true

pub read_list-requires : goal.read_list-requires
read_list-requires c = reply_once

pub returns-in_default : goal.returns-in_default
returns-in_default c = no_owner_no_log c.split_u32-number.result.0 c.args.bytes.now c.split_u32-number.result.1.now c.split_u32-number.ensures.whole c.in_default.ensures.front

pub returns-in_default-2 : goal.returns-in_default-2
returns-in_default-2 c =
    no_replies_no_log c.split_u32-number.result.0 c.read_marks.result.0.batch (following c.read_marks.result.0.last) c.read_marks.result.0.mark (c.in-Some.owner, c.in-Some.live) c.args.bytes.now c.split_u32-number.result.1.now c.in-Some.rest.now c.read_marks.result.1.now
    c.split_u32-number.ensures.whole c.in-Some.ensures.front.1 c.read_marks.ensures.whole (rw c.in_default-2.is at c.in_ok-replies.ensures)
