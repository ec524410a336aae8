use Rattle.std.proofs.Common.{arith}
use Rattle.zb_tables.specs.Checkpoint.{IsUpdateReply}
use Rattle.zb_spelling.specs.Spelling.{kind_of_reply, number_of_reply}
use Rattle.zb_spelling.proofs.Once.{reply_room}
use Rattle.zb_spelling.proofs.Missing.{tagged_too_short, no_tagged}
use Rattle.zb_spelling.proofs.replies.ReplyReadable.read.Goals as goal

pub returns-then-bytes-lt-TAGGED : goal.returns-then-bytes-lt-TAGGED
returns-then-bytes-lt-TAGGED c = tagged_too_short IsUpdateReply kind_of_reply number_of_reply reply_room c.args.bytes.now c.if-bytes-lt-TAGGED.true

pub returns-in-None : goal.returns-in-None
returns-in-None c =
    no_tagged IsUpdateReply kind_of_reply number_of_reply reply_room c.split_tagged-kind.result.0 c.split_tagged-kind.result.1 c.args.bytes.now c.split_tagged-kind.result.2.now
    (omega arith) c.split_tagged-kind.ensures c.in-None.ensures
