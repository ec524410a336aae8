use Rattle.std.proofs.Common.{arith}
use Rattle.zb_spelling.specs.Spelling.{kind_of_entry, number_of_entry}
use Rattle.zb_spelling.specs.Reading.{IsEntry}
use Rattle.zb_spelling.proofs.Once.{entry_room}
use Rattle.zb_spelling.proofs.Missing.{tagged_too_short, no_tagged}
use Rattle.zb_spelling.proofs.names.read_entry.Goals as goal

pub returns-then-bytes-lt-TAGGED : goal.returns-then-bytes-lt-TAGGED
returns-then-bytes-lt-TAGGED c = tagged_too_short IsEntry kind_of_entry number_of_entry entry_room c.args.bytes.now c.if-bytes-lt-TAGGED.true

pub returns-in_err-entry : goal.returns-in_err-entry
returns-in_err-entry c =
    rw c.from_residual.ensures (no_tagged IsEntry kind_of_entry number_of_entry entry_room c.split_tagged-kind.result.0 c.split_tagged-kind.result.1 c.args.bytes.now c.split_tagged-kind.result.2.now
    (omega arith) c.split_tagged-kind.ensures (λ a h k n. c.in_err-entry.ensures a k n))
