use Rattle.zb_spelling.proofs.Missing.{held_too_short}
use Rattle.zb_spelling.proofs.logs.HeldUseReadable.read.Goals as goal

pub returns-then-bytes-lt-HELD : goal.returns-then-bytes-lt-HELD
returns-then-bytes-lt-HELD c = held_too_short c.args.bytes.now c.if-bytes-lt-HELD.true
