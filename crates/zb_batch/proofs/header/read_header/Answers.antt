use Rattle.zb_batch.proofs.Missing.{header_too_short}
use Rattle.zb_batch.proofs.header.read_header.Goals as goal

pub returns-then-bytes-lt-LENGTH : goal.returns-then-bytes-lt-LENGTH
returns-then-bytes-lt-LENGTH c = header_too_short c.args.bytes.now c.if-bytes-lt-LENGTH.true
