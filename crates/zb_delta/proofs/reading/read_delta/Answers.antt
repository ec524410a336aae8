use Rattle.zb_delta.proofs.Missing.{too_short}
use Rattle.zb_delta.proofs.reading.read_delta.Goals as goal

pub returns-then-bytes-lt-LENGTH : goal.returns-then-bytes-lt-LENGTH
returns-then-bytes-lt-LENGTH c = too_short c.args.bytes.now c.if-bytes-lt-LENGTH.true
