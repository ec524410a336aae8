use Rattle.zb_spelling.proofs.Missing.{block_too_short}
use Rattle.zb_spelling.proofs.files.Tuple2U32PtrReadable.read.Goals as goal

pub returns-then-bytes-lt-BLOCK : goal.returns-then-bytes-lt-BLOCK
returns-then-bytes-lt-BLOCK c = block_too_short c.args.bytes.now c.if-bytes-lt-BLOCK.true
