use Rattle.std.proofs.Common.{arith}
use Rattle.zb_spelling.proofs.Missing.{list_too_short, list_found}
use Rattle.zb_spelling.proofs.listed.read_list.Goals as goal

pub returns-then-bytes-lt4 : goal.returns-then-bytes-lt4
returns-then-bytes-lt4 g c = list_too_short g.T.Readable.Is g.T.Readable.text c.args.bytes.now c.if-bytes-lt4.true

pub returns : goal.returns
returns g c = list_found g.T.Readable.Is g.T.Readable.text c.split_u32-count.result.0 c.args.bytes.now c.split_u32-count.result.1.now (omega arith) c.split_u32-count.ensures.whole _ c.in_ok-found.ensures
