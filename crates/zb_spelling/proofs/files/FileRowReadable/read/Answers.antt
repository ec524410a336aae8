use Rattle.zb_spelling.proofs.Once.{block_once}
use Rattle.zb_spelling.proofs.Missing.{file_too_short, no_file}
use Rattle.zb_spelling.proofs.files.FileRowReadable.read.Goals as goal

pub returns-then-bytes-lt-FILE : goal.returns-then-bytes-lt-FILE
returns-then-bytes-lt-FILE c = file_too_short c.args.bytes.now c.if-bytes-lt-FILE.true

pub read_list-requires : goal.read_list-requires
read_list-requires c = block_once

pub returns-in_default : goal.returns-in_default
returns-in_default c =
    no_file c.split_u32-fid.result.0 c.split_u64-version.result.0 c.split_u32-length.result.0 c.args.bytes.now c.split_u32-fid.result.1.now c.split_u64-version.result.1.now c.split_u32-length.result.1.now
    c.split_u32-fid.ensures.whole c.split_u64-version.ensures.whole c.split_u32-length.ensures.whole (rw c.in_default.is at c.in_ok-blocks.ensures)
