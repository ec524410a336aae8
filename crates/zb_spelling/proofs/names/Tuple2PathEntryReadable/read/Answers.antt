use Rattle.zb_spelling.proofs.Missing.{no_entry_no_name}
use Rattle.zb_spelling.proofs.names.Tuple2PathEntryReadable.read.Goals as goal

pub returns-in_default-read_entry : goal.returns-in_default-read_entry
returns-in_default-read_entry c = no_entry_no_name c.in-Some.path c.args.bytes.now c.in-Some.rest.now (rw c.in-Some.is at c.in_ok-path.ensures) c.in_default-read_entry.ensures
