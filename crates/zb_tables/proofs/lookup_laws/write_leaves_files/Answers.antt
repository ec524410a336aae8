use Rattle.std.proofs.Common.{◌+◌, sym}
use Rattle.zb_tables.specs.Fold.{after_write}
use Rattle.zb_tables.proofs.Versions.{resized_itself, resized_refused, resized_beside}
use Rattle.zb_tables.proofs.lookup_laws.write_leaves_files.Goals as goal

pub returns-clause-file : goal.returns-clause-file
returns-clause-file c b s after call fid version offset len deltas old e was short = resized_itself s after fid version (offset + len) (after_write (offset + len) deltas) e old was short

pub returns-clause-refused : goal.returns-clause-refused
returns-clause-refused c b s after call fid version offset len deltas e why = resized_refused s after fid version (offset + len) (after_write (offset + len) deltas) e why

pub returns-clause-others : goal.returns-clause-others
returns-clause-others c b s after call fid version offset len deltas n e other = resized_beside s after fid version (offset + len) (after_write (offset + len) deltas) e n (λ i. other (sym i))
