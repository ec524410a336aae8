use Rattle.std.proofs.Common.{[]}
use Rattle.zb_tables.proofs.TablesForm.{entries_tables, entry_tables}
use Rattle.zb_tables.proofs.table_laws.entries_leave_tables.Goals as goal

pub returns-clause-each : goal.returns-clause-each
returns-clause-each c z contents before t after entry batch f is taken e = entry_tables z contents before t entry batch after f is taken e

pub returns-clause-all : goal.returns-clause-all
returns-clause-all c z contents entries t after f taken = entries_tables z contents [] entries t after f taken
