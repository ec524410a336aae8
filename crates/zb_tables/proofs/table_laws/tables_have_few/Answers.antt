use Rattle.zb_tables.proofs.Fewness.{few_files, few_logs}
use Rattle.zb_tables.proofs.table_laws.tables_have_few.Goals as goal

pub returns-clause-files : goal.returns-clause-files
returns-clause-files c z t f = few_files z t f

pub returns-clause-logs : goal.returns-clause-logs
returns-clause-logs c z t f = few_logs z t f
