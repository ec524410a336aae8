use Rattle.zb_tables.proofs.Living.{nothing_there, there_nothing}
use Rattle.zb_tables.proofs.laws.nothing_lives_where_all_point_elsewhere.Goals as goal

pub returns-clause-none : goal.returns-clause-none
returns-clause-none c t log stripe e = nothing_there log stripe t.files e

pub returns-clause-some : goal.returns-clause-some
returns-clause-some c t log stripe all = there_nothing log stripe t.files all
