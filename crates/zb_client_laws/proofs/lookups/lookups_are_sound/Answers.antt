use Rattle.zb_client_laws.proofs.Looking.{found_sound, may_find, named_sound}
use Rattle.zb_client_laws.proofs.lookups.lookups_are_sound.Goals as goal

pub returns-clause-may_find : goal.returns-clause-may_find
returns-clause-may_find c slots w seen client task hold asks a known s is_task at_lookup is = may_find slots w a seen client known s task is_task at_lookup asks hold is

pub returns-clause-found : goal.returns-clause-found
returns-clause-found c slots w seen client task hold asks heard a known s is_task at_lookup is on = found_sound slots w a seen client known s task is_task at_lookup asks hold is heard on

pub returns-clause-named : goal.returns-clause-named
returns-clause-named c slots w seen client task call reply heard a known s is_task at_lookup e right is =
    named_sound slots w a seen client known s task is_task at_lookup call reply right heard e is
