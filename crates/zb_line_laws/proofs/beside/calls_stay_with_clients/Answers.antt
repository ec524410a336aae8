use Rattle.zb_line_laws.proofs.Staying.{beside, finish, finishes, others, own, quiet_step}
use Rattle.zb_line_laws.proofs.beside.calls_stay_with_clients.Goals as goal

pub returns-clause-own : goal.returns-clause-own
returns-clause-own c given lines call at client h = own given lines call at client h

pub returns-clause-others : goal.returns-clause-others
returns-clause-others c given lines line at client none h = others given lines line at client none h

pub returns-clause-finish : goal.returns-clause-finish
returns-clause-finish c given lines at client h = finish given lines at client h

pub returns-clause-beside : goal.returns-clause-beside
returns-clause-beside c given lines more client none h = beside given lines more client none h

pub returns-clause-finishes : goal.returns-clause-finishes
returns-clause-finishes c given lines client none over h = finishes given lines client none over h

pub returns-clause-quiet : goal.returns-clause-quiet
returns-clause-quiet c given lines client after same h = quiet_step given lines client after same h
