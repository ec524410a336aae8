use Rattle.std.proofs.Common.{arith}
use Rattle.zb_course.proofs.Giving.{commits_all, finish_begins, next_is_new, takes}
use Rattle.zb_course.proofs.laws.courses_take_calls.Goals as goal

pub returns-clause-call : goal.returns-clause-call
returns-clause-call c given lines old new client call s low last short few t = takes s new client low last call short few t

pub returns-clause-fresh : goal.returns-clause-fresh
returns-clause-fresh c given lines course client s = next_is_new given lines course client s

pub returns-clause-places : goal.returns-clause-places
returns-clause-places c given lines course client s own = omega (arith, own, s.keeps.count_places)

pub returns-clause-finish : goal.returns-clause-finish
returns-clause-finish c given lines course s = finish_begins s

pub returns-clause-finishes : goal.returns-clause-finishes
returns-clause-finishes c given lines old new client s low idle finishing f = commits_all s new client low idle finishing f
