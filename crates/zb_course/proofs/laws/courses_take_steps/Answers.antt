use Rattle.zb_course.proofs.Stepping.{answers_so, behind_so, moves_so, waited_so}
use Rattle.zb_course.proofs.laws.courses_take_steps.Goals as goal

pub returns-clause-moved : goal.returns-clause-moved
returns-clause-moved c given lines old new client s low own m = moves_so s new client low own m

pub returns-clause-answered : goal.returns-clause-answered
returns-clause-answered c given lines old new client s low own a = answers_so s new client low own a

pub returns-clause-waited : goal.returns-clause-waited
returns-clause-waited c given lines old new client s low w = waited_so s new client low w

pub returns-clause-behind : goal.returns-clause-behind
returns-clause-behind c given lines old new client s low own b = behind_so s new client low own b
