use Rattle.zb_course.proofs.Stepping.{nodes_sound, owns_rest, rest_told}
use Rattle.zb_course.proofs.laws.courses_tell_their_rest.Goals as goal

pub returns-clause-rest : goal.returns-clause-rest
returns-clause-rest c given lines old new s t = rest_told given lines old new s t

pub returns-clause-own : goal.returns-clause-own
returns-clause-own c given lines course s = owns_rest given lines course s

pub returns-clause-sound : goal.returns-clause-sound
returns-clause-sound c given lines course s = nodes_sound given lines course s
