use Rattle.zb_course.proofs.Giving.{begins}
use Rattle.zb_course.proofs.laws.courses_begin.Goals as goal

pub returns : goal.returns
returns c geo course first = begins geo course first
