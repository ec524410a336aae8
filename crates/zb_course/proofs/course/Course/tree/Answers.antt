use Rattle.zb_course.proofs.course.Course.tree.Goals as goal

pub returns : goal.returns
returns c = rw (← c.self.view_is) c.tree.ensures
