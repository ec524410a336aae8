use Rattle.zb_turns.proofs.naming.answer_names.Goals as goal

pub returns-in-Find : goal.returns-in-Find
returns-in-Find c = rw c.in-Find.is c.find.ensures
