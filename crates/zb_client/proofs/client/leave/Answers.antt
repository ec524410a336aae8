use Rattle.std.proofs.Common.{rules}
use Rattle.zb_client.proofs.Aims.{aim_leave}
use Rattle.zb_client.proofs.client.leave.Goals as goal

pub returns-clause-aim : goal.returns-clause-aim
returns-clause-aim c = λ queue h. aim_leave c.args.kept.now.items c.drop_first.new.kept.items queue c.args.n c.args.task.now c.put_task.new.task (search rules) (search rules) h
