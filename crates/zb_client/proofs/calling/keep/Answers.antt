use Rattle.std.proofs.Common.{rules}
use Rattle.zb_client.proofs.Aims.{last_is}
use Rattle.zb_client.proofs.calling.keep.Goals as goal

pub returns-clause-last : goal.returns-clause-last
returns-clause-last c = last_is c.push.new.self.items c.args.kept.now.items c.args.call (search rules)
