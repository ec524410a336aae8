use Rattle.std.proofs.Common.{sym, subst}
use Rattle.zb_servers_laws.specs.Indexed.{FitsIndex}
use Rattle.zb_servers_laws.proofs.Indexing.{all_kept, plan_puts}
use Rattle.zb_servers_laws.proofs.laws.fragments_fit_index.Goals as goal

pub returns-clause-first : goal.returns-clause-first
returns-clause-first c n maps none server id = subst (FitsIndex n id) (sym (none server id)) tt

pub returns-clause-kept : goal.returns-clause-kept
returns-clause-kept c n maps asked puts fit = all_kept n maps asked puts fit

pub returns-clause-plan : goal.returns-clause-plan
returns-clause-plan c n f out class flush i asked is = plan_puts n f out class flush i asked is
