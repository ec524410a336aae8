use Rattle.std.proofs.Common.{Some, sym, ◌∙◌}
use Rattle.zb_usage.specs.Seen.{found_at}
use Rattle.zb_usage.proofs.Counted.{found_by, none_kept, put_at}
use Rattle.zb_usage.proofs.counting.put.Goals as goal

pub returns-clause-ok : goal.returns-clause-ok
returns-clause-ok c = put_at c.args.counts.now.entries c.insert.new.self.entries c.args.key (Some c.args.count) c.in_ok-insert.ensures.updates.0

pub returns-in_err-insert-clause-present : goal.returns-in_err-insert-clause-present
returns-in_err-insert-clause-present c has = absurd (none_kept (found_at c.args.counts.now.entries c.args.key) (sym (found_by c.args.counts.now.entries c.args.key) ∙ c.in_err-insert.ensures.absent) has)
