use Rattle.zb_progress.proofs.Committing.{fresh-committed, refused-stale}
use Rattle.zb_progress.proofs.batches.fresh_batches_are_committed.Goals as goal

pub returns-clause-fresh : goal.returns-clause-fresh
returns-clause-fresh c slots w seen client basis sealed a known s e may fresh = fresh-committed w seen client s basis sealed e slots a known may fresh

pub returns-clause-refused : goal.returns-clause-refused
returns-clause-refused c slots w seen client basis sealed fault a known s e may is = refused-stale w seen client s basis sealed e slots a known may fault is
