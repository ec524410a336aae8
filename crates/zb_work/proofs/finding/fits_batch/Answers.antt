use Rattle.zb_work.proofs.Matching.{as_many}
use Rattle.zb_work.proofs.finding.fits_batch.Goals as goal

pub returns-then-calls-found-clause-differs : goal.returns-then-calls-found-clause-differs
returns-then-calls-found-clause-differs c = λ t h. let same = as_many _ _ _ _ h in c.if-calls-found.true same
