use Rattle.zb_need.proofs.Beginning.{begun-few, need-lines}
use Rattle.zb_need.proofs.needs.half_full_logs_begin_few_stripes.Goals as goal

pub returns-clause-few : goal.returns-clause-few
returns-clause-few c geo room at updates same some half = begun-few geo room at updates same some half

pub returns-clause-lines : goal.returns-clause-lines
returns-clause-lines c geo plus client update is = need-lines geo plus client update is
