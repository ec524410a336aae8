use Rattle.zb_need.proofs.Storing.{formed-half, formed-half_more}
use Rattle.zb_need.proofs.batches.formed_batches_keep_logs_half_full.Goals as goal

pub returns-clause-bytes : goal.returns-clause-bytes
returns-clause-bytes c geo n f b log number members calls basis formed bytes before same pos size is stand half =
    formed-half geo n f b log number members calls basis formed bytes before same pos size is stand half

pub returns-clause-updates : goal.returns-clause-updates
returns-clause-updates c geo n f b log number members calls basis formed bytes stored same pos size is stand half =
    formed-half_more geo n f b log number members calls basis formed bytes stored same pos size is stand half
