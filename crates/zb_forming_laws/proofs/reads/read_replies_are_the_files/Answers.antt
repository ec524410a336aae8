use Rattle.zb_forming_laws.proofs.Reading.{read-shown, read-gone}
use Rattle.zb_forming_laws.proofs.reads.read_replies_are_the_files.Goals as goal

pub returns-clause-shown : goal.returns-clause-shown
returns-clause-shown c b contents basis found fid offset len bytes tree reply pos e fetched is some short shows at =
    read-shown b contents basis found fid offset len bytes tree reply pos e fetched is some short shows at

pub returns-clause-gone : goal.returns-clause-gone
returns-clause-gone c b contents basis found fid offset len tree reply e fetched is none at =
    read-gone b contents basis found fid offset len tree reply e fetched is none at
