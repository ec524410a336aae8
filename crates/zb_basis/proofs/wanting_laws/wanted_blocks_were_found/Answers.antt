use Rattle.zb_basis.proofs.Found.{batch-found, batch-within, read-found, read-within}
use Rattle.zb_basis.proofs.wanting_laws.wanted_blocks_were_found.Goals as goal

pub returns : goal.returns
returns c = record { batch_found = batch-found; batch_within = batch-within; read_found = read-found; read_within = read-within }
