use Rattle.zb_sound.proofs.Sealings.{block_found, joins, piece_in, ptr_lies}
use Rattle.zb_sound.proofs.sealed.sealed_batches_are_found.Goals as goal

pub returns-clause-pieces : goal.returns-clause-pieces
returns-clause-pieces c flush pieces zip i d l = piece_in flush.log pieces flush.parts zip i d l

pub returns-clause-spells : goal.returns-clause-spells
returns-clause-spells c contents log parts pieces differ zip = joins contents log parts differ pieces parts (λ q a. a) zip

pub returns-clause-lies : goal.returns-clause-lies
returns-clause-lies c held log born pieces ptr n some is = ptr_lies held log born pieces ptr n some is

pub returns-clause-block : goal.returns-clause-block
returns-clause-block c contents log parts ptr block differ is any = block_found contents log parts differ ptr block is any
