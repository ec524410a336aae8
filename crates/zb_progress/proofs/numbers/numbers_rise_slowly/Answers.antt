use Rattle.std.proofs.Common.{arith}
use Rattle.zb_progress.proofs.Rising.{attach-rises, commit-rises, may-rise}
use Rattle.zb_progress.proofs.numbers.numbers_rise_slowly.Goals as goal

pub returns-clause-first : goal.returns-clause-first
returns-clause-first c = record { versions = tt; batches = tt; entry = omega arith }

pub returns-clause-attach : goal.returns-clause-attach
returns-clause-attach c entries owner t log rose = attach-rises entries owner t log rose

pub returns-clause-commit : goal.returns-clause-commit
returns-clause-commit c entries w flush pieces batch after may is rose =
    commit-rises entries w.z.block batch.log.0 batch.number w.tables flush.log pieces batch.ops after is.updates may.spelled.company may.next is.done rose

pub returns-clause-may : goal.returns-clause-may
returns-clause-may c entries t rose le = may-rise entries t rose (omega (arith, le))
