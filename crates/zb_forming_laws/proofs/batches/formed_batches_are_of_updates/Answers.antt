use Rattle.zb_forming_laws.proofs.Updating.{of-updates, taken-fresh}
use Rattle.zb_forming_laws.proofs.UpdateKinds.{batch-kinds}
use Rattle.zb_forming_laws.proofs.batches.formed_batches_are_of_updates.Goals as goal

pub returns-clause-exact : goal.returns-clause-exact
returns-clause-exact c z new t kept calls basis log number generation batch pieces ptrs blocks pos form ends run is rests taken =
    of-updates z new t calls basis log number batch ptrs blocks pos form ends is rests generation pieces kept run taken

pub returns-clause-kinds : goal.returns-clause-kinds
returns-clause-kinds c b new t calls basis log number batch ptrs blocks is rests = batch-kinds b new t calls basis log number batch ptrs blocks is rests

pub returns-clause-fresh : goal.returns-clause-fresh
returns-clause-fresh c b t batch pieces generation taken = taken-fresh b t batch pieces generation taken
