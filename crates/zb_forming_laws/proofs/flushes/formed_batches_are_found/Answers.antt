use Rattle.zb_forming_laws.proofs.Finding.{batch-spelled, blocks-stand, ops-lie, pieces-ahead, pieces-in}
use Rattle.zb_forming_laws.proofs.flushes.formed_batches_are_found.Goals as goal

pub returns-clause-stand : goal.returns-clause-stand
returns-clause-stand c n f b log number members calls basis formed given contents is are = blocks-stand n f b log number members calls basis formed is given are contents

pub returns-clause-spells : goal.returns-clause-spells
returns-clause-spells c n f b log number generation members calls basis formed given contents is are some = batch-spelled n f b log number members calls basis formed is given are contents some

pub returns-clause-pieces : goal.returns-clause-pieces
returns-clause-pieces c n f b log number members calls basis formed given is are i d l = pieces-in n f b log number members calls basis formed is given are i d l

pub returns-clause-lie : goal.returns-clause-lie
returns-clause-lie c n f b log number born members calls basis formed held is = ops-lie n f b log number members calls basis formed is born held

pub returns-clause-ahead : goal.returns-clause-ahead
returns-clause-ahead c n f b log number members calls basis formed given is are = pieces-ahead n f b log number members calls basis formed is given are
