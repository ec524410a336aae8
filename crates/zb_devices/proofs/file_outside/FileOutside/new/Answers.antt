use Rattle.zb_outside.specs.Ranges.{zeros}
use Rattle.zb_devices.proofs.file_outside.FileOutside.new.Goals as goal

pub returns-clause-faults : goal.returns-clause-faults
returns-clause-faults g c p = zeros 256 p

pub returns-clause-writes : goal.returns-clause-writes
returns-clause-writes g c p = zeros 256 p
