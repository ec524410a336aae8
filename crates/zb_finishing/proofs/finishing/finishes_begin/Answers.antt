use Rattle.zb_finishing.proofs.Begun.{begun_before, begun_now}
use Rattle.zb_finishing.proofs.finishing.finishes_begin.Goals as goal

pub returns-clause-given : goal.returns-clause-given
returns-clause-given c given lines = begun_now given lines

pub returns-clause-lasts : goal.returns-clause-lasts
returns-clause-lasts c given lines more begun = begun_before given lines more begun
