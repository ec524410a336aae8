use Rattle.zb_given.proofs.stays.open_calls_stay.Goals as goal
use Rattle.zb_given.proofs.Staying.{open_stays, open_finish, open_over, ended_over, full_over}

pub returns : goal.returns
returns c = record { given = open_stays; finish = open_finish; over = open_over; ended = ended_over; full = full_over }
