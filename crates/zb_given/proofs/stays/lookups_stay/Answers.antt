use Rattle.zb_given.proofs.stays.lookups_stay.Goals as goal
use Rattle.zb_given.proofs.Staying.{looks_up, lookup_stays, lookup_over, at_work_stays, at_work_finish, at_work_over, seen_stays, seen_over}

pub returns : goal.returns
returns c = record { now = looks_up; given = lookup_stays; over = lookup_over; at_work_given = at_work_stays; at_work_finish = at_work_finish; at_work_over = at_work_over; seen_given = seen_stays; seen_over = seen_over }
