use Rattle.std.proofs.Common.{arith}
use Rattle.zb_sound.proofs.Placed.{last_begins, last_goes_on, last_ends, last_commits, none_last}
use Rattle.zb_sound.proofs.last_flushes.last_flush_of_a_log.Goals as goal

pub returns-clause-none : goal.returns-clause-none
returns-clause-none c z contents st held who log next_log nothing le = record {
  nothing = λ server id el behind. nothing server id (omega arith);
  reached = none_last 0;
  stands = tt;
}

pub returns-clause-begins : goal.returns-clause-begins
returns-clause-begins c z contents st held who front at phase given out class flush w b rise le nexts = last_begins z contents st held who front at phase given out class flush w b rise le nexts

pub returns-clause-goes_on : goal.returns-clause-goes_on
returns-clause-goes_on c z contents st held who log front out class flush left asked is w = last_goes_on z contents st held who log front out class flush left asked is w

pub returns-clause-ends : goal.returns-clause-ends
returns-clause-ends c z contents st held who log front out class flush part w last = last_ends z contents st held who log front out class flush part w last

pub returns-clause-commits : goal.returns-clause-commits
returns-clause-commits c z contents st held who log front out class flush part born pieces w last are =
    last_commits z contents st held who log front out class flush part w last born pieces are

pub returns-clause-given_up : goal.returns-clause-given_up
returns-clause-given_up c z contents new st held later who after log front at phase w le = record {
  nothing = λ server id el behind. w.nothing server id el (omega arith);
  reached = none_last at;
  stands = tt;
}
