-- Laws of what holds at each moment of a run. No contract can state them, since they range over invariants.
use Rattle.std.proofs.Common.{sym, ◌∙◌}
use Rattle.zb_outside.specs.Keeping.{NothingKeeps, KeepsGoOn, RunKeeps, TakeKeeps, PutKeeps, EachKeeps, RunGoesOn, ElsewhereSettled, BesideATornRange}
use Rattle.zb_outside.proofs.Runs.{then_run, torn_outside, at_now}
use Rattle.zb_outside.proofs.Time.{still, then, weaker, each, forgets_none, remembers_then}

pub nothing_keeps : NothingKeeps
nothing_keeps Inv w start = record { time = still Inv w; remembers = forgets_none w; at_end = start }

pub keeps_go_on : KeepsGoOn
keeps_go_on Inv a b c first second = record {
  time = then first.time second.time;
  remembers = remembers_then first.time.later first.remembers second.remembers;
  at_end = second.at_end;
}

pub run_keeps : RunKeeps
run_keeps p Q Inv a b run kept = record {
  time = weaker kept run.time;
  remembers = run.remembers;
  at_end = record { holds = λ m now. kept m (at_now run.spares run.here m now) };
}

pub take_keeps : TakeKeeps
take_keeps E buf r before after Inv a b took at_end = record { time = weaker at_end.holds took.time; remembers = took.remembers; at_end = at_end }

pub put_keeps : PutKeeps
put_keeps T E bytes r before after Inv a b put at_end = record { time = weaker at_end.holds put.time; remembers = put.remembers; at_end = at_end }

pub each_keeps : EachKeeps
each_keeps Inv a b start kept m since = each start.holds kept.time m since

pub run_goes_on : RunGoesOn
run_goes_on p Q R a b c first second f = then_run first second f

pub settled_elsewhere : ElsewhereSettled
settled_elsewhere p q Q a b run ne settled = record { only = λ image h. settled.only image (run.spares.may_leave q ne image h) ∙ sym (run.spares.seen q ne) }

pub beside : BesideATornRange
beside at n old new le torn = torn_outside le torn
