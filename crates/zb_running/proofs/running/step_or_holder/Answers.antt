use Rattle.std.proofs.Common.{inl, refl, rules, sym}
use Rattle.zb_running.proofs.Reported.{halts_so, sized, step_told}
use Rattle.zb_running.proofs.Holders.{comes_nearer, goes_free, halts, leaves, not_idle_there, not_rest, quiet, settles, tells, who_high, who_own, Waiting}
use Rattle.zb_running.proofs.OfSystems.{within_both}
use Rattle.zb_running.proofs.Steps.{leaves_by, leaves_halt, nearer, no_holder, quiet_by, rests_by, settled_by}
use Rattle.zb_running.proofs.running.step_or_holder.Goals as goal

pub returns-in_err-step-clause-others : goal.returns-in_err-step-clause-others
returns-in_err-step-clause-others c = leaves_halt c.requires.telling.report c.step.new.self c.args.client c.in_err-step.field-0.0 c.in_err-step.ensures.err

pub returns-in_err-step-clause-err : goal.returns-in_err-step-clause-err
returns-in_err-step-clause-err c geo given lines r =
    let h = halts_so r c.step.new.self c.args.client c.in_err-step.field-0.0 (within_both geo.clients c.args.client c.requires.first (rw (sym (sized r)) c.requires.last)) c.in_err-step.ensures.err in
    search rules

pub step-requires-in-Blocked-clause-sound : goal.step-requires-in-Blocked-clause-sound
step-requires-in-Blocked-clause-sound c = record { given = c.requires.telling.given; lines = c.requires.telling.lines; sound = (Waiting c.requires.telling.report c.step.new.self c.args.client c.in-Blocked.holder c.requires.first (rw c.in-Blocked.is at c.in_ok-step.ensures.ok) (sym (rw c.in-Blocked.is at c.in_ok-step.ensures.blocked))).settled.sound }

pub step-requires-in-Blocked-clause-last : goal.step-requires-in-Blocked-clause-last
step-requires-in-Blocked-clause-last c = who_high c.requires.telling.report c.step.new.self c.args.client c.in-Blocked.holder c.requires.first (rw c.in-Blocked.is at c.in_ok-step.ensures.ok) (sym (rw c.in-Blocked.is at c.in_ok-step.ensures.blocked))

pub step-requires-in-Blocked-clause-own : goal.step-requires-in-Blocked-clause-own
step-requires-in-Blocked-clause-own c = who_own c.requires.telling.report c.step.new.self c.args.client c.in-Blocked.holder c.requires.first (rw c.in-Blocked.is at c.in_ok-step.ensures.ok) (sym (rw c.in-Blocked.is at c.in_ok-step.ensures.blocked))

pub returns-in-Blocked-clause-idle : goal.returns-in-Blocked-clause-idle
returns-in-Blocked-clause-idle c = not_rest c.requires.telling.report c.step.new.self c.args.client c.in-Blocked.holder c.requires.first (rw c.in-Blocked.is at c.in_ok-step.ensures.ok) (sym (rw c.in-Blocked.is at c.in_ok-step.ensures.blocked)) c.step-in-Blocked.new.self c.step-in-Blocked.result c.step-in-Blocked.ensures.idle (λ idle. let wrong = (rw c.in-Blocked.is at c.in_ok-step.ensures.idle).1 idle in cc)

pub returns-in-Blocked-clause-rests : goal.returns-in-Blocked-clause-rests
returns-in-Blocked-clause-rests c = not_idle_there c.requires.telling.report c.step.new.self c.args.client c.in-Blocked.holder c.requires.first (rw c.in-Blocked.is at c.in_ok-step.ensures.ok) (sym (rw c.in-Blocked.is at c.in_ok-step.ensures.blocked)) c.step-in-Blocked.new.self c.step-in-Blocked.result c.step-in-Blocked.ensures.idle

pub returns-in-Blocked-clause-free : goal.returns-in-Blocked-clause-free
returns-in-Blocked-clause-free c = goes_free c.requires.telling.report c.step.new.self c.args.client c.in-Blocked.holder c.requires.first (rw c.in-Blocked.is at c.in_ok-step.ensures.ok) (sym (rw c.in-Blocked.is at c.in_ok-step.ensures.blocked)) c.step-in-Blocked.new.self c.step-in-Blocked.result c.step-in-Blocked.ensures.blocked

pub returns-in-Blocked-clause-less : goal.returns-in-Blocked-clause-less
returns-in-Blocked-clause-less c = comes_nearer c.requires.telling.report c.step.new.self c.args.client c.in-Blocked.holder c.requires.first (rw c.in-Blocked.is at c.in_ok-step.ensures.ok) (sym (rw c.in-Blocked.is at c.in_ok-step.ensures.blocked)) c.step-in-Blocked.new.self c.step-in-Blocked.result c.step-in-Blocked.ensures.ok c.step-in-Blocked.ensures.blocked

pub returns-in-Blocked-clause-others : goal.returns-in-Blocked-clause-others
returns-in-Blocked-clause-others c = leaves c.requires.telling.report c.step.new.self c.args.client c.in-Blocked.holder c.requires.first (rw c.in-Blocked.is at c.in_ok-step.ensures.ok) (sym (rw c.in-Blocked.is at c.in_ok-step.ensures.blocked)) c.step-in-Blocked.new.self c.step-in-Blocked.result c.step-in-Blocked.ensures.ok c.step-in-Blocked.ensures.err

pub returns-in-Blocked-clause-settled : goal.returns-in-Blocked-clause-settled
returns-in-Blocked-clause-settled c = settles c.requires.telling.report c.step.new.self c.args.client c.in-Blocked.holder c.requires.first (rw c.in-Blocked.is at c.in_ok-step.ensures.ok) (sym (rw c.in-Blocked.is at c.in_ok-step.ensures.blocked)) c.step-in-Blocked.new.self c.step-in-Blocked.result c.step-in-Blocked.ensures.ok

pub returns-in-Blocked-clause-quiet : goal.returns-in-Blocked-clause-quiet
returns-in-Blocked-clause-quiet c = quiet c.requires.telling.report c.step.new.self c.args.client c.in-Blocked.holder c.requires.first (rw c.in-Blocked.is at c.in_ok-step.ensures.ok) (sym (rw c.in-Blocked.is at c.in_ok-step.ensures.blocked)) c.step-in-Blocked.new.self c.step-in-Blocked.result c.step-in-Blocked.ensures.ok

pub returns-in-Blocked-clause-ok : goal.returns-in-Blocked-clause-ok
returns-in-Blocked-clause-ok c geo given lines r = tells r c.step.new.self c.args.client c.in-Blocked.holder c.requires.first (rw c.in-Blocked.is at c.in_ok-step.ensures.ok) (sym (rw c.in-Blocked.is at c.in_ok-step.ensures.blocked)) c.step-in-Blocked.new.self c.step-in-Blocked.result c.step-in-Blocked.ensures.ok

pub returns-in-Blocked-clause-err : goal.returns-in-Blocked-clause-err
returns-in-Blocked-clause-err c geo given lines r = halts r c.step.new.self c.args.client c.in-Blocked.holder c.requires.first (rw c.in-Blocked.is at c.in_ok-step.ensures.ok) (sym (rw c.in-Blocked.is at c.in_ok-step.ensures.blocked)) c.step-in-Blocked.new.self c.step-in-Blocked.result c.step-in-Blocked.ensures.err

pub returns-in_default : goal.returns-in_default
returns-in_default c =
    let t = c.requires.telling.report in
    let new = c.step.new.self in
    let did = c.in_ok-step.step in
    let made = c.in_ok-step.ensures.ok in
    let free = no_holder did c.in_default.not-Blocked in
    record {
      idle = c.in_ok-step.ensures.idle;
      rests = λ is. rests_by t new c.args.client c.requires.first c.requires.last did made is (c.in_ok-step.ensures.idle.0 is);
      free = free;
      settled = settled_by t new c.args.client did made;
      quiet = quiet_by t new c.args.client did made;
      less = λ steps. nearer t new c.args.client did made steps free;
      others = leaves_by t new c.args.client did made;
      ok = λ geo given lines r. record { who = c.args.client; told = step_told r new c.args.client (within_both geo.clients c.args.client c.requires.first (rw (sym (sized r)) c.requires.last)) did made; why = inl refl };
      err = λ geo given lines r. tt;
    }
