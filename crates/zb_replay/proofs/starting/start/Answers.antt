use Rattle.std.proofs.Common.{Err, inl, inr, ap, ◌∙◌}
use Rattle.zb_outside.proofs.Runs.{others_then, run_spares}
use Rattle.zb_replay.specs.declared.pieces.OpenFault.TheVariants as fault
use Rattle.zb_replay.proofs.Opened.{bad_back, told_fault, told_field}
use Rattle.zb_replay.proofs.starting.start.Goals as goal

pub returns-in-Err-clause-foreign : goal.returns-in-Err-clause-foreign
returns-in-Err-clause-foreign g c told field is =
    let h = c.in-Err.ensures.none field (told_fault c.in-Err.fault (fault.Foreign field) is) in inr (inl (h.0, record { root = c.in-Ok.found.0; bytes = c.in-Ok.found.1; says = c.in-Ok.ensures.says told; none = h.1 }))

pub returns-in-Err-Foreign-read_behind-clause-foreign :
    goal.returns-in-Err-Foreign-read_behind-clause-foreign
returns-in-Err-Foreign-read_behind-clause-foreign g c told field is =
    let h = c.read_behind.ensures.foreign told c.in-Err-Foreign-read_behind.field (c.in-Err-Foreign-read_behind.is ∙ ap Err c.in-Err-Foreign-read_behind.field-0-is) in
    inr (inr (told_field c.in-Err-Foreign-read_behind.field field 8 is h.0, bad_back c.in-Ok.found.0 c.in-Ok.found.1 c.in-Ok-first_manager.manager.tables (c.in-Ok.ensures.told told) (c.in-Ok.ensures.says told) c.in-Ok-first_manager.ensures.is h.1))

pub returns-in-Err-Foreign-read_behind-clause-others : goal.returns-in-Err-Foreign-read_behind-clause-others
returns-in-Err-Foreign-read_behind-clause-others g c told = others_then (run_spares (c.in-Ok.ensures.told told).run) (run_spares (c.read_behind.ensures.told told).run)

pub returns-in-Err-NoMemory-read_behind-clause-others : goal.returns-in-Err-NoMemory-read_behind-clause-others
returns-in-Err-NoMemory-read_behind-clause-others g c told = others_then (run_spares (c.in-Ok.ensures.told told).run) (run_spares (c.read_behind.ensures.told told).run)

pub returns-in-Err-Stopped-read_behind-clause-others : goal.returns-in-Err-Stopped-read_behind-clause-others
returns-in-Err-Stopped-read_behind-clause-others g c told = others_then (run_spares (c.in-Ok.ensures.told told).run) (run_spares (c.read_behind.ensures.told told).run)

pub returns-clause-others : goal.returns-clause-others
returns-clause-others g c told = others_then (run_spares (c.in-Ok.ensures.told told).run) (run_spares (c.read_behind.ensures.told told).run)
