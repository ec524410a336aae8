use Rattle.std.proofs.Common.{ap, sym, ◌∙◌, List}
use Rattle.zb_devices.specs.Plates.{undone}
use Rattle.zb_devices.specs.declared.unsynced.Unsynced.{Unsynced}
use Rattle.zb_devices.proofs.Plates.{undone_push}
use Rattle.zb_devices.proofs.plate.undo.Goals as goal

pub loop-last-preserved : goal.loop-last-preserved
loop-last-preserved c =
    ap (undone c.in-Some.others.now) c.restore.ensures ∙ sym (undone_push c.in-Some.others.now c.in-Some.last.now c.loop-last.image.items)
    ∙ ap (λ (us : List Unsynced). undone us c.loop-last.image.items) (sym c.in-Some.ensures.cases.0) ∙ c.loop-last.invariant
