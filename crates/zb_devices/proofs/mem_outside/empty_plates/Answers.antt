use Rattle.std.proofs.Common.{subst, sym, arith}
use Rattle.zb_devices.specs.Memory.{AllEmpty}
use Rattle.zb_devices.proofs.Kept.{empty_push, empty_plate}
use Rattle.zb_devices.proofs.mem_outside.empty_plates.Goals as goal

pub loop-i-preserved : goal.loop-i-preserved
loop-i-preserved c =
    let i = c.loop-i.invariant in
    record {
      long = omega (arith, i.long, c.in_ok-push.ensures.len);
      all = subst AllEmpty (sym c.in_ok-push.ensures.items) (empty_push c.loop-i.plates.items c.new.result i.all (empty_plate c.new.result c.new.ensures.seen c.new.ensures.unsynced));
    }
