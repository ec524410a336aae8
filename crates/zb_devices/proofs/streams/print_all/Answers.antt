use Rattle.std.proofs.Common.{take, drop, List, ℕ, arith}
use Rattle.std.proofs.Math.Seq.{take-add}
use Rattle.std.proofs.KnownBytes.{Appends-trans, Appends-kept}
use Rattle.zb_devices.proofs.streams.print_all.Goals as goal
use Rattle.zb_devices.proofs.streams.print_all.Goals.{in-Ok, in-Err+else-ne}

pub tries-preserved : goal.tries-preserved
tries-preserved g c =
    let bytes : List ℕ = c.args.bytes.now in
    let before = c.tries.invariant in
    elim c.match-write.branch [
      | in-Ok w ↦ rw w.done-is (record {
        within = omega (arith, w.in-Ok.ensures.bound);
        written = rw (take-add c.tries.done w.in-Ok.n bytes) (Appends-trans _ _ _ (take c.tries.done bytes) (take w.in-Ok.n (drop c.tries.done bytes)) before.written (rw c.split_at.ensures.back at w.in-Ok.ensures.bytes));
      })
      | in-Err+else-ne w ↦ rw w.done-is (record { within = before.within; written = Appends-kept _ _ _ (take c.tries.done bytes) before.written w.in-Err.ensures.bytes })
    ]
