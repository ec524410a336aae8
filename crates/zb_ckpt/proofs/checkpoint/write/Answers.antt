use Rattle.std.proofs.Common.{◌≡◌, ℕ, List, length, ap}
use Rattle.zb_outside.proofs.Runs.{others_then}
use Rattle.zb_ckpt.specs.Says.{pages_of}
use Rattle.zb_ckpt.proofs.Fills.{fill_as, set_as, write_failed, is_next, to_fill, still_long, to_set, is_written, same_writes, both_writes, root_as}
use Rattle.zb_ckpt.proofs.checkpoint.write.Goals as goal

pub returns-in_err-fill-clause-told : goal.returns-in_err-fill-clause-told
returns-in_err-fill-clause-told g c told settled long =
    write_failed _ c.from_residual.ensures.0 (to_fill c.args.root.now c.args.bytes.now long (fill_as c.other_slot-slot.ensures c.slice.ensures (c.fill.ensures.told told settled)))

pub returns-in_err-set_root-clause-told : goal.returns-in_err-set_root-clause-told
returns-in_err-set_root-clause-told g c told settled long =
    let f = fill_as c.other_slot-slot.ensures c.slice.ensures (c.in_ok-fill.ensures.told told settled) in
    let is = is_next c.args.root.now c.args.bytes.now c.requires.size c.requires.low c.requires.high in
    let root = root_as c.args.root.now c.args.bytes.now c.other_slot-slot.ensures c.len.ensures in
    write_failed _ c.from_residual-in_err-set_root.ensures.0
    (to_set c.args.root.now c.args.bytes.now long is f (set_as root (c.set_root.ensures.told told f.settled (still_long c.args.root.now c.args.bytes.now long f))))

pub returns-clause-told : goal.returns-clause-told
returns-clause-told g c told settled long =
    let f = fill_as c.other_slot-slot.ensures c.slice.ensures (c.in_ok-fill.ensures.told told settled) in
    let is = is_next c.args.root.now c.args.bytes.now c.requires.size c.requires.low c.requires.high in
    let root = root_as c.args.root.now c.args.bytes.now c.other_slot-slot.ensures c.len.ensures in
    let set = set_as root (c.in_ok-set_root.ensures.told told f.settled (still_long c.args.root.now c.args.bytes.now long f)) in
    record {
      run = to_set c.args.root.now c.args.bytes.now long is f set;
      settled = set.settled;
      holds = is_written c.args.root.now c.args.bytes.now long is f set;
    }

pub returns-clause-written : goal.returns-clause-written
returns-clause-written g c told long settled =
    let f = fill_as c.other_slot-slot.ensures c.slice.ensures (c.in_ok-fill.ensures.told told settled) in
    let count : pages_of (length c.slice.result.now) ≡ pages_of (length c.args.bytes.now) = ap (λ (l : List ℕ). pages_of (length l)) c.slice.ensures in
    both_writes _ _ _ _ _ _ _ count c.in_ok-fill.ensures.written (c.in_ok-set_root.ensures.written told) (same_writes c.args.root.now c.args.bytes.now long f)

pub returns-in_err-set_root-clause-others : goal.returns-in_err-set_root-clause-others
returns-in_err-set_root-clause-others g c told = others_then (c.fill.ensures.others told) (c.set_root.ensures.others told)

pub returns-clause-others : goal.returns-clause-others
returns-clause-others g c told = others_then (c.fill.ensures.others told) (c.set_root.ensures.others told)
