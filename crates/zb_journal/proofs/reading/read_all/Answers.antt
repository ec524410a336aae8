use Rattle.std.proofs.Common.{length, slice_index, ap, arith, length-append}
use Rattle.zb_types.specs.declared.ids.Piece.{Piece}
use Rattle.zb_entries.specs.declared.entry.Entry.{Entry}
use Rattle.zb_journal.proofs.Heads.{read_more}
use Rattle.zb_journal.proofs.reading.read_all.Goals as goal

pub loop-alloc-preserved : goal.loop-alloc-preserved
loop-alloc-preserved c =
    let s = c.in_ok-entry.ensures.found in
    let many = ap (length {A = Piece}) c.pieces.ensures in
    let longer = ap (length {A = Entry}) c.in_ok-push.ensures.ok in
    record {
      stand = read_more (slice_index c.args.bytes.now) c.args.first c.loop-alloc.entries c.loop-alloc.journal.place c.loop-alloc.journal.number c.in_ok-entry.entry c.pieces.result.now c.push.new.self
          c.loop-alloc.invariant.stand c.loop-alloc.invariant.number s c.pieces.ensures c.in_ok-push.ensures.ok;
      number = omega (arith, longer, length-append {A = Entry});
      few = omega (arith, longer, length-append {A = Entry});
      low = omega (arith, many, s.room);
    }
