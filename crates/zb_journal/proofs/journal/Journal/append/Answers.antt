use Rattle.std.proofs.Common.{◌∙◌, ◌+◌, ◌≤◌, ℕ, length, ap, arith}
use Rattle.zb_types.specs.declared.ids.Piece.{Piece}
use Rattle.zb_journal.specs.Spelling.{size_of}
use Rattle.zb_journal.proofs.Appending.{Appends, append_failed, length-put, may_put, to_put, is_longer, is_shut}
use Rattle.zb_journal.proofs.journal.Journal.append.Goals as goal

pub put-requires : goal.put-requires
put-requires g c =
    let size = length-put _ c.args.self.now.number c.args.entry.now (c.slice.ensures ∙ c.in_ok-text.ensures.text) in
    let low : c.args.self.now.place + size_of c.args.entry.now + 1 ≤ 65536 = omega (arith, c.if-from-count-gt-ROOM.false, c.from.ensures, ap (length {A = Piece}) c.pieces-count.ensures) in
    record { range = omega (arith, size, low, c.from-2.ensures) }

pub returns-in_err-put-clause-told : goal.returns-in_err-put-clause-told
returns-in_err-put-clause-told g c told first entries ready =
    let low : c.args.self.now.place + size_of c.args.entry.now + 1 ≤ 65536 = omega (arith, c.if-from-count-gt-ROOM.false, c.from.ensures, ap (length {A = Piece}) c.pieces-count.ensures) in
    let h : Appends c.args.self.now first entries c.args.entry.now (4096 + c.from-2.result) c.slice.result.now (g.B.Bay.meaning c.args.bay.now) = record {
      ready = ready;
      is = c.in_ok-text.ensures.entry;
      fits = low;
      place = ap (λ (k : ℕ). 4096 + k) c.from-2.ensures;
      text = c.slice.ensures ∙ c.in_ok-text.ensures.text;
    } in
    append_failed _ c.from_residual-in_err-put.ensures.0 (to_put h (c.put.ensures.told told (may_put h)))

pub returns-clause-told : goal.returns-clause-told
returns-clause-told g c told first entries ready =
    let low : c.args.self.now.place + size_of c.args.entry.now + 1 ≤ 65536 = omega (arith, c.if-from-count-gt-ROOM.false, c.from.ensures, ap (length {A = Piece}) c.pieces-count.ensures) in
    let h : Appends c.args.self.now first entries c.args.entry.now (4096 + c.from-2.result) c.slice.result.now (g.B.Bay.meaning c.args.bay.now) = record {
      ready = ready;
      is = c.in_ok-text.ensures.entry;
      fits = low;
      place = ap (λ (k : ℕ). 4096 + k) c.from-2.ensures;
      text = c.slice.ensures ∙ c.in_ok-text.ensures.text;
    } in
    let put = c.put.ensures.told told (may_put h) in
    let done = c.in_ok-put.ensures.told told (may_put h) in
    record { run = to_put h put; settled = done.settled; says = is_longer h put done.put; behind = is_shut h _ done.put }
