use Rattle.std.proofs.Common.{◌*◌, arith, length-drop}
use Rattle.zb_journal.proofs.Heads.{own_is, entry_found, none_fits, none_known}
use Rattle.zb_journal.proofs.reading.entry_at.Goals as goal

pub returns-then-behind-from-clause-bad : goal.returns-then-behind-from-clause-bad
returns-then-behind-from-clause-bad c place is =
    none_fits _ _ _ _ _ c.in-Some.ensures c.args.journal.now.number c.requires.number c.requires.begins (omega (arith, c.from.ensures))

pub returns-in_default-entry_of-clause-bad : goal.returns-in_default-entry_of-clause-bad
returns-in_default-entry_of-clause-bad c place is =
    none_known _ _ _ _ _ c.in-Some.ensures c.args.journal.now.number c.requires.number c.requires.begins c.in_ok-pieces.pieces _
    c.in_ok-pieces.ensures.count c.in_ok-pieces.ensures.each c.in_ok-pieces.ensures.front (rw c.in_default-entry_of.is at c.entry_of.ensures)

pub returns-clause-found : goal.returns-clause-found
returns-clause-found c =
    let known = c.in-Some-entry_of.ensures in
    entry_found _ _ _ _ _ c.in-Some.ensures c.args.journal.now.number c.in-Some-entry_of.entry c.in_ok-pieces.pieces _
    (own_is _ _ _ _ _ c.in-Some.ensures c.args.journal.now.number c.requires.number c.requires.begins) known.0 known.1.0 known.1.1
    c.in_ok-pieces.ensures.each c.in_ok-pieces.ensures.front (omega (arith, c.from.ensures, length-drop (16 * c.in-Some.fields.count) c.in-Some.behind.now))
