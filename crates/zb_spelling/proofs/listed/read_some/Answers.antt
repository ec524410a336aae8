use Rattle.std.proofs.Common.{arith, map}
use Rattle.std.proofs.lemmas.List.{length-map}
use Rattle.zb_spelling.proofs.Missing.{no_more_items}
use Rattle.zb_spelling.proofs.listed.read_some.Goals as goal

pub returns-in_default : goal.returns-in_default
returns-in_default g c =
    no_more_items g.T.Readable.Is g.T.Readable.text c.requires c.args.count (map g.T.Readable.plain c.loop.items.items) c.loop.rest.now c.args.bytes.now c.loop.invariant.each
    (omega (arith, length-map c.loop.items.items g.T.Readable.plain)) c.loop.invariant.whole (rw c.in_default.is at c.in_ok-item.ensures)
