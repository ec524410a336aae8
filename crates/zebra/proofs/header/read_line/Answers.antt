use Rattle.zebra.specs.declared.header.Head.TheVariants as heads
use Rattle.zebra.specs.Headers.{HeadIs, HeadMoves, heads_text}
use Rattle.zebra.proofs.Heading.{skipped_line, a_system, heading_filled}
use Rattle.zebra.proofs.header.read_line.Goals as goal

pub returns-in-Skipped-clause-told : goal.returns-in-Skipped-clause-told
returns-in-Skipped-clause-told g c tells start h =
    let filled = heading_filled start _ _ c.args.script.now c.args.source.now c.fill.new.source h (c.in_ok-fill.ensures.told tells start (heads_text h.heads) h.reads) in
    let skip : HeadIs c.args.script.now c.fill.new.source (heads.Skipped c.in-Skipped.len) = rw c.in-Skipped.is at c.in_ok-len.ensures.next in
    let moves : HeadMoves c.args.script.now (heads.Skipped c.in-Skipped.len) c.next_head.new.script = rw c.in-Skipped.is at c.in_ok-len.ensures.moves in
    rw c.skip.ensures (skipped_line start _ c.args.script.now c.next_head.new.script c.fill.new.source skip.0 c.in-Skipped.len filled skip.1 skip.2 moves)

pub returns-in-Header-clause-told : goal.returns-in-Header-clause-told
returns-in-Header-clause-told g c tells start h =
    let filled = heading_filled start _ _ c.args.script.now c.args.source.now c.fill.new.source h (c.in_ok-fill.ensures.told tells start (heads_text h.heads) h.reads) in
    let head : HeadIs c.args.script.now c.fill.new.source (heads.Header c.in-Header.geo c.in-Header.len) = rw c.in-Header.is at c.in_ok-len.ensures.next in
    let moves : HeadMoves c.args.script.now (heads.Header c.in-Header.geo c.in-Header.len) c.next_head.new.script = rw c.in-Header.is at c.in_ok-len.ensures.moves in
    rw c.skip-in-Header.ensures (a_system start _ c.args.script.now c.next_head.new.script c.fill.new.source c.in-Header.geo c.in-Header.len filled head moves)
