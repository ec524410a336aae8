use Rattle.std.proofs.Common.{inl, inr}
use Rattle.zb_replay.specs.declared.pieces.OpenFault.TheVariants as fault
use Rattle.zb_replay.proofs.Opened.{has_refused_as, leaves_then, stands_open, taken_as, told_fault}
use Rattle.zb_replay.proofs.node.ManagerNode.open.Goals as goal

pub returns-in-Err-clause-foreign : goal.returns-in-Err-clause-foreign
returns-in-Err-clause-foreign g c told field is = inl (c.in-Err.ensures.foreign told field (told_fault c.in-Err.fault (fault.Foreign field) is))

pub returns-in-Err-clause-contents : goal.returns-in-Err-clause-contents
returns-in-Err-clause-contents g c told = g.met.S.ReadPieces.apart c.args.servers.now c.args.bay.now c.start.new.bay told (c.start.ensures.others told)

pub returns-in-Err-replay-clause-foreign : goal.returns-in-Err-replay-clause-foreign
returns-in-Err-replay-clause-foreign g c told field is =
    let apart = g.met.S.ReadPieces.apart c.args.servers.now c.args.bay.now c.start.new.bay told (c.in-Ok.ensures.others told) in
    let h = c.in-Err-replay.ensures.refused told field (told_fault c.in-Err-replay.fault (fault.Foreign field) is) in
    inr (h.0, record { platter = c.in-Ok.found.1; start = c.in-Ok.found.0.tables; is = c.in-Ok.ensures.is told; refused = has_refused_as _ _ _ _ _ _ _ c.in-Ok.ensures.sizes apart c.entries.ensures h.1 })

pub returns-clause-opened : goal.returns-clause-opened
returns-clause-opened g c told =
    let apart = g.met.S.ReadPieces.apart c.args.servers.now c.args.bay.now c.start.new.bay told (c.in-Ok.ensures.others told) in
    record { start = c.in-Ok.found.0.tables; is = c.in-Ok.ensures.is told; taken = taken_as _ _ _ _ _ _ _ _ c.in-Ok.ensures.sizes apart c.entries.ensures (c.in_default.ensures.taken told) }

pub returns-clause-stands : goal.returns-clause-stands
returns-clause-stands g c told geo tables settled says =
    let apart = g.met.S.ReadPieces.apart c.args.servers.now c.args.bay.now c.start.new.bay told (c.in-Ok.ensures.others told) in
    stands_open geo _ tables (g.B.Bay.meaning c.args.bay.now) (g.B.Bay.meaning c.replay.new.bay) _ settled (leaves_then (c.in-Ok.ensures.alone told) (c.in_default.ensures.alone told)) says
    (record { start = c.in-Ok.found.0.tables; is = c.in-Ok.ensures.is told; taken = taken_as _ _ _ _ _ _ _ _ c.in-Ok.ensures.sizes apart c.entries.ensures (c.in_default.ensures.taken told) })
