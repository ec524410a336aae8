use Rattle.std.proofs.Common.{refl, sym, ◌∙◌, arith}
use Rattle.zb_cell.proofs.Steps.{Change, chosen, to_read, to_close, is_shut, to_fill, is_filled, to_open, is_new, is_written, set_failed, to_ready, read_same, copy_ext, turn_ext, gate_ext, all_writes, no_writes}
use Rattle.zb_outside.proofs.Runs.{run_spares, others_then}
use Rattle.zb_outside.proofs.Touching.{touches_then, touches_less}
use Rattle.zb_cell.proofs.cell.set.Goals as goal

pub returns-in_err-close_gate-clause-told : goal.returns-in_err-close_gate-clause-told
returns-in_err-close_gate-clause-told g c told settled within =
    let was = (g.B.Bay.meaning c.args.bay.now).now.seen c.args.platter in
    let read = c.read_at.ensures.told told in
    let ch : Change c.args.platter c.args.place c.work_on-work.result.at c.work_on-work.result.turn c.args.payload.now (g.B.Bay.meaning c.args.bay.now) = record {
      copy = chosen c.read_at.new.buf was c.args.place c.work_on-work.result c.read_at.auto.buf (c.in_ok-read_at.ensures.told told).read c.work_on-work.ensures.works;
      long = sym c.told-payload;
      within = within;
      settled = settled;
    } in
    let ready = to_ready c.work_on-work.result (c.in_ok-read_at.ensures.told told) (c.in_ok-read_at.ensures.told told).read c.read_at.auto.buf c.work_on-work.ensures.works settled within in
    let close = to_close ch read.seen (to_read ch read) (c.close_gate.ensures.told told ready) in
    set_failed _ c.from_residual-in_err-close_gate.ensures.0 close

pub returns-in_err-write_synced-clause-told : goal.returns-in_err-write_synced-clause-told
returns-in_err-write_synced-clause-told g c told settled within =
    let was = (g.B.Bay.meaning c.args.bay.now).now.seen c.args.platter in
    let read = c.read_at.ensures.told told in
    let ch : Change c.args.platter c.args.place c.work_on-work.result.at c.work_on-work.result.turn c.args.payload.now (g.B.Bay.meaning c.args.bay.now) = record {
      copy = chosen c.read_at.new.buf was c.args.place c.work_on-work.result c.read_at.auto.buf (c.in_ok-read_at.ensures.told told).read c.work_on-work.ensures.works;
      long = sym c.told-payload;
      within = within;
      settled = settled;
    } in
    let ready = to_ready c.work_on-work.result (c.in_ok-read_at.ensures.told told) (c.in_ok-read_at.ensures.told told).read c.read_at.auto.buf c.work_on-work.ensures.works settled within in
    let close = to_close ch read.seen (to_read ch read) (c.close_gate.ensures.told told ready) in
    let closed = c.in_ok-close_gate.ensures.told told ready in
    let shut = is_shut ch _ _ read.seen closed.outside closed.shut in
    let fill = to_fill ch (sym c.body-next.ensures.long) shut close (c.write_synced.ensures.told told closed.settled) in
    set_failed _ c.from_residual-in_err-write_synced.ensures.0 fill

pub returns-in_err-write_synced-2-clause-told : goal.returns-in_err-write_synced-2-clause-told
returns-in_err-write_synced-2-clause-told g c told settled within =
    let was = (g.B.Bay.meaning c.args.bay.now).now.seen c.args.platter in
    let read = c.read_at.ensures.told told in
    let ch : Change c.args.platter c.args.place c.work_on-work.result.at c.work_on-work.result.turn c.args.payload.now (g.B.Bay.meaning c.args.bay.now) = record {
      copy = chosen c.read_at.new.buf was c.args.place c.work_on-work.result c.read_at.auto.buf (c.in_ok-read_at.ensures.told told).read c.work_on-work.ensures.works;
      long = sym c.told-payload;
      within = within;
      settled = settled;
    } in
    let ready = to_ready c.work_on-work.result (c.in_ok-read_at.ensures.told told) (c.in_ok-read_at.ensures.told told).read c.read_at.auto.buf c.work_on-work.ensures.works settled within in
    let close = to_close ch read.seen (to_read ch read) (c.close_gate.ensures.told told ready) in
    let closed = c.in_ok-close_gate.ensures.told told ready in
    let shut = is_shut ch _ _ read.seen closed.outside closed.shut in
    let fill = to_fill ch (sym c.body-next.ensures.long) shut close (c.write_synced.ensures.told told closed.settled) in
    let full = is_filled ch _ _ _ (sym c.body-next.ensures.long) c.body-next.ensures.body shut (c.in_ok-write_synced.ensures.told told closed.settled).written in
    let opened = to_open ch full fill (c.write_synced-2.ensures.told told (c.in_ok-write_synced.ensures.told told closed.settled).settled) in
    set_failed _ c.from_residual-in_err-write_synced-2.ensures.0 opened

pub returns-clause-told : goal.returns-clause-told
returns-clause-told g c told settled within =
    let was = (g.B.Bay.meaning c.args.bay.now).now.seen c.args.platter in
    let read = c.read_at.ensures.told told in
    let ch : Change c.args.platter c.args.place c.work_on-work.result.at c.work_on-work.result.turn c.args.payload.now (g.B.Bay.meaning c.args.bay.now) = record {
      copy = chosen c.read_at.new.buf was c.args.place c.work_on-work.result c.read_at.auto.buf (c.in_ok-read_at.ensures.told told).read c.work_on-work.ensures.works;
      long = sym c.told-payload;
      within = within;
      settled = settled;
    } in
    let ready = to_ready c.work_on-work.result (c.in_ok-read_at.ensures.told told) (c.in_ok-read_at.ensures.told told).read c.read_at.auto.buf c.work_on-work.ensures.works settled within in
    let close = to_close ch read.seen (to_read ch read) (c.close_gate.ensures.told told ready) in
    let closed = c.in_ok-close_gate.ensures.told told ready in
    let shut = is_shut ch _ _ read.seen closed.outside closed.shut in
    let fill = to_fill ch (sym c.body-next.ensures.long) shut close (c.write_synced.ensures.told told closed.settled) in
    let full = is_filled ch _ _ _ (sym c.body-next.ensures.long) c.body-next.ensures.body shut (c.in_ok-write_synced.ensures.told told closed.settled).written in
    let opened = to_open ch full fill (c.write_synced-2.ensures.told told (c.in_ok-write_synced.ensures.told told closed.settled).settled) in
    let last = c.in_ok-write_synced-2.ensures.told told (c.in_ok-write_synced.ensures.told told closed.settled).settled in
    let same = read_same c.read_at.new.buf was c.args.place c.read_at.auto.buf (c.in_ok-read_at.ensures.told told).read in
    let at_is = c.work_on-work.ensures.place ∙ copy_ext _ _ same in
    let turn_is = c.work_on-work.ensures.turn ∙ turn_ext _ _ same in
    record { run = opened; settled = last.settled; value = is_new ch _ _ full last.written; copy = is_written ch _ _ at_is turn_is full last.written }

pub returns-in_err-write_synced-2-clause-touches : goal.returns-in_err-write_synced-2-clause-touches
returns-in_err-write_synced-2-clause-touches g c =
    let join = g.met.B.Bay.follows_then in
    touches_less g.B.Bay.counts g.B.Bay.follows (omega arith) (λ _. refl)
    (touches_then g.B.Bay.counts g.B.Bay.follows join (touches_then g.B.Bay.counts g.B.Bay.follows join (touches_then g.B.Bay.counts g.B.Bay.follows join c.in_ok-read_at.ensures.touches c.in_ok-close_gate.ensures.touches) c.in_ok-write_synced.ensures.touches) c.in_err-write_synced-2.ensures.touches)

pub returns-clause-touches : goal.returns-clause-touches
returns-clause-touches g c =
    let join = g.met.B.Bay.follows_then in
    touches_then g.B.Bay.counts g.B.Bay.follows join (touches_then g.B.Bay.counts g.B.Bay.follows join (touches_then g.B.Bay.counts g.B.Bay.follows join c.in_ok-read_at.ensures.touches c.in_ok-close_gate.ensures.touches) c.in_ok-write_synced.ensures.touches) c.in_ok-write_synced-2.ensures.touches

pub returns-clause-written : goal.returns-clause-written
returns-clause-written g c told =
    let was = (g.B.Bay.meaning c.args.bay.now).now.seen c.args.platter in
    let same = read_same c.read_at.new.buf was c.args.place c.read_at.auto.buf (c.in_ok-read_at.ensures.told told).read in
    let gate = gate_ext c.read_at.new.buf was c.args.place _ _ same c.work_on-work.ensures.place c.work_on-work.ensures.works.0 in
    rw (← gate, ← no_writes c.in_ok-read_at.ensures.touches) (all_writes c.work_on-work.result.is_open _ _ _ _ c.in_ok-close_gate.ensures.written c.in_ok-write_synced.ensures.written c.in_ok-write_synced-2.ensures.written)

pub returns-in_err-read_at-clause-others : goal.returns-in_err-read_at-clause-others
returns-in_err-read_at-clause-others g c told = run_spares (c.read_at.ensures.told told).ticks

pub returns-in_err-close_gate-clause-others : goal.returns-in_err-close_gate-clause-others
returns-in_err-close_gate-clause-others g c told = others_then (run_spares (c.read_at.ensures.told told).ticks) (c.close_gate.ensures.others told)

pub returns-in_err-write_synced-clause-others : goal.returns-in_err-write_synced-clause-others
returns-in_err-write_synced-clause-others g c told =
    others_then (others_then (run_spares (c.read_at.ensures.told told).ticks) (c.close_gate.ensures.others told)) (c.write_synced.ensures.others told)

pub returns-in_err-write_synced-2-clause-others : goal.returns-in_err-write_synced-2-clause-others
returns-in_err-write_synced-2-clause-others g c told =
    others_then (others_then (others_then (run_spares (c.read_at.ensures.told told).ticks) (c.close_gate.ensures.others told)) (c.write_synced.ensures.others told)) (c.write_synced-2.ensures.others told)

pub returns-clause-others : goal.returns-clause-others
returns-clause-others g c told =
    others_then (others_then (others_then (run_spares (c.read_at.ensures.told told).ticks) (c.close_gate.ensures.others told)) (c.write_synced.ensures.others told)) (c.write_synced-2.ensures.others told)
