use Rattle.std.proofs.Common.{◌==◌, slice_index}
use Rattle.std.proofs.lemmas.Result.{on_ok_weaker}
use Rattle.zb_cell.proofs.Steps.{no_writes, all_writes}
use Rattle.zb_outside.proofs.Runs.{run_spares, others_then}
use Rattle.zb_outside.proofs.Touching.{touches_then}
use Rattle.zb_journal.proofs.Puts.{put_failed, to_read, is_ready, to_close, is_closed, to_fill, is_filled, reads_back, to_open, is_put, gate_ext, on_ok_of}
use Rattle.zb_journal.proofs.gate.put.Goals as goal

pub returns-in_err-close_gate-clause-told : goal.returns-in_err-close_gate-clause-told
returns-in_err-close_gate-clause-told g c told ready =
    let read = c.in_ok-read_at.ensures.told told in
    let first = to_read ready (c.read_at.ensures.told told) in
    let gate = is_ready ready (c.read_at.ensures.told told) read.read c.read_at.auto.buf in
    put_failed _ c.from_residual-in_err-close_gate.ensures.0 (to_close ready read.seen first (c.close_gate.ensures.told told gate))

pub returns-in_err-write_synced-clause-told : goal.returns-in_err-write_synced-clause-told
returns-in_err-write_synced-clause-told g c told ready =
    let read = c.in_ok-read_at.ensures.told told in
    let first = to_read ready (c.read_at.ensures.told told) in
    let gate = is_ready ready (c.read_at.ensures.told told) read.read c.read_at.auto.buf in
    let close = to_close ready read.seen first (c.close_gate.ensures.told told gate) in
    let closed = c.in_ok-close_gate.ensures.told told gate in
    let o = is_closed _ _ _ _ read.seen closed.outside in
    put_failed _ c.from_residual-in_err-write_synced.ensures.0 (to_fill ready o closed.shut close (c.write_synced.ensures.told told closed.settled))

pub returns-clause-told : goal.returns-clause-told
returns-clause-told g c told ready =
    let read = c.in_ok-read_at.ensures.told told in
    let first = to_read ready (c.read_at.ensures.told told) in
    let gate = is_ready ready (c.read_at.ensures.told told) read.read c.read_at.auto.buf in
    let close = to_close ready read.seen first (c.close_gate.ensures.told told gate) in
    let closed = c.in_ok-close_gate.ensures.told told gate in
    let o = is_closed _ _ _ _ read.seen closed.outside in
    let fill = to_fill ready o closed.shut close (c.write_synced.ensures.told told closed.settled) in
    let w = c.in_ok-write_synced.ensures.told told closed.settled in
    let last = c.write_synced-2.ensures.told told w.settled in
    record {
      run = to_open ready (is_filled _ _ _ _ _ ready.within o w.written) (reads_back _ _ _ _ w.written) fill last;
      settled = last.settled;
      put = on_ok_weaker _ (λ v. is_put _ _ _ _ (reads_back _ _ _ _ w.written) v) last.written;
    }

pub returns-in_err-read_at-clause-others : goal.returns-in_err-read_at-clause-others
returns-in_err-read_at-clause-others g c told = run_spares (c.read_at.ensures.told told).ticks

pub returns-in_err-close_gate-clause-others : goal.returns-in_err-close_gate-clause-others
returns-in_err-close_gate-clause-others g c told = others_then (run_spares (c.read_at.ensures.told told).ticks) (c.close_gate.ensures.others told)

pub returns-in_err-write_synced-clause-others : goal.returns-in_err-write_synced-clause-others
returns-in_err-write_synced-clause-others g c told =
    others_then (others_then (run_spares (c.read_at.ensures.told told).ticks) (c.close_gate.ensures.others told)) (c.write_synced.ensures.others told)

pub returns-clause-others : goal.returns-clause-others
returns-clause-others g c told =
    others_then (others_then (others_then (run_spares (c.read_at.ensures.told told).ticks) (c.close_gate.ensures.others told)) (c.write_synced.ensures.others told)) (c.write_synced-2.ensures.others told)

pub returns-clause-touches : goal.returns-clause-touches
returns-clause-touches g c =
    let join = g.met.B.Bay.follows_then in
    touches_then g.B.Bay.counts g.B.Bay.follows join (touches_then g.B.Bay.counts g.B.Bay.follows join (touches_then g.B.Bay.counts g.B.Bay.follows join c.in_ok-read_at.ensures.touches c.in_ok-close_gate.ensures.touches) c.in_ok-write_synced.ensures.touches) c.write_synced-2.ensures.touches

pub returns-clause-written : goal.returns-clause-written
returns-clause-written g c told =
    let gate = gate_ext c.read_at.new.buf ((g.B.Bay.meaning c.args.bay.now).now.seen 0) c.args.place (c.in_ok-read_at.ensures.told told).read c.read_at.auto.buf in
    on_ok_of c.write_synced-2.result
    (rw (← gate, ← no_writes c.in_ok-read_at.ensures.touches) (all_writes (slice_index c.read_at.new.buf 0 == 1) _ _ _ _ c.in_ok-close_gate.ensures.written c.in_ok-write_synced.ensures.written c.write_synced-2.ensures.written))
