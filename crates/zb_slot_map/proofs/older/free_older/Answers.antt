use Rattle.std.proofs.Common.{rules, ℕ, List, refl, arith}
use Rattle.zb_outside.proofs.Runs.{others_same, others_then}
use Rattle.zb_slot_map.proofs.Going.{begun, ready, goes_on, one_more, free_failed, all_freed}
use Rattle.zb_slot_map.proofs.older.free_older.Goals as goal

pub loop-slot-init : goal.loop-slot-init
loop-slot-init g c = record {
  told = λ told settled sound has. begun c.args.geo.now c.args.platter c.args.older.now (g.B.Bay.meaning c.args.bay.now) settled sound has;
  others = λ told. others_same c.args.platter (g.B.Bay.meaning c.args.bay.now);
  touches = search rules;
}

pub returns-in_err-free-clause-told : goal.returns-in_err-free-clause-told
returns-in_err-free-clause-told g c told settled sound has =
    let geo = c.args.geo.now in
    let older : List ℕ = c.args.older.now in
    let way = c.loop-slot.invariant.told told settled sound has in
    free_failed _ c.from_residual.ensures.0
    (goes_on geo older c.loop-slot.slot-index _ c.place_of.result has way c.loop-slot-test.true refl c.place_of.ensures.place
    (c.free.ensures.told told (ready geo older c.loop-slot.slot-index _ c.place_of.result has way c.loop-slot-test.true refl c.place_of.ensures.place)))

pub loop-slot-preserved : goal.loop-slot-preserved
loop-slot-preserved g c =
    let geo = c.args.geo.now in
    let older : List ℕ = c.args.older.now in
    let h = c.loop-slot.invariant in
    record {
      told = λ told settled sound has.
          let way = h.told told settled sound has in
          one_more geo older c.loop-slot.slot-index _ c.place_of.result has way c.loop-slot-test.true refl c.place_of.ensures.place
          (c.in_ok-free.ensures.told told (ready geo older c.loop-slot.slot-index _ c.place_of.result has way c.loop-slot-test.true refl c.place_of.ensures.place));
      others = λ told. others_then (h.others told) (c.in_ok-free.ensures.others told);
      touches = search rules;
    }

pub returns-clause-told : goal.returns-clause-told
returns-clause-told g c told settled sound has =
    let way = c.loop-slot.invariant.told told settled sound has in
    record {
      run = way.run;
      settled = way.settled;
      freed = all_freed c.args.geo.now c.args.older.now c.loop-slot.slot-index _ _ (omega (arith, c.loop-slot-test.false, c.loop-slot.auto.slot-index-end)) has way.going;
    }

pub returns-in_err-free-clause-others : goal.returns-in_err-free-clause-others
returns-in_err-free-clause-others g c told = others_then (c.loop-slot.invariant.others told) (c.free.ensures.others told)
