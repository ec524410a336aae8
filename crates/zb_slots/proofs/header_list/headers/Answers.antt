use Rattle.std.proofs.Common.{rules, ◌≡◌, ◌++◌, ◌∷◌, [], ℕ, List, length, Option, Some, subst, sym, ◌∙◌, ap, arith, length-append}
use Rattle.std.specs.Prelude.{slice_get}
use Rattle.zb_slots.specs.declared.header.Header.{Header}
use Rattle.zb_slots.specs.Showing.{header_of, AllMayStand}
use Rattle.zb_slots.proofs.Leaving.{left_then, left_by_held}
use Rattle.zb_slots.proofs.Shows.{says, one_more_shown, one_more_stands, are_shown}
use Rattle.zb_slots.proofs.header_list.headers.Goals as goal

pub returns-in_err-says-clause-told : goal.returns-in_err-says-clause-told
returns-in_err-says-clause-told g c told = left_then (c.loop-slot.invariant.told told) (left_by_held (c.header_at.ensures.told told))

pub returns-in_err-push-clause-told : goal.returns-in_err-push-clause-told
returns-in_err-push-clause-told g c told = left_then (c.loop-slot.invariant.told told) (left_by_held (c.header_at.ensures.told told))

pub loop-slot-preserved : goal.loop-slot-preserved
loop-slot-preserved g c =
    let h = c.loop-slot.invariant in
    let p : ℕ = c.args.platter in
    let image : List ℕ = (g.B.Bay.meaning c.args.bay.now).now.seen p in
    let items : c.push.new.self.items ≡ c.loop-slot.headers.items ++ c.in_ok-says.says ∷ [] = c.in_ok-push.ensures.items in
    record {
      told = λ told. left_then (h.told told) (left_by_held (c.header_at.ensures.told told));
      count = ap (λ (l : List (Option Header)). length l) items ∙ length-append c.loop-slot.headers.items (c.in_ok-says.says ∷ []) ∙ omega (arith, h.count);
      shown = λ told. subst (λ (l : List (Option Header)). (j : ℕ) (header : Option Header) → slice_get l j ≡ Some header → header ≡ header_of c.args.geo.now image j) (sym items)
          (one_more_shown c.args.geo.now image c.loop-slot.headers.items c.in_ok-says.says c.loop-slot.slot h.count (h.shown told)
          (says c.args.geo.now image _ c.loop-slot.slot _ c.in_ok-says.says (h.told told).seen c.place_of.ensures.place (c.in_ok-says.ensures.says told)));
      stand = subst (AllMayStand c.args.geo.now.servers c.args.geo.now.fragment) (sym items)
          (one_more_stands c.args.geo.now.servers c.args.geo.now.fragment c.loop-slot.headers.items c.in_ok-says.says h.stand c.in_ok-says.ensures.stands);
      touches = search rules;
    }

pub returns-clause-shown : goal.returns-clause-shown
returns-clause-shown g c told =
    are_shown c.args.geo.now _ c.loop-slot.headers.items (c.loop-slot.invariant.count ∙ omega (arith, c.loop-slot-test.false, c.loop-slot.auto.slot-end)) (c.loop-slot.invariant.shown told)
