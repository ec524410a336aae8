use Rattle.std.proofs.Common.{◌+◌, Some, None, refl, sym, ap, ◌∙◌, subst, arith}
use Rattle.std.specs.Prelude.{IsSome}
use Rattle.std.proofs.lemmas.Result.{on_ok_weaker, on_err_weaker}
use Rattle.zb_pointers.specs.Seen.{files_in, rooms_in, blocks_of, set_block}
use Rattle.zb_types.specs.Keyed.{look}
use Rattle.zb_types.proofs.KeyedLists.{IsRising-from_ordered, set_value-numbers}
use Rattle.zb_pointers.specs.declared.kept.Kept.{Kept}
use Rattle.zb_pointers.proofs.Keeping.{RoomIn, file_found, files_changed, files_same, unchanged_at, room_kept, room_had, rooms_other, ok_unless, ok_where, blocks_there, look_one}
use Rattle.zb_pointers.proofs.pointers.Pointers.set.Goals as goal

pub returns-in_default-clause-ok : goal.returns-in_default-clause-ok
returns-in_default-clause-ok c =
    let es = c.self.inside.kept.entries in
    let rising = IsRising-from_ordered es c.self.invariant.1 in
    rw (← c.self.view_is) (ap (λ m. files_in m.entries) c.get_mut.follows.holds-at-none ∙ unchanged_at es rising c.args.fid.0 (set_block c.args.block c.args.ptr) (look_one es c.args.fid.0 None c.in_default.ensures.value))

pub returns : goal.returns
returns c =
    let es = c.self.inside.kept.entries in
    let rising = IsRising-from_ordered es c.self.invariant.1 in
    let k = c.args.fid.0 in
    let old : Kept = c.in-Some.kept.now in
    let new : Kept = c.set.new.self in
    let now = (c.get_mut.follows.holds new).0 ∙ set_value-numbers k new es in
    let found = look_one es k (Some old) c.in-Some.ensures.value in
    let file = file_found es rising k (Some old) c.in-Some.ensures.value in
    let there = λ (some : IsSome (look c.args.block (blocks_of (look k (files_in es))))). blocks_there old.head old.blocks.pairs c.args.block (subst (λ f. IsSome (look c.args.block (blocks_of f))) file some) in
    rw (← c.self.view_is) (record {
      ok = on_ok_weaker c.set.result (λ is. ap files_in now ∙ files_changed es rising k old new found (set_block c.args.block c.args.ptr) is) c.set.ensures.ok;
      err = on_err_weaker c.set.result (λ same. ap files_in now ∙ files_same es rising k old new found same) c.set.ensures.err;
      succeeds = λ has. ok_unless c.set.result old.blocks.room c.set.ensures.full (room_had es k old 1 found has);
      room = λ n has. subst (λ ds. RoomIn ds k n) (sym now) (room_kept es rising k old new (n + 1) n found (λ le. let r = c.set.ensures.room in omega arith) has);
      present = λ some. ok_where c.set.result (look c.args.block old.blocks.pairs) c.set.ensures.absent (there some);
      same_room = λ some n has. subst (λ ds. RoomIn ds k n) (sym now) (room_kept es rising k old new n n found (λ le. let r = c.set.ensures.present (there some) in omega arith) has);
      others = λ q other. ap (λ ds. look q (rooms_in ds)) now ∙ rooms_other es k q new other;
      block = refl;
    })
