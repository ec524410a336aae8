use Rattle.std.proofs.Common.{rules, [], Some, None, sym, ap, ◌∙◌, subst, arith}
use Rattle.zb_tables.specs.Tables.{FileState}
use Rattle.zb_types.specs.Keyed.{put}
use Rattle.zb_pointers.specs.Seen.{HasRoom, file_of, files_in, rooms_in}
use Rattle.zb_types.specs.Keyed.{look}
use Rattle.zb_types.proofs.KeyedLists.{IsRising-from_ordered, set_value-numbers}
use Rattle.zb_pointers.specs.declared.kept.Kept.{Kept}
use Rattle.zb_pointers.proofs.Keeping.{RoomIn, files_put, room_kept, rooms_other, no_room, look_one}
use Rattle.zb_pointers.proofs.pointers.Pointers.load.Goals as goal

pub returns-in_default-clause-ok : goal.returns-in_default-clause-ok
returns-in_default-clause-ok c =
    let es = c.self.inside.kept.entries in
    let none = look_one es c.args.fid.0 None c.in_default.ensures.value in
    absurd (no_room es c.args.fid.0 0 none (subst (λ s. HasRoom s c.args.fid.0 0) (sym c.self.view_is) c.in_ok-make_room.ensures.ok))

pub returns : goal.returns
returns c =
    let es = c.self.inside.kept.entries in
    let rising = IsRising-from_ordered es c.self.invariant.1 in
    let k = c.args.fid.0 in
    let old : Kept = c.in-Some.kept.now in
    let new : Kept = c.start.new.self in
    let now = (c.get_mut.follows.holds new).0 ∙ set_value-numbers k new es in
    let found = look_one es k (Some old) c.in-Some.ensures.value in
    let file : FileState = file_of c.args.head [] in
    record {
      ok = ap files_in now ∙ files_put es rising k old new found file c.start.ensures.file ∙ ap (λ s. put k file s.files) c.self.view_is ∙ ap (put k file) c.make_room.ensures.files;
      err = search rules;
      succeeds = search rules;
      room = λ n has. subst (λ ds. RoomIn ds k n) (sym now) (room_kept es rising k old new n n found (λ le. let r = c.start.ensures.room in omega arith)
          (subst (λ s. HasRoom s k n) (sym c.self.view_is) (c.make_room.ensures.room n has)));
      others = λ q other. ap (λ ds. look q (rooms_in ds)) now ∙ rooms_other es k q new other ∙ ap (λ s. look q s.rooms) c.self.view_is ∙ c.make_room.ensures.others q other;
      block = search rules;
    }
