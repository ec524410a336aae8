use Rattle.std.proofs.Common.{Some, None, refl, sym, ap, ◌∙◌, subst, arith}
use Rattle.zb_tables.specs.Fold.{cut}
use Rattle.zb_pointers.specs.Seen.{files_in, rooms_in}
use Rattle.zb_types.specs.Keyed.{look}
use Rattle.zb_types.proofs.KeyedLists.{IsRising-from_ordered, set_value-numbers}
use Rattle.zb_pointers.specs.declared.kept.Kept.{Kept}
use Rattle.zb_pointers.proofs.Keeping.{RoomIn, files_changed, unchanged_at, room_kept, rooms_other, look_one}
use Rattle.zb_pointers.proofs.pointers.Pointers.cut.Goals as goal

pub returns-in_default-clause-files : goal.returns-in_default-clause-files
returns-in_default-clause-files c =
    let es = c.self.inside.kept.entries in
    let rising = IsRising-from_ordered es c.self.invariant.1 in
    rw (← c.self.view_is) (ap (λ m. files_in m.entries) c.get_mut.follows.holds-at-none ∙ unchanged_at es rising c.args.fid.0 (cut c.self.inside.block c.args.length) (look_one es c.args.fid.0 None c.in_default.ensures.value))

pub returns : goal.returns
returns c =
    let es = c.self.inside.kept.entries in
    let rising = IsRising-from_ordered es c.self.invariant.1 in
    let k = c.args.fid.0 in
    let old : Kept = c.in-Some.kept.now in
    let new : Kept = c.cut.new.self in
    let now = (c.get_mut.follows.holds new).0 ∙ set_value-numbers k new es in
    let found = look_one es k (Some old) c.in-Some.ensures.value in
    rw (← c.self.view_is) (record {
      files = ap files_in now ∙ files_changed es rising k old new found (cut c.self.inside.block c.args.length) c.cut.ensures.file;
      room = λ n has. subst (λ ds. RoomIn ds k n) (sym now) (room_kept es rising k old new n n found (λ le. let r = c.cut.ensures.room in omega arith) has);
      others = λ q other. ap (λ ds. look q (rooms_in ds)) now ∙ rooms_other es k q new other;
      block = refl;
    })
