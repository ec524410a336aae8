use Rattle.std.proofs.Common.{None, refl, sym, ap, ◌∙◌, subst, arith}
use Rattle.std.specs.Prelude.{is_some}
use Rattle.zb_types.specs.Keyed.{look, put}
use Rattle.zb_types.proofs.KeyedLists.{IsRising-from_ordered, lookup-numbers, insert_entry-numbers, look-put_same}
use Rattle.zb_pointers.specs.declared.kept.Kept.{Kept}
use Rattle.zb_pointers.specs.Seen.{files_in, rooms_in}
use Rattle.zb_pointers.proofs.Keeping.{RoomIn, files_more, rooms_put_other, has_room, no_room, present_room, absent_look}
use Rattle.zb_pointers.proofs.pointers.Pointers.make_room.Goals as goal

pub returns-then-contains_key-clause-ok : goal.returns-then-contains_key-clause-ok
returns-then-contains_key-clause-ok c =
    let es = c.self.inside.kept.entries in
    let rising = IsRising-from_ordered es c.self.invariant.1 in
    rw (← c.self.view_is) (present_room es c.args.fid.0 (look c.args.fid.0 es) refl (ap is_some (sym (lookup-numbers c.args.fid.0 es)) ∙ sym c.contains_key.ensures ∙ c.if-contains_key.true))

pub returns-in_err-insert-clause-succeeds : goal.returns-in_err-insert-clause-succeeds
returns-in_err-insert-clause-succeeds c =
    let es = c.self.inside.kept.entries in
    let rising = IsRising-from_ordered es c.self.invariant.1 in
    let none = absent_look (look c.args.fid.0 es) (ap is_some (sym (lookup-numbers c.args.fid.0 es)) ∙ sym c.contains_key.ensures ∙ c.if-contains_key.false) in
    rw (← c.self.view_is) (λ has. absurd (no_room es c.args.fid.0 0 none has))

pub returns-clause-files : goal.returns-clause-files
returns-clause-files c =
    let es = c.self.inside.kept.entries in
    let rising = IsRising-from_ordered es c.self.invariant.1 in
    let none = absent_look (look c.args.fid.0 es) (ap is_some (sym (lookup-numbers c.args.fid.0 es)) ∙ sym c.contains_key.ensures ∙ c.if-contains_key.false) in
    let kept : Kept = record { head = None; blocks = c.new.result } in
    let now = c.in_ok-insert.ensures.entries ∙ insert_entry-numbers c.args.fid.0 kept es in
    rw (← c.self.view_is) (ap files_in now ∙ files_more es rising c.args.fid.0 kept none refl)

pub returns-clause-ok : goal.returns-clause-ok
returns-clause-ok c =
    let es = c.self.inside.kept.entries in
    let rising = IsRising-from_ordered es c.self.invariant.1 in
    let kept : Kept = record { head = None; blocks = c.new.result } in
    let now = c.in_ok-insert.ensures.entries ∙ insert_entry-numbers c.args.fid.0 kept es in
    subst (λ ds. RoomIn ds c.args.fid.0 0) (sym now) (has_room (put c.args.fid.0 kept es) c.args.fid.0 kept 0 (look-put_same c.args.fid.0 kept es) (omega arith))

pub returns-clause-room : goal.returns-clause-room
returns-clause-room c =
    let es = c.self.inside.kept.entries in
    let rising = IsRising-from_ordered es c.self.invariant.1 in
    let none = absent_look (look c.args.fid.0 es) (ap is_some (sym (lookup-numbers c.args.fid.0 es)) ∙ sym c.contains_key.ensures ∙ c.if-contains_key.false) in
    rw (← c.self.view_is) (λ n has. absurd (no_room es c.args.fid.0 n none has))

pub returns-clause-others : goal.returns-clause-others
returns-clause-others c =
    let es = c.self.inside.kept.entries in
    let rising = IsRising-from_ordered es c.self.invariant.1 in
    let kept : Kept = record { head = None; blocks = c.new.result } in
    let now = c.in_ok-insert.ensures.entries ∙ insert_entry-numbers c.args.fid.0 kept es in
    rw (← c.self.view_is) (λ q other. ap (λ ds. look q (rooms_in ds)) now ∙ rooms_put_other es c.args.fid.0 q kept other)
