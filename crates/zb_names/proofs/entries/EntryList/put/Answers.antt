use Rattle.std.proofs.Common.{◌≡◌, ◌<◌, ◌++◌, [], false, length, sym, ap, subst, ◌∙◌, arith}
use Rattle.std.specs.Vec.{vec_len}
use Rattle.std.specs.Prelude.{if◌then◌else◌, vec_capacity}
use Rattle.std.specs.List.{insert}
use Rattle.std.specs.List.Sorted.{IsStrictlySortedBy}
use Rattle.std.specs.Ordering.{nat_cmp}
use Rattle.std.specs.Cmp.Lexicographic.{slice_cmp}
use Rattle.std.specs.Map.{keys_of}
use Rattle.std.proofs.lemmas.List.{append-nil}
use Rattle.zb_types.specs.Names.{has, with_entry}
use Rattle.zb_names.specs.Shown.{listed, seen}
use Rattle.zb_names.specs.Placing.{SeenEntries, IsPlace}
use Rattle.zb_names.proofs.Inserting.{sorted-with_entry}
use Rattle.zb_names.proofs.Places.{insert_ok, insert-place, listed-insert, length-listed}
use Rattle.zb_names.proofs.entries.EntryList.put.Goals as goal

-- what stands there then
made : (c : goal.Joined-insert) → listed c.insert.new.self.items ≡ with_entry c.args.path (seen c.args.entry) (listed c.self.inside.items.items)
made c =
    let items = c.self.inside.items.items in
    let path = c.args.path in
    let i = c.place-i.result in
    let same = append-nil c.slice.result.now ∙ c.slice.ensures.same in
    let place : IsPlace path (keys_of (listed items)) i = subst (λ p. IsPlace p (keys_of (listed items)) i) same (subst (λ (s : SeenEntries). IsPlace (c.slice.result.now ++ []) (keys_of s.entries) i) (sym c.self.view_is) c.place-i.ensures.place) in
    let room : length (listed items) < vec_capacity c.self.inside.items = subst (λ (s : SeenEntries). length s.entries < s.room) (sym c.self.view_is) c.requires.room in
    let ok = insert_ok c.insert.result (vec_capacity c.self.inside.items) (vec_len c.self.inside.items) c.insert.ensures.full (omega (arith, room, c.self.inside.items.ok.0, length-listed items)) in
    ap listed (c.insert.ensures.items ∙ ap (λ b. if b then insert items i (path, c.args.entry) else items) ok) ∙ listed-insert items i path c.args.entry ∙ insert-place path (seen c.args.entry) (listed items) i place.before place.behind

pub invariant_of-self : goal.invariant_of-self
invariant_of-self c =
    let items = c.self.inside.items.items in
    let path = c.args.path in
    let absent = subst (λ (s : SeenEntries). has path s.entries ≡ false) (sym c.self.view_is) c.requires.absent in
    subst (λ s. IsStrictlySortedBy (slice_cmp nat_cmp) (keys_of s)) (sym (made c)) (sorted-with_entry path (seen c.args.entry) (listed items) absent c.self.invariant)

pub returns-clause-entries : goal.returns-clause-entries
returns-clause-entries c = made c ∙ ap (λ (s : SeenEntries). with_entry c.args.path (seen c.args.entry) s.entries) c.self.view_is
