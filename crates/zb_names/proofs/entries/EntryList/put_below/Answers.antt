use Rattle.std.proofs.Common.{◌≡◌, ◌+◌, ◌≤◌, ◌++◌, ◌∷◌, [], false, length, take, drop, sym, ap, subst, ◌∙◌, arith}
use Rattle.std.specs.Prelude.{if◌then◌else◌, vec_capacity}
use Rattle.std.specs.List.{list_any}
use Rattle.std.specs.List.Sorted.{IsStrictlySortedBy}
use Rattle.std.specs.Ordering.{nat_cmp}
use Rattle.std.specs.Cmp.Lexicographic.{slice_cmp}
use Rattle.std.specs.Map.{keys_of}
use Rattle.std.proofs.lemmas.List.{take_at}
use Rattle.zb_types.specs.Names.{is_below, with_entries}
use Rattle.zb_names.specs.Shown.{listed}
use Rattle.zb_names.specs.Placing.{SeenEntries, IsPlace}
use Rattle.zb_names.proofs.Places.{length-listed}
use Rattle.zb_names.proofs.Inserting.{sorted-with_entries}
use Rattle.zb_names.proofs.Together.{put-row, row_new, append_ok}
use Rattle.zb_names.proofs.entries.EntryList.put_below.Goals as goal

-- what stands there then
made : (c : goal.After-drop-left) → listed (take c.append.new.self.len (c.move_last.new.items ++ drop (length c.move_last.new.items) c.append.new.self.items)) ≡ with_entries (listed c.args.fresh.items) (listed c.self.inside.items.items)
made c =
    let items = c.self.inside.items.items in
    let fresh = c.args.fresh.items in
    let path = c.args.path.now in
    let i = c.place-i.result in
    let place : IsPlace (path ++ 47 ∷ []) (keys_of (listed items)) i = subst (λ (s : SeenEntries). IsPlace (path ++ 47 ∷ []) (keys_of s.entries) i) (sym c.self.view_is) c.place-i.ensures.place in
    let none = subst (λ (s : SeenEntries). list_any (λ e. is_below path e.0) s.entries ≡ false) (sym c.self.view_is) c.requires.none in
    let room : length fresh + length (listed items) ≤ vec_capacity c.self.inside.items = subst (λ (s : SeenEntries). length fresh + length s.entries ≤ s.room) (sym c.self.view_is) c.requires.room in
    let ok = append_ok c.append.result _ _ c.append.ensures.full (omega (arith, room, c.self.inside.items.ok.0, c.args.fresh.ok.0, length-listed items)) in
    let both = c.deref_mut.ensures.value ∙ c.append.ensures.items ∙ ap (λ b. if b then items ++ fresh else items) ok in
    let long : length fresh ≡ c.len-count.result = omega (arith, c.len-count.ensures, c.args.fresh.ok.0) in
    let after = c.move_last.ensures items fresh both long in
    let whole = take_at c.move_last.new.items _ c.append.new.self.len (c.move_last.auto.items ∙ c.deref_mut.ensures.len) in
    ap listed whole ∙ put-row path items fresh c.move_last.new.items i place c.requires.rising c.requires.below none after

pub invariant_of-self : goal.invariant_of-self
invariant_of-self c =
    let items = c.self.inside.items.items in
    let fresh = c.args.fresh.items in
    let path = c.args.path.now in
    let none = subst (λ (s : SeenEntries). list_any (λ e. is_below path e.0) s.entries ≡ false) (sym c.self.view_is) c.requires.none in
    subst (λ s. IsStrictlySortedBy (slice_cmp nat_cmp) (keys_of s)) (sym (made c)) (sorted-with_entries (listed fresh) (listed items) (row_new path (listed fresh) (listed items) c.requires.rising c.requires.below none) c.self.invariant)

pub returns-clause-entries : goal.returns-clause-entries
returns-clause-entries c = made c ∙ ap (λ (s : SeenEntries). with_entries (listed c.args.fresh.items) s.entries) c.self.view_is
