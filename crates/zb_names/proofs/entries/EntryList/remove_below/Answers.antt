use Rattle.std.proofs.Common.{◌≡◌, ◌++◌, ◌∷◌, [], not, sym, ap, subst, ◌∙◌}
use Rattle.std.specs.List.{filter}
use Rattle.std.specs.List.Sorted.{IsStrictlySortedBy}
use Rattle.std.specs.Ordering.{nat_cmp}
use Rattle.std.specs.Cmp.Lexicographic.{slice_cmp}
use Rattle.std.specs.Map.{keys_of}
use Rattle.zb_types.specs.Names.{is_below}
use Rattle.zb_names.specs.Shown.{listed}
use Rattle.zb_names.specs.Placing.{SeenEntries, IsPlace}
use Rattle.zb_names.proofs.Carrying.{sorted-filter}
use Rattle.zb_names.proofs.Together.{cut-row, start_le_end}
use Rattle.zb_names.proofs.entries.EntryList.remove_below.Goals as goal

pub drain-requires-clause-start_le_end : goal.drain-requires-clause-start_le_end
drain-requires-clause-start_le_end c =
    start_le_end c.args.path.now (keys_of c.args.self.now.entries) c.place-start.result c.place-end.result c.place-start.ensures.place.within c.place-end.ensures.place.within c.place-start.ensures.place.before c.place-end.ensures.place.behind

-- what stands there then
left : (c : goal.After-drop-drain) → listed c.drop-drain.new.self.0.items ≡ filter (λ e. not (is_below c.args.path.now e.0)) (listed c.self.inside.items.items)
left c =
    let items = c.self.inside.items.items in
    let path = c.args.path.now in
    let i = c.place-start.result in
    let j = c.place-end.result in
    let from : IsPlace (path ++ 47 ∷ []) (keys_of (listed items)) i = subst (λ (s : SeenEntries). IsPlace (path ++ 47 ∷ []) (keys_of s.entries) i) (sym c.self.view_is) c.place-start.ensures.place in
    let to : IsPlace (path ++ 48 ∷ []) (keys_of (listed items)) j = subst (λ (s : SeenEntries). IsPlace (path ++ 48 ∷ []) (keys_of s.entries) j) (sym c.self.view_is) c.place-end.ensures.place in
    cut-row path items _ i j from to (c.drop-drain.ensures.items ∙ c.drain.ensures.kept)

pub invariant_of-self : goal.invariant_of-self
invariant_of-self c = subst (λ s. IsStrictlySortedBy (slice_cmp nat_cmp) (keys_of s)) (sym (left c)) (sorted-filter (λ e. not (is_below c.args.path.now e.0)) (listed c.self.inside.items.items) c.self.invariant)

pub returns-clause-entries : goal.returns-clause-entries
returns-clause-entries c = left c ∙ ap (λ (s : SeenEntries). filter (λ e. not (is_below c.args.path.now e.0)) s.entries) c.self.view_is
