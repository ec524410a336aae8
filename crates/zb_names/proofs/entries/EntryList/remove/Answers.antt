use Rattle.std.proofs.Common.{◌≡◌, ◌<◌, ◌≤◌, ◌++◌, [], true, false, not, length, get_or, sym, ap, subst, ◌∙◌, arith}
use Rattle.std.specs.Str.{bytes_eq}
use Rattle.std.specs.List.Sorted.{IsStrictlySortedBy}
use Rattle.std.specs.Ordering.{nat_cmp}
use Rattle.std.specs.Cmp.Lexicographic.{slice_cmp}
use Rattle.std.specs.Map.{keys_of}
use Rattle.std.proofs.lemmas.Bool.{not-true, not-false}
use Rattle.std.proofs.lemmas.List.{append-nil, get_or_default}
use Rattle.std.proofs.lemmas.Slice.Eq.{bytes_eq-Decides}
use Rattle.zb_types.specs.Names.{others}
use Rattle.zb_names.specs.Shown.{listed}
use Rattle.zb_names.specs.Placing.{SeenEntries, IsPlace}
use Rattle.zb_names.proofs.Carrying.{sorted-filter}
use Rattle.zb_names.proofs.Places.{others-apart, remove-place, listed-remove, length-listed, length-keys, key_at}
use Rattle.zb_names.proofs.entries.EntryList.remove.Goals as goal

pub returns-then-i-len-clause-entries : goal.returns-then-i-len-clause-entries
returns-then-i-len-clause-entries c =
    let items = c.self.inside.items.items in
    let path = c.args.path.now in
    let i = c.place-i.result in
    let place : IsPlace path (keys_of (listed items)) i = subst (λ p. IsPlace p (keys_of (listed items)) i) (append-nil path) (subst (λ (s : SeenEntries). IsPlace (path ++ []) (keys_of s.entries) i) (sym c.self.view_is) c.place-i.ensures.place) in
    let far : length items ≤ i = omega (arith, c.if-i-len.true, c.len.ensures, c.self.inside.items.ok.0) in
    subst (λ (s : SeenEntries). s.entries ≡ others path s.entries) c.self.view_is (sym (others-apart path (listed items) i c.self.invariant place.before place.behind (λ lt. absurd (omega (arith, lt, length-listed items)))))

pub returns-then-ne-clause-entries : goal.returns-then-ne-clause-entries
returns-then-ne-clause-entries c =
    let items = c.self.inside.items.items in
    let path = c.args.path.now in
    let i = c.place-i.result in
    let place : IsPlace path (keys_of (listed items)) i = subst (λ p. IsPlace p (keys_of (listed items)) i) (append-nil path) (subst (λ (s : SeenEntries). IsPlace (path ++ []) (keys_of s.entries) i) (sym c.self.view_is) c.place-i.ensures.place) in
    let lt : i < length items = omega (arith, c.if-i-len.false, c.len.ensures, c.self.inside.items.ok.0) in
    let x = c.index.result.now in
    let here = key_at items i x lt c.index.ensures in
    let long : i < length (keys_of (listed items)) = omega (arith, length-keys (listed items), length-listed items) in
    let at : get_or (keys_of (listed items)) i path ≡ x.0 = get_or_default (keys_of (listed items)) i path x.0 long ∙ here in
    let apart : bytes_eq path (get_or (keys_of (listed items)) i path) ≡ false = ap (bytes_eq path) (at ∙ sym c.slice.ensures.same) ∙ not-true _ (sym c.if-ne.ensures) in
    subst (λ (s : SeenEntries). s.entries ≡ others path s.entries) c.self.view_is (sym (others-apart path (listed items) i c.self.invariant place.before place.behind (λ _. apart)))

-- what stands there then
left : (c : goal.After-drop-remove) → listed c.remove.new.self.items ≡ others c.args.path.now (listed c.self.inside.items.items)
left c =
    let items = c.self.inside.items.items in
    let path = c.args.path.now in
    let i = c.place-i.result in
    let place : IsPlace path (keys_of (listed items)) i = subst (λ p. IsPlace p (keys_of (listed items)) i) (append-nil path) (subst (λ (s : SeenEntries). IsPlace (path ++ []) (keys_of s.entries) i) (sym c.self.view_is) c.place-i.ensures.place) in
    let lt : i < length items = omega (arith, c.if-i-len.false, c.len.ensures, c.self.inside.items.ok.0) in
    let x = c.index.result.now in
    let here = key_at items i x lt c.index.ensures in
    let long : i < length (keys_of (listed items)) = omega (arith, length-keys (listed items), length-listed items) in
    let same : bytes_eq path x.0 ≡ true = ap (bytes_eq path) (sym c.slice.ensures.same) ∙ not-false _ (sym c.if-ne.ensures) in
    let at : get_or (keys_of (listed items)) i path ≡ path = get_or_default (keys_of (listed items)) i path x.0 long ∙ here ∙ sym ((bytes_eq-Decides path x.0).0 same) in
    ap listed c.remove.ensures.items ∙ listed-remove items i ∙ remove-place path (listed items) i c.self.invariant place.before (omega (arith, length-listed items)) at

pub invariant_of-self : goal.invariant_of-self
invariant_of-self c = subst (λ s. IsStrictlySortedBy (slice_cmp nat_cmp) (keys_of s)) (sym (left c)) (sorted-filter (λ e. not (bytes_eq c.args.path.now e.0)) (listed c.self.inside.items.items) c.self.invariant)

pub returns-clause-entries : goal.returns-clause-entries
returns-clause-entries c = left c ∙ ap (λ (s : SeenEntries). others c.args.path.now s.entries) c.self.view_is
