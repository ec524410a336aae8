use Rattle.std.proofs.Common.{◌≡◌, ◌+◌, ◌++◌, ◌∷◌, [], length, drop, true, false, sym, ap, subst, ◌∙◌}
use Rattle.std.specs.List.{AllByRecursion}
use Rattle.std.specs.List.Sorted.{IsStrictlySortedBy}
use Rattle.std.specs.Map.{keys_of}
use Rattle.std.specs.Ordering.{nat_cmp, is_le}
use Rattle.std.specs.Cmp.Lexicographic.{slice_cmp}
use Rattle.std.proofs.lemmas.List.{append-nil, append_assoc}
use Rattle.std.proofs.lemmas.Map.Keys.{sorted_tail}
use Rattle.zb_types.specs.Names.{is_below}
use Rattle.zb_types.specs.Paths.{is_path}
use Rattle.zb_names.specs.Shown.{listed, seen}
use Rattle.zb_names.specs.Changing.{below, relocated}
use Rattle.zb_names.proofs.Begun.{below-first, below-from, below-past}
use Rattle.zb_names.proofs.Children.{rising-from, le-from}
use Rattle.zb_names.proofs.Places.{listed-append, listed-drop_more}
use Rattle.zb_names.proofs.moving.push_below.Goals as goal

pub loop-path-init : goal.loop-path-init
loop-path-init c =
    let from = c.args.from.now in
    let to = c.args.to.now in
    let front = from ++ 47 ∷ [] in
    let entries = c.args.kept.now.entries in
    let all = c.from_path-path-items.ensures.rest in
    let same = ap (below from) all ∙ below-from from entries in
    record {
      so_far = ap (λ s. listed c.args.fresh.now.items ++ relocated (length from) to s) same;
      paths = subst (λ s. AllByRecursion (λ e. is_path e.0 ≡ true) (relocated (length from) to s)) (sym same) c.requires;
      rising = subst (λ s. IsStrictlySortedBy (slice_cmp nat_cmp) (keys_of s)) (sym all) (rising-from front entries c.from_path-path-items.ensures.rising);
      from = subst (λ s. AllByRecursion (λ e. is_le (slice_cmp nat_cmp front e.0) ≡ true) s) (sym all) (le-from front entries);
    }

pub returns-then-not-is_below : goal.returns-then-not-is_below
returns-then-not-is_below c =
    let from = c.args.from.now in
    let to = c.args.to.now in
    let front = from ++ 47 ∷ [] in
    let items = c.from_path-path-items.result.now in
    let i = c.loop-path.path-index in
    let x = c.loop-path-item.result in
    let split = listed-drop_more items i x c.loop-path-test.true c.loop-path-item.is in
    let rest = listed (drop (i + 1) items) in
    let outside : is_below from x.0 ≡ false = ap (is_below from) (sym c.slice-path.ensures.same) ∙ sym c.if-not-is_below.ensures in
    let past = ap (below from) split ∙ below-past from (x.0, seen x.1) rest (subst (λ s. IsStrictlySortedBy (slice_cmp nat_cmp) (keys_of s)) split c.loop-path.invariant.rising) (subst (λ s. AllByRecursion (λ e. is_le (slice_cmp nat_cmp front e.0) ≡ true) s) split c.loop-path.invariant.from) outside in
    sym (append-nil (listed c.loop-path.fresh.items)) ∙ ap (λ s. listed c.loop-path.fresh.items ++ relocated (length from) to s) (sym past) ∙ c.loop-path.invariant.so_far

pub relocated-requires-clause-path : goal.relocated-requires-clause-path
relocated-requires-clause-path c =
    let from = c.args.from.now in
    let to = c.args.to.now in
    let items = c.from_path-path-items.result.now in
    let i = c.loop-path.path-index in
    let x = c.loop-path-item.result in
    let split = listed-drop_more items i x c.loop-path-test.true c.loop-path-item.is in
    let inside : is_below from x.0 ≡ true = ap (is_below from) (sym c.slice-path.ensures.same) ∙ sym c.if-not-is_below.ensures in
    let first = ap (below from) split ∙ below-first from (x.0, seen x.1) (listed (drop (i + 1) items)) inside in
    ap (λ p. is_path (to ++ drop (length from) p)) c.slice-path.ensures.same ∙ (subst (λ s. AllByRecursion (λ e. is_path e.0 ≡ true) (relocated (length from) to s)) first c.loop-path.invariant.paths).0

pub loop-path-preserved : goal.loop-path-preserved
loop-path-preserved c =
    let from = c.args.from.now in
    let to = c.args.to.now in
    let front = from ++ 47 ∷ [] in
    let items = c.from_path-path-items.result.now in
    let i = c.loop-path.path-index in
    let x = c.loop-path-item.result in
    let made = c.in_ok-relocated.field-0 in
    let split = listed-drop_more items i x c.loop-path-test.true c.loop-path-item.is in
    let rest = listed (drop (i + 1) items) in
    let inside : is_below from x.0 ≡ true = ap (is_below from) (sym c.slice-path.ensures.same) ∙ sym c.if-not-is_below.ensures in
    let first = ap (below from) split ∙ below-first from (x.0, seen x.1) rest inside in
    let moved = relocated (length from) to (below from rest) in
    let before = listed c.loop-path.fresh.items in
    let rising = subst (λ s. IsStrictlySortedBy (slice_cmp nat_cmp) (keys_of s)) split c.loop-path.invariant.rising in
    let all = subst (λ s. AllByRecursion (λ e. is_le (slice_cmp nat_cmp front e.0) ≡ true) s) split c.loop-path.invariant.from in
    let path = c.in_ok-relocated.ensures ∙ ap (λ p. to ++ drop (length from) p) c.slice-path.ensures.same in
    record {
      so_far = ap (λ s. listed s ++ moved) c.in_ok-push.ensures.items
          ∙ ap (λ s. s ++ moved) (listed-append c.loop-path.fresh.items ((made, x.1) ∷ []))
          ∙ append_assoc before ((made, seen x.1) ∷ []) moved
          ∙ ap (λ p. before ++ (p, seen x.1) ∷ moved) path
          ∙ ap (λ s. before ++ relocated (length from) to s) (sym first) ∙ c.loop-path.invariant.so_far;
      paths = (subst (λ s. AllByRecursion (λ e. is_path e.0 ≡ true) (relocated (length from) to s)) first c.loop-path.invariant.paths).1;
      rising = sorted_tail (slice_cmp nat_cmp) x.0 (keys_of rest) rising;
      from = all.1;
    }
