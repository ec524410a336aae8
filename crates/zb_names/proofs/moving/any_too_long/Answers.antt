use Rattle.std.proofs.Common.{◌≡◌, ◌+◌, ◌-◌, ◌++◌, ◌∷◌, [], ◌||◌, length, drop, true, false, sym, ap, subst, ◌∙◌, arith}
use Rattle.std.specs.Prelude.{nat_lt}
use Rattle.std.specs.List.{AllByRecursion}
use Rattle.std.specs.List.Sorted.{IsStrictlySortedBy}
use Rattle.std.specs.Map.{keys_of}
use Rattle.std.specs.Ordering.{nat_cmp, is_le}
use Rattle.std.specs.Cmp.Lexicographic.{slice_cmp}
use Rattle.std.proofs.lemmas.Bool.{le-ltb}
use Rattle.std.proofs.lemmas.Map.Keys.{sorted_tail}
use Rattle.zb_types.specs.Names.{is_below, max_path}
use Rattle.zb_names.specs.Shown.{listed, seen}
use Rattle.zb_names.specs.Changing.{any_too_long, below}
use Rattle.zb_names.proofs.Begun.{below-first, below-from, below-past}
use Rattle.zb_names.proofs.Children.{rising-from, le-from}
use Rattle.zb_names.proofs.Places.{listed-drop_more}
use Rattle.zb_names.proofs.moving.any_too_long.Goals as goal

pub loop-other-init : goal.loop-other-init
loop-other-init c =
    let path = c.args.path.now in
    let front = path ++ 47 ∷ [] in
    let entries = c.args.kept.now.entries in
    let all = c.from_path-other-items.ensures.rest in
    record {
      later = ap (any_too_long (length path) c.args.added) (ap (below path) all ∙ below-from path entries);
      rising = subst (λ s. IsStrictlySortedBy (slice_cmp nat_cmp) (keys_of s)) (sym all) (rising-from front entries c.from_path-other-items.ensures.rising);
      from = subst (λ s. AllByRecursion (λ e. is_le (slice_cmp nat_cmp front e.0) ≡ true) s) (sym all) (le-from front entries);
    }

pub returns-then-not-is_below : goal.returns-then-not-is_below
returns-then-not-is_below c =
    let path = c.args.path.now in
    let front = path ++ 47 ∷ [] in
    let items = c.from_path-other-items.result.now in
    let i = c.loop-other.other-index in
    let x = c.loop-other-item.result in
    let split = listed-drop_more items i x c.loop-other-test.true c.loop-other-item.is in
    let rest = listed (drop (i + 1) items) in
    let outside : is_below path x.0 ≡ false = ap (is_below path) (sym c.slice-other.ensures.same) ∙ sym c.if-not-is_below.ensures in
    let past = ap (below path) split ∙ below-past path (x.0, seen x.1) rest (subst (λ s. IsStrictlySortedBy (slice_cmp nat_cmp) (keys_of s)) split c.loop-other.invariant.rising) (subst (λ s. AllByRecursion (λ e. is_le (slice_cmp nat_cmp front e.0) ≡ true) s) split c.loop-other.invariant.from) outside in
    sym (ap (any_too_long (length path) c.args.added) past) ∙ c.loop-other.invariant.later

pub loop-other-preserved : goal.loop-other-preserved
loop-other-preserved c =
    let path = c.args.path.now in
    let front = path ++ 47 ∷ [] in
    let items = c.from_path-other-items.result.now in
    let i = c.loop-other.other-index in
    let x = c.loop-other-item.result in
    let split = listed-drop_more items i x c.loop-other-test.true c.loop-other-item.is in
    let rest = listed (drop (i + 1) items) in
    let inside : is_below path x.0 ≡ true = ap (is_below path) (sym c.slice-other.ensures.same) ∙ sym c.if-not-is_below.ensures in
    let first = ap (below path) split ∙ below-first path (x.0, seen x.1) rest inside in
    let rising = subst (λ s. IsStrictlySortedBy (slice_cmp nat_cmp) (keys_of s)) split c.loop-other.invariant.rising in
    let from = subst (λ s. AllByRecursion (λ e. is_le (slice_cmp nat_cmp front e.0) ≡ true) s) split c.loop-other.invariant.from in
    let short : nat_lt max_path (c.args.added + (length x.0 - length path)) ≡ false = le-ltb max_path _ (omega (arith, c.if-other-path.false, ap length c.slice-other.ensures.same, c.requires)) in
    record {
      later = ap (λ b. b || any_too_long (length path) c.args.added (below path rest)) (sym short) ∙ sym (ap (any_too_long (length path) c.args.added) first) ∙ c.loop-other.invariant.later;
      rising = sorted_tail (slice_cmp nat_cmp) x.0 (keys_of rest) rising;
      from = from.1;
    }
