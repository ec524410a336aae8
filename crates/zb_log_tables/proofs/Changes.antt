-- Logs that all end or are marked, and logs that are kept.
use Rattle.std.proofs.Common.{◌≡◌, ℕ, ◌<◌, Bool, true, false, List, [], ◌∷◌, ◌++◌, length, take, drop, map, refl, sym, ap, ◌∙◌, subst, inl, inr, arith}
use Rattle.std.specs.Prelude.{◌==◌, ◌||◌, if◌then◌else◌, filter}
use Rattle.std.specs.List.{AllByRecursion, list_any}
use Rattle.std.specs.List.Sorted.{IsStrictlySortedBy}
use Rattle.std.specs.Map.{keys_of}
use Rattle.std.specs.Ordering.{nat_cmp}
use Rattle.std.proofs.lemmas.Bool.{cases_Bool, cond_both}
use Rattle.std.proofs.lemmas.List.{take_at}
use Rattle.zb_types.specs.declared.tables.HeldUse.{HeldUse}
use Rattle.zb_types.specs.Keyed.{changed}
use Rattle.zb_types.proofs.KeyedLists.{KeysAbove, IsRising, IsRising-from_ordered, ordered-from_IsRising}
use Rattle.zb_tables.specs.Tables.{LogState}
use Rattle.zb_tables.specs.Fold.{ended, following, kept_logs, marked}
use Rattle.zb_log_tables.specs.declared.log.Log.{Log}
use Rattle.zb_log_tables.specs.Logs.{AreLogs, IsLast, ended_log, marked_log, state_of, states_of}

-- what was written back is the new list
pub written_back : {A : Type 0} (new old : List A) (n : ℕ) → n ≡ length old → length new ≡ length old → take n (new ++ drop (length new) old) ≡ new
written_back new old n e l = take_at new (drop (length new) old) n (omega arith)

-- what one log's change is to its state
pub record IsChange (f : Log → Log) (g : LogState → LogState) : Type 0 where
  pub state : (l : Log) → state_of (f l) ≡ g (state_of l)
  pub number : (l : Log) → (f l).number ≡ l.number
  pub last : (l : Log) → IsLast l.last → IsLast (f l).last

end_changes : (owner : ℕ) → IsChange (ended_log owner) (ended owner)
end_changes owner = record {
  state = λ l. state l (l.owner == owner);
  number = λ l. number l (l.owner == owner);
  last = λ l. last l (l.owner == owner);
} where
  state : (l : Log) (b : Bool) → state_of (if b then record l { live = false } else l) ≡ (if b then record (state_of l) { live = false } else state_of l)
  state l true = refl
  state l false = refl

  number : (l : Log) (b : Bool) → (if b then record l { live = false } else l).number ≡ l.number
  number l true = refl
  number l false = refl

  last : (l : Log) (b : Bool) → IsLast l.last → IsLast (if b then record l { live = false } else l).last
  last l true is = is
  last l false is = is

mark_changes : IsChange marked_log marked
mark_changes = record {
  state = λ l. state l l.live;
  number = λ l. number l l.live;
  last = λ l. last l l.live;
} where
  state : (l : Log) (b : Bool) → state_of (if b then record l { mark = following l.last } else l) ≡ (if b then record (state_of l) { mark = following l.last } else state_of l)
  state l true = refl
  state l false = refl

  number : (l : Log) (b : Bool) → (if b then record l { mark = following l.last } else l).number ≡ l.number
  number l true = refl
  number l false = refl

  last : (l : Log) (b : Bool) → IsLast l.last → IsLast (if b then record l { mark = following l.last } else l).last
  last l true is = is
  last l false is = is

-- what all logs' changes are to the logs
pub record Changes (f : Log → Log) (g : LogState → LogState) (ls : List Log) : Type 0 where
  pub states : states_of (map f ls) ≡ changed g (states_of ls)
  pub numbers : keys_of (states_of (map f ls)) ≡ keys_of (states_of ls)
  pub are : AreLogs ls → AreLogs (map f ls)

module _ (f : Log → Log) (g : LogState → LogState) (c : IsChange f g) where
  states : (ls : List Log) → states_of (map f ls) ≡ changed g (states_of ls)
  states [] = refl
  states (l ∷ ls) =
      ap (λ (n : ℕ). (n, state_of (f l)) ∷ states_of (map f ls)) (c.number l)
      ∙ ap (λ (s : LogState). (l.number, s) ∷ states_of (map f ls)) (c.state l)
      ∙ ap (λ (rest : List (ℕ × LogState)). (l.number, g (state_of l)) ∷ rest) (states ls)

  numbers : (ls : List Log) → keys_of (states_of (map f ls)) ≡ keys_of (states_of ls)
  numbers [] = refl
  numbers (l ∷ ls) = ap (λ (n : ℕ). n ∷ keys_of (states_of (map f ls))) (c.number l) ∙ ap (λ rest. l.number ∷ rest) (numbers ls)

  lasts : (ls : List Log) → AllByRecursion (λ (l : Log). IsLast l.last) ls → AllByRecursion (λ (l : Log). IsLast l.last) (map f ls)
  lasts [] all = tt
  lasts (l ∷ ls) all = (c.last l all.0, lasts ls all.1)

  all_changes : (ls : List Log) → Changes f g ls
  all_changes ls = record {
    states = states ls;
    numbers = numbers ls;
    are = λ a. record { rising = subst (IsStrictlySortedBy nat_cmp) (sym (numbers ls)) a.rising; last = lasts ls a.last };
  }

pub end_all_changes : (owner : ℕ) (ls : List Log) → Changes (ended_log owner) (ended owner) ls
end_all_changes owner ls = all_changes (ended_log owner) (ended owner) (end_changes owner) ls

pub mark_all_changes : (ls : List Log) → Changes marked_log marked ls
mark_all_changes ls = all_changes marked_log marked mark_changes ls

-- a log is kept where it lives or has a held stripe
abbrev pub is_kept : List HeldUse → Log → Bool
is_kept held l = l.live || list_any (λ h. h.log.0 == l.number) held

pub kept_states : (held : List HeldUse) (ls : List Log) → states_of (filter (is_kept held) ls) ≡ kept_logs held (states_of ls)
kept_states held [] = refl
kept_states held (l ∷ ls) = elim (cases_Bool (is_kept held l)) as (λ _. states_of (filter (is_kept held) (l ∷ ls)) ≡ kept_logs held (states_of (l ∷ ls))) [
  | inl t ↦
      ap (λ (b : Bool). states_of (if b then l ∷ filter (is_kept held) ls else filter (is_kept held) ls)) t
      ∙ ap (λ rest. (l.number, state_of l) ∷ rest) (kept_states held ls)
      ∙ sym (ap (λ (b : Bool). if b then (l.number, state_of l) ∷ kept_logs held (states_of ls) else kept_logs held (states_of ls)) t)
  | inr f ↦
      ap (λ (b : Bool). states_of (if b then l ∷ filter (is_kept held) ls else filter (is_kept held) ls)) f
      ∙ kept_states held ls
      ∙ sym (ap (λ (b : Bool). if b then (l.number, state_of l) ∷ kept_logs held (states_of ls) else kept_logs held (states_of ls)) f)
]

module _ (test : Log → Bool) where
  pub kept_numbers : (n : ℕ) (ls : List Log) → AllByRecursion (λ k. k < n) (keys_of (states_of ls)) → AllByRecursion (λ k. k < n) (keys_of (states_of (filter test ls)))
  kept_numbers n [] all = tt
  kept_numbers n (l ∷ ls) all =
      cond_both (test l) (l ∷ filter test ls) (filter test ls) (λ (zs : List Log). AllByRecursion (λ k. k < n) (keys_of (states_of zs)))
      (λ t. (all.0, kept_numbers n ls all.1)) (λ f. kept_numbers n ls all.1)

  kept_above : (n : ℕ) (ls : List Log) → KeysAbove n (states_of ls) → KeysAbove n (states_of (filter test ls))
  kept_above n [] all = tt
  kept_above n (l ∷ ls) all =
      cond_both (test l) (l ∷ filter test ls) (filter test ls) (λ (zs : List Log). KeysAbove n (states_of zs))
      (λ t. (all.0, kept_above n ls all.1)) (λ f. kept_above n ls all.1)

  kept_rising : (ls : List Log) → IsRising (states_of ls) → IsRising (states_of (filter test ls))
  kept_rising [] r = tt
  kept_rising (l ∷ ls) r =
      cond_both (test l) (l ∷ filter test ls) (filter test ls) (λ (zs : List Log). IsRising (states_of zs))
      (λ t. (kept_above l.number ls r.0, kept_rising ls r.1)) (λ f. kept_rising ls r.1)

  kept_lasts : (ls : List Log) → AllByRecursion (λ (l : Log). IsLast l.last) ls → AllByRecursion (λ (l : Log). IsLast l.last) (filter test ls)
  kept_lasts [] all = tt
  kept_lasts (l ∷ ls) all =
      cond_both (test l) (l ∷ filter test ls) (filter test ls) (AllByRecursion (λ (l : Log). IsLast l.last)) (λ t. (all.0, kept_lasts ls all.1)) (λ f. kept_lasts ls all.1)

  pub kept_are : (ls : List Log) → AreLogs ls → AreLogs (filter test ls)
  kept_are ls a = record {
    rising = ordered-from_IsRising (states_of (filter test ls)) (kept_rising ls (IsRising-from_ordered (states_of ls) a.rising));
    last = kept_lasts ls a.last;
  }
