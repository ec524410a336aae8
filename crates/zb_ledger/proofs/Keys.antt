-- The calls that wait, under their keys, as an ordered map has them.
use Rattle.std.proofs.Common.{◌≡◌, ℕ, true, false, cond, not, eqb, ◌&&◌, List, [], ◌∷◌, Option, Some, None, refl, sym, ap, ◌∙◌, arith}
use Rattle.std.specs.Prelude.{◌==◌, if◌then◌else◌}
use Rattle.std.specs.List.{AllByRecursion}
use Rattle.std.specs.List.Sorted.{IsStrictlySortedBy}
use Rattle.std.specs.Map.{lookup, keys_of, remove_entry}
use Rattle.std.specs.BTreeMap.{is_at, insert_entry}
use Rattle.std.specs.Ordering.{nat_cmp, ordering_then, is_eq}
use Rattle.std.specs.declared.cmp.Ordering.TheVariants.{Less}
use Rattle.std.specs.Cmp.{tied_then}
use Rattle.std.proofs.lemmas.Bool.Decides.{nat_tests}
use Rattle.std.proofs.lemmas.Map.Keys.{sorted_head, sorted_tail}
use Rattle.zb_types.specs.declared.calls.Call.{Call}
use Rattle.zb_ledger.specs.Seen.{Calls, is_key, key_cmp, call_at, without_call}

nat_is_eq : (x y : ℕ) → eqb x y ≡ is_eq (nat_cmp x y)
nat_is_eq x y = grind (arith, nat_tests)

key_at : (client n : ℕ) (key : ℕ × ℕ) → is_at (λ (q : ℕ × ℕ). ordering_then (nat_cmp client q.0) (nat_cmp n q.1)) key ≡ is_key client n key
key_at client n key = sym (tied_then (nat_cmp client key.0) (nat_cmp n key.1)) ∙ (λ i. sym (nat_is_eq client key.0) i && sym (nat_is_eq n key.1) i)

-- what the map has under a key
pub found_call : (waiting : Calls) (client n : ℕ) → lookup (is_at (λ (q : ℕ × ℕ). ordering_then (nat_cmp client q.0) (nat_cmp n q.1))) waiting ≡ call_at waiting client n
found_call waiting client n = ap (λ test. lookup test waiting) (λ i q. key_at client n q i)

-- no key is the one, so that all stay
none_out : (waiting : Calls) (client n : ℕ) → AllByRecursion (λ key. is_key client n key ≡ false) (keys_of waiting) → without_call waiting client n ≡ waiting
none_out [] client n none = refl
none_out (e ∷ es) client n none = rw none.0 (ap (λ rest. e ∷ rest) (none_out es client n none.1))

-- a key that is above another isn't that one
apart : (a b : ℕ × ℕ) (client n : ℕ) → is_key client n a ≡ true → key_cmp a b ≡ Less → is_key client n b ≡ false
apart a b client n here less = grind (arith, nat_tests)

all_apart : (a : ℕ × ℕ) (client n : ℕ) (keys : List (ℕ × ℕ)) → is_key client n a ≡ true → AllByRecursion (λ key. key_cmp a key ≡ Less) keys → AllByRecursion (λ key. is_key client n key ≡ false) keys
all_apart a client n [] here above = tt
all_apart a client n (key ∷ keys) here above = (apart a key client n here above.0, all_apart a client n keys here above.1)

removed_key : (waiting : Calls) (client n : ℕ) → IsStrictlySortedBy key_cmp (keys_of waiting) → remove_entry (is_key client n) waiting ≡ without_call waiting client n
removed_key [] client n order = refl
removed_key (e ∷ es) client n order = elim (is_key client n e.0) as (λ b. is_key client n e.0 ≡ b → cond b es (e ∷ remove_entry (is_key client n) es) ≡ cond (not b) (e ∷ without_call es client n) (without_call es client n)) [
  | true ↦ λ here. sym (none_out es client n (all_apart e.0 client n (keys_of es) here (sorted_head key_cmp e.0 (keys_of es) order)))
  | false ↦ λ other. ap (λ rest. e ∷ rest) (removed_key es client n (sorted_tail key_cmp e.0 (keys_of es) order))
] refl

-- what is left of the map where a key is removed
pub removed_call : (waiting : Calls) (client n : ℕ) → IsStrictlySortedBy key_cmp (keys_of waiting) → remove_entry (is_at (λ (q : ℕ × ℕ). ordering_then (nat_cmp client q.0) (nat_cmp n q.1))) waiting ≡ without_call waiting client n
removed_call waiting client n order = ap (λ test. remove_entry test waiting) (λ i q. key_at client n q i) ∙ removed_key waiting client n order

-- What stands under each key after a change.

pub call_at-without : (waiting : Calls) (client n c m : ℕ) → call_at (without_call waiting client n) c m ≡ (if client == c && n == m then None else call_at waiting c m)
call_at-without [] client n c m = elim (eqb client c && eqb n m) as (λ b. ◌≡◌ {A = Option Call} None (cond b None None)) [ true ↦ refl | false ↦ refl ]
call_at-without (e ∷ es) client n c m = grind (arith, nat_tests, call_at-without es client n c m)

pub call_at-insert : (waiting : Calls) (client n c m : ℕ) (call : Call) → call_at (insert_entry key_cmp waiting (client, n) call) c m ≡ (if client == c && n == m then Some call else call_at waiting c m)
call_at-insert [] client n c m call = grind (arith, nat_tests)
call_at-insert (e ∷ es) client n c m call = grind (arith, nat_tests, call_at-insert es client n c m call)
