-- A call that is given and taken back.
use Rattle.std.proofs.Common.{◌≡◌, ℕ, zero, suc, ◌<◌, ◌-◌, true, false, List, [], ◌∷◌, length, None, refl, ap, ◌∙◌, arith, get_or-set_same}
use Rattle.std.specs.Prelude.{slice_index, slice_set}
use Rattle.std.specs.BTreeMap.{insert_entry}
use Rattle.std.specs.declared.cmp.Ordering.{Ordering}
use Rattle.std.specs.declared.cmp.Ordering.TheVariants as order
use Rattle.std.proofs.lemmas.Bool.Decides.{nat_tests}
use Rattle.zb_types.specs.declared.calls.Call.{Call}
use Rattle.zb_ledger.specs.Seen.{Calls, count_of, is_key, key_cmp, call_at, called, without_call}
use Rattle.zb_ledger.specs.Keeps.{TakesBack}

own_key : (client n : ℕ) → is_key client n (client, n) ≡ true
own_key client n = grind (arith, nat_tests)

-- a key that isn't there is the key of no entry
absent_head : (e : (ℕ × ℕ) × Call) (es : Calls) (client n : ℕ) → call_at (e ∷ es) client n ≡ None → is_key client n e.0 ≡ false
absent_head e es client n none = grind (arith, nat_tests)

absent_tail : (e : (ℕ × ℕ) × Call) (es : Calls) (client n : ℕ) → call_at (e ∷ es) client n ≡ None → call_at es client n ≡ None
absent_tail e es client n none = grind (arith, nat_tests)

none_out : (waiting : Calls) (client n : ℕ) → call_at waiting client n ≡ None → without_call waiting client n ≡ waiting
none_out [] client n none = refl
none_out (e ∷ es) client n none = rw (absent_head e es client n none) (ap (λ rest. e ∷ rest) (none_out es client n (absent_tail e es client n none)))

apart : (client n : ℕ) (key : ℕ × ℕ) → is_key client n key ≡ false → key_cmp (client, n) key ≡ order.Equal → ⊥
apart client n key other same = grind (arith, nat_tests)

back : (waiting : Calls) (client n : ℕ) (call : Call) → call_at waiting client n ≡ None → without_call (insert_entry key_cmp waiting (client, n) call) client n ≡ waiting
back [] client n call none = rw (own_key client n) refl
back (e ∷ es) client n call none = by (back es client n call (absent_tail e es client n none)) (key_cmp (client, n) e.0) refl where
  other : is_key client n e.0 ≡ false
  other = absent_head e es client n none

  by : without_call (insert_entry key_cmp es (client, n) call) client n ≡ es → (o : Ordering) → key_cmp (client, n) e.0 ≡ o → without_call (insert_entry key_cmp (e ∷ es) (client, n) call) client n ≡ e ∷ es
  by rest order.Less is = rw (is, own_key client n) (none_out (e ∷ es) client n none)
  by rest order.Equal is = absurd (apart client n e.0 other is)
  by rest order.Greater is = rw (is, other) (ap (λ (l : Calls). e ∷ l) rest)

set_back : (ns : List ℕ) (k m : ℕ) → k < length ns → slice_set (slice_set ns k m) k (slice_index ns k) ≡ ns
set_back [] k m low = absurd (omega (arith, low))
set_back (x ∷ ns) zero m low = refl
set_back (x ∷ ns) (suc k) m low = ap (λ (rest : List ℕ). x ∷ rest) (set_back ns k m (omega (arith, low)))

one_less : (n : ℕ) → suc n - 1 ≡ n
one_less n = omega (arith)

pub takes_back : TakesBack
takes_back ledger client call low none = λ i. record ledger { counts = counts i; waiting = waiting i } where
  number : count_of (called ledger client call) client ≡ suc (count_of ledger client)
  number = get_or-set_same ledger.counts client (suc (count_of ledger client)) 0 low

  counts : slice_set (slice_set ledger.counts client (suc (count_of ledger client))) client (count_of (called ledger client call) client - 1) ≡ ledger.counts
  counts = ap (λ (n : ℕ). slice_set (slice_set ledger.counts client (suc (count_of ledger client))) client (n - 1)) number ∙ ap (slice_set (slice_set ledger.counts client (suc (count_of ledger client))) client) (one_less (count_of ledger client)) ∙ set_back ledger.counts client (suc (count_of ledger client)) low

  waiting : without_call (called ledger client call).waiting client (count_of (called ledger client call) client) ≡ ledger.waiting
  waiting = ap (without_call (called ledger client call).waiting client) number ∙ back ledger.waiting client (suc (count_of ledger client)) call none
