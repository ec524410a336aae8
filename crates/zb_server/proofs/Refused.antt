-- What is refused: at most the platter was looked at.
use Rattle.std.proofs.Common.{◌≡◌, ◌≢◌, ℕ, ◌+◌, List, nat_le, nat_lt, Bool, true, false, if◌then◌else◌, is_some, Result, Err, IfErr, Option, None, Some, refl, sym, ◌∙◌, ap, subst}
use Rattle.zb_outside.specs.Meaning.{Meaning}
use Rattle.zb_outside.proofs.Runs.{started}
use Rattle.zb_types.specs.declared.ids.FragId.{FragId}
use Rattle.zb_types.specs.declared.nodes.Class.{Class}
use Rattle.zb_types.specs.declared.nodes.Class.TheVariants.{Cleaner}
use Rattle.zb_types.specs.declared.requests.Request.{Request}
use Rattle.zb_types.specs.declared.requests.Request.TheVariants as ask
use Rattle.zb_types.specs.declared.requests.StoreFault.{StoreFault}
use Rattle.zb_types.specs.declared.requests.StoreFault.TheVariants.{Stopped, Exists, NoSlot, OldGeneration, Short}
use Rattle.zb_holding.specs.Rules.{Outline, Holdings, outline_of, or_by, refusal_of, refusal_to_append, Size, share_size, parity_size, is_full, unless_old, no_slot, unless_there, refusal_up_to, known_refusal}
use Rattle.zb_holding.specs.Fragments.{Fragment}
use Rattle.zb_fragstore.specs.Seen.{SeenStore, known, holding}
use Rattle.zb_fragstore.specs.Changing.{map_in, IsOpen}
use Rattle.zb_fragstore.specs.Reading.{IsLookedAt}
use Rattle.zb_fragstore.proofs.Outlined.{refusal_is}

-- no stop of a platter
abbrev Runs : Option StoreFault → Type 0
Runs refusal = refusal ≢ Some Stopped

old_runs : (fence generation : ℕ) (other : Option StoreFault) → Runs other → Runs (unless_old fence generation other)
old_runs fence generation other runs = by_test (nat_lt generation fence)
  where
    by_test : (old : Bool) → Runs (if old then Some (OldGeneration fence) else other)
    by_test true = λ e. cc e
    by_test false = runs

slot_runs : (free : ℕ) (class : Class) → Runs (no_slot free class)
slot_runs free class = by_test (is_full class free)
  where
    by_test : (full : Bool) → Runs (if full then Some (NoSlot free) else None)
    by_test true = λ e. cc e
    by_test false = λ e. cc e

store_runs : (there : Bool) (free : ℕ) (class : Class) → Runs (if there then Some Exists else no_slot free class)
store_runs true free class = λ e. cc e
store_runs false free class = slot_runs free class

there_runs : (size : Option Size) → Runs (unless_there size)
there_runs None = λ e. cc e
there_runs (Some size) = λ e. cc e

short_runs : (within : Bool) (len : ℕ) → Runs (if within then None else Some (Short len))
short_runs true len = λ e. cc e
short_runs false len = λ e. cc e

range_runs : (size : Option Size) (end : ℕ) → Runs (refusal_up_to size end)
range_runs None end = λ e. cc e
range_runs (Some (share_size len)) end = short_runs (nat_le end len) len
range_runs (Some (parity_size lengths len)) end = λ e. cc e

-- what is refused by what is known is no stop of a platter
refusal_runs : (has : Outline) (generation : ℕ) (request : Request) → Runs (known_refusal has generation request)
refusal_runs has generation (ask.Store id bytes class) = old_runs has.fence generation _ (store_runs (is_some (has.sizes id)) has.free class)
refusal_runs has generation (ask.Append id place bytes) = old_runs has.fence generation _ (there_runs (has.sizes id))
refusal_runs has generation (ask.Parity id lengths bytes class) = old_runs has.fence generation _ (slot_runs has.free (if is_some (has.sizes id) then Cleaner else class))
refusal_runs has generation (ask.Retrieve id place len) = old_runs has.fence generation _ (range_runs (has.sizes id) (place + len))
refusal_runs has generation (ask.Delete id) = there_runs (has.sizes id)
refusal_runs has generation (ask.Identify after) = λ e. cc e
refusal_runs has generation (ask.Fence fence) = old_runs has.fence fence None (λ e. cc e)

-- what holds after each fault but a stop
after_refusal : {T : Type 0} (P : Type 0) (r : Result T StoreFault) (fault : StoreFault) → r ≡ Err fault → fault ≢ Stopped → IfErr r (λ f. f ≢ Stopped → P) → P
after_refusal {T = T} P r fault is other holds =
    let Holds : Result T StoreFault → Type 0 = λ x. IfErr x (λ f. f ≢ Stopped → P) in subst Holds is holds other

-- no call of the platter
pub not_called : (p : ℕ) (a : Meaning) → IsLookedAt p a a
not_called p a = record { run = started p (a.now.may_leave p) a (λ image may. may); seen = refl; left = λ image may. may }

module _ (B : Type 0) (meaning : B → Meaning) (old new : B) (request : Request) (generation : ℕ) (store : SeenStore) (is_open : IsOpen store (meaning old).now) where
  abbrev has : Holdings
  has = holding store (map_in store (meaning old).now)

  in_memory : (first : Option StoreFault) → known_refusal (outline_of has) generation request ≡ first → known_refusal (known store) generation request ≡ first
  in_memory first is = sym (refusal_is store (meaning old).now is_open generation request) ∙ is

  -- what is refused by what is known makes no call
  pub known_look : ((fault : StoreFault) → known_refusal (known store) generation request ≡ Some fault → new ≡ old) → (fault : StoreFault) → known_refusal (outline_of has) generation request ≡ Some fault
      → IsLookedAt store.server.0 (meaning old) (meaning new)
  known_look same fault some =
      subst (λ (b : B). IsLookedAt store.server.0 (meaning old) (meaning b)) (sym (same fault (in_memory (Some fault) some))) (not_called store.server.0 (meaning old))

  pub refused_look : (r : Result (Unit {0}) StoreFault) → ((fault : StoreFault) → known_refusal (known store) generation request ≡ Some fault → r ≡ Err fault) → IfErr r (λ f. f ≢ Stopped → new ≡ old)
      → (fault : StoreFault) → known_refusal (outline_of has) generation request ≡ Some fault → IsLookedAt store.server.0 (meaning old) (meaning new)
  refused_look r refused still =
      known_look (λ fault some. after_refusal (new ≡ old) r fault (refused fault some) (λ e. refusal_runs (known store) generation request (some ∙ ap (λ (f : StoreFault). Some f) e)) still)

-- what refuses an append by what stands there only looks at the platter
pub append_look : (B : Type 0) (meaning : B → Meaning) (old new : B) (id : FragId) (place : ℕ) (bytes : List ℕ) (generation : ℕ) (store : SeenStore) (is_open : IsOpen store (meaning old).now)
    → ((fault : StoreFault) → known_refusal (known store) generation (ask.Append id place bytes) ≡ Some fault → new ≡ old)
    → (known_refusal (known store) generation (ask.Append id place bytes) ≡ None → (fragment : Fragment) → map_in store (meaning old).now id ≡ Some fragment → (fault : StoreFault) → refusal_to_append fragment place bytes ≡ Some fault
    → IsLookedAt store.server.0 (meaning old) (meaning new))
    → (fault : StoreFault) → refusal_of (holding store (map_in store (meaning old).now)) generation (ask.Append id place bytes) ≡ Some fault → IsLookedAt store.server.0 (meaning old) (meaning new)
append_look B meaning old new id place bytes generation store is_open same looked fault =
    by_case (known_refusal (outline_of (holding store (map_in store (meaning old).now))) generation (ask.Append id place bytes)) refl (map_in store (meaning old).now id) refl
  where
    by_case : (first : Option StoreFault) → known_refusal (outline_of (holding store (map_in store (meaning old).now))) generation (ask.Append id place bytes) ≡ first → (stands : Option Fragment) → map_in store (meaning old).now id ≡ stands
        → or_by first (λ fragment. refusal_to_append fragment place bytes) stands ≡ Some fault → IsLookedAt store.server.0 (meaning old) (meaning new)
    by_case (Some why) is stands stands_is some = known_look B meaning old new (ask.Append id place bytes) generation store is_open same why is
    by_case None is (Some fragment) stands_is some = looked (in_memory B meaning old new (ask.Append id place bytes) generation store is_open None is) fragment stands_is fault some
    by_case None is None stands_is some = absurd (cc some)
