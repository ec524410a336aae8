-- What a store answers that only looks at its platter.
use Rattle.std.proofs.Common.{◌≡◌, ◌⊎◌, inl, inr, ⊎_elim, ℕ, ◌+◌, nat_le, Bool, true, false, if◌then◌else◌, length, take, drop, is_some, Result, Ok, Err, IfOk, IfErr, Option, None, Some, refl, sym, ◌∙◌, ap, subst}
use Rattle.zb_outside.specs.Meaning.{Meaning}
use Rattle.zb_outside.proofs.Runs.{weaker_run, started}
use Rattle.zb_types.specs.declared.ids.FragId.{FragId}
use Rattle.zb_types.specs.declared.requests.Request.{Request}
use Rattle.zb_types.specs.declared.requests.Request.TheVariants as ask
use Rattle.zb_types.specs.declared.requests.Response.{Response}
use Rattle.zb_types.specs.declared.requests.Response.TheVariants as told
use Rattle.zb_types.specs.declared.requests.StoreFault.{StoreFault}
use Rattle.zb_types.specs.declared.requests.StoreFault.TheVariants.{NoMemory, Short}
use Rattle.zb_holding.specs.Fragments.{Fragment, share_fragment, parity_fragment}
use Rattle.zb_holding.specs.Carrying.{found}
use Rattle.zb_holding.specs.Rules.{Holdings, Size, share_size, parity_size, known_refusal, AreTold, IsRange, MayAnswer, FitsOutline, LacksMemory, AreSame, is_done, has_after, fence_after, free_after}
use Rattle.zb_holding.proofs.Ruled.{told_of_same}
use Rattle.zb_fragstore.specs.Reading.{IsLookedAt}
use Rattle.zb_fragstore.specs.Seen.{SeenStore, known, holding, is_there, size_in, free_of}
use Rattle.zb_fragstore.specs.Answers.{HasStopped, IsUnforeseen}
use Rattle.zb_fragstore.specs.Changing.{map_in, IsOpen, IsBetween}
use Rattle.zb_fragstore.proofs.Between.{still_between}
use Rattle.zb_fragstore.proofs.Looked.{still_open, same_map}
use Rattle.zb_fragstore.proofs.Outlined.{refusal_is, there_is, there_known}
use Rattle.zb_server.specs.Answering.{said, IsKnown, Answers}
use Rattle.zb_server.proofs.Answered.{stopped_is, may_answer}

same_has : (request : Request) (has now : Holdings) (d : Bool) → d ≡ false → AreSame now has → AreSame now (if d then has_after request has else has)
same_has request has now d none h = subst (λ (x : Bool). AreSame now (if x then has_after request has else has)) (sym none) h

-- what was looked at leaves what a store knows
pub looked_known : (request : Request) (generation : ℕ) (store : SeenStore) (response : Response) → is_done response ≡ false → FitsOutline (known store) generation request response → IsKnown store generation request store response
looked_known request generation store response none answer = record {
  answer = answer;
  fence = ap (λ (d : Bool). if d then fence_after request store.fence else store.fence) (sym none);
  free = ap (λ (d : Bool). if d then free_after request (is_there store) (free_of store) else free_of store) (sym none);
}

module _ (request : Request) (generation : ℕ) (store : SeenStore) (a b : Meaning) (is_open : IsOpen store a.now) where
  -- the platter was looked at
  pub looked : (result : Result Response StoreFault) → IsLookedAt store.server.0 a b → is_done (said result) ≡ false
      → ((HasStopped result → ⊥) → MayAnswer (holding store (map_in store a.now)) generation request (said result)) → Answers store generation request store result a b
  looked result alone none answer = record {
    run = weaker_run alone.run (still_between store request a.now is_open);
    answered = λ runs. record {
      is_open = still_open store a b alone is_open;
      answer = answer runs;
      left = same_has request (holding store (map_in store a.now)) (holding store (map_in store b.now)) (is_done (said result)) none
          (record { map = λ id. same_map store a b alone is_open id; fence = refl; free = refl });
    };
  }

-- what is read was not done
found_not_done : (fragment : Option Fragment) (place len : ℕ) → is_done (found fragment place len) ≡ false
found_not_done None place len = refl
found_not_done (Some (share_fragment bytes)) place len = by_length (nat_le (place + len) (length bytes))
  where
    by_length : (within : Bool) → is_done (if within then told.Bytes (take len (drop place bytes)) else told.Refused (Short (length bytes))) ≡ false
    by_length true = refl
    by_length false = refl
found_not_done (Some (parity_fragment lengths bytes)) place len = refl

-- nor is a range
range_not_done : (size : Option Size) (len : ℕ) (response : Response) → IsRange size len response → is_done response ≡ false
range_not_done None len response h = absurd h
range_not_done (Some (share_size n)) len (told.Bytes bytes) h = refl
range_not_done (Some (share_size n)) len told.Done h = absurd h
range_not_done (Some (share_size n)) len (told.Parity lengths bytes) h = absurd h
range_not_done (Some (share_size n)) len (told.Ids ids) h = absurd h
range_not_done (Some (share_size n)) len (told.Refused fault) h = absurd h
range_not_done (Some (share_size n)) len told.Down h = absurd h
range_not_done (Some (share_size n)) len told.Blank h = absurd h
range_not_done (Some (parity_size m n)) len (told.Bytes bytes) h = absurd h
range_not_done (Some (parity_size m n)) len told.Done h = absurd h
range_not_done (Some (parity_size m n)) len (told.Parity lengths bytes) h = refl
range_not_done (Some (parity_size m n)) len (told.Ids ids) h = absurd h
range_not_done (Some (parity_size m n)) len (told.Refused fault) h = absurd h
range_not_done (Some (parity_size m n)) len told.Down h = absurd h
range_not_done (Some (parity_size m n)) len told.Blank h = absurd h

-- a call that may answer, or lack memory
taken_by : (request : Request) (P : Response → Type 0) (result : Result Response StoreFault) → LacksMemory request (told.Refused NoMemory) → IfOk result P → IfErr result IsUnforeseen → (HasStopped result → ⊥) → P (said result) ⊎ LacksMemory request (said result)
taken_by request P (Ok response) lacks is taken runs = inl is
taken_by request P (Err fault) lacks is taken runs =
    ⊎_elim (λ e. inr (subst (λ (f : StoreFault). LacksMemory request (told.Refused f)) (sym e) lacks)) (λ e. absurd (runs (stopped_is Response fault e))) taken

said_not_done : (P : Response → Type 0) → ((response : Response) → P response → is_done response ≡ false) → (result : Result Response StoreFault) → IfOk result P → is_done (said result) ≡ false
said_not_done P never (Ok response) is = never response is
said_not_done P never (Err fault) is = refl

module _ (id : FragId) (place len generation : ℕ) (store : SeenStore) (result : Result Response StoreFault)
    (refused : (fault : StoreFault) → known_refusal (known store) generation (ask.Retrieve id place len) ≡ Some fault → result ≡ Err fault)
    (taken : known_refusal (known store) generation (ask.Retrieve id place len) ≡ None → IfErr result IsUnforeseen) where
  lacks : LacksMemory (ask.Retrieve id place len) (told.Refused NoMemory)
  lacks = record { takes = tt; told = refl }

  -- a fragment that was read, or wasn't
  pub retrieved : (a b : Meaning) → IsOpen store a.now → IsLookedAt store.server.0 a b → IfOk result (λ response. response ≡ found (map_in store a.now id) place len) → Answers store generation (ask.Retrieve id place len) store result a b
  retrieved a b is_open alone is =
      looked (ask.Retrieve id place len) generation store a b is_open result alone
      (said_not_done (λ response. response ≡ found (map_in store a.now id) place len) (λ response e. ap is_done e ∙ found_not_done (map_in store a.now id) place len) result is)
      (λ runs. may_answer (ask.Retrieve id place len) generation store (map_in store a.now) (said result) (refusal_is store a.now is_open generation (ask.Retrieve id place len)) (λ fault e. ap said (refused fault e))
      (λ none. taken_by (ask.Retrieve id place len) (λ response. response ≡ found (map_in store a.now id) place len) result lacks is (taken none) runs))

  pub retrieved_known : IfOk result (IsRange (size_in store id) len) → (HasStopped result → ⊥) → IsKnown store generation (ask.Retrieve id place len) store (said result)
  retrieved_known is runs =
      looked_known (ask.Retrieve id place len) generation store (said result) (said_not_done (IsRange (size_in store id) len) (range_not_done (size_in store id) len) result is)
      (record { refused = λ fault e. ap said (refused fault e); served = λ none. taken_by (ask.Retrieve id place len) (IsRange (size_in store id) len) result lacks is (taken none) runs })

told_not_done : (there : FragId → Bool) (after : Option FragId) (response : Response) → AreTold there after response → is_done response ≡ false
told_not_done there after response h = ap is_done h.told

module _ (after : Option FragId) (generation : ℕ) (store : SeenStore) (result : Result Response StoreFault) (is : IfOk result (AreTold (is_there store) after)) (taken : IfErr result (λ fault. fault ≡ NoMemory)) where
  abbrev told_by : (FragId → Bool) → Response → Type 0
  told_by there response = AreTold there after response

  unforeseen : (r : Result Response StoreFault) → IfErr r (λ fault. fault ≡ NoMemory) → IfErr r IsUnforeseen
  unforeseen (Ok response) e = tt
  unforeseen (Err fault) e = inl e

  as_told : (there : FragId → Bool) → ((id : FragId) → is_there store id ≡ there id) → (r : Result Response StoreFault) → IfOk r (AreTold (is_there store) after) → IfOk r (AreTold there after)
  as_told there same (Ok response) h = told_of_same (is_there store) there after response same h
  as_told there same (Err fault) h = tt

  named_taken : (there : FragId → Bool) → ((id : FragId) → is_there store id ≡ there id) → (HasStopped result → ⊥) → AreTold there after (said result) ⊎ LacksMemory (ask.Identify after) (said result)
  named_taken there same runs = taken_by (ask.Identify after) (AreTold there after) result (record { takes = tt; told = refl }) (as_told there same result is) (unforeseen result taken) runs

  -- names that were told, or weren't
  pub named : (a : Meaning) → IsOpen store a.now → Answers store generation (ask.Identify after) store result a a
  named a is_open = record {
    run = started store.server.0 (IsBetween store (ask.Identify after) (a.now.seen store.server.0)) a (still_between store (ask.Identify after) a.now is_open);
    answered = λ runs. record {
      is_open = is_open;
      answer = record {
        refused = λ fault e. absurd (cc e);
        served = λ none. named_taken (λ id. is_some (map_in store a.now id)) (λ id. sym (there_is store a.now is_open id)) runs;
      };
      left = same_has (ask.Identify after) (holding store (map_in store a.now)) (holding store (map_in store a.now)) (is_done (said result)) (said_not_done (AreTold (is_there store) after) (told_not_done (is_there store) after) result is)
          (record { map = λ id. refl; fence = refl; free = refl });
    };
  }

  pub named_known : (HasStopped result → ⊥) → IsKnown store generation (ask.Identify after) store (said result)
  named_known runs =
      looked_known (ask.Identify after) generation store (said result) (said_not_done (AreTold (is_there store) after) (told_not_done (is_there store) after) result is)
      (record { refused = λ fault e. absurd (cc e); served = λ none. named_taken (λ id. is_some (size_in store id)) (λ id. there_known store id) runs })
