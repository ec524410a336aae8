-- What a write is answered.
use Rattle.std.proofs.Common.{◌≡◌, ℕ, ◌+◌, ◌≤◌, Bool, true, false, cond, eqb, leb, ◌||◌, List, length, take, drop, Option, Some, None, refl, sym, ap, ◌∙◌, subst, arith}
use Rattle.std.specs.Prelude.{slice_get, is_some, option_map, nat_lt}
use Rattle.std.proofs.lemmas.Bool.{cond_both, lt-leb, eq-eqb, or_right}
use Rattle.zb_types.specs.declared.ids.ServerId.{ServerId}
use Rattle.zb_types.specs.declared.ids.FragId.{FragId}
use Rattle.zb_types.specs.declared.nodes.Class.{Class}
use Rattle.zb_types.specs.declared.nodes.Class.TheVariants.{Client, Cleaner}
use Rattle.zb_types.specs.declared.requests.Request.{Request}
use Rattle.zb_types.specs.declared.requests.Request.TheVariants as ask
use Rattle.zb_types.specs.declared.requests.Response.{Response}
use Rattle.zb_types.specs.declared.requests.Response.TheVariants as told
use Rattle.zb_types.specs.declared.requests.StoreFault.{StoreFault}
use Rattle.zb_types.specs.declared.requests.StoreFault.TheVariants.{NoFragment, Exists, Offset, Short, NoSlot, Stopped, OldGeneration, NoMemory}
use Rattle.zb_holding.specs.Fragments.{Fragment, share_fragment, parity_fragment}
use Rattle.zb_holding.specs.Placing.{share_length, frag_id}
use Rattle.zb_holding.specs.Carrying.{found}
use Rattle.zb_holding.specs.Rules.{Holdings, Size, size_of, is_full, no_slot, unless_old, unless_there, stand_at, refusal_to_append, or_by, refusal_of, refusal_up_to, IsServed, IsAnswer}
use Rattle.zb_stripe.specs.declared.flush.Flush.{Flush}
use Rattle.zb_stripe.specs.Writing.{grow, new_bytes, plan_requests}
use Rattle.zb_sound.specs.LastFlush.{EndsAt, FindsItsPlace}
use Rattle.zb_servers_laws.specs.Answered.{IsWrite, IsClients, lacks_slot}
use Rattle.zb_servers_laws.proofs.Planned.{each_request, each_at}

module _ (n f : ℕ) (out : Option ServerId) (flush : Flush) (i : ℕ) (asked : ServerId × Request) where
  -- each request of a plan is a write
  pub plan_writes : (class : Class) → slice_get (plan_requests n f out class flush) i ≡ Some asked → IsWrite asked.1
  plan_writes class is =
      each_at (λ a. IsWrite a.1) (plan_requests n f out class flush) i asked
      (each_request (λ a. IsWrite a.1) n f out class flush.log
      (λ part k below. grow_writes (frag_id flush.log part.stripe k) class (share_length f part.begin k) (new_bytes f part k)) (λ part. tt) flush.parts)
      is
    where
      grow_writes : (id : FragId) (class : Class) (had : ℕ) (bytes : List ℕ) → IsWrite (grow id class had bytes)
      grow_writes id class had bytes = cond_both (eqb had 0) (ask.Store id bytes class) (ask.Append id had bytes) IsWrite (λ _. tt) (λ _. tt)

  -- one of a client's plan takes a slot as a client does
  pub plan_clients : slice_get (plan_requests n f out Client flush) i ≡ Some asked → IsClients asked.1
  plan_clients is =
      each_at (λ a. IsClients a.1) (plan_requests n f out Client flush) i asked
      (each_request (λ a. IsClients a.1) n f out Client flush.log
      (λ part k below. grow_clients (frag_id flush.log part.stripe k) (share_length f part.begin k) (new_bytes f part k)) (λ part. refl) flush.parts)
      is
    where
      grow_clients : (id : FragId) (had : ℕ) (bytes : List ℕ) → IsClients (grow id Client had bytes)
      grow_clients id had bytes = cond_both (eqb had 0) (ask.Store id bytes Client) (ask.Append id had bytes) IsClients (λ _. refl) (λ _. tt)

-- ---- an answer by a refusal, or by none

-- what is answered where this refuses, or nothing does
abbrev told_by : Option StoreFault → Response
told_by None = told.Done
told_by (Some fault) = told.Refused fault

-- what is answered is done where nothing refuses
done_by : (has : Holdings) (generation : ℕ) (request : Request) (response : Response) → (IsServed has request response → response ≡ told.Done) → IsAnswer has generation request response
    → response ≡ told_by (refusal_of has generation request)
done_by has generation request response done a = by (refusal_of has generation request) a.refused a.served
  where
    by : (o : Option StoreFault) → ((fault : StoreFault) → o ≡ Some fault → response ≡ told.Refused fault) → (o ≡ None → IsServed has request response) → response ≡ told_by o
    by None refused served = done (served refl)
    by (Some fault) refused served = refused fault refl

slot_told : (b : Bool) (free : ℕ) → told_by (cond b (Some (NoSlot free)) None) ≡ cond b (told.Refused (NoSlot free)) told.Done
slot_told true free = refl
slot_told false free = refl

-- an append that goes right behind a share isn't refused
end_done : (stands : Option Fragment) (place : ℕ) (bytes : List ℕ) → EndsAt stands place
    → or_by (unless_there (option_map size_of stands)) (λ fragment. refusal_to_append fragment place bytes) stands ≡ None
end_done None place bytes ends = absurd ends
end_done (Some (share_fragment share)) place bytes ends =
    ap (λ b. cond b None (Some (Offset (length share)))) (or_right (stand_at share place bytes) (eqb place (length share)) (eq-eqb place (length share) (sym ends)))
end_done (Some (parity_fragment lengths parity)) place bytes ends = absurd ends

sized : (o : Option Fragment) → is_some (option_map size_of o) ≡ is_some o
sized None = refl
sized (Some fragment) = refl

module _ (has : Holdings) (generation : ℕ) (young : nat_lt generation has.fence ≡ false) where
  new_enough : (other : Option StoreFault) → unless_old has.fence generation other ≡ other
  new_enough other = ap (λ b. cond b (Some (OldGeneration has.fence)) other) young

  -- why a write that finds its place is refused
  slot_refuses : (request : Request) → IsWrite request → FindsItsPlace request has.map → told_by (refusal_of has generation request) ≡ cond (lacks_slot has request) (told.Refused (NoSlot has.free)) told.Done
  slot_refuses (ask.Store id bytes class) write finds =
      ap told_by (new_enough (cond (is_some (option_map size_of (has.map id))) (Some Exists) (no_slot has.free class)))
      ∙ ap (λ o. told_by (cond (is_some (option_map size_of o)) (Some Exists) (no_slot has.free class))) finds ∙ slot_told (is_full class has.free) has.free
  slot_refuses (ask.Append id place bytes) write finds =
      ap (λ o. told_by (or_by o (λ fragment. refusal_to_append fragment place bytes) (has.map id))) (new_enough (unless_there (option_map size_of (has.map id))))
      ∙ ap told_by (end_done (has.map id) place bytes finds)
  slot_refuses (ask.Parity id lengths bytes class) write finds =
      ap told_by (new_enough (no_slot has.free (cond (is_some (option_map size_of (has.map id))) Cleaner class)))
      ∙ ap (λ b. told_by (no_slot has.free (cond b Cleaner class))) (sized (has.map id)) ∙ slot_told (is_full (cond (is_some (has.map id)) Cleaner class) has.free) has.free
  slot_refuses (ask.Retrieve id place len) write finds = absurd write
  slot_refuses (ask.Delete id) write finds = absurd write
  slot_refuses (ask.Identify after) write finds = absurd write
  slot_refuses (ask.Fence fence) write finds = absurd write

write_done : (has : Holdings) (request : Request) (response : Response) → IsWrite request → IsServed has request response → response ≡ told.Done
write_done has (ask.Store id bytes class) response write served = served
write_done has (ask.Append id place bytes) response write served = served
write_done has (ask.Parity id lengths bytes class) response write served = served
write_done has (ask.Retrieve id place len) response write served = absurd write
write_done has (ask.Delete id) response write served = absurd write
write_done has (ask.Identify after) response write served = absurd write
write_done has (ask.Fence fence) response write served = absurd write

-- a write that finds its place, and whose generation isn't below the fence, is refused by a slot alone
pub write_answer : (has : Holdings) (generation : ℕ) (request : Request) (response : Response) → IsWrite request → FindsItsPlace request has.map → has.fence ≤ generation → IsAnswer has generation request response
    → response ≡ cond (lacks_slot has request) (told.Refused (NoSlot has.free)) told.Done
write_answer has generation request response write finds takes a =
    done_by has generation request response (write_done has request response write) a ∙ slot_refuses has generation (lt-leb _ _ (omega (arith, takes))) request write finds

-- ---- what is never answered

-- an answer of a server that is up and has memory
abbrev pub IsUp : Response → Type 0
IsUp (told.Refused NoMemory) = ⊥
IsUp told.Down = ⊥
IsUp told.Blank = ⊥
IsUp response = Unit {0}

-- a fault that comes by the rules
abbrev IsRuled : Option StoreFault → Type 0
IsRuled (Some NoMemory) = ⊥
IsRuled other = Unit {0}

slot_ruled : (free : ℕ) (class : Class) → IsRuled (no_slot free class)
slot_ruled free class = cond_both (is_full class free) (Some (NoSlot free)) None IsRuled (λ _. tt) (λ _. tt)

old_ruled : (fence generation : ℕ) (other : Option StoreFault) → IsRuled other → IsRuled (unless_old fence generation other)
old_ruled fence generation other ruled = cond_both (nat_lt generation fence) (Some (OldGeneration fence)) other IsRuled (λ _. tt) (λ _. ruled)

there_ruled : (o : Option Size) → IsRuled (unless_there o)
there_ruled None = tt
there_ruled (Some size) = tt

append_ruled : (fragment : Fragment) (place : ℕ) (bytes : List ℕ) → IsRuled (refusal_to_append fragment place bytes)
append_ruled (share_fragment stands) place bytes = cond_both (stand_at stands place bytes || eqb place (length stands)) None (Some (Offset (length stands))) IsRuled (λ _. tt) (λ _. tt)
append_ruled (parity_fragment lengths stands) place bytes = cond_both (stand_at stands place bytes) None (Some (Offset (length stands))) IsRuled (λ _. tt) (λ _. tt)

or_ruled : (o : Option StoreFault) (look : Fragment → Option StoreFault) (stands : Option Fragment) → IsRuled o → ((fragment : Fragment) → IsRuled (look fragment)) → IsRuled (or_by o look stands)
or_ruled (Some fault) look stands ruled each = ruled
or_ruled None look (Some fragment) ruled each = each fragment
or_ruled None look None ruled each = tt

refusal_ruled : (has : Holdings) (generation : ℕ) (request : Request) → IsRuled (refusal_of has generation request)
refusal_ruled has generation (ask.Store id bytes class) =
    let there = is_some (option_map size_of (has.map id)) in
    old_ruled has.fence generation (cond there (Some Exists) (no_slot has.free class)) (cond_both there (Some Exists) (no_slot has.free class) IsRuled (λ _. tt) (λ _. slot_ruled has.free class))
refusal_ruled has generation (ask.Append id place bytes) =
    or_ruled (unless_old has.fence generation (unless_there (option_map size_of (has.map id)))) (λ fragment. refusal_to_append fragment place bytes) (has.map id)
    (old_ruled has.fence generation (unless_there (option_map size_of (has.map id))) (there_ruled (option_map size_of (has.map id)))) (λ fragment. append_ruled fragment place bytes)
refusal_ruled has generation (ask.Parity id lengths bytes class) =
    let taken = cond (is_some (option_map size_of (has.map id))) Cleaner class in
    old_ruled has.fence generation (no_slot has.free taken) (slot_ruled has.free taken)
refusal_ruled has generation (ask.Retrieve id place len) =
    old_ruled has.fence generation (refusal_up_to (option_map size_of (has.map id)) (place + len)) (range_ruled (has.map id))
  where
    range_ruled : (o : Option Fragment) → IsRuled (refusal_up_to (option_map size_of o) (place + len))
    range_ruled None = tt
    range_ruled (Some (share_fragment bytes)) = cond_both (leb (place + len) (length bytes)) None (Some (Short (length bytes))) IsRuled (λ _. tt) (λ _. tt)
    range_ruled (Some (parity_fragment lengths bytes)) = tt
refusal_ruled has generation (ask.Delete id) = there_ruled (option_map size_of (has.map id))
refusal_ruled has generation (ask.Identify after) = tt
refusal_ruled has generation (ask.Fence fence) = old_ruled has.fence fence None tt

found_up : (o : Option Fragment) (place len : ℕ) → IsUp (found o place len)
found_up None place len = tt
found_up (Some (share_fragment bytes)) place len =
    cond_both (leb (place + len) (length bytes)) (told.Bytes (take len (drop place bytes))) (told.Refused (Short (length bytes))) IsUp (λ _. tt) (λ _. tt)
found_up (Some (parity_fragment lengths bytes)) place len = tt

served_up : (has : Holdings) (request : Request) (response : Response) → IsServed has request response → IsUp response
served_up has (ask.Store id bytes class) response is = subst IsUp (sym is) tt
served_up has (ask.Append id place bytes) response is = subst IsUp (sym is) tt
served_up has (ask.Parity id lengths bytes class) response is = subst IsUp (sym is) tt
served_up has (ask.Retrieve id place len) response is = subst IsUp (sym is) (found_up (has.map id) place len)
served_up has (ask.Delete id) response is = subst IsUp (sym is) tt
served_up has (ask.Identify after) response is = subst IsUp (sym is.told) tt
served_up has (ask.Fence fence) response is = subst IsUp (sym is) tt

-- an answer by the rules is one of a server that is up and has memory
pub is_up : (has : Holdings) (generation : ℕ) (request : Request) (response : Response) → IsAnswer has generation request response → IsUp response
is_up has generation request response a = by (refusal_of has generation request) (refusal_ruled has generation request) a.refused a.served
  where
    refused_up : (fault : StoreFault) → IsRuled (Some fault) → IsUp (told.Refused fault)
    refused_up NoFragment ruled = tt
    refused_up Exists ruled = tt
    refused_up (Offset len) ruled = tt
    refused_up (Short len) ruled = tt
    refused_up (NoSlot free) ruled = tt
    refused_up Stopped ruled = tt
    refused_up (OldGeneration now) ruled = tt
    refused_up NoMemory ruled = ruled

    by : (o : Option StoreFault) → IsRuled o → ((fault : StoreFault) → o ≡ Some fault → response ≡ told.Refused fault) → (o ≡ None → IsServed has request response) → IsUp response
    by None ruled refused served = served_up has request response (served refl)
    by (Some fault) ruled refused served = subst IsUp (sym (refused fault refl)) (refused_up fault ruled)
