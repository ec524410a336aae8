-- What the rules of a server come to for one that keeps entries and has room.
use Rattle.std.proofs.Common.{◌≡◌, ℕ, ◌+◌, Bool, true, false, cond, leb, List, length, take, drop, Option, Some, None, is_some, option_map, refl, sym, ap, subst, ◌∙◌}
use Rattle.std.specs.Map.{lookup}
use Rattle.zb_types.specs.declared.ids.FragId.{FragId}
use Rattle.zb_types.specs.declared.nodes.Class.{Class}
use Rattle.zb_types.specs.declared.nodes.Class.TheVariants.{Client, Cleaner}
use Rattle.zb_types.specs.declared.requests.Request.{Request}
use Rattle.zb_types.specs.declared.requests.Request.TheVariants as ask
use Rattle.zb_types.specs.declared.requests.Response.{Response}
use Rattle.zb_types.specs.declared.requests.Response.TheVariants as told
use Rattle.zb_types.specs.declared.requests.StoreFault.TheVariants as fault
use Rattle.zb_holding.specs.Fragments.{Fragment, share_fragment, parity_fragment}
use Rattle.zb_holding.specs.Carrying.{found, same_frag}
use Rattle.zb_holding.specs.Listing.{names_above, most_names, AreLeastAbove}
use Rattle.zb_holding.specs.Rules.{size_of, no_slot, unless_there, refusal_up_to, refusal_to_append, or_by, IsServed, IsAnswer}
use Rattle.zb_holding.proofs.Listed.{least_above}
use Rattle.zb_plain.specs.declared.kept.Kept.{Kept}
use Rattle.zb_plain.specs.Standing.{Entries, fragment_of, stands_in, IsInOrder}
use Rattle.zb_plain.specs.Answering.{holdings_of, served_by, unless_refused, answer_of}

-- there is room for each class
room_for : (class : Class) → no_slot 5 class ≡ None
room_for Client = refl
room_for Cleaner = refl

-- what is answered to a store, an append, a retrieve and a delete, by what stands under the name
abbrev told_store : Class → Option Fragment → Response
told_store class o = unless_refused (cond (is_some (option_map size_of o)) (Some fault.Exists) (no_slot 5 class)) told.Done

abbrev told_append : ℕ → List ℕ → Option Fragment → Response
told_append place bytes o = unless_refused (or_by (unless_there (option_map size_of o)) (λ fragment. refusal_to_append fragment place bytes) o) told.Done

abbrev told_delete : Option Fragment → Response
told_delete o = unless_refused (unless_there (option_map size_of o)) told.Done

abbrev told_retrieve : ℕ → ℕ → Option Fragment → Response
told_retrieve place len o = unless_refused (refusal_up_to (option_map size_of o) (place + len)) (found o place len)

module _ (entries : Entries) (id : FragId) where
  pub store_free : (bytes : List ℕ) (class : Class) → stands_in entries id ≡ None → answer_of entries (ask.Store id bytes class) ≡ told.Done
  store_free bytes class none = ap (told_store class) none ∙ ap (λ o. unless_refused o told.Done) (room_for class)

  pub store_taken : (bytes : List ℕ) (class : Class) → is_some (stands_in entries id) ≡ true → answer_of entries (ask.Store id bytes class) ≡ told.Refused fault.Exists
  store_taken bytes class some = by_some (stands_in entries id) some
    where
      by_some : (o : Option Fragment) → is_some o ≡ true → told_store class o ≡ told.Refused fault.Exists
      by_some None e = absurd cc
      by_some (Some fragment) e = refl

  pub parity_done : (lengths bytes : List ℕ) (class : Class) → answer_of entries (ask.Parity id lengths bytes class) ≡ told.Done
  parity_done lengths bytes class = ap (λ o. unless_refused o told.Done) (room_for (cond (is_some (option_map size_of (stands_in entries id))) Cleaner class))

  pub append_none : (place : ℕ) (bytes : List ℕ) → stands_in entries id ≡ None → answer_of entries (ask.Append id place bytes) ≡ told.Refused fault.NoFragment
  append_none place bytes none = ap (told_append place bytes) none

  pub append_some : (place : ℕ) (bytes : List ℕ) (fragment : Fragment) → stands_in entries id ≡ Some fragment
      → answer_of entries (ask.Append id place bytes) ≡ unless_refused (refusal_to_append fragment place bytes) told.Done
  append_some place bytes fragment some = ap (told_append place bytes) some

  pub delete_none : stands_in entries id ≡ None → answer_of entries (ask.Delete id) ≡ told.Refused fault.NoFragment
  delete_none none = ap told_delete none

  pub delete_some : is_some (stands_in entries id) ≡ true → answer_of entries (ask.Delete id) ≡ told.Done
  delete_some some = by_some (stands_in entries id) some
    where
      by_some : (o : Option Fragment) → is_some o ≡ true → told_delete o ≡ told.Done
      by_some None e = absurd cc
      by_some (Some fragment) e = refl

  retrieved : (o : Option Fragment) (place len : ℕ) → told_retrieve place len o ≡ found o place len
  retrieved None place len = refl
  retrieved (Some (share_fragment bytes)) place len = within (leb (place + len) (length bytes))
    where
      within : (b : Bool)
          → unless_refused (cond b None (Some (fault.Short (length bytes)))) (cond b (told.Bytes (take len (drop place bytes))) (told.Refused (fault.Short (length bytes))))
          ≡ cond b (told.Bytes (take len (drop place bytes))) (told.Refused (fault.Short (length bytes)))
      within true = refl
      within false = refl
  retrieved (Some (parity_fragment lengths bytes)) place len = refl

  pub retrieve_found : (place len : ℕ) → answer_of entries (ask.Retrieve id place len) ≡ found (stands_in entries id) place len
  retrieve_found place len = retrieved (stands_in entries id) place len

-- what is kept is there
there_mapped : (o : Option Kept) → is_some o ≡ is_some (option_map fragment_of o)
there_mapped None = refl
there_mapped (Some kept) = refl

-- what is served is served by the rules
is_served : (entries : Entries) → IsInOrder entries → (request : Request) → IsServed (holdings_of entries) request (served_by entries request)
is_served entries order (ask.Store id bytes class) = refl
is_served entries order (ask.Append id place bytes) = refl
is_served entries order (ask.Parity id lengths bytes class) = refl
is_served entries order (ask.Retrieve id place len) = refl
is_served entries order (ask.Delete id) = refl
is_served entries order (ask.Identify after) = record {
  ids = take most_names (names_above after entries);
  told = refl;
  least = subst (λ (there : FragId → Bool). AreLeastAbove there after (take most_names (names_above after entries))) (λ i id. there_mapped (lookup (same_frag id) entries) i) (least_above after entries order);
}
is_served entries order (ask.Fence generation) = refl

-- an answer is by the rules of a server
pub by_rules : (entries : Entries) → IsInOrder entries → (request : Request) → IsAnswer (holdings_of entries) 0 request (answer_of entries request)
by_rules entries order request = record {
  refused = λ why e. ap (λ o. unless_refused o (served_by entries request)) e;
  served = λ e. subst (IsServed (holdings_of entries) request) (sym (ap (λ o. unless_refused o (served_by entries request)) e)) (is_served entries order request);
}
