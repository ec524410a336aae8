-- What an append answers and does.
use Rattle.std.proofs.Common.{◌≡◌, ◌≢◌, ℕ, zero, suc, ◌+◌, ◌==◌, ◌||◌, nat_eq, [], take, drop, Bool, true, false, if◌then◌else◌, List, ◌++◌, length, Result, Option, None, Some, refl, sym, ◌∙◌, ap, arith, length-append}
use Rattle.std.proofs.lemmas.Result.{on_ok_weaker}
use Rattle.std.proofs.lemmas.Bool.Decides.{nat_tests, Decides-eqb}
use Rattle.std.proofs.lemmas.Slice.Eq.{slice_eq-Decides}
use Rattle.std.proofs.Math.Seq.{drop-length}
use Rattle.std.proofs.lemmas.List.{append-nil}
use Rattle.std.specs.List.{starts_with}
use Rattle.zb_outside.specs.Meaning.{Meaning}
use Rattle.zb_types.specs.declared.memory.Failed.{Failed}
use Rattle.zb_types.specs.declared.geometry.Geometry.{Geometry}
use Rattle.zb_types.specs.declared.ids.FragId.{FragId}
use Rattle.zb_types.specs.declared.requests.Request.TheVariants as ask
use Rattle.zb_types.specs.declared.requests.StoreFault.{StoreFault}
use Rattle.zb_types.specs.declared.requests.StoreFault.TheVariants.{Offset}
use Rattle.zb_holding.specs.Fragments.{Fragment, share_fragment, parity_fragment}
use Rattle.zb_holding.specs.Carrying.{same_frag, stands_after, appended}
use Rattle.zb_holding.proofs.Keys.{same_frag-is}
use Rattle.zb_slots.specs.Changing.{share_slot}
use Rattle.zb_slots.specs.Filling.{body_of}
use Rattle.zb_holding.specs.Rules.{stand_at}
use Rattle.zb_index.specs.declared.spot.Spot.{Spot}
use Rattle.zb_index.specs.Seen.{spot_of}
use Rattle.zb_slots.specs.Slots.{slots_in}
use Rattle.zb_slots.specs.Holding.{map_of}
use Rattle.zb_slot_map.specs.Tidy.{put}
use Rattle.zb_slot_map.specs.Changing.{IsKept, MapTold}
use Rattle.zb_fragstore.specs.Seen.{SeenStore}
use Rattle.zb_fragstore.specs.Answers.{or_stopped}
use Rattle.zb_fragstore.specs.Seen.{is_share}
use Rattle.zb_holding.specs.Rules.{map_after}
use Rattle.zb_fragstore.specs.Changing.{IsOpen, CarriesOut}
use Rattle.zb_holding.specs.Rules.{refusal_to_append}
use Rattle.zb_fragstore.specs.Taking.{Lengthens}
use Rattle.zb_fragstore.proofs.Carried.{carried}
use Rattle.zb_fragstore.proofs.Found.{ShareAt, share_at}
use Rattle.zb_fragstore.proofs.Nexts.{next_append}
use Rattle.zb_fragstore.proofs.Told.{at_system, filled_next}

-- the clause of an append to the share at this spot
abbrev pub AppendClause : (a b : Meaning) → Result (Unit {0}) Failed → FragId → Spot → List ℕ → Geometry → (p : ℕ) → Type 0
AppendClause a b r id spot bytes geo p = IsKept geo p a.now → (stands : List ℕ) → length stands ≡ spot.len → slots_in geo (a.now.seen p) spot.slot ≡ share_slot id stands
    → MapTold geo p spot.slot (share_slot id (stands ++ bytes)) (put id (Some (share_fragment (stands ++ bytes))) (map_of geo (a.now.seen p))) r a b

pub grown : (old new : SeenStore) (r : Result (Unit {0}) Failed) (result : Result (Unit {0}) StoreFault) (a b : Meaning) (geo : Geometry) (p : ℕ) (id : FragId) (spot : Spot) (bytes : List ℕ)
    → result ≡ or_stopped r → new ≡ record old { index = new.index } → IsOpen old a.now → geo ≡ old.geo → p ≡ old.server.0 → spot_of old.index id ≡ Some spot → is_share old id ≡ true
    → Lengthens id spot (spot.len + length bytes) old new → AppendClause a b r id spot bytes geo p → CarriesOut (ask.Append id spot.len bytes) old new result a b
grown old new r result a b geo p id spot bytes is rest is_open geo_is p_is at share longer clause =
    let image : List ℕ = a.now.seen old.server.0 in
    let h : ShareAt old.geo image id spot = share_at old a.now id spot is_open at share in
    let next = put id (Some (share_fragment (h.stands ++ bytes))) (map_of old.geo image) in
    let change : MapTold old.geo old.server.0 spot.slot (share_slot id (h.stands ++ bytes)) next r a b =
    at_system (AppendClause a b r id spot bytes) geo old.geo p old.server.0 geo_is p_is clause is_open.kept h.stands h.len h.slot in
    carried (ask.Append id spot.len bytes) old new next r result a b is rest is_open
    (next_append id spot.len h.stands bytes (map_of old.geo image) h.map h.len) change.run change.settled
    (on_ok_weaker r (λ changed. filled_next old.geo next old.index new.index image (b.now.seen old.server.0) is_open.index spot.slot id spot.turn (spot.len + length bytes)
    (record { id = id; turn = 0; fragment = share_fragment (h.stands ++ bytes) }) refl (sym h.turn) (length-append h.stands bytes ∙ ap (λ (n : ℕ). n + length bytes) h.len) longer.index changed) change.changed)

-- bytes that stand in a fragment already
pub stand_already : (fragment : Fragment) (place : ℕ) (bytes : List ℕ) → stand_at (body_of fragment) place bytes ≡ true → refusal_to_append fragment place bytes ≡ None
stand_already (share_fragment stands) place bytes e = ap (λ (b : Bool). if b || place == length stands then None else Some (Offset (length stands))) e
stand_already (parity_fragment lengths stands) place bytes e = ap (λ (b : Bool). if b then None else Some (Offset (length stands))) e

-- bytes that go to the end of a share
pub go_to_end : (stands : List ℕ) (place : ℕ) (bytes : List ℕ) → place ≡ length stands → refusal_to_append (share_fragment stands) place bytes ≡ None
go_to_end stands place bytes e = by_case (stand_at stands place bytes)
  where
    by_case : (b : Bool) → (if b || place == length stands then None else Some (Offset (length stands))) ≡ None
    by_case true = refl
    by_case false = grind (arith, nat_tests)

-- bytes that do neither
pub go_elsewhere : (stands : List ℕ) (place : ℕ) (bytes : List ℕ) → stand_at stands place bytes ≡ false → place ≢ length stands → refusal_to_append (share_fragment stands) place bytes ≡ Some (Offset (length stands))
go_elsewhere stands place bytes e ne =
    let test : (place == length stands) ≡ false = grind (arith, nat_tests) in
    ap (λ (b : Bool). if b || place == length stands then None else Some (Offset (length stands))) e ∙ ap (λ (b : Bool). if b then None else Some (Offset (length stands))) test

pub go_to_parity : (lengths stands : List ℕ) (place : ℕ) (bytes : List ℕ) → stand_at stands place bytes ≡ false → refusal_to_append (parity_fragment lengths stands) place bytes ≡ Some (Offset (length stands))
go_to_parity lengths stands place bytes e = ap (λ (b : Bool). if b then None else Some (Offset (length stands))) e

take_none : (n : ℕ) → take {A = ℕ} n [] ≡ []
take_none zero = refl
take_none (suc n) = refl

-- an append of bytes that stand already changes nothing
none_more : (stands bytes : List ℕ) (place : ℕ) → stand_at stands place bytes ≡ true → appended stands place bytes ≡ stands
none_more stands bytes place e = by_case (place == length stands) refl
  where
    none : (place == length stands) ≡ true → bytes ≡ []
    none at =
        let begins : starts_with nat_eq (drop place stands) bytes ≡ true = grind (arith, nat_tests) in
        let here : place ≡ length stands = grind (arith, nat_tests) in
        let rest : drop place stands ≡ [] = ap (λ (n : ℕ). drop n stands) here ∙ drop-length stands in
        let same : bytes ≡ take (length bytes) (drop place stands) = (slice_eq-Decides Decides-eqb bytes (take (length bytes) (drop place stands)) (starts_with nat_eq (drop place stands) bytes) refl).0 begins in
        same ∙ ap (take (length bytes)) rest ∙ take_none (length bytes)

    by_case : (b : Bool) → (place == length stands) ≡ b → (if b then stands ++ bytes else stands) ≡ stands
    by_case true at = ap (λ (l : List ℕ). stands ++ l) (none at) ∙ append-nil stands
    by_case false at = refl

stands_still : (id : FragId) (place : ℕ) (bytes : List ℕ) (fragment : Option Fragment) → ((f : Fragment) → fragment ≡ Some f → stand_at (body_of f) place bytes ≡ true) → stands_after (ask.Append id place bytes) fragment ≡ fragment
stands_still id place bytes None stand = refl
stands_still id place bytes (Some (share_fragment stands)) stand = ap (λ (all : List ℕ). Some (share_fragment all)) (none_more stands bytes place (stand (share_fragment stands) refl))
stands_still id place bytes (Some (parity_fragment lengths stands)) stand = refl

pub left_still : (id : FragId) (place : ℕ) (bytes : List ℕ) (map : FragId → Option Fragment) → ((f : Fragment) → map id ≡ Some f → stand_at (body_of f) place bytes ≡ true)
    → (q : FragId) → map_after (ask.Append id place bytes) map q ≡ map q
left_still id place bytes map stand q = by_case (same_frag id q) refl
  where
    by_case : (b : Bool) → same_frag id q ≡ b → (if b then stands_after (ask.Append id place bytes) (map q) else map q) ≡ map q
    by_case true e = stands_still id place bytes (map q) (λ f is. stand f (ap map (same_frag-is id q e) ∙ is))
    by_case false e = refl
