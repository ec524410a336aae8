-- What an append is answered by what stands at a spot.
use Rattle.std.proofs.Common.{◌≡◌, ◌≢◌, ℕ, Bool, true, false, List, length, Result, Ok, Err, IfOk, IfErr, IsErr, None, Some, refl, sym, ◌∙◌, ap, subst}
use Rattle.zb_outside.specs.Meaning.{Meaning}
use Rattle.zb_types.specs.declared.memory.Failed.{Failed}
use Rattle.zb_types.specs.declared.geometry.Geometry.{Geometry}
use Rattle.zb_types.specs.declared.ids.FragId.{FragId}
use Rattle.zb_types.specs.declared.requests.Request.TheVariants as ask
use Rattle.zb_types.specs.declared.requests.StoreFault.{StoreFault}
use Rattle.zb_types.specs.declared.requests.StoreFault.TheVariants.{Stopped, Offset}
use Rattle.zb_holding.specs.Fragments.{Fragment, share_fragment, parity_fragment}
use Rattle.zb_slots.specs.Slots.{Stored, full_slot}
use Rattle.zb_slots.specs.Holding.{fragment_of}
use Rattle.zb_slots.specs.Filling.{body_of}
use Rattle.zb_slots.specs.Reading.{LeftAlone}
use Rattle.zb_holding.specs.Rules.{stand_at}
use Rattle.zb_index.specs.declared.spot.Spot.{Spot}
use Rattle.zb_index.specs.Indexed.{size_of}
use Rattle.zb_index.specs.Laws.{IsHeldAt}
use Rattle.zb_index.specs.Seen.{spot_of}
use Rattle.zb_slots.specs.Slots.{slots_in}
use Rattle.zb_fragstore.specs.Seen.{SeenStore}
use Rattle.zb_fragstore.specs.Answers.{or_stopped}
use Rattle.zb_fragstore.specs.Seen.{is_share}
use Rattle.zb_fragstore.specs.Changing.{IsOpen, CarriesOut, map_in}
use Rattle.zb_holding.specs.Rules.{refusal_to_append}
use Rattle.zb_fragstore.specs.Appending.{IsAnswered}
use Rattle.zb_fragstore.proofs.Absent.{held_at}
use Rattle.zb_fragstore.proofs.Appended.{stand_already, go_to_end, go_elsewhere, go_to_parity, left_still}
use Rattle.zb_fragstore.proofs.Found.{ShareAt, ParityAt, share_at, parity_at}
use Rattle.zb_fragstore.proofs.Looked.{still_open, then_refused, then_left, then_changed}
use Rattle.zb_fragstore.proofs.Told.{at_system}

size_of_body : (fragment : Fragment) → size_of fragment ≡ length (body_of fragment)
size_of_body (share_fragment bytes) = refl
size_of_body (parity_fragment lengths bytes) = refl

same_fragment : (a b : Fragment) → Some a ≡ Some b → a ≡ b
same_fragment a b e = cc e

same_value : (y x : Bool) → or_stopped (Ok y) ≡ Ok x → y ≡ x
same_value y x e = cc e

-- what a look that went well has found
pub looked_ok : (P : Bool → Type 0) (r : Result Bool Failed) (result : Result Bool StoreFault) (x : Bool) → result ≡ or_stopped r → result ≡ Ok x → IfOk r P → P x
looked_ok P (Ok y) result x is ok p = subst P (same_value y x (sym is ∙ ok)) p
looked_ok P (Err f) result x is ok p = absurd (cc (sym is ∙ ok))

-- what a look says of a slot
abbrev pub StandsClause : Meaning → (slot len place : ℕ) → List ℕ → Geometry → (p : ℕ) → Bool → Type 0
StandsClause a slot len place bytes geo p x = (stored : Stored) → slots_in geo (a.now.seen p) slot ≡ full_slot stored → length (body_of stored.fragment) ≡ len → x ≡ stand_at (body_of stored.fragment) place bytes

abbrev err_of : StoreFault → Result (Unit {0}) StoreFault
err_of fault = Err fault

module _ (store : SeenStore) (a : Meaning) (id : FragId) (spot : Spot) (place : ℕ) (bytes : List ℕ) (is_open : IsOpen store a.now) (at : spot_of store.index id ≡ Some spot) where
  abbrev image : List ℕ
  image = a.now.seen store.server.0

  pub stands_is : (geo : Geometry) (p : ℕ) (x : Bool) → geo ≡ store.geo → p ≡ store.server.0 → StandsClause a spot.slot spot.len place bytes geo p x
      → (fragment : Fragment) → map_in store a.now id ≡ Some fragment → x ≡ stand_at (body_of fragment) place bytes
  stands_is geo p x geo_is p_is clause fragment holds =
      let here : IsHeldAt store.geo.slots (slots_in store.geo image) id spot = held_at store a.now id spot is_open at in
      let len : length (body_of here.stored.fragment) ≡ spot.len = sym (ap (λ (s : Spot). s.len) here.is ∙ size_of_body here.stored.fragment) in
      let same : here.stored.fragment ≡ fragment = same_fragment here.stored.fragment fragment (sym (ap fragment_of here.held) ∙ holds) in
      at_system (λ (s : Geometry) (q : ℕ). StandsClause a spot.slot spot.len place bytes s q x) geo store.geo p store.server.0 geo_is p_is clause here.stored here.full len
      ∙ ap (λ (f : Fragment). stand_at (body_of f) place bytes) same

  module _ (x : Bool) (found : (fragment : Fragment) → map_in store a.now id ≡ Some fragment → x ≡ stand_at (body_of fragment) place bytes) where
    -- the bytes stand there already
    pub answer_kept : (u : Unit {0}) → x ≡ true → (fragment : Fragment) → map_in store a.now id ≡ Some fragment → IsAnswered (refusal_to_append fragment place bytes) (Ok u)
    answer_kept u is fragment holds = record {
      done = λ _. tt;
      refused = λ fault some _. absurd (cc (sym (stand_already fragment place bytes (sym (found fragment holds) ∙ is)) ∙ some));
    }

    pub kept_told : (u : Unit {0}) (b : Meaning) → x ≡ true → LeftAlone store.server.0 a b → CarriesOut (ask.Append id place bytes) store store (Ok u) a b
    kept_told u b is alone = then_left store a b alone is_open (ask.Append id place bytes) u
        (left_still id place bytes (map_in store a.now) (λ fragment holds. sym (found fragment holds) ∙ is))

    refusal_is : x ≡ false → (is_share store id ≡ true → place ≢ spot.len) → (fragment : Fragment) → map_in store a.now id ≡ Some fragment → refusal_to_append fragment place bytes ≡ Some (Offset spot.len)
    refusal_is not elsewhere fragment holds = by_kind (is_share store id) refl
      where
        stand : (other : Fragment) → map_in store a.now id ≡ Some other → stand_at (body_of other) place bytes ≡ false
        stand other same = sym (found other same) ∙ not

        by_kind : (b : Bool) → is_share store id ≡ b → refusal_to_append fragment place bytes ≡ Some (Offset spot.len)
        by_kind true share =
            let h : ShareAt store.geo image id spot = share_at store a.now id spot is_open at share in
            ap (λ (f : Fragment). refusal_to_append f place bytes) (same_fragment fragment (share_fragment h.stands) (sym holds ∙ h.map))
            ∙ go_elsewhere h.stands place bytes (stand (share_fragment h.stands) h.map) (λ e. elsewhere share (e ∙ h.len)) ∙ ap (λ (n : ℕ). Some (Offset n)) h.len
        by_kind false parity =
            let h : ParityAt store.geo image id spot = parity_at store a.now id spot is_open at parity in
            ap (λ (f : Fragment). refusal_to_append f place bytes) (same_fragment fragment (parity_fragment h.lengths h.stands) (sym holds ∙ h.map))
            ∙ go_to_parity h.lengths h.stands place bytes (stand (parity_fragment h.lengths h.stands) h.map) ∙ ap (λ (n : ℕ). Some (Offset n)) h.len

    -- they go elsewhere than to the end of a share
    pub answer_misplaced : x ≡ false → (is_share store id ≡ true → place ≢ spot.len) → (fragment : Fragment) → map_in store a.now id ≡ Some fragment
        → IsAnswered {T = Unit {0}} (refusal_to_append fragment place bytes) (Err (Offset spot.len))
    answer_misplaced not elsewhere fragment holds =
        let is : refusal_to_append fragment place bytes ≡ Some (Offset spot.len) = refusal_is not elsewhere fragment holds in
        record {
          done = λ none. absurd (cc (sym is ∙ none));
          refused = λ fault some _. ap err_of (same_fault (Offset spot.len) fault (sym is ∙ some));
        }
      where
        same_fault : (f g : StoreFault) → Some f ≡ Some g → f ≡ g
        same_fault f g e = cc e

  -- they go to the end of a share
  none_refuses : is_share store id ≡ true → place ≡ spot.len → (fragment : Fragment) → map_in store a.now id ≡ Some fragment → refusal_to_append fragment place bytes ≡ None
  none_refuses share end fragment holds =
      let h : ShareAt store.geo image id spot = share_at store a.now id spot is_open at share in
      ap (λ (f : Fragment). refusal_to_append f place bytes) (same_fragment fragment (share_fragment h.stands) (sym holds ∙ h.map)) ∙ go_to_end h.stands place bytes (end ∙ sym h.len)

  pub answer_put : (result : Result (Unit {0}) StoreFault) → is_share store id ≡ true → place ≡ spot.len → IfErr result (λ fault. fault ≡ Stopped)
      → (fragment : Fragment) → map_in store a.now id ≡ Some fragment → IsAnswered (refusal_to_append fragment place bytes) result
  answer_put result share end stops fragment holds =
      record { done = λ _. stops; refused = λ fault some _. absurd (cc (sym (none_refuses share end fragment holds) ∙ some)) }

  -- and so aren't refused
  pub put_fits : (P : Type 0) → is_share store id ≡ true → place ≡ spot.len → (fragment : Fragment) → map_in store a.now id ≡ Some fragment → (fault : StoreFault) → refusal_to_append fragment place bytes ≡ Some fault → P
  put_fits P share end fragment holds fault some = absurd (cc (sym (none_refuses share end fragment holds) ∙ some))

  pub put_told : (new : SeenStore) (result : Result (Unit {0}) StoreFault) (b c : Meaning) → place ≡ spot.len → LeftAlone store.server.0 a b
      → (IsOpen store b.now → CarriesOut (ask.Append id spot.len bytes) store new result b c) → CarriesOut (ask.Append id place bytes) store new result a c
  put_told new result b c end alone told =
      subst (λ (n : ℕ). CarriesOut (ask.Append id n bytes) store new result a c) (sym end)
      (then_changed store a b alone is_open (ask.Append id spot.len bytes) new result c (told (still_open store a b alone is_open)))

-- a look that stopped
pub stopped_told : (id : FragId) (place : ℕ) (bytes : List ℕ) (store : SeenStore) (r : Result (Unit {0}) StoreFault) (a b : Meaning) → IsErr r → LeftAlone store.server.0 a b → IsOpen store a.now
    → CarriesOut (ask.Append id place bytes) store store r a b
stopped_told id place bytes store (Err fault) a b err alone is_open = then_refused store a b alone is_open (ask.Append id place bytes) fault
stopped_told id place bytes store (Ok u) a b err alone is_open = absurd (cc err)
