-- A stripe that is stored.
use Rattle.std.proofs.Common.{◌≡◌, ◌≢◌, ◌⊎◌, ℕ, ◌-◌, ◌*◌, ◌<◌, ◌≤◌, true, false, cond, eqb, List, [], ◌∷◌, length, Some, None, refl, sym, ap, ◌∙◌, subst, inl, inr, arith}
use Rattle.std.specs.Prelude.{◌&&◌}
use Rattle.std.proofs.lemmas.Bool.{cases_Bool, and_parts, eqb-true, eqb-false}
use Rattle.std.proofs.lemmas.List.{take_all, append-nil}
use Rattle.std.proofs.lemmas.List.Elements.{All-nil, All-cons}
use Rattle.zb_types.specs.declared.ids.LogId.{LogId}
use Rattle.zb_types.specs.declared.ids.ServerId.{ServerId}
use Rattle.zb_types.specs.declared.nodes.Class.{Class}
use Rattle.zb_types.specs.declared.requests.Request.{Request}
use Rattle.zb_types.specs.declared.tables.HeldUse.{HeldUse}
use Rattle.zb_holding.specs.Holding.{view_of, StripeHolds, standing, away_at}
use Rattle.zb_holding.specs.Carrying.{carried_all}
use Rattle.zb_stripe.specs.declared.flush.Part.{Part}
use Rattle.zb_stripe.specs.declared.flush.FreshFlush.{FreshFlush}
use Rattle.zb_stripe.specs.Fresh.{IsFreshFlush}
use Rattle.zb_stripe.specs.Writing.{part_requests, plan_requests}
use Rattle.zb_stripe_laws.specs.PartAtWork.{MayBegin, AreElsewhere}
use Rattle.zb_stripe_laws.proofs.Keeping.{fresh_law}
use Rattle.zb_stripe_laws.proofs.Seeing.{holds_seen}
use Rattle.zb_stripe_laws.proofs.Working.{elsewhere_stays}
use Rattle.zb_plain.specs.Standing.{Entries, maps_of, seen_at}
use Rattle.zb_plain.specs.Indexed.{AllFitIndex}
use Rattle.zb_plain.specs.Delivering.{MayWrite}
use Rattle.zb_plain.proofs.Indexing.{plan_fits_index}
use Rattle.zb_tables.specs.Tables.{is_of, held_at, end_of, end_at}
use Rattle.zb_tables.proofs.Holding.{same_log}
use Rattle.zb_fetching.specs.Bytes.{given_bytes}
use Rattle.zb_fetching.specs.Stores.{SeenServers, IsSoundStore, IsHeld, view_at, contents_of, first_flush}
use Rattle.zb_fetching.proofs.Lost.{given_held}

module _ (s : SeenServers) (sound : IsSoundStore s) (log : LogId) (stripe : ℕ) (bytes : List ℕ) (class : Class)
    (new : end_at s.held log stripe ≡ 0) (some : 0 < length bytes) (room : length bytes ≤ (s.geo.servers - 1) * s.geo.fragment) where
  abbrev part : Part
  part = record { stripe = stripe; begin = 0; bytes = bytes }

  abbrev plan : List (ServerId × Request)
  plan = plan_requests s.geo.servers s.geo.fragment None class (first_flush log stripe bytes)

  -- the stripe may be written
  pub may_write : (fresh : FreshFlush) → IsFreshFlush s.geo.servers s.geo.fragment (first_flush log stripe bytes) fresh → MayWrite s.geo s.kept fresh
  may_write fresh is = record {
    flush = first_flush log stripe bytes;
    is = is;
    differ = (tt, tt);
    begin = All-cons (MayBegin (seen_at s.geo s.kept) log) part [] (inr (record { begin = refl; unwritten = λ k _ _. sound.free log stripe new k })) (All-nil (MayBegin (seen_at s.geo s.kept) log));
  }

  module _ (kept : List Entries) (born : ℕ) (carried : maps_of kept ≡ carried_all (maps_of s.kept) plan) (count : length kept ≡ length s.kept) where
    -- what is held of the stripe
    abbrev one : HeldUse
    one = record { log = log; stripe = stripe; end = length bytes; born = born }

    -- the servers with the stripe
    abbrev pub with_stripe : SeenServers
    with_stripe = record { geo = s.geo; kept = kept; held = one ∷ s.held; lost = s.lost }

    holds_new : StripeHolds (view_at with_stripe) log stripe (length bytes) bytes
    holds_new =
        let own = part_requests s.geo.servers s.geo.fragment None class log part in
        let holds : StripeHolds (view_of s.geo.servers s.geo.fragment (carried_all (maps_of s.kept) own) s.lost) log stripe (length bytes) bytes =
        fresh_law s.geo.servers s.geo.fragment None s.lost class log part tt (record { new = some; room = room }) (maps_of s.kept) refl (λ k _ _. sound.free log stripe new k) in
        subst (λ maps. StripeHolds (view_of s.geo.servers s.geo.fragment maps s.lost) log stripe (length bytes) bytes)
        (sym (carried ∙ ap (carried_all (maps_of s.kept)) (append-nil own))) holds

    -- other stripes stand as before
    stands_still : (l : LogId) (z k : ℕ) → is_of l z one ≡ false → standing s.geo.servers (maps_of kept) l z k ≡ standing s.geo.servers (maps_of s.kept) l z k
    stands_still l z k other =
        ap (λ maps. standing s.geo.servers maps l z k) (carried ∙ ap (carried_all (maps_of s.kept)) (sym (take_all (length plan) plan (omega arith))))
        ∙ elsewhere_stays s.geo.servers s.geo.fragment None class log (maps_of s.kept) l z k (part ∷ []) (length plan) elsewhere
      where
        elsewhere : (l.0 ≢ log.0) ⊎ AreElsewhere z (part ∷ [])
        elsewhere = elim (cases_Bool (eqb log.0 l.0)) [
          | inl same ↦ inr (eqb-false stripe z (ap (λ b. b && eqb stripe z) (sym same) ∙ other), tt)
          | inr differ ↦ inl (λ e. eqb-false log.0 l.0 differ (sym e))
        ]

    -- a stripe is the one that is stored, or another
    same_stripe : (l : LogId) (z : ℕ) → is_of l z one ≡ true → (log ≡ l) × (stripe ≡ z)
    same_stripe l z is =
        let parts = and_parts (eqb log.0 l.0) (eqb stripe z) is in
        (same_log log l (eqb-true log.0 l.0 parts.0), eqb-true stripe z parts.1)

    end_here : (l : LogId) (z : ℕ) → is_of l z one ≡ true → end_at (one ∷ s.held) l z ≡ length bytes
    end_here l z is = ap (λ b. end_of (cond b (Some one) (held_at l z s.held))) is

    end_elsewhere : (l : LogId) (z : ℕ) → is_of l z one ≡ false → end_at (one ∷ s.held) l z ≡ end_at s.held l z
    end_elsewhere l z other = ap (λ b. end_of (cond b (Some one) (held_at l z s.held))) other

    held_new : (l : LogId) (z : ℕ) → is_of l z one ≡ true → IsHeld (view_at with_stripe) l z (end_at (one ∷ s.held) l z)
    held_new l z is =
        let same = same_stripe l z is in
        subst (λ (e : ℕ). IsHeld (view_at with_stripe) l z e) (sym (end_here l z is))
        (subst (λ (m : LogId). IsHeld (view_at with_stripe) m z (length bytes)) same.0
        (subst (λ (y : ℕ). IsHeld (view_at with_stripe) log y (length bytes)) same.1 (record { bytes = bytes; holds = holds_new })))

    holds_still : (l : LogId) (z end : ℕ) (held : List ℕ) → is_of l z one ≡ false → StripeHolds (view_at s) l z end held → StripeHolds (view_at with_stripe) l z end held
    holds_still l z end held other holds =
        holds_seen (s.geo.servers - 1) s.geo.fragment (standing s.geo.servers (maps_of s.kept) l z) (standing s.geo.servers (maps_of kept) l z)
        (away_at s.geo.servers s.lost l z) end held (λ k _. stands_still l z k other) holds

    held_still : (l : LogId) (z : ℕ) → is_of l z one ≡ false → 0 < end_at (one ∷ s.held) l z → IsHeld (view_at with_stripe) l z (end_at (one ∷ s.held) l z)
    held_still l z other much =
        let before = end_elsewhere l z other in
        let h = sound.held l z (subst (λ (e : ℕ). 0 < e) before much) in
        subst (λ (e : ℕ). IsHeld (view_at with_stripe) l z e) (sym before) (record { bytes = h.bytes; holds = holds_still l z (end_at s.held l z) h.bytes other h.holds })

    pub is_sound : IsSoundStore with_stripe
    is_sound = record {
      count = count ∙ sound.count;
      fit = subst (AllFitIndex s.geo.servers) (sym (carried ∙ ap (carried_all (maps_of s.kept)) (sym (take_all (length plan) plan (omega arith)))))
          (plan_fits_index s.geo.servers s.geo.fragment (maps_of s.kept) None class (first_flush log stripe bytes) (length plan) sound.fit);
      held = λ l z much. elim (cases_Bool (is_of l z one)) as (λ _. IsHeld (view_at with_stripe) l z (end_at (one ∷ s.held) l z)) [
        | inl is ↦ held_new l z is
        | inr other ↦ held_still l z other much
      ];
      free = λ l z none k. elim (cases_Bool (is_of l z one)) as (λ _. standing s.geo.servers (maps_of kept) l z k ≡ None) [
        | inl is ↦ absurd (omega (arith, end_here l z is))
        | inr other ↦ stands_still l z k other ∙ sound.free l z (sym (end_elsewhere l z other) ∙ none) k
      ];
    }

    -- the servers give the stripe's bytes
    pub has_bytes : contents_of with_stripe log stripe ≡ bytes
    has_bytes =
        let here : is_of log stripe one ≡ true = grind arith in
        let low = s.geo.limits.servers_low in
        let much = s.geo.limits.fragment_low in
        ap (given_bytes (view_at with_stripe) log stripe) (end_here log stripe here)
        ∙ given_held (view_at with_stripe) log stripe (length bytes) bytes (omega arith) (omega arith) holds_new
        ∙ take_all (length bytes) bytes (omega arith)

    -- and of each other stripe what they gave
    pub has_others : (l : LogId) (z : ℕ) → 0 < end_at s.held l z → contents_of with_stripe l z ≡ contents_of s l z
    has_others l z much =
        let low = s.geo.limits.servers_low in
        let some = s.geo.limits.fragment_low in
        let h = sound.held l z much in
        let end = end_at s.held l z in
        elim (cases_Bool (is_of l z one)) [
          | inl is ↦
              let same = same_stripe l z is in
              absurd (omega (arith, much, new, ap (λ (m : LogId). end_at s.held m z) same.0, ap (λ (y : ℕ). end_at s.held log y) same.1))
          | inr other ↦
              ap (given_bytes (view_at with_stripe) l z) (end_elsewhere l z other)
              ∙ given_held (view_at with_stripe) l z end h.bytes (omega arith) (omega arith) (holds_still l z end h.bytes other h.holds)
              ∙ sym (given_held (view_at s) l z end h.bytes (omega arith) (omega arith) h.holds)
        ]
