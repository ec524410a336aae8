-- What stands after a flush stands up to the ends that its pieces raise.
use Rattle.std.proofs.Common.{◌≡◌, ℕ, ◌+◌, ◌-◌, ◌≤◌, max, eqb, List, [], ◌∷◌, length, Some, refl, sym, ap, ◌∙◌, subst, inl, inr, arith}
use Rattle.std.proofs.lemmas.Bool.{cases_Bool, and_parts, eqb-true}
use Rattle.std.specs.List.{AllByRecursion}
use Rattle.std.proofs.lemmas.Option.{same_Some}
use Rattle.zb_types.specs.declared.ids.LogId.{LogId}
use Rattle.zb_types.specs.declared.ids.Piece.{Piece}
use Rattle.zb_types.specs.declared.tables.HeldUse.{HeldUse}
use Rattle.zb_holding.specs.Holding.{View, StripeHolds, standing, away_at}
use Rattle.zb_stripe_laws.proofs.Keeping.{holds_less}
use Rattle.zb_tables.specs.Tables.{is_of, held_at, end_at, Contents}
use Rattle.zb_tables.specs.Fold.{held_with, held_with_all, born_of}
use Rattle.zb_recovery.specs.Agreeing.{StripeAgrees, ViewAgrees}
use Rattle.zb_tables.proofs.Holding.{held_at-put_same, held_at-put_other, end-put}

-- the stripe of a piece stands, to the end of its bytes, with what was committed before and with the piece
pub record PieceStands (v : View) (new : Contents) (held : List HeldUse) (log : LogId) (p : Piece) : Type 0 where
  pub within : p.offset + p.len ≤ length (new log p.stripe)
  pub before : end_at held log p.stripe ≤ length (new log p.stripe)
  pub holds : StripeHolds v log p.stripe (length (new log p.stripe)) (new log p.stripe)

-- the stripes of all pieces do
abbrev pub PiecesStand : View → Contents → List HeldUse → LogId → List Piece → Type 0
PiecesStand v new held log pieces = AllByRecursion (PieceStands v new held log) pieces

module _ (v : View) (new : Contents) (log : LogId) (born : ℕ) where
  abbrev Agrees : LogId → ℕ → ℕ → Type 0
  Agrees l t end = StripeAgrees v new l t end

  abbrev AllAgree : List HeldUse → Type 0
  AllAgree held = ViewAgrees v new held

  piece_stands : (held : List HeldUse) (p : Piece) (end : ℕ) → PieceStands v new held log p → end ≤ length (new log p.stripe) → Agrees log p.stripe end
  piece_stands held p end s le = record {
    bytes = new log p.stripe;
    held = holds_less (v.servers - 1) v.fragment (standing v.servers v.maps log p.stripe) (away_at v.servers v.away log p.stripe) end (length (new log p.stripe)) (new log p.stripe) le s.holds;
    first = refl;
  }

  abbrev Raised : List HeldUse → Piece → HeldUse
  Raised held p = record { log = log; stripe = p.stripe; end = max (end_at held log p.stripe) (p.offset + p.len); born = born_of born (held_at log p.stripe held) }

  raised_stand : (held : List HeldUse) (p : Piece) → AllAgree held → PieceStands v new held log p → AllAgree (held_with log born p held)
  raised_stand held p all s l t h e = elim (cases_Bool (is_of l t (Raised held p))) as (λ _. Agrees l t h.end) [
    | inr other ↦ all l t h (sym (held_at-put_other (Raised held p) l t held other) ∙ e)
    | inl same ↦
        let parts = and_parts (eqb log.0 l.0) (eqb p.stripe t) same in
        let el : log ≡ l = ap (λ (n : ℕ). record { 0 = n }) (eqb-true log.0 l.0 parts.0) in
        let et : p.stripe ≡ t = eqb-true p.stripe t parts.1 in
        let e' = subst (λ (m : LogId). held_at m p.stripe (held_with log born p held) ≡ Some h) (sym el) (subst (λ (y : ℕ). held_at l y (held_with log born p held) ≡ Some h) (sym et) e) in
        let is : Raised held p ≡ h = same_Some (Raised held p) h (sym (held_at-put_same (Raised held p) held) ∙ e') in
        let within = s.within in
        let before = s.before in
        subst (λ (m : LogId). Agrees m t h.end) el (subst (λ (y : ℕ). Agrees log y h.end) et (
        subst (λ (k : HeldUse). Agrees log p.stripe k.end) is (piece_stands held p (max (end_at held log p.stripe) (p.offset + p.len)) s (omega arith))))
  ]

  later_stands : (held : List HeldUse) (p q : Piece) → PieceStands v new held log p → PieceStands v new held log q → PieceStands v new (held_with log born p held) log q
  later_stands held p q s t =
      let within = s.within in
      let before = s.before in
      record {
        within = t.within;
        before = end-put (Raised held p) held (λ e. e ≤ length (new log q.stripe)) log q.stripe
            (λ el es. subst (λ (y : ℕ). max (end_at held log p.stripe) (p.offset + p.len) ≤ length (new log y)) (sym es) (omega arith)) t.before;
        holds = t.holds;
      }

  later_all : (held : List HeldUse) (p : Piece) (ps : List Piece) → PieceStands v new held log p → PiecesStand v new held log ps → PiecesStand v new (held_with log born p held) log ps
  later_all held p [] s all = tt
  later_all held p (q ∷ qs) s all = (later_stands held p q s all.0, later_all held p qs s all.1)

  pub pieces_stand : (ps : List Piece) (held : List HeldUse) → AllAgree held → PiecesStand v new held log ps → AllAgree (held_with_all log born ps held)
  pieces_stand [] held all s = all
  pieces_stand (p ∷ ps) held all s = pieces_stand ps (held_with log born p held) (raised_stand held p all s.0) (later_all held p ps s.0 s.1)
