-- What is held once a stripe is let go.
use Rattle.std.proofs.Common.{◌≡◌, ℕ, true, false, eqb, List, [], ◌∷◌, None, sym, ap, subst, inl, inr, arith}
use Rattle.std.specs.Prelude.{◌&&◌}
use Rattle.std.specs.List.{AllByRecursion}
use Rattle.std.proofs.lemmas.Bool.{and_parts, eqb-true, ne_eqb, and_left, and_right}
use Rattle.zb_types.specs.declared.ids.LogId.{LogId}
use Rattle.zb_types.specs.declared.ids.Ptr.{Ptr}
use Rattle.zb_types.specs.declared.ids.Piece.{Piece}
use Rattle.zb_types.specs.declared.tables.HeldUse.{HeldUse}
use Rattle.zb_entries.specs.declared.entry.Entry.{Entry}
use Rattle.zb_entries.specs.declared.entry.Entry.TheVariants.{Attach, Commit, Mark, Retire}
use Rattle.zb_tables.specs.Tables.{FileState, held_at, end_of, end_at, EachFile, PointsIn}
use Rattle.zb_tables.specs.Fold.{retired}
use Rattle.zb_tables.specs.Replay.{PiecesIn, EntryIn, EntriesIn}
use Rattle.zb_tables.specs.Taking.{IsOther, PointsElsewhere, IsElsewhere}
use Rattle.zb_tables.proofs.Alls.{all_keyed}
use Rattle.zb_tables.proofs.Holding.{held_at-retired_other, held_at-retired_same}

module _ (held : List HeldUse) (log : LogId) (stripe : ℕ) where
  abbrev pub Less : List HeldUse
  Less = retired log stripe held

  pub other_false : (l : LogId) (t : ℕ) → IsOther log stripe l t → (eqb l.0 log.0 && eqb t stripe) ≡ false
  other_false l t (inl ne) = and_left (eqb l.0 log.0) (eqb t stripe) (ne_eqb l.0 log.0 ne)
  other_false l t (inr ne) = and_right (eqb l.0 log.0) (eqb t stripe) (ne_eqb t stripe ne)

  end_less : (l : LogId) (t : ℕ) → IsOther log stripe l t → end_at held l t ≡ end_at Less l t
  end_less l t other = sym (ap end_of (held_at-retired_other log stripe l t held (other_false l t other)))

  pieces_less : (l : LogId) (ps : List Piece) → AllByRecursion (λ q. IsOther log stripe l q.stripe) ps → PiecesIn held l ps → PiecesIn Less l ps
  pieces_less l [] other within = tt
  pieces_less l (q ∷ qs) other within = (let e = end_less l q.stripe other.0 in let w = within.0 in omega arith, pieces_less l qs other.1 within.1)

  entry_less : (e : Entry) → IsElsewhere log stripe e → EntryIn held e → EntryIn Less e
  entry_less (Commit l number generation pieces) other within = pieces_less l pieces other within
  entry_less (Attach owner l) other within = tt
  entry_less (Mark members) other within = tt
  entry_less (Retire l t) other within = tt

  pub entries_less : (es : List Entry) → AllByRecursion (IsElsewhere log stripe) es → EntriesIn held es → EntriesIn Less es
  entries_less [] other within = tt
  entries_less (e ∷ es) other within = (entry_less e other.0 within.0, entries_less es other.1 within.1)

  pub both_points : (files : List (ℕ × FileState)) → EachFile (PointsElsewhere log stripe) files → EachFile (PointsIn held) files → EachFile (PointsIn Less) files
  both_points [] other points = tt
  both_points (f ∷ fs) other points =
      (λ k q e. let o = all_keyed (λ (d : ℕ × Ptr). IsOther log stripe (d.1).log (d.1).stripe) k q (f.1).blocks other.0 e in let e' = end_less q.log q.stripe o in let w = points.0 k q e in let r = w.1 in (w.0, omega arith), both_points fs other.1 points.1)

  pub gone : (l : LogId) (t : ℕ) → (eqb l.0 log.0 && eqb t stripe) ≡ true → held_at l t Less ≡ None
  gone l t same =
      let parts = and_parts (eqb l.0 log.0) (eqb t stripe) same in
      let el : log ≡ l = ap (λ (n : ℕ). record { 0 = n }) (sym (eqb-true l.0 log.0 parts.0)) in
      subst (λ (m : LogId). held_at m t Less ≡ None) el (subst (λ (y : ℕ). held_at log y Less ≡ None) (sym (eqb-true t stripe parts.1)) (held_at-retired_same log stripe held))
