-- What a stripe holds up to its end is one list.
use Rattle.std.proofs.Common.{◌≡◌, ◌≢◌, ℕ, ◌+◌, ◌*◌, ◌/◌, ◌%◌, ◌<◌, Bool, true, false, List, length, take, drop, get_or, Option, Some, None, sym, ap, ◌∙◌, inl, inr, arith}
use Rattle.std.proofs.lemmas.Bool.{cases_lt, cases_Bool}
use Rattle.std.proofs.lemmas.Nat.{div-add-mod', mod_below, div_below}
use Rattle.std.proofs.lemmas.List.{get_or-take, get_or-drop, get_or_past, length-take, length-take-le, ext_get_or}
use Rattle.zb_holding.specs.Fragments.{Fragment}
use Rattle.zb_holding.specs.Fragments.{share_fragment, parity_fragment}
use Rattle.zb_holding.specs.Placing.{share_length, share_of}
use Rattle.zb_holding.specs.Holding.{share_bytes, Begins, covered, ShareHolds, ParityHolds, FragmentsHold}
use Rattle.zb_holding.proofs.Exclusives.{xor_other}

-- a byte of a share that stands is that byte of the share
pub begins_at : (stands : Option Fragment) (bytes : List ℕ) (y : ℕ) → Begins stands bytes → y < length (share_bytes stands) → get_or bytes y 0 ≡ get_or (share_bytes stands) y 0
begins_at None bytes y b l = absurd (omega arith)
begins_at (Some (share_fragment s)) bytes y b l = sym (ap (λ z. get_or z y 0) b.1 ∙ get_or-take (length s) bytes y 0 l)
begins_at (Some (parity_fragment ls p)) bytes y b l = absurd b

module _ (n f : ℕ) (stands : ℕ → Option Fragment) (away : ℕ → Bool) (end : ℕ) where
  -- a byte that a parity covers, of two lists that it fits
  by_parity : (one other : List ℕ) (k y : ℕ) (once : (j : ℕ) → j < n → j ≢ k → away j ≡ false)
      → ((j : ℕ) → j < n → away j ≡ false → ShareHolds n f stands away end one j)
      → ((j : ℕ) → j < n → away j ≡ false → ShareHolds n f stands away end other j)
      → k < n → y < share_length f end k → (p : Option Fragment)
      → ParityHolds n f stands away end one p → ParityHolds n f stands away end other p
      → get_or (share_of f one k) y 0 ≡ get_or (share_of f other k) y 0
  by_parity one other k y once s t kn yl None a b = absurd a
  by_parity one other k y once s t kn yl (Some (share_fragment bytes)) a b = absurd a
  by_parity one other k y once s t kn yl (Some (parity_fragment lengths parity)) a b =
      let at : get_or (covered f one lengths k) y 0 ≡ get_or (covered f other lengths k) y 0 =
      xor_other (covered f one lengths) (covered f other lengths) n k y kn
      (λ j jn ne. elim (cases_lt y (get_or lengths j 0)) [
        | inl below ↦
            let o = once j jn ne in
            let le = a.stored j jn o in
            get_or-take (get_or lengths j 0) (share_of f one j) y 0 below
            ∙ begins_at (stands j) (share_of f one j) y (s j jn o).begins (omega arith)
            ∙ sym (begins_at (stands j) (share_of f other j) y (t j jn o).begins (omega arith))
            ∙ sym (get_or-take (get_or lengths j 0) (share_of f other j) y 0 below)
        | inr past ↦
            get_or_past (covered f one lengths j) y 0 (omega (arith, length-take (get_or lengths j 0) (share_of f one j)))
            ∙ sym (get_or_past (covered f other lengths j) y 0 (omega (arith, length-take (get_or lengths j 0) (share_of f other j))))
      ])
      (sym (a.exclusive y) ∙ b.exclusive y) in
      let le = a.enough k kn in
      sym (get_or-take (get_or lengths k 0) (share_of f one k) y 0 (omega arith)) ∙ at ∙ get_or-take (get_or lengths k 0) (share_of f other k) y 0 (omega arith)

  shares_agree : (one other : List ℕ) (once : (j k : ℕ) → j < n + 1 → k < n + 1 → away j ≡ true → away k ≡ true → j ≡ k)
      → FragmentsHold n f stands away end one → FragmentsHold n f stands away end other
      → (k y : ℕ) → k < n → y < share_length f end k → get_or (share_of f one k) y 0 ≡ get_or (share_of f other k) y 0
  shares_agree one other once a b k y kn yl =
      elim (cases_Bool (away k)) [
        | inr here ↦
            let p = a.shares k kn here in
            let q = b.shares k kn here in
            let pr = p.reaches in
            begins_at (stands k) (share_of f one k) y p.begins (omega arith) ∙ sym (begins_at (stands k) (share_of f other k) y q.begins (omega arith))
        | inl gone ↦
            let others = λ (j : ℕ) (jn : j < n) (ne : j ≢ k). elim (cases_Bool (away j)) as (λ _. away j ≡ false) [ inl t ↦ absurd (ne (once j k (omega arith) (omega arith) t gone)) | inr t ↦ t ] in
            let there : away n ≡ false = elim (cases_Bool (away n)) as (λ _. away n ≡ false) [ inl t ↦ absurd (omega (arith, once n k (omega arith) (omega arith) t gone)) | inr t ↦ t ] in
            by_parity one other k y others a.shares b.shares kn yl (stands n) (a.parity there) (b.parity there)
      ]

  pub stripe_agrees : 0 < f → (one other : List ℕ) (once : (j k : ℕ) → j < n + 1 → k < n + 1 → away j ≡ true → away k ≡ true → j ≡ k)
      → FragmentsHold n f stands away end one → FragmentsHold n f stands away end other → take end one ≡ take end other
  stripe_agrees pos one other once a b =
      let wa = a.whole in
      let wb = b.whole in
      let ra = a.room in
      let la = length-take-le end one wa in
      let lb = length-take-le end other wb in
      ext_get_or 0 (take end one) (take end other) (omega arith) (λ i l.
      let d = div-add-mod' i f in
      let m = mod_below i f pos in
      let kn = div_below i f n pos (omega arith) in
      let at = shares_agree one other once a b (i / f) (i % f) kn (omega arith) in
      let place = λ (w : List ℕ). get_or-take f (drop (i / f * f) w) (i % f) 0 m ∙ get_or-drop (i / f * f) w (i % f) 0 ∙ ap (λ z. get_or w z 0) d in
      get_or-take end one i 0 (omega arith) ∙ sym (place one) ∙ at ∙ place other ∙ sym (get_or-take end other i 0 (omega arith)))
