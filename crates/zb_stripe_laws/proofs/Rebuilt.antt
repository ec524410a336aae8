-- A share that is rebuilt.
use Rattle.std.proofs.Common.{◌≡◌, ◌≢◌, ℕ, zero, suc, ◌+◌, ◌-◌, ◌<◌, ◌≤◌, Bool, false, List, [], ◌∷◌, ◌++◌, length, take, map, get_or, Option, Some, None, bit_xor, refl, sym, ap, ◌∙◌, subst, arith}
use Rattle.std.specs.List.{range_with_len}
use Rattle.std.proofs.lemmas.List.{length-take-le, take-take, ext_get_or, length-map, get_or-map}
use Rattle.std.proofs.lemmas.List.FromFn.{length-map-range_with_len, get_or-map-range_with_len}
use Rattle.zb_holding.specs.Fragments.{Fragment, share_fragment, parity_fragment}
use Rattle.zb_holding.specs.Placing.{share_of, share_length}
use Rattle.zb_holding.specs.Exclusive.{xor_at, list_at, greatest, IsXorOf}
use Rattle.zb_holding.specs.Holding.{share_bytes, Begins, covered, CoversShares, ParityHolds, FragmentsHold}
use Rattle.zb_holding.proofs.Exclusives.{xor_same, xor_all, xor_others}
use Rattle.zb_parity.specs.Rebuilding.{Rebuilds}
use Rattle.zb_stripe_laws.specs.Restoring.{cut_to, others_of, end_lengths, end_parity}

-- lists that are one at each number of a range
map_same : (g h : ℕ → List ℕ) (a k : ℕ) → ((i : ℕ) → a ≤ i → i < a + k → g i ≡ h i) → map g (range_with_len a k) ≡ map h (range_with_len a k)
map_same g h a zero same = refl
map_same g h a (suc k) same =
    ap (λ (x : List ℕ). x ∷ map g (range_with_len (a + 1) k)) (same a (omega arith) (omega arith))
    ∙ ap (λ (xs : List (List ℕ)). h a ∷ xs) (map_same g h (a + 1) k (λ i l u. same i (omega arith) (omega arith)))

-- a range, split at one number
map_split : (g : ℕ → List ℕ) (a j r : ℕ) → map g (range_with_len a (j + suc r)) ≡ map g (range_with_len a j) ++ g (a + j) ∷ map g (range_with_len (a + j + 1) r)
map_split g a zero r =
    let all : zero + suc r ≡ suc r = omega arith in
    let at : a ≡ a + zero = omega arith in
    ap (λ (n : ℕ). map g (range_with_len a n)) all ∙ ap (λ (n : ℕ). g n ∷ map g (range_with_len (n + 1) r)) at
map_split g a (suc j) r =
    let all : suc j + suc r ≡ suc (j + suc r) = omega arith in
    let at : a + 1 + j ≡ a + suc j = omega arith in
    ap (λ (n : ℕ). map g (range_with_len a n)) all
    ∙ ap (λ (xs : List (List ℕ)). g a ∷ xs) (map_split g (a + 1) j r ∙ ap (λ (n : ℕ). map g (range_with_len (a + 1) j) ++ g n ∷ map g (range_with_len (n + 1) r)) at)

-- the exclusive or of the lists of a range
xor_range : (g : ℕ → List ℕ) (m y : ℕ) → xor_all (map g (range_with_len 0 m)) y ≡ xor_at g m y
xor_range g m y =
    let xs = map g (range_with_len 0 m) in
    ap (λ (n : ℕ). xor_at (list_at xs) n y) (length-map-range_with_len g 0 m)
    ∙ xor_same (list_at xs) g m y (λ k l. ap (λ (z : List ℕ). get_or z y 0) (get_or-map-range_with_len g 0 m k k [] l (omega arith)))

-- what stands of a share is what the parity covers of it
cut_covers : (o : Option Fragment) (bytes : List ℕ) (n : ℕ) → Begins o bytes → n ≤ length (share_bytes o) → take n (share_bytes o) ≡ take n bytes
cut_covers None bytes n b le =
    let none : n ≡ 0 = omega arith in
    ap (λ (k : ℕ). take k []) none ∙ ap (λ (k : ℕ). take k bytes) (sym none)
cut_covers (Some (share_fragment s)) bytes n b le = ap (take n) b.1 ∙ take-take n (length s) bytes le
cut_covers (Some (parity_fragment lengths parity)) bytes n b le = absurd b

module _ (m f : ℕ) (stands : ℕ → Option Fragment) (away : ℕ → Bool) (end : ℕ) (bytes : List ℕ) (j : ℕ) (lengths parity rebuilt : List ℕ)
    (h : FragmentsHold m f stands away end bytes) (only : (k : ℕ) → k ≢ j → away k ≡ false) (low : j < m)
    (there : stands m ≡ Some (parity_fragment lengths parity)) where
  covers : CoversShares m f stands away end bytes lengths parity
  covers = subst (ParityHolds m f stands away end bytes) there (h.parity (only m (λ e. omega arith)))

  cut_same : (k : ℕ) → k < m → k ≢ j → cut_to stands lengths k ≡ covered f bytes lengths k
  cut_same k l ne = cut_covers (stands k) (share_of f bytes k) (get_or lengths k 0) (h.shares k l (only k ne)).begins (covers.stored k l (only k ne))

  abbrev Before : List (List ℕ)
  Before = map (covered f bytes lengths) (range_with_len 0 j)

  abbrev After : List (List ℕ)
  After = map (covered f bytes lengths) (range_with_len (j + 1) (m - (j + 1)))

  others_same : others_of (cut_to stands lengths) m j ≡ Before ++ After
  others_same =
      ap (λ (xs : List (List ℕ)). xs ++ map (cut_to stands lengths) (range_with_len (j + 1) (m - (j + 1))))
      (map_same (cut_to stands lengths) (covered f bytes lengths) 0 j (λ i l u. cut_same i (omega arith) (λ e. omega arith)))
      ∙ ap (λ (xs : List (List ℕ)). Before ++ xs)
      (map_same (cut_to stands lengths) (covered f bytes lengths) (j + 1) (m - (j + 1)) (λ i l u. cut_same i (omega arith) (λ e. omega arith)))

  all_same : map (covered f bytes lengths) (range_with_len 0 m) ≡ Before ++ covered f bytes lengths j ∷ After
  all_same =
      let count : m ≡ j + suc (m - (j + 1)) = omega arith in
      let zero_and : 0 + j ≡ j = omega arith in
      ap (λ (n : ℕ). map (covered f bytes lengths) (range_with_len 0 n)) count ∙ map_split (covered f bytes lengths) 0 j (m - (j + 1))
      ∙ ap (λ (n : ℕ). Before ++ covered f bytes lengths n ∷ map (covered f bytes lengths) (range_with_len (n + 1) (m - (j + 1)))) zero_and

  pub rebuilt_same : length rebuilt ≡ get_or lengths j 0 → Rebuilds parity (others_of (cut_to stands lengths) m j) rebuilt → rebuilt ≡ take (get_or lengths j 0) (share_of f bytes j)
  rebuilt_same long is =
      let len : length (covered f bytes lengths j) ≡ get_or lengths j 0 = length-take-le (get_or lengths j 0) (share_of f bytes j) (covers.within j low) in
      ext_get_or 0 rebuilt (covered f bytes lengths j) (long ∙ sym len) (λ y l.
      is y l
      ∙ ap (λ (z : ℕ). bit_xor z (xor_all (others_of (cut_to stands lengths) m j) y)) (covers.exclusive y ∙ sym (xor_range (covered f bytes lengths) m y) ∙ ap (λ (xs : List (List ℕ)). xor_all xs y) all_same)
      ∙ ap (λ (xs : List (List ℕ)). bit_xor (xor_all (Before ++ covered f bytes lengths j ∷ After) y) (xor_all xs y)) others_same
      ∙ xor_others Before After (covered f bytes lengths j) y)

-- the parity that is made of the shares, each cut at the committed end
module _ (m f : ℕ) (stands : ℕ → Option Fragment) (away : ℕ → Bool) (end : ℕ) (bytes : List ℕ)
    (h : FragmentsHold m f stands away end bytes) (others : (k : ℕ) → k ≢ m → away k ≡ false) where
  abbrev Ends : List ℕ
  Ends = end_lengths m f end

  abbrev Cut : ℕ → List ℕ
  Cut k = take (get_or Ends k 0) (share_of f bytes k)

  end_at : (k : ℕ) → k < m → get_or Ends k 0 ≡ share_length f end k
  end_at k l = get_or-map-range_with_len (share_length f end) 0 m k k 0 l (omega arith)

  share_cut : (k : ℕ) → k < m → cut_to stands Ends k ≡ Cut k
  share_cut k l =
      let s = h.shares k l (others k (λ e. omega arith)) in
      let reach = s.reaches in
      cut_covers (stands k) (share_of f bytes k) (get_or Ends k 0) s.begins (omega (arith, end_at k l))

  cut_length : (k : ℕ) → k < m → length (cut_to stands Ends k) ≡ get_or Ends k 0
  cut_length k l =
      let reach = (h.shares k l (others k (λ e. omega arith))).reaches in
      length-take-le (get_or Ends k 0) (share_bytes (stands k)) (omega (arith, end_at k l))

  abbrev Shares : List (List ℕ)
  Shares = map (cut_to stands Ends) (range_with_len 0 m)

  lengths_are : map length Shares ≡ Ends
  lengths_are =
      let count = length-map-range_with_len (cut_to stands Ends) 0 m in
      let ends = length-map-range_with_len (share_length f end) 0 m in
      ext_get_or 0 (map length Shares) Ends (length-map Shares length ∙ count ∙ sym ends) (λ k l.
      let low : k < m = omega (arith, l, length-map Shares length, count) in
      get_or-map length Shares k [] 0 (omega (arith, count))
      ∙ ap length (get_or-map-range_with_len (cut_to stands Ends) 0 m k k [] low (omega arith)) ∙ cut_length k low)

  pub parity_rebuilt : (rebuilt : List ℕ) (shares : List (List ℕ)) → shares ≡ Shares → length rebuilt ≡ greatest (map length shares) → IsXorOf (list_at shares) (length shares) rebuilt
      → Some (parity_fragment Ends rebuilt) ≡ end_parity m f end bytes
  parity_rebuilt rebuilt shares are long is =
      let top = greatest Ends in
      let made = map (xor_at Cut m) (range_with_len 0 top) in
      let len : length rebuilt ≡ top = long ∙ ap (λ (xs : List (List ℕ)). greatest (map length xs)) are ∙ ap greatest lengths_are in
      let count = length-map-range_with_len (xor_at Cut m) 0 top in
      ap (λ (xs : List ℕ). Some (parity_fragment Ends xs)) (ext_get_or 0 rebuilt made (len ∙ sym count) (λ y l.
      is y ∙ ap (λ (xs : List (List ℕ)). xor_all xs y) are ∙ xor_range (cut_to stands Ends) m y
      ∙ xor_same (cut_to stands Ends) Cut m y (λ k low. ap (λ (z : List ℕ). get_or z y 0) (share_cut k low))
      ∙ sym (get_or-map-range_with_len (xor_at Cut m) 0 top y y 0 (omega (arith, len)) (omega arith))))
