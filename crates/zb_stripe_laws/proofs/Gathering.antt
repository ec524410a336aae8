-- What a read gathers.
use Rattle.std.proofs.Common.{◌≡◌, ◌≢◌, ◌⊎◌, ℕ, zero, suc, ◌+◌, ◌-◌, ◌*◌, ◌/◌, ◌%◌, ◌<◌, ◌≤◌, min, Bool, true, false, ◌||◌, cond, eqb, ltb, leb, List, [], ◌∷◌, ◌++◌, length, take, drop, get_or, set, Option, Some, None, bit_xor, refl, sym, ap, ◌∙◌, subst, inl, inr, arith}
use Rattle.std.specs.Prelude.{IfSome, IsSome, ◌&&◌}
use Rattle.std.proofs.Math.Seq.{take-add}
use Rattle.std.specs.Int.Bits.{xor_assoc, xor_zero_r}
use Rattle.std.proofs.lemmas.Bool.{cases_lt, cases_Bool, lt-ltb, le-ltb, ltb-true, leb-true, leb-false, eqb-false, ne_eqb, or_cases, or_parts, and_from, and_left, and_right, cases_eq, cond_both}
use Rattle.std.proofs.lemmas.Nat.{div-add-mod', mod_below, div_below, mul-le}
use Rattle.std.proofs.lemmas.List.FromFn.{length-map-range_with_len, get_or-map-range_with_len}
use Rattle.std.proofs.lemmas.List.{get_or-set_same, get_or-set_other, length-set, length-take, length-drop, length-append, length-take-le, get_or-take, get_or-drop, get_or_past, drop-drop, ext_get_or}
use Rattle.zb_types.specs.declared.ids.ServerId.{ServerId}
use Rattle.zb_types.specs.declared.ids.Ptr.{Ptr}
use Rattle.zb_holding.specs.Fragments.{Fragment}
use Rattle.zb_holding.specs.Fragments.{share_fragment, parity_fragment}
use Rattle.zb_types.specs.declared.requests.Request.{Request}
use Rattle.zb_types.specs.declared.requests.Request.TheVariants as ask
use Rattle.zb_types.specs.declared.requests.Response.{Response}
use Rattle.zb_types.specs.declared.requests.Response.TheVariants as told
use Rattle.zb_holding.specs.Exclusive.{xor_at}
use Rattle.zb_holding.specs.Placing.{share_length, share_of, frag_id, server_of}
use Rattle.zb_holding.specs.Holding.{Maps, share_bytes, covered, ParityHolds, StripeHolds, CoversRest, ParityRemains, StripeRemains, is_away, standing, away_at, view_of}
use Rattle.zb_holding.specs.Carrying.{found}
use Rattle.zb_holding.proofs.Exclusives.{xor_more, without, xor_without, length-xored, get_or-xored}
use Rattle.zb_stripe_laws.proofs.Away.{away_once}
use Rattle.zb_stripe_laws.proofs.Left.{held_remains}
use Rattle.zb_stripe.specs.declared.read_plan.Got.{Got}
use Rattle.zb_stripe.specs.declared.read_plan.Got.TheVariants as got
use Rattle.zb_stripe.specs.declared.progress.Phase.{Phase}
use Rattle.zb_stripe.specs.declared.progress.Phase.TheVariants.{Direct, Lengths, Others}
use Rattle.zb_holding.specs.Exclusive.{xored}
use Rattle.zb_stripe.specs.Reading.{Reading, entered, advanced, own_lost, sought, names_two, blocked_in, gained_by, gained, own_gone, fed, asked, first_lost, start, is_more, answered, IsNotThere}
use Rattle.zb_stripe_laws.specs.ReadAtWork as work
use Rattle.zb_stripe_laws.specs.ReadAtWork.{AnswersWith, AnswersFrom, AllAnswer}
use Rattle.zb_holding.proofs.Shares.{length-share_of}
use Rattle.zb_stripe_laws.proofs.Ranges.{range_is, found_or_none, parity_range, length-parity_range, parity_range_at}

module _ (n f : ℕ) (MayBeDown : ServerId → Type 0) (maps : Maps) (x : Option ServerId) (ptr : Ptr) (end : ℕ) (bytes : List ℕ)
    (two : 2 ≤ n) (some : 0 < f) (inside : ptr.offset + ptr.len ≤ end) (remains : StripeRemains (view_of n f maps x) ptr.log ptr.stripe end bytes) where
  abbrev pub mk : List Bool → List ℕ → Phase → Reading
  mk lost read phase = record { servers = n; fragment = f; ptr = ptr; lost = lost; read = read; phase = phase }

  abbrev pub Pos : List ℕ → ℕ
  Pos read = ptr.offset + length read

  abbrev pub Last : ℕ
  Last = ptr.offset + ptr.len

  abbrev pub K : List ℕ → ℕ
  K read = Pos read / f

  abbrev pub Place : List ℕ → ℕ
  Place read = Pos read % f

  abbrev pub Len : List ℕ → ℕ
  Len read = min (Last - Pos read) (f - Place read)

  abbrev pub At : ℕ → ServerId
  At k = server_of n (frag_id ptr.log ptr.stripe k)

  abbrev pub View : ℕ → Option Fragment
  View = standing n maps ptr.log ptr.stripe

  abbrev pub whole : List ℕ
  whole = take ptr.len (drop ptr.offset bytes)

  abbrev pub SoFar : List Bool → List ℕ → Type 0
  SoFar lost read = work.SoFar n f ptr bytes lost read

  abbrev pub Missing : List Bool → List ℕ → Type 0
  Missing lost read = work.Missing n f ptr lost read

  abbrev pub Summed : List ℕ → List ℕ → List ℕ → List ℕ → ℕ → Type 0
  Summed read lengths parity sum j = work.Summed n f ptr bytes read lengths parity sum j

  abbrev pub Asks : List Bool → List ℕ → List ℕ → List ℕ → List ℕ → ℕ → Type 0
  Asks lost read lengths parity sum j = work.Asks n f ptr maps x lost bytes read lengths parity sum j

  abbrev pub PhaseFits : List Bool → List ℕ → Phase → Type 0
  PhaseFits lost read phase = work.PhaseFits n f ptr maps x bytes lost read phase

  abbrev pub left : List ℕ → Phase → ℕ
  left read phase = work.answers_left n f ptr read phase

  abbrev pub Answers : Option (ServerId × Request) → Response → Type 0
  Answers request t = AnswersWith MayBeDown maps x request t

  -- fragment k's server was lost, or is down
  abbrev pub LostOrDown : List Bool → ℕ → Type 0
  LostOrDown lost k = (get_or lost k false ≡ true) ⊎ MayBeDown (At k)

  -- the read goes on, with fewer answers to come
  pub record Goes (p : Reading × Got) (before : List Bool) (m : ℕ) : Type 0 where
    pub lost : List Bool
    pub read : List ℕ
    pub phase : Phase
    pub is : p.0 ≡ mk lost read phase
    pub more : p.1 ≡ got.More
    pub so_far : SoFar lost read
    pub fits : PhaseFits lost read phase
    pub less : left read phase < m
    pub known : (k : ℕ) → k < n → get_or lost k false ≡ true → LostOrDown before k
    pub kept : (k : ℕ) → get_or before k false ≡ true → get_or lost k false ≡ true
    pub clear : blocked_in (mk lost read phase) phase ≡ None

  -- two servers are lost
  pub record Blocks (p : Reading × Got) (before : List Bool) : Type 0 where
    pub i : ℕ
    pub j : ℕ
    pub first : i < n
    pub second : j < n
    pub differ : j ≢ i
    pub one : LostOrDown before i
    pub other : LostOrDown before j
    pub is : p.1 ≡ names_two (At i) (At j)

  abbrev pub Good : Reading × Got → List Bool → ℕ → Type 0
  Good p lost m = Goes p lost m ⊎ (p.1 ≡ got.Bytes whole) ⊎ Blocks p lost

  -- the fragment that is asked for isn't there, on a server that is looked at
  abbrev pub LacksIt : Option (ServerId × Request) → Type 0
  LacksIt (Some (server, ask.Retrieve id place len)) = (is_away x server ≡ false) × (maps server id ≡ None)
  LacksIt request = ⊥

  -- a step of the read, or its end as a fragment isn't there
  abbrev pub Led : List Bool → List ℕ → Phase → Reading × Got → Type 0
  Led lost read phase p = Good p lost (left read phase) ⊎ ((p.1 ≡ got.Gone) × LacksIt (asked (mk lost read phase)))

  -- a range that lies below the end
  pub record InStripe (read : List ℕ) : Type 0 where
    index : K read < n - 1
    reach : Place read + Len read ≤ share_length f end (K read)
    some_bytes : 0 < Len read

  in_stripe : (read : List ℕ) → Pos read < Last → InStripe read
  in_stripe read below =
      let w = remains.whole in
      let r = remains.room in
      let m = mod_below (Pos read) f some in
      record {
        index = div_below (Pos read) f (n - 1) some (omega arith);
        reach = omega (arith, div-add-mod' (Pos read) f);
        some_bytes = omega arith;
      }

  -- another fragment is asked in place of the range's own, unless its server is lost too
  goes_to : (b : Reading) (lost : List Bool) (read : List ℕ) (phase : Phase) (j m : ℕ) → blocked_in (mk lost read phase) phase ≡ cond (get_or lost j false) (Some j) None
      → SoFar lost read → Missing lost read → PhaseFits lost read phase → j < n → j ≢ K read → left read phase < m → Good (gained b (mk lost read phase)) lost m
  goes_to b lost read phase j m by so miss fits jn ne less =
      let r = mk lost read phase in
      let index = (in_stripe read miss.below).index in
      let go = λ (t : Bool) (e : get_or lost j false ≡ t). ap (gained_by b r) (by ∙ ap (λ (z : Bool). cond z (Some j) None) e) in
      elim (cases_Bool (get_or lost j false)) [
        | inl gone ↦ inr (inr (record {
          i = K read;
          j = j;
          first = omega arith;
          second = jn;
          differ = ne;
          one = inl miss.gone;
          other = inl gone;
          is = ap (λ (p : Reading × Got). p.1) (go true gone);
        }))
        | inr here ↦ inl (record {
          lost = lost;
          read = read;
          phase = phase;
          is = ap (λ (p : Reading × Got). p.0) (go false here);
          more = ap (λ (p : Reading × Got). p.1) (go false here) ∙ ap (λ (t : Bool). cond t got.More (got.Bytes read)) (lt-ltb (Pos read) Last miss.below);
          so_far = so;
          fits = fits;
          less = less;
          known = λ k l e. inl e;
          kept = λ k e. e;
          clear = by ∙ ap (λ (z : Bool). cond z (Some j) None) here;
        })
      ]

  enters : (b : Reading) (lost : List Bool) (read : List ℕ) (m : ℕ) → SoFar lost read → (Last - Pos read) * (n + 2) + (n + 1) < m → Good (gained b (entered (mk lost read Direct))) lost m
  enters b lost read m so less =
      let within = so.within in
      let to = λ (t : Bool) (e : (ltb (Pos read) Last && get_or lost (K read) false) ≡ t). ap (λ (z : Bool). mk lost read (cond z Lengths Direct)) e in
      let at = λ (r : Reading). Good (gained b r) lost m in
      elim (cases_lt (Pos read) Last) as (λ _. at (entered (mk lost read Direct))) [
        | inl below ↦
            let index = (in_stripe read below).index in
            elim (cases_Bool (get_or lost (K read) false)) as (λ _. at (entered (mk lost read Direct))) [
              | inl gone ↦
                  subst at (sym (to true (and_from (ltb (Pos read) Last) (get_or lost (K read) false) (lt-ltb (Pos read) Last below) gone)))
                  (goes_to b lost read Lengths (n - 1) m refl so (record { below = below; gone = gone }) (record { below = below; gone = gone }) (omega arith) (λ e. omega arith) (omega arith))
              | inr here ↦
                  subst at (sym (to false (and_right (ltb (Pos read) Last) (get_or lost (K read) false) here)))
                  (inl (record {
                    lost = lost;
                    read = read;
                    phase = Direct;
                    is = refl;
                    more = ap (λ (t : Bool). cond t got.More (got.Bytes read)) (lt-ltb (Pos read) Last below);
                    so_far = so;
                    fits = λ _. here;
                    less = less;
                    known = λ k l e. inl e;
                    kept = λ k e. e;
                    clear = refl;
                  }))
            ]
        | inr past ↦
            subst at (sym (to false (and_left (ltb (Pos read) Last) (get_or lost (K read) false) (le-ltb (Pos read) Last past))))
            (inr (inl (ap (λ (t : Bool). cond t got.More (got.Bytes read)) (le-ltb (Pos read) Last past)
            ∙ ap got.Bytes (so.begins ∙ ap (λ (k : ℕ). take k (drop ptr.offset bytes)) (omega arith)))))
      ]

  -- the bytes of a range are there
  advances : (b : Reading) (lost : List Bool) (read : List ℕ) (phase : Phase) (new : List ℕ) (m : ℕ) → SoFar lost read → Pos read < Last → new ≡ take (Len read) (drop (Pos read) bytes) → (Last - Pos read) * (n + 2) ≤ m → Good (gained b (advanced (mk lost read phase) new)) lost m
  advances b lost read phase new m so below e bound =
      let w = remains.whole in
      let within = so.within in
      let rest = mod_below (Pos read) f some in
      let len : length new ≡ Len read = ap length e ∙ length-take-le (Len read) (drop (Pos read) bytes) (omega (arith, length-drop (Pos read) bytes)) in
      let all = length-append read new in
      enters b lost (read ++ new) m
      (record {
        count = so.count;
        within = omega arith;
        begins =
            ap (λ (r : List ℕ). r ++ new) so.begins
            ∙ ap (λ (r : List ℕ). take (length read) (drop ptr.offset bytes) ++ r) (e ∙ ap (take (Len read)) (sym (drop-drop (length read) ptr.offset bytes)))
            ∙ sym (take-add (length read) (Len read) (drop ptr.offset bytes))
            ∙ ap (λ (k : ℕ). take k (drop ptr.offset bytes)) (omega arith);
      })
      (omega (arith, mul-le (Last - Pos (read ++ new) + 1) (n + 2) (Last - Pos read) (n + 2) (omega arith) (omega arith)))

  abbrev pub CoversIt : List ℕ → List ℕ → Type 0
  CoversIt lengths parity = CoversRest (n - 1) f View (away_at n x ptr.log ptr.stripe) end bytes lengths parity

  parity_there : (p : Option Fragment) → ParityRemains (n - 1) f View (away_at n x ptr.log ptr.stripe) end bytes p → (p ≡ None) ⊎ ((lengths parity : List ℕ) × (p ≡ Some (parity_fragment lengths parity)))
  parity_there None c = inl refl
  parity_there (Some (share_fragment s)) c = absurd c
  parity_there (Some (parity_fragment lengths parity)) c = inr (lengths, parity, refl)

  pub covers_it : (lengths parity : List ℕ) → View (n - 1) ≡ Some (parity_fragment lengths parity) → away_at n x ptr.log ptr.stripe (n - 1) ≡ false → CoversIt lengths parity
  covers_it lengths parity e seen = subst (ParityRemains (n - 1) f View (away_at n x ptr.log ptr.stripe) end bytes) e (remains.parity seen)

  -- with all other shares put in, the parity's range is the share's
  summed_all : (read lengths parity sum : List ℕ) → Pos read < Last → CoversIt lengths parity → Summed read lengths parity sum (n - 1) → sum ≡ take (Len read) (drop (Pos read) bytes)
  summed_all read lengths parity sum below c s =
      let i = in_stripe read below in
      let index = i.index in
      let reach = i.reach in
      let long = s.long in
      let own = share_of f bytes (K read) in
      let len = length-share_of f bytes (K read) in
      let w = remains.whole in
      let e = c.enough (K read) index in
      let range : sum ≡ take (Len read) (drop (Place read) own) =
      ext_get_or 0 sum (take (Len read) (drop (Place read) own)) (omega (arith, length-take (Len read) (drop (Place read) own), length-drop (Place read) own)) (λ y l.
      let y_len : y < Len read = omega arith in
      let at = Place read + y in
      s.sums y y_len
      ∙ ap (λ (b : ℕ). bit_xor b (xor_at (without (covered f bytes lengths) (K read)) (n - 1) at)) (c.exclusive at)
      ∙ xor_without (covered f bytes lengths) (K read) (n - 1) at index
      ∙ get_or-take (get_or lengths (K read) 0) own at 0 (omega arith)
      ∙ sym (get_or-take (Len read) (drop (Place read) own) y 0 y_len ∙ get_or-drop (Place read) own y 0)) in
      range ∙ range_is f (Pos read) (Len read) bytes some (omega arith)

  -- one more share, put in or left away
  one_more : (read lengths parity sum new : List ℕ) (j : ℕ) → Summed read lengths parity sum j → length new ≡ Len read
      → ((y : ℕ) → y < Len read → get_or new y 0 ≡ bit_xor (get_or sum y 0) (get_or (without (covered f bytes lengths) (K read) j) (Place read + y) 0))
      → Summed read lengths parity new (j + 1)
  one_more read lengths parity sum new j s long h = record {
    long = long;
    sums = λ y l.
        let lists = without (covered f bytes lengths) (K read) in
        let at = Place read + y in
        h y l ∙ ap (λ (b : ℕ). bit_xor b (get_or (lists j) at 0)) (s.sums y l)
        ∙ xor_assoc (get_or parity at 0) (xor_at lists j at) (get_or (lists j) at 0)
        ∙ ap (bit_xor (get_or parity at 0)) (sym (xor_more lists j at));
  }

  pub seeks : (b : Reading) (lost : List Bool) (read : List ℕ) (phase : Phase) (lengths parity : List ℕ) (m : ℕ) → SoFar lost read → Missing lost read
      → View (n - 1) ≡ Some (parity_fragment lengths parity) → away_at n x ptr.log ptr.stripe (n - 1) ≡ false
      → (rest : ℕ) (sum : List ℕ) → rest ≤ n - 1 → Summed read lengths parity sum (n - 1 - rest) → (Last - Pos read) * (n + 2) + rest < m
      → Good (gained b (sought (mk lost read phase) lengths sum rest)) lost m
  seeks b lost read phase lengths parity m so miss e seen zero sum le s less =
      advances b lost read phase sum m so miss.below
      (summed_all read lengths parity sum miss.below (covers_it lengths parity e seen) (subst (Summed read lengths parity sum) (omega arith) s)) (omega arith)
  seeks b lost read phase lengths parity m so miss e seen (suc rest) sum le s less =
      let j = n - 1 - suc rest in
      let long = s.long in
      cond_both (eqb j (K read) || leb (get_or lengths j 0) (Place read)) (sought (mk lost read phase) lengths sum rest) (mk lost read (Others lengths sum j)) (λ r. Good (gained b r) lost m)
      (λ skip.
      let nothing = λ (y : ℕ) (l : y < Len read). elim (or_cases (eqb j (K read)) (leb (get_or lengths j 0) (Place read)) skip) as (λ _. get_or (without (covered f bytes lengths) (K read) j) (Place read + y) 0 ≡ 0) [
        | inl own ↦ ap (λ (b : Bool). get_or (cond b [] (covered f bytes lengths j)) (Place read + y) 0) own
        | inr short ↦
            let top = leb-true (get_or lengths j 0) (Place read) short in
            cond_both (eqb j (K read)) [] (covered f bytes lengths j) (λ (ls : List ℕ). get_or ls (Place read + y) 0 ≡ 0) (λ _. refl)
            (λ _. get_or_past (covered f bytes lengths j) (Place read + y) 0 (omega (arith, length-take (get_or lengths j 0) (share_of f bytes j))))
      ] in
      seeks b lost read phase lengths parity m so miss e seen rest sum (omega arith)
      (subst (Summed read lengths parity sum) (omega arith)
      (one_more read lengths parity sum sum j s long (λ y l. sym (ap (bit_xor (get_or sum y 0)) (nothing y l) ∙ xor_zero_r (get_or sum y 0)))))
      (omega arith))
      (λ asks.
      let parts = or_parts (eqb j (K read)) (leb (get_or lengths j 0) (Place read)) asks in
      let other = eqb-false j (K read) parts.0 in
      goes_to b lost read (Others lengths sum j) j m refl so miss
      (parity, record { missing = miss; index = omega arith; other = other; reached = leb-false (get_or lengths j 0) (Place read) parts.1; stands = e; looked = seen; summed = s })
      (omega arith) other (omega arith))

  some_asked : (b : Bool) (o : ServerId × Request) (t : Response) → Answers (cond b (Some o) None) t → (b ≡ true) × Answers (Some o) t
  some_asked true o t a = (refl, a)
  some_asked false o t a = absurd a

  down_direct : (lost : List Bool) (read : List ℕ) (t : Response) → IsNotThere t → fed (mk lost read Direct) t ≡ own_gone (mk lost read Direct)
  down_direct lost read told.Done g = absurd g
  down_direct lost read (told.Bytes b) g = absurd g
  down_direct lost read (told.Parity l b) g = absurd g
  down_direct lost read (told.Ids l) g = absurd g
  down_direct lost read (told.Refused r) g = absurd g
  down_direct lost read told.Down g = refl
  down_direct lost read told.Blank g = refl

  down_lengths : (lost : List Bool) (read : List ℕ) (t : Response) → IsNotThere t → (fed (mk lost read Lengths) t).1 ≡ names_two (At (K read)) (At (n - 1))
  down_lengths lost read told.Done g = absurd g
  down_lengths lost read (told.Bytes b) g = absurd g
  down_lengths lost read (told.Parity l b) g = absurd g
  down_lengths lost read (told.Ids l) g = absurd g
  down_lengths lost read (told.Refused r) g = absurd g
  down_lengths lost read told.Down g = refl
  down_lengths lost read told.Blank g = refl

  down_others : (lost : List Bool) (read lengths sum : List ℕ) (j : ℕ) (t : Response) → IsNotThere t → (fed (mk lost read (Others lengths sum j)) t).1 ≡ names_two (At (K read)) (At j)
  down_others lost read lengths sum j told.Done g = absurd g
  down_others lost read lengths sum j (told.Bytes b) g = absurd g
  down_others lost read lengths sum j (told.Parity l b) g = absurd g
  down_others lost read lengths sum j (told.Ids l) g = absurd g
  down_others lost read lengths sum j (told.Refused r) g = absurd g
  down_others lost read lengths sum j told.Down g = refl
  down_others lost read lengths sum j told.Blank g = refl

  -- the range's own server is down
  loses : (lost : List Bool) (read : List ℕ) → SoFar lost read → Pos read < Last → MayBeDown (At (K read)) → Good (own_gone (mk lost read Direct)) lost (left read Direct)
  loses lost read so below down =
      let index = (in_stripe read below).index in
      let count = so.count in
      let r = mk lost read Direct in
      let stays : Reading × Got = (r, names_two (At (K read)) (At (n - 1))) in
      let goes : Reading × Got = (own_lost r, got.More) in
      cond_both (get_or lost (n - 1) false) stays goes (λ p. Good p lost (left read Direct))
      (λ gone. inr (inr (record { i = K read; j = n - 1; first = omega arith; second = omega arith; differ = λ e. omega arith; one = inr down; other = inl gone; is = refl })))
      (λ here. inl (record {
        lost = set lost (K read) true;
        read = read;
        phase = Lengths;
        is = refl;
        more = refl;
        so_far = record { count = length-set lost (K read) true ∙ so.count; within = so.within; begins = so.begins };
        fits = record { below = below; gone = get_or-set_same lost (K read) true false (omega arith) };
        less = omega arith;
        known = λ k l e. elim (cases_eq k (K read)) as (λ _. LostOrDown lost k) [
          | inl own ↦ inr (subst (λ (i : ℕ). MayBeDown (At i)) (sym own) down)
          | inr ne ↦ inl (sym (get_or-set_other lost (K read) k true false ne) ∙ e)
        ];
        kept = λ k e. elim (cases_eq k (K read)) as (λ _. get_or (set lost (K read) true) k false ≡ true) [
          | inl own ↦ ap (λ (i : ℕ). get_or (set lost (K read) true) i false) own ∙ get_or-set_same lost (K read) true false (omega arith)
          | inr ne ↦ get_or-set_other lost (K read) k true false ne ∙ e
        ];
        clear = ap (λ (z : Bool). cond z (Some (n - 1)) None) (get_or-set_other lost (K read) (n - 1) true false (λ e. omega arith) ∙ here);
      }))

  step_direct : (lost : List Bool) (read : List ℕ) (t : Response) → SoFar lost read → PhaseFits lost read Direct → Answers (asked (mk lost read Direct)) t → Led lost read Direct (fed (mk lost read Direct) t)
  step_direct lost read t so fits a =
      let request : ServerId × Request = (At (K read), ask.Retrieve (frag_id ptr.log ptr.stripe (K read)) (Place read) (Len read)) in
      let q = some_asked (ltb (Pos read) Last) request t a in
      let below = ltb-true (Pos read) Last q.0 in
      let i = in_stripe read below in
      elim q.1 as (λ _. Led lost read Direct (fed (mk lost read Direct) t)) [
        | inl d ↦ inl (subst (λ p. Good p lost (left read Direct)) (sym (down_direct lost read t d.1)) (loses lost read so below d.0))
        | inr d ↦
            let s = remains.shares (K read) i.index d.0 in
            let reach = i.reach in
            let new = take (Len read) (drop (Place read) (share_of f bytes (K read))) in
            elim (found_or_none (View (K read)) (share_of f bytes (K read)) (Place read) (Len read) (share_length f end (K read)) s.begins s.reaches i.some_bytes reach) as (λ _. Led lost read Direct (fed (mk lost read Direct) t)) [
              | inl none ↦ inr (
                ap (λ (r : Response). (fed (mk lost read Direct) r).1) (d.1 ∙ none.1),
                subst (λ (b : Bool). LacksIt (cond b (Some request) None)) (sym q.0) (d.0, none.0),
              )
              | inr is ↦
                  inl (subst (λ (r : Response). Good (fed (mk lost read Direct) r) lost (left read Direct)) (sym (d.1 ∙ is))
                  (advances (mk lost read Direct) lost read Direct new (left read Direct) so below (range_is f (Pos read) (Len read) bytes some (omega arith)) (omega arith)))
            ]
      ]

  step_lengths : (lost : List Bool) (read : List ℕ) (t : Response) → SoFar lost read → Missing lost read → Answers (asked (mk lost read Lengths)) t → Led lost read Lengths (fed (mk lost read Lengths) t)
  step_lengths lost read t so miss a =
      let i = in_stripe read miss.below in
      let index = i.index in
      elim a as (λ _. Led lost read Lengths (fed (mk lost read Lengths) t)) [
        | inl d ↦ inl (inr (inr (record {
          i = K read;
          j = n - 1;
          first = omega arith;
          second = omega arith;
          differ = λ e. omega arith;
          one = inl miss.gone;
          other = inr d.0;
          is = down_lengths lost read t d.1;
        })))
        | inr d ↦ elim (parity_there (View (n - 1)) (remains.parity d.0)) as (λ _. Led lost read Lengths (fed (mk lost read Lengths) t)) [
          | inl none ↦ inr (
            ap (λ (r : Response). (fed (mk lost read Lengths) r).1) (d.1 ∙ ap (λ (o : Option Fragment). found o (Place read) (Len read)) none),
            (d.0, none),
          )
          | inr p ↦
              let lengths = p.0 in
              let parity = p.1 in
              let sum = parity_range parity (Place read) (Len read) in
              let none : 0 ≡ n - 1 - (n - 1) = omega arith in
              let told_is : t ≡ told.Parity lengths sum = d.1 ∙ ap (λ (o : Option Fragment). found o (Place read) (Len read)) p.2 in
              inl (subst (λ (r : Response). Good (fed (mk lost read Lengths) r) lost (left read Lengths)) (sym told_is)
              (seeks (mk lost read Lengths) lost read Lengths lengths parity (left read Lengths) so miss p.2 d.0 (n - 1) sum (omega arith)
              (subst (Summed read lengths parity sum) none
              (record {
                long = length-parity_range parity (Place read) (Len read);
                sums = λ y l. parity_range_at parity (Place read) (Len read) y l ∙ sym (xor_zero_r (get_or parity (Place read + y) 0));
              }))
              (omega arith)))
        ]
      ]

  step_others : (lost : List Bool) (read lengths sum : List ℕ) (j : ℕ) (t : Response) → SoFar lost read → PhaseFits lost read (Others lengths sum j) → Answers (asked (mk lost read (Others lengths sum j))) t → Led lost read (Others lengths sum j) (fed (mk lost read (Others lengths sum j)) t)
  step_others lost read lengths sum j t so fits a =
      let parity = fits.0 in
      let q = fits.1 in
      let i = in_stripe read q.missing.below in
      let index = i.index in
      let jn = q.index in
      let phase = Others lengths sum j in
      let len = min (Len read) (get_or lengths j 0 - Place read) in
      elim a as (λ _. Led lost read phase (fed (mk lost read phase) t)) [
        | inl d ↦ inl (inr (inr (record {
          i = K read;
          j = j;
          first = omega arith;
          second = omega arith;
          differ = q.other;
          one = inl q.missing.gone;
          other = inr d.0;
          is = down_others lost read lengths sum j t d.1;
        })))
        | inr d ↦
            let c = covers_it lengths parity q.stands q.looked in
            let stored = c.stored j jn d.0 in
            let reached = q.reached in
            let some_bytes = i.some_bytes in
            let sh = share_of f bytes j in
            let new = take len (drop (Place read) sh) in
            elim (found_or_none (View j) sh (Place read) len (get_or lengths j 0) (remains.shares j jn d.0).begins stored (omega arith) (omega arith)) as (λ _. Led lost read phase (fed (mk lost read phase) t)) [
              | inl none ↦ inr (ap (λ (r : Response). (fed (mk lost read phase) r).1) (d.1 ∙ none.1), (d.0, none.0))
              | inr is ↦
                  let summed = q.summed in
                  let long = summed.long in
                  let lists = without (covered f bytes lengths) (K read) in
                  let own : lists j ≡ covered f bytes lengths j = ap (λ (b : Bool). cond b [] (covered f bytes lengths j)) (ne_eqb j (K read) q.other) in
                  let at = λ (y : ℕ) (l : y < Len read). elim (cases_lt y (get_or lengths j 0 - Place read)) as (λ _. get_or new y 0 ≡ get_or (lists j) (Place read + y) 0) [
                    | inl here ↦
                        get_or-take len (drop (Place read) sh) y 0 (omega arith) ∙ get_or-drop (Place read) sh y 0
                        ∙ sym (ap (λ (ls : List ℕ). get_or ls (Place read + y) 0) own ∙ get_or-take (get_or lengths j 0) sh (Place read + y) 0 (omega arith))
                    | inr past ↦
                        get_or_past new y 0 (omega (arith, length-take len (drop (Place read) sh)))
                        ∙ sym (ap (λ (ls : List ℕ). get_or ls (Place read + y) 0) own ∙ get_or_past (covered f bytes lengths j) (Place read + y) 0 (omega (arith, length-take (get_or lengths j 0) sh)))
                  ] in
                  inl (subst (λ (r : Response). Good (fed (mk lost read phase) r) lost (left read phase)) (sym (d.1 ∙ is))
                  (seeks (mk lost read phase) lost read phase lengths parity (left read phase) so q.missing q.stands q.looked (n - 1 - (j + 1)) (xored sum new) (omega arith)
                  (subst (Summed read lengths parity (xored sum new)) (omega arith)
                  (one_more read lengths parity sum (xored sum new) j summed (length-xored sum new ∙ long)
                  (λ y l. get_or-xored sum new y (omega arith) ∙ ap (bit_xor (get_or sum y 0)) (at y l))))
                  (omega arith)))
            ]
      ]

  pub step : (lost : List Bool) (read : List ℕ) (phase : Phase) (t : Response) → SoFar lost read → PhaseFits lost read phase → Answers (asked (mk lost read phase)) t → Led lost read phase (fed (mk lost read phase) t)
  step lost read Direct t so fits a = step_direct lost read t so fits a
  step lost read Lengths t so fits a = step_lengths lost read t so fits a
  step lost read (Others lengths sum j) t so fits a = step_others lost read lengths sum j t so fits a

  -- a stripe that is held has each fragment that is asked for
  module _ (held : StripeHolds (view_of n f maps x) ptr.log ptr.stripe end bytes) where
    none_reaches : (o : Option Fragment) (k : ℕ) → o ≡ None → k ≤ length (share_bytes o) → k ≡ 0
    none_reaches o k none le = omega (arith, ap (λ (z : Option Fragment). length (share_bytes z)) none)

    lacks_some : (b : Bool) (o : ServerId × Request) → LacksIt (cond b (Some o) None) → (b ≡ true) × LacksIt (Some o)
    lacks_some true o l = (refl, l)
    lacks_some false o l = absurd l

    pub direct_is_there : (lost : List Bool) (read : List ℕ) → LacksIt (asked (mk lost read Direct)) → ⊥
    direct_is_there lost read l =
        let q = lacks_some (ltb (Pos read) Last) (At (K read), ask.Retrieve (frag_id ptr.log ptr.stripe (K read)) (Place read) (Len read)) l in
        let i = in_stripe read (ltb-true (Pos read) Last q.0) in
        let reach = i.reach in
        let some_bytes = i.some_bytes in
        omega (arith, none_reaches (View (K read)) (share_length f end (K read)) q.1.1 (held.shares (K read) i.index q.1.0).reaches)

    pub parity_is_there : (lost : List Bool) (read : List ℕ) → LacksIt (asked (mk lost read Lengths)) → ⊥
    parity_is_there lost read l = subst (ParityHolds (n - 1) f View (away_at n x ptr.log ptr.stripe) end bytes) l.1 (held.parity l.0)

    other_is_there : (lost : List Bool) (read lengths sum : List ℕ) (j : ℕ) → PhaseFits lost read (Others lengths sum j) → LacksIt (asked (mk lost read (Others lengths sum j))) → ⊥
    other_is_there lost read lengths sum j fits l =
        let q = fits.1 in
        let c = subst (ParityHolds (n - 1) f View (away_at n x ptr.log ptr.stripe) end bytes) q.stands (held.parity q.looked) in
        let reached = q.reached in
        omega (arith, none_reaches (View j) (get_or lengths j 0) l.1 (c.stored j q.index l.0))

    pub is_there : (lost : List Bool) (read : List ℕ) (phase : Phase) → PhaseFits lost read phase → LacksIt (asked (mk lost read phase)) → ⊥
    is_there lost read Direct fits l = direct_is_there lost read l
    is_there lost read Lengths fits l = parity_is_there lost read l
    is_there lost read (Others lengths sum j) fits l = other_is_there lost read lengths sum j fits l

-- A read of which one server at most is lost.
module _ (n f : ℕ) (maps : Maps) (x z : Option ServerId) (ptr : Ptr) (end : ℕ) (bytes : List ℕ)
    (two : 2 ≤ n) (some : 0 < f) (inside : ptr.offset + ptr.len ≤ end) (held : StripeHolds (view_of n f maps x) ptr.log ptr.stripe end bytes) where
  abbrev IsZ : ServerId → Type 0
  IsZ server = is_away z server ≡ true

  abbrev read_at : List Bool → List ℕ → Phase → Reading
  read_at lost read phase = record { servers = n; fragment = f; ptr = ptr; lost = lost; read = read; phase = phase }

  abbrev Server : ℕ → ServerId
  Server k = server_of n (frag_id ptr.log ptr.stripe k)

  abbrev all_bytes : List ℕ
  all_bytes = take ptr.len (drop ptr.offset bytes)

  abbrev Fits : List Bool → List ℕ → Phase → Type 0
  Fits lost read phase = work.PhaseFits n f ptr maps x bytes lost read phase

  abbrev to_come : List ℕ → Phase → ℕ
  to_come read phase = work.answers_left n f ptr read phase

  remains : StripeRemains (view_of n f maps x) ptr.log ptr.stripe end bytes
  remains = held_remains (n - 1) f (standing n maps ptr.log ptr.stripe) (away_at n x ptr.log ptr.stripe) end bytes held

  abbrev Turn : Reading × Got → List Bool → ℕ → Type 0
  Turn p lost m = Good n f IsZ maps x ptr end bytes two some inside remains p lost m

  -- each server that is lost is z
  abbrev pub OnlyZ : List Bool → Type 0
  OnlyZ lost = (k : ℕ) → k < n → get_or lost k false ≡ true → IsZ (Server k)

  is_z : (lost : List Bool) (k : ℕ) → OnlyZ lost → k < n → (get_or lost k false ≡ true) ⊎ IsZ (Server k) → IsZ (Server k)
  is_z lost k only l (inl e) = only k l e
  is_z lost k only l (inr e) = e

  never_blocks : {A : Type 0} (p : Reading × Got) (lost : List Bool) → OnlyZ lost → Blocks n f IsZ maps x ptr end bytes two some inside remains p lost → A
  never_blocks p lost only b =
      absurd (b.differ (away_once n z ptr.log ptr.stripe b.j b.i b.second b.first (is_z lost b.j only b.second b.other) (is_z lost b.i only b.first b.one)))

  take_step : (lost : List Bool) (read : List ℕ) (phase : Phase) (t : Response) → work.SoFar n f ptr bytes lost read → Fits lost read phase
      → AnswersFrom maps x z (asked (read_at lost read phase)) t → Turn (fed (read_at lost read phase) t) lost (to_come read phase)
  take_step lost read phase t so fits a = elim (step n f IsZ maps x ptr end bytes two some inside remains lost read phase t so fits a) as (λ _. Turn (fed (read_at lost read phase) t) lost (to_come read phase)) [
    | inl good ↦ good
    | inr gone ↦ absurd (is_there n f IsZ maps x ptr end bytes two some inside remains held lost read phase fits gone.1)
  ]

  goes_on : (p : Reading × Got) (rest : Option Got) → p.1 ≡ got.More → cond (is_more p.1) rest (Some p.1) ≡ rest
  goes_on p rest e = ap (λ (g : Got). cond (is_more g) rest (Some p.1)) e

  stops : (p : Reading × Got) (rest : Option Got) → p.1 ≡ got.Bytes all_bytes → cond (is_more p.1) rest (Some p.1) ≡ Some (got.Bytes all_bytes)
  stops p rest e = ap (λ (g : Got). cond (is_more g) rest (Some g)) e

  pub gathers : (ts : List Response) (lost : List Bool) (read : List ℕ) (phase : Phase) → work.SoFar n f ptr bytes lost read → OnlyZ lost → Fits lost read phase → AllAnswer maps x z (read_at lost read phase) ts
      → IfSome (answered (read_at lost read phase) ts) (λ g. g ≡ got.Bytes all_bytes)
  gathers [] lost read phase so only fits all = tt
  gathers (t ∷ ts) lost read phase so only fits all =
      let p = fed (read_at lost read phase) t in
      let P = λ (o : Option Got). IfSome o (λ g. g ≡ got.Bytes all_bytes) in
      elim (take_step lost read phase t so fits all.0) as (λ _. P (cond (is_more p.1) (answered p.0 ts) (Some p.1))) [
        | inl g ↦
            subst P (sym (goes_on p (answered p.0 ts) g.more ∙ ap (λ (r : Reading). answered r ts) g.is))
            (gathers ts g.lost g.read g.phase g.so_far (λ k l e. is_z lost k only l (g.known k l e)) g.fits (subst (λ (r : Reading). AllAnswer maps x z r ts) g.is (all.1 (ap is_more g.more))))
        | inr (inl e) ↦ subst P (sym (stops p (answered p.0 ts) e)) refl
        | inr (inr b) ↦ never_blocks p lost only b
      ]

  some_left : (lost : List Bool) (read : List ℕ) (phase : Phase) → Fits lost read phase → 0 < to_come read phase
  some_left lost read Direct fits = omega arith
  some_left lost read Lengths fits = omega arith
  some_left lost read (Others lengths sum j) fits = let i = fits.1.index in omega arith

  pub comes_to_end : (ts : List Response) (lost : List Bool) (read : List ℕ) (phase : Phase) → work.SoFar n f ptr bytes lost read → OnlyZ lost → Fits lost read phase → AllAnswer maps x z (read_at lost read phase) ts
      → to_come read phase ≤ length ts → IsSome (answered (read_at lost read phase) ts)
  comes_to_end [] lost read phase so only fits all le = absurd (omega (arith, some_left lost read phase fits))
  comes_to_end (t ∷ ts) lost read phase so only fits all le =
      let p = fed (read_at lost read phase) t in
      elim (take_step lost read phase t so fits all.0) as (λ _. IsSome (cond (is_more p.1) (answered p.0 ts) (Some p.1))) [
        | inl g ↦
            let less = g.less in
            subst IsSome (sym (goes_on p (answered p.0 ts) g.more ∙ ap (λ (r : Reading). answered r ts) g.is))
            (comes_to_end ts g.lost g.read g.phase g.so_far (λ k l e. is_z lost k only l (g.known k l e)) g.fits (subst (λ (r : Reading). AllAnswer maps x z r ts) g.is (all.1 (ap is_more g.more))) (omega arith))
        | inr (inl e) ↦ subst IsSome (sym (stops p (answered p.0 ts) e)) refl
        | inr (inr b) ↦ never_blocks p lost only b
      ]

-- how a read starts
module _ (n f : ℕ) (maps : Maps) (x : Option ServerId) (ptr : Ptr) (end : ℕ) (bytes : List ℕ) (two : 2 ≤ n) (some : 0 < f) (inside : ptr.offset + ptr.len ≤ end) where
  abbrev pub first_read : Option ServerId → Phase → Reading
  first_read out phase = record { servers = n; fragment = f; ptr = ptr; lost = first_lost n ptr out; read = []; phase = phase }

  pub record Starts (out : Option ServerId) : Type 0 where
    pub phase : Phase
    pub is : start n f ptr out ≡ first_read out phase
    pub so_far : work.SoFar n f ptr bytes (first_lost n ptr out) []
    pub fits : work.PhaseFits n f ptr maps x bytes (first_lost n ptr out) [] phase
    pub bound : work.answers_left n f ptr [] phase ≤ (ptr.len + 1) * (n + 2)
    pub known : (k : ℕ) → k < n → get_or (first_lost n ptr out) k false ≡ true → is_away out (server_of n (frag_id ptr.log ptr.stripe k)) ≡ true

  pub starts : (out : Option ServerId) → 0 < ptr.len → Starts out
  starts out long =
      let lost = first_lost n ptr out in
      let pos = ptr.offset + 0 in
      let last = ptr.offset + ptr.len in
      let gone_at = get_or lost (pos / f) false in
      let out_at = λ (k : ℕ). is_away out (server_of n (frag_id ptr.log ptr.stripe k)) in
      let so : work.SoFar n f ptr bytes lost [] = record { count = length-map-range_with_len out_at 0 n; within = omega arith; begins = refl } in
      let known = λ (k : ℕ) (l : k < n) (e : get_or lost k false ≡ true). sym (get_or-map-range_with_len out_at 0 n k k false l (omega arith)) ∙ e in
      let below : pos < last = omega arith in
      let ahead : last - pos ≡ ptr.len = omega arith in
      let rows = ap (λ (k : ℕ). k * (n + 2)) ahead in
      let to = λ (t : Bool) (e : (ltb pos last && gone_at) ≡ t). ap (λ (b : Bool). first_read out (cond b Lengths Direct)) e in
      elim (cases_Bool gone_at) [
        | inl gone ↦ record {
          phase = Lengths;
          is = to true (and_from (ltb pos last) gone_at (lt-ltb pos last below) gone);
          so_far = so;
          fits = record { below = below; gone = gone };
          bound = omega arith;
          known = known;
        }
        | inr here ↦ record {
          phase = Direct;
          is = to false (and_right (ltb pos last) gone_at here);
          so_far = so;
          fits = λ _. here;
          bound = omega arith;
          known = known;
        }
      ]
