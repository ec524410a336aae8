-- A read that goes on while what the servers keep changes.
use Rattle.std.proofs.Common.{◌≡◌, ◌≢◌, ◌⊎◌, ℕ, ◌+◌, ◌-◌, ◌/◌, ◌%◌, ◌<◌, ◌≤◌, min, Bool, true, false, cond, ltb, leb, List, [], length, take, drop, get_or, Option, Some, None, refl, sym, ap, ◌∙◌, subst, inl, inr, arith}
use Rattle.std.proofs.lemmas.Bool.{le-leb, ltb-true, ltb-false, cond_both, false≢true}
use Rattle.std.proofs.lemmas.Nat.{div_below}
use Rattle.std.proofs.lemmas.List.{length-take, length-take-le, take-take, drop-take}
use Rattle.zb_types.specs.declared.ids.ServerId.{ServerId}
use Rattle.zb_types.specs.declared.ids.Ptr.{Ptr}
use Rattle.zb_types.specs.declared.requests.Request.{Request}
use Rattle.zb_types.specs.declared.requests.Request.TheVariants as ask
use Rattle.zb_types.specs.declared.requests.Response.{Response}
use Rattle.zb_types.specs.declared.requests.Response.TheVariants as told
use Rattle.zb_types.specs.declared.requests.StoreFault.TheVariants as fault
use Rattle.zb_holding.specs.Fragments.{Fragment, share_fragment, parity_fragment}
use Rattle.zb_holding.specs.Placing.{share_of, frag_id, server_of}
use Rattle.zb_holding.specs.Holding.{Maps, Begins, IsGoneOrReaches, StripeHolds, StripeRemains, standing, is_away, away_at, view_of}
use Rattle.zb_holding.specs.Carrying.{found, carried}
use Rattle.zb_stripe.specs.declared.read_plan.Got.{Got}
use Rattle.zb_stripe.specs.declared.read_plan.Got.TheVariants as got
use Rattle.zb_stripe.specs.declared.progress.Phase.{Phase}
use Rattle.zb_stripe.specs.declared.progress.Phase.TheVariants.{Direct, Lengths, Others}
use Rattle.zb_stripe.specs.Reading.{Reading, names_two, asked, fed, blocked_in, first_lost, is_gone, DidNotAnswer, IsLost}
use Rattle.zb_stripe_laws.specs.ReadAtWork.{LetsRead, lengths_seen, IsGoneOrSame, IsGoneOrLonger, StillStand, StillGrow, ReadAtWork, WasLooked, TellsOfFragment, AnswersWith, MayTell, as_seen, LeadsTo, AsksOther}
use Rattle.zb_stripe_laws.specs.ReadAtWork as work
use Rattle.zb_holding.proofs.Placings.{turn_once}
use Rattle.zb_stripe_laws.proofs.Away.{away_once}
use Rattle.zb_stripe_laws.proofs.Gathering.{Good, LacksIt, step, covers_it, direct_is_there, parity_is_there}
use Rattle.zb_stripe_laws.proofs.Left.{held_remains}
use Rattle.zb_stripe_laws.proofs.Letting.{carried_longer}

-- a range within the committed bytes is the same in lists that agree on these
same_range : (end o k : ℕ) (one other : List ℕ) → o + k ≤ end → take end one ≡ take end other → take k (drop o one) ≡ take k (drop o other)
same_range end o k one other le same =
    let cut = λ (w : List ℕ). sym (drop-take o k w) ∙ ap (drop o) (sym (take-take (o + k) end w le)) in
    cut one ∙ ap (λ w. drop o (take (o + k) w)) same ∙ sym (cut other)

-- of a share that is the same a range is answered as it was
found_still : (now seen : Option Fragment) (limit place len : ℕ) → IsGoneOrSame now seen limit → place + len ≤ limit → IsGoneOrReaches limit seen
    → (now ≡ None) ⊎ (found now place len ≡ found seen place len)
found_still None seen limit place len still le reach = inl refl
found_still (Some (share_fragment now)) (Some (share_fragment seen)) limit place len still le reach =
    let long = length-take-le limit seen reach in
    let lens = ap length still in
    let now_long : limit ≤ length now = omega (arith, length-take limit now) in
    let cut = λ (w : List ℕ). sym (drop-take place len w) ∙ ap (drop place) (sym (take-take (place + len) limit w le)) in
    let bytes = cut now ∙ ap (λ w. drop place (take (place + len) w)) still ∙ sym (cut seen) in
    inr (
    ap (λ (b : Bool). cond b (told.Bytes (take len (drop place now))) (told.Refused (fault.Short (length now)))) (le-leb (place + len) (length now) (omega arith))
    ∙ ap told.Bytes bytes
    ∙ sym (ap (λ (b : Bool). cond b (told.Bytes (take len (drop place seen))) (told.Refused (fault.Short (length seen)))) (le-leb (place + len) (length seen) (omega arith))))
found_still (Some (share_fragment now)) None limit place len still le reach = absurd still
found_still (Some (share_fragment now)) (Some (parity_fragment a b)) limit place len still le reach = absurd still
found_still (Some (parity_fragment a b)) None limit place len still le reach = absurd still
found_still (Some (parity_fragment a b)) (Some (share_fragment seen)) limit place len still le reach = absurd still
found_still (Some (parity_fragment a b)) (Some (parity_fragment c d)) limit place len still le reach = absurd still

-- a share that was gone and still begins the same is gone
still_gone : (now seen : Option Fragment) (limit : ℕ) → IsGoneOrSame now seen limit → seen ≡ None → now ≡ None
still_gone None seen limit still e = refl
still_gone (Some (share_fragment now)) seen limit still e = absurd (subst (λ (o : Option Fragment). IsGoneOrSame (Some (share_fragment now)) o limit) e still)
still_gone (Some (parity_fragment a b)) None limit still e = absurd still
still_gone (Some (parity_fragment a b)) (Some (share_fragment seen)) limit still e = absurd still
still_gone (Some (parity_fragment a b)) (Some (parity_fragment c d)) limit still e = absurd still

-- a share that is gone or the same stays so while it is gone or grows
still_longer : (new now seen : Option Fragment) (limit : ℕ) → IsGoneOrLonger new now → IsGoneOrSame now seen limit → IsGoneOrReaches limit seen → IsGoneOrSame new seen limit
still_longer None now seen limit longer still reach = tt
still_longer (Some (share_fragment new)) None seen limit longer still reach = absurd longer
still_longer (Some (share_fragment new)) (Some (parity_fragment a b)) seen limit longer still reach = absurd longer
still_longer (Some (parity_fragment a b)) now seen limit longer still reach = absurd longer
still_longer (Some (share_fragment new)) (Some (share_fragment now)) None limit longer still reach = absurd still
still_longer (Some (share_fragment new)) (Some (share_fragment now)) (Some (parity_fragment a b)) limit longer still reach = absurd still
still_longer (Some (share_fragment new)) (Some (share_fragment now)) (Some (share_fragment seen)) limit longer still reach =
    let long = length-take-le limit seen reach in
    let lens = ap length still in
    let now_long : limit ≤ length now = omega (arith, length-take limit now) in
    sym (ap (take limit) longer ∙ take-take limit (length now) new now_long) ∙ still

lengths_at : Option Fragment → List ℕ
lengths_at None = []
lengths_at (Some (share_fragment s)) = []
lengths_at (Some (parity_fragment lengths parity)) = lengths

-- one parity has one list of lengths
same_lengths : (o : Option Fragment) (lengths parity more other : List ℕ) → o ≡ Some (parity_fragment lengths parity) → o ≡ Some (parity_fragment more other) → lengths ≡ more
unfolding lengths_at
same_lengths o lengths parity more other a b = ap lengths_at (sym a ∙ b)

some_none : (k : ℕ) → Some k ≡ None → ⊥
some_none k e = absurd cc

abbrev Any : ServerId → Type 0
Any server = Unit {0}

-- who isn't there is the one that was asked
asked_alone : (maps : Maps) (x : Option ServerId) (request : Option (ServerId × Request)) (t : Response) → AnswersWith Any maps x request t → AnswersWith (DidNotAnswer request t) maps x request t
asked_alone maps x None t a = absurd a
asked_alone maps x (Some (server, ask.Store id bytes class)) t a = absurd a
asked_alone maps x (Some (server, ask.Append id place bytes)) t a = absurd a
asked_alone maps x (Some (server, ask.Parity id lengths bytes class)) t a = absurd a
asked_alone maps x (Some (server, ask.Retrieve id place len)) t (inl d) = inl ((refl, d.1), d.1)
asked_alone maps x (Some (server, ask.Retrieve id place len)) t (inr d) = inr d
asked_alone maps x (Some (server, ask.Delete id)) t a = absurd a
asked_alone maps x (Some (server, ask.Identify after)) t a = absurd a
asked_alone maps x (Some (server, ask.Fence generation)) t a = absurd a

-- what is found of a fragment tells of it
tells_of : (fragment : Fragment) (place len : ℕ) → TellsOfFragment (found (Some fragment) place len)
tells_of (share_fragment bytes) place len = cond_both (leb (place + len) (length bytes)) (told.Bytes (take len (drop place bytes))) (told.Refused (fault.Short (length bytes))) TellsOfFragment (λ _. tt) (λ _. tt)
tells_of (parity_fragment lengths parity) place len = tt

not_gone : (g other : Got) → g ≡ other → is_gone other ≡ false → g ≡ got.Gone → ⊥
not_gone g other e isnt gone = false≢true (sym isnt ∙ ap is_gone (sym e ∙ gone))

module _ (n f : ℕ) (ptr : Ptr) (end : ℕ) (two : 2 ≤ n) (some : 0 < f) (inside : ptr.offset + ptr.len ≤ end) where
  abbrev mk : List Bool → List ℕ → Phase → Reading
  mk lost read phase = record { servers = n; fragment = f; ptr = ptr; lost = lost; read = read; phase = phase }

  abbrev At : ℕ → ServerId
  At k = server_of n (frag_id ptr.log ptr.stripe k)

  abbrev Asked : List Bool → List ℕ → Phase → Response → ServerId → Type 0
  Asked lost read phase t server = DidNotAnswer (asked (mk lost read phase)) t server

  -- what is read so far is so from each maps that hold the same committed bytes
  moved : (one other : List ℕ) (lost : List Bool) (read : List ℕ) → take end one ≡ take end other → work.SoFar n f ptr one lost read → work.SoFar n f ptr other lost read
  moved one other lost read same so =
      let within = so.within in
      record { count = so.count; within = so.within; begins = so.begins ∙ same_range end ptr.offset (length read) one other (omega arith) same }

  -- two servers of a stripe that are lost are named with the lesser first
  two_named : (now seen : Maps) (x y : Option ServerId) (bytes : List ℕ) (before : Reading) (t : Response) (r : Reading) (i j : ℕ) → i < n → j < n → j ≢ i
      → IsLost before (asked before) t (At i) → IsLost before (asked before) t (At j) → LeadsTo now seen x y end bytes before t r (names_two (At i) (At j))
  two_named now seen x y bytes before t r i j il jl ne one other =
      cond_both (ltb (At i).0 (At j).0) (got.Unreachable (At i) (At j)) (got.Unreachable (At j) (At i)) (LeadsTo now seen x y end bytes before t r)
      (λ less. (ltb-true (At i).0 (At j).0 less, one, other))
      (λ not_less.
      let le = ltb-false (At i).0 (At j).0 not_less in
      let differ : (At i).0 ≢ (At j).0 = λ e. ne (turn_once n (ptr.log.0 + ptr.stripe) j i jl il (omega arith)) in
      (omega (arith, differ), other, one))

  module _ (now seen : Maps) (x y : Option ServerId) (bytes : List ℕ) (remains : StripeRemains (view_of n f now x) ptr.log ptr.stripe end bytes) where
    self_share : (o : Option Fragment) (bs : List ℕ) (limit : ℕ) → Begins o bs → IsGoneOrSame o o limit
    self_share None bs limit b = tt
    self_share (Some (share_fragment s)) bs limit b = refl
    self_share (Some (parity_fragment a c)) bs limit b = absurd b

    still_self : (phase : Phase) → StillStand n ptr now now x phase
    still_self Direct = tt
    still_self Lengths = tt
    still_self (Others lengths sum k) = λ j l covers a. self_share (standing n now ptr.log ptr.stripe j) (share_of f bytes j) (get_or lengths j 0) (remains.shares j l a).begins

    -- a read of the maps of now
    pub at_work : (lost : List Bool) (read : List ℕ) (phase : Phase) → work.SoFar n f ptr bytes lost read
        → work.PhaseFits n f ptr now x bytes lost read phase → blocked_in (mk lost read phase) phase ≡ None → ReadAtWork now now x end bytes (mk lost read phase)
    at_work lost read phase so fits clear = record { then_bytes = bytes; remained = remains; same = refl; so_far = so; fits = fits; still = still_self phase; clear = clear }

    -- as a read starts, one server at most is lost
    once_lost : (out : Option ServerId) (k j : ℕ) (b : Bool) → get_or (first_lost n ptr out) k false ≡ b → (ask : Option ℕ) → cond b (Some k) None ≡ ask
        → ((i : ℕ) → i < n → get_or (first_lost n ptr out) i false ≡ true → is_away out (At i) ≡ true)
        → k < n → j < n → k ≢ j → get_or (first_lost n ptr out) j false ≡ true → ask ≡ None
    once_lost out k j true e ask is known kn jn ne gone = absurd (ne (away_once n out ptr.log ptr.stripe k j kn jn (known k kn e) (known j jn gone)))
    once_lost out k j false e ask is known kn jn ne gone = sym is

    pub starts_clear : (out : Option ServerId) (phase : Phase) → ((i : ℕ) → i < n → get_or (first_lost n ptr out) i false ≡ true → is_away out (At i) ≡ true)
        → work.PhaseFits n f ptr now x bytes (first_lost n ptr out) [] phase → blocked_in (mk (first_lost n ptr out) [] phase) phase ≡ None
    starts_clear out Direct known fits = refl
    starts_clear out Lengths known fits =
        let below = fits.below in
        let whole = remains.whole in
        let room = remains.room in
        let index = div_below (ptr.offset + 0) f (n - 1) some (omega arith) in
        once_lost out (n - 1) ((ptr.offset + 0) / f) (get_or (first_lost n ptr out) (n - 1) false) refl (blocked_in (mk (first_lost n ptr out) [] Lengths) Lengths) refl
        known (omega arith) (omega arith) (λ e. omega arith) fits.gone
    starts_clear out (Others lengths sum j) known fits =
        let q = fits.1 in
        let miss = q.missing in
        let below = miss.below in
        let whole = remains.whole in
        let room = remains.room in
        let jn = q.index in
        let index = div_below (ptr.offset + 0) f (n - 1) some (omega arith) in
        once_lost out j ((ptr.offset + 0) / f) (get_or (first_lost n ptr out) j false) refl (blocked_in (mk (first_lost n ptr out) [] (Others lengths sum j)) (Others lengths sum j)) refl
        known (omega arith) (omega arith) q.other miss.gone

    module _ (lost : List Bool) (read : List ℕ) (phase : Phase) (t : Response) where
      abbrev Before : Reading
      Before = mk lost read phase

      abbrev Leads : Reading × Got → Type 0
      Leads p = LeadsTo now seen x y end bytes Before t p.0 p.1

      is_lost_at : (k : ℕ) → k < n → (get_or lost k false ≡ true) ⊎ Asked lost read phase t (At k) → IsLost Before (asked Before) t (At k)
      is_lost_at k l e = record { index = k; below = l; at = refl; lost = e }

      -- the maps of now are those in which the parity is seen
      abbrev SeenNow : Type 0
      SeenNow = (later : List Bool) (more : List ℕ) (next : Phase) → ReadAtWork now now x end bytes (mk later more next)
          → ReadAtWork now (as_seen phase now seen) (as_seen phase x y) end bytes (mk later more next)

      from_now : (p : Reading × Got) → SeenNow
          → Good n f (Asked lost read phase t) now x ptr end bytes two some inside remains p lost (work.answers_left n f ptr read phase) → Leads p
      from_now p is_now (inl g) =
          subst (LeadsTo now seen x y end bytes Before t p.0) (sym g.more)
          (subst (λ (r : Reading). LeadsTo now seen x y end bytes Before t r got.More) (sym g.is)
          (record {
            servers = refl;
            fragment = refl;
            ptr = refl;
            work = is_now g.lost g.read g.phase (at_work g.lost g.read g.phase g.so_far g.fits g.clear);
            fewer = g.less;
            loses = g.known;
            keeps = g.kept;
          }))
      from_now p is_now (inr (inl e)) = subst (LeadsTo now seen x y end bytes Before t p.0) (sym e) refl
      from_now p is_now (inr (inr b)) =
          subst (LeadsTo now seen x y end bytes Before t p.0) (sym b.is)
          (two_named now seen x y bytes Before t p.0 b.i b.j b.first b.second b.differ (is_lost_at b.i b.first b.one) (is_lost_at b.j b.second b.other))

      lacks_asked : (request : Option (ServerId × Request)) → LacksIt n f (Asked lost read phase t) now x ptr end bytes two some inside remains request → work.LacksAsked now request
      lacks_asked None l = absurd l
      lacks_asked (Some (server, ask.Store id bs class)) l = absurd l
      lacks_asked (Some (server, ask.Append id place bs)) l = absurd l
      lacks_asked (Some (server, ask.Parity id lengths bs class)) l = absurd l
      lacks_asked (Some (server, ask.Retrieve id place len)) l = l.1
      lacks_asked (Some (server, ask.Delete id)) l = absurd l
      lacks_asked (Some (server, ask.Identify after)) l = absurd l
      lacks_asked (Some (server, ask.Fence generation)) l = absurd l

      now_on : SeenNow → work.SoFar n f ptr bytes lost read → work.PhaseFits n f ptr now x bytes lost read phase → AnswersWith Any now x (asked Before) t → Leads (fed Before t)
      now_on is_now so fits a = elim (step n f (Asked lost read phase t) now x ptr end bytes two some inside remains lost read phase t so fits (asked_alone now x (asked Before) t a)) as (λ _. Leads (fed Before t)) [
        | inl good ↦ from_now (fed Before t) is_now good
        | inr gone ↦ subst (LeadsTo now seen x y end bytes Before t (fed Before t).0) (sym gone.0) (lacks_asked (asked Before) gone.1)
      ]

    module _ (lost : List Bool) (read lengths sum : List ℕ) (j : ℕ) (t : Response) (w : ReadAtWork now seen y end bytes (mk lost read (Others lengths sum j))) where
      abbrev Others_before : Reading
      Others_before = mk lost read (Others lengths sum j)

      still_later : (later : List Bool) (more : List ℕ) (phase : Phase) → work.PhaseFits n f ptr seen y w.then_bytes later more phase → StillStand n ptr now seen y phase
      still_later later more Direct fits = tt
      still_later later more Lengths fits = tt
      still_later later more (Others ls sum' k) fits = λ i l covers a.
          let same = same_lengths (standing n seen ptr.log ptr.stripe (n - 1)) lengths w.fits.0 ls fits.0 w.fits.1.stands fits.1.stands in
          let at = ap (λ (z : List ℕ). get_or z i 0) same in
          subst (λ (z : List ℕ). IsGoneOrSame (standing n now ptr.log ptr.stripe i) (standing n seen ptr.log ptr.stripe i) (get_or z i 0)) same (w.still i l (omega arith) a)

      from_seen : (p : Reading × Got)
          → Good n f (Asked lost read (Others lengths sum j) t) seen y ptr end w.then_bytes two some inside w.remained p lost (work.answers_left n f ptr read (Others lengths sum j))
          → LeadsTo now seen x y end bytes Others_before t p.0 p.1
      from_seen p (inl g) =
          subst (LeadsTo now seen x y end bytes Others_before t p.0) (sym g.more)
          (subst (λ (r : Reading). LeadsTo now seen x y end bytes Others_before t r got.More) (sym g.is)
          (record {
            servers = refl;
            fragment = refl;
            ptr = refl;
            work = record {
              then_bytes = w.then_bytes;
              remained = w.remained;
              same = w.same;
              so_far = g.so_far;
              fits = g.fits;
              still = still_later g.lost g.read g.phase g.fits;
              clear = g.clear;
            };
            fewer = g.less;
            loses = g.known;
            keeps = g.kept;
          }))
      from_seen p (inr (inl e)) =
          subst (LeadsTo now seen x y end bytes Others_before t p.0) (sym e) (same_range end ptr.offset ptr.len w.then_bytes bytes inside w.same)
      from_seen p (inr (inr b)) =
          subst (LeadsTo now seen x y end bytes Others_before t p.0) (sym b.is)
          (two_named now seen x y bytes Others_before t p.0 b.i b.j b.first b.second b.differ
          (is_lost_at lost read (Others lengths sum j) t b.i b.first b.one) (is_lost_at lost read (Others lengths sum j) t b.j b.second b.other))

      seen_on : AnswersWith Any seen y (asked Others_before) t → LeadsTo now seen x y end bytes Others_before t (fed Others_before t).0 (fed Others_before t).1
      seen_on a =
          let q = w.fits.1 in
          let reached = q.reached in
          elim (step n f (Asked lost read (Others lengths sum j) t) seen y ptr end w.then_bytes two some inside w.remained lost read (Others lengths sum j) t w.so_far w.fits (asked_alone seen y (asked Others_before) t a))
          as (λ _. LeadsTo now seen x y end bytes Others_before t (fed Others_before t).0 (fed Others_before t).1) [
            | inl good ↦ from_seen (fed Others_before t) good
            | inr gone ↦
                subst (LeadsTo now seen x y end bytes Others_before t (fed Others_before t).0) (sym gone.0)
                (still_gone (standing n now ptr.log ptr.stripe j) (standing n seen ptr.log ptr.stripe j) (get_or lengths j 0) (w.still j q.index (omega arith) gone.1.0) gone.1.1)
          ]

      -- what is answered of the share that is asked
      of_share : (o : Option Fragment) → standing n now ptr.log ptr.stripe j ≡ o
          → (TellsOfFragment t → WasLooked n ptr y (Others lengths sum j))
          → t ≡ found o ((ptr.offset + length read) % f) (min (min (ptr.offset + ptr.len - (ptr.offset + length read)) (f - (ptr.offset + length read) % f)) (get_or lengths j 0 - (ptr.offset + length read) % f))
          → LeadsTo now seen x y end bytes Others_before t (fed Others_before t).0 (fed Others_before t).1
      of_share None none looked is =
          subst (LeadsTo now seen x y end bytes Others_before t (fed Others_before t).0) (sym (ap (λ (r : Response). (fed Others_before r).1) is)) none
      of_share (Some fragment) there looked is =
          let q = w.fits.1 in
          let at = (ptr.offset + length read) % f in
          let len = min (min (ptr.offset + ptr.len - (ptr.offset + length read)) (f - at)) (get_or lengths j 0 - at) in
          let was = looked (subst TellsOfFragment (sym is) (tells_of fragment at len)) in
          let c = covers_it n f Any seen y ptr end w.then_bytes two some inside w.remained lengths w.fits.0 q.stands q.looked in
          let reached = q.reached in
          elim (found_still (standing n now ptr.log ptr.stripe j) (standing n seen ptr.log ptr.stripe j) (get_or lengths j 0) at len (w.still j q.index (omega arith) was) (omega arith) (c.stored j q.index was))
          as (λ _. LeadsTo now seen x y end bytes Others_before t (fed Others_before t).0 (fed Others_before t).1) [
            | inl none ↦
                subst (LeadsTo now seen x y end bytes Others_before t (fed Others_before t).0)
                (sym (ap (λ (r : Response). (fed Others_before r).1) (is ∙ ap (λ (o : Option Fragment). found o at len) (sym there ∙ none)))) none
            | inr same ↦ seen_on (inr (was, is ∙ ap (λ (o : Option Fragment). found o at len) (sym there) ∙ same))
          ]

      others_go_on : (TellsOfFragment t → WasLooked n ptr y (Others lengths sum j)) → AnswersWith Any now x (asked Others_before) t
          → LeadsTo now seen x y end bytes Others_before t (fed Others_before t).0 (fed Others_before t).1
      others_go_on looked (inl down) = seen_on (inl down)
      others_go_on looked (inr is) = of_share (standing n now ptr.log ptr.stripe j) refl looked is.1

    abbrev Result : List Bool → List ℕ → Phase → Response → Type 0
    Result lost read phase t = LeadsTo now seen x y end bytes (mk lost read phase) t (fed (mk lost read phase) t).0 (fed (mk lost read phase) t).1

    -- a fence that is newer ends the read
    old_ends : (lost : List Bool) (read : List ℕ) (phase : Phase) (generation : ℕ) → Result lost read phase (told.Refused (fault.OldGeneration generation))
    old_ends lost read Direct generation = refl
    old_ends lost read Lengths generation = refl
    old_ends lost read (Others lengths sum j) generation = refl

    answered_on : (lost : List Bool) (read : List ℕ) (phase : Phase) (t : Response) (w : ReadAtWork now seen y end bytes (mk lost read phase))
        → (TellsOfFragment t → WasLooked n ptr y phase) → AnswersWith Any now x (asked (mk lost read phase)) t → Result lost read phase t
    answered_on lost read Direct t w looked a = now_on lost read Direct t (λ later more next at. at) (moved w.then_bytes bytes lost read w.same w.so_far) w.fits a
    answered_on lost read Lengths t w looked a = now_on lost read Lengths t (λ later more next at. at) (moved w.then_bytes bytes lost read w.same w.so_far) w.fits a
    answered_on lost read (Others lengths sum j) t w looked a = others_go_on lost read lengths sum j t w looked a

    pub goes_on : (lost : List Bool) (read : List ℕ) (phase : Phase) (t : Response) (w : ReadAtWork now seen y end bytes (mk lost read phase))
        → (TellsOfFragment t → WasLooked n ptr y phase) → MayTell now x (asked (mk lost read phase)) t → Result lost read phase t
    goes_on lost read phase t w looked (inl a) = answered_on lost read phase t w looked a
    goes_on lost read phase t w looked (inr old) = subst (Result lost read phase) (sym old.1) (old_ends lost read phase old.0)

  -- of a stripe that is held, only another share may be gone
  module _ (now seen : Maps) (x y : Option ServerId) (bytes : List ℕ) (held : StripeHolds (view_of n f now x) ptr.log ptr.stripe end bytes) where
    rest : StripeRemains (view_of n f now x) ptr.log ptr.stripe end bytes
    rest = held_remains (n - 1) f (standing n now ptr.log ptr.stripe) (away_at n x ptr.log ptr.stripe) end bytes held

    good_stays : (lost : List Bool) (m : ℕ) (p : Reading × Got) → Good n f Any now x ptr end bytes two some inside rest p lost m → p.1 ≡ got.Gone → ⊥
    good_stays lost m p (inl g) gone = not_gone p.1 got.More g.more refl gone
    good_stays lost m p (inr (inl e)) gone = not_gone p.1 (got.Bytes (take ptr.len (drop ptr.offset bytes))) e refl gone
    good_stays lost m p (inr (inr b)) gone =
        not_gone p.1 (names_two (At b.i) (At b.j)) b.is
        (cond_both (ltb (At b.i).0 (At b.j).0) (got.Unreachable (At b.i) (At b.j)) (got.Unreachable (At b.j) (At b.i)) (λ g. is_gone g ≡ false) (λ _. refl) (λ _. refl)) gone

    old_stays : (lost : List Bool) (read : List ℕ) (phase : Phase) (generation : ℕ) → (fed (mk lost read phase) (told.Refused (fault.OldGeneration generation))).1 ≡ got.Gone → ⊥
    old_stays lost read Direct generation gone = false≢true (ap is_gone gone)
    old_stays lost read Lengths generation gone = false≢true (ap is_gone gone)
    old_stays lost read (Others lengths sum j) generation gone = false≢true (ap is_gone gone)

    none_gone : (lost : List Bool) (read : List ℕ) (phase : Phase) (t : Response) → work.SoFar n f ptr bytes lost read → work.PhaseFits n f ptr now x bytes lost read phase
        → (LacksIt n f Any now x ptr end bytes two some inside rest (asked (mk lost read phase)) → ⊥)
        → MayTell now x (asked (mk lost read phase)) t → (fed (mk lost read phase) t).1 ≡ got.Gone → ⊥
    none_gone lost read phase t so fits there (inl a) gone = elim (step n f Any now x ptr end bytes two some inside rest lost read phase t so fits a) as (λ _. ⊥) [
      | inl good ↦ good_stays lost (work.answers_left n f ptr read phase) (fed (mk lost read phase) t) good gone
      | inr lacks ↦ there lacks.1
    ]
    none_gone lost read phase t so fits there (inr old) gone = old_stays lost read phase old.0 (ap (λ (r : Response). (fed (mk lost read phase) r).1) (sym old.1) ∙ gone)

    pub gone_other : (lost : List Bool) (read : List ℕ) (phase : Phase) (t : Response) → ReadAtWork now seen y end bytes (mk lost read phase)
        → MayTell now x (asked (mk lost read phase)) t → (fed (mk lost read phase) t).1 ≡ got.Gone → AsksOther phase
    gone_other lost read Direct t w a gone =
        none_gone lost read Direct t (moved w.then_bytes bytes lost read w.same w.so_far) w.fits (direct_is_there n f Any now x ptr end bytes two some inside rest held lost read) a gone
    gone_other lost read Lengths t w a gone =
        none_gone lost read Lengths t (moved w.then_bytes bytes lost read w.same w.so_far) w.fits (parity_is_there n f Any now x ptr end bytes two some inside rest held lost read) a gone
    gone_other lost read (Others lengths sum j) t w a gone = tt

  -- a read at work stays so over other maps and bytes
  module _ (now new seen : Maps) (y : Option ServerId) (bytes other : List ℕ) (same : take end bytes ≡ take end other) where
    stays_still : (lost : List Bool) (read : List ℕ) (phase : Phase) (w : ReadAtWork now seen y end bytes (mk lost read phase))
        → StillGrow n ptr now new seen y phase → StillStand n ptr new seen y phase
    stays_still lost read Direct w longer = tt
    stays_still lost read Lengths w longer = tt
    stays_still lost read (Others lengths sum k) w longer = λ j l covers a.
        let q = w.fits.1 in
        let c = covers_it n f Any seen y ptr end w.then_bytes two some inside w.remained lengths w.fits.0 q.stands q.looked in
        elim (longer j l covers a) as (λ _. IsGoneOrSame (standing n new ptr.log ptr.stripe j) (standing n seen ptr.log ptr.stripe j) (get_or lengths j 0)) [
          | inl grows ↦ still_longer (standing n new ptr.log ptr.stripe j) (standing n now ptr.log ptr.stripe j) (standing n seen ptr.log ptr.stripe j) (get_or lengths j 0) grows (w.still j l covers a) (c.stored j l a)
          | inr back ↦ back
        ]

    pub stays : (lost : List Bool) (read : List ℕ) (phase : Phase) (w : ReadAtWork now seen y end bytes (mk lost read phase))
        → StillGrow n ptr now new seen y phase → ReadAtWork new seen y end other (mk lost read phase)
    stays lost read phase w longer = record {
      then_bytes = w.then_bytes;
      remained = w.remained;
      same = w.same ∙ same;
      so_far = w.so_far;
      fits = w.fits;
      still = stays_still lost read phase w longer;
      clear = w.clear;
    }

  -- where the server that wasn't looked at is lost, the share that is asked was looked at
  module _ (now seen : Maps) (y : Option ServerId) (bytes : List ℕ) where
    clear_looked : (j : ℕ) (away there : Bool) → (away ≡ true → there ≡ true) → cond there (Some j) None ≡ None → away ≡ false
    clear_looked j false there h clear = refl
    clear_looked j true there h clear = absurd (some_none j (sym (ap (λ (z : Bool). cond z (Some j) None) (h refl)) ∙ clear))

    pub was_looked : (lost : List Bool) (read : List ℕ) (phase : Phase) → ReadAtWork now seen y end bytes (mk lost read phase)
        → ((k : ℕ) → k < n → away_at n y ptr.log ptr.stripe k ≡ true → get_or lost k false ≡ true) → WasLooked n ptr y phase
    was_looked lost read Direct w gone = tt
    was_looked lost read Lengths w gone = tt
    was_looked lost read (Others lengths sum j) w gone =
        let jn = w.fits.1.index in
        clear_looked j (away_at n y ptr.log ptr.stripe j) (get_or lost j false) (gone j (omega arith)) w.clear

-- a read at work stays so beside a request that lets it
module _ (now : Maps) (asked_of : ServerId × Request) where
  let_on : (r : Reading) (phase : Phase) → r.phase ≡ phase → (y : Option ServerId) (seen : Maps) → LetsRead r asked_of.1
      → StillStand r.servers r.ptr now seen y phase → StillGrow r.servers r.ptr now (carried now asked_of) seen y phase
  let_on r Direct is y seen lets still = tt
  let_on r Lengths is y seen lets still = tt
  let_on r (Others lengths sum k) is y seen lets still = λ j l covers a.
      inl (carried_longer r j l (subst (λ (p : Phase). 0 < get_or (lengths_seen p) j 0) (sym is) covers) now asked_of
      (standing r.servers seen r.ptr.log r.ptr.stripe j) (get_or lengths j 0) lets (still j l covers a))

  pub beside_request : (r : Reading) (end : ℕ) (bytes : List ℕ) → 2 ≤ r.servers → 0 < r.fragment → r.ptr.offset + r.ptr.len ≤ end
      → LetsRead r asked_of.1 → (seen : Maps) (y : Option ServerId) → ReadAtWork now seen y end bytes r → ReadAtWork (carried now asked_of) seen y end bytes r
  beside_request r end bytes two some inside lets seen y w =
      stays r.servers r.fragment r.ptr end two some inside now (carried now asked_of) seen y bytes bytes refl r.lost r.read r.phase w
      (let_on r r.phase refl y seen lets w.still)
