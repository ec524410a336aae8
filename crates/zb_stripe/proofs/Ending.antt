-- How a read ends.
use Rattle.std.proofs.Common.{◌≡◌, ◌≢◌, ℕ, zero, suc, ◌+◌, ◌-◌, ◌*◌, ◌<◌, ◌≤◌, min, Bool, true, false, ◌&&◌, ◌||◌, cond, eqb, ltb, leb, List, ◌++◌, Option, Some, None, get_or, refl, sym, ap, subst, ◌⊎◌, inl, inr, arith}
use Rattle.std.proofs.lemmas.Bool.{cond_both, lt-ltb, ltb-true, ltb-false, eqb-false, and_parts, or_parts}
use Rattle.std.proofs.lemmas.Nat.{div_below}
use Rattle.zb_types.specs.declared.ids.ServerId.{ServerId}
use Rattle.zb_types.specs.declared.requests.Request.{Request}
use Rattle.zb_types.specs.declared.requests.Request.TheVariants as ask
use Rattle.zb_types.specs.declared.requests.Response.{Response}
use Rattle.zb_types.specs.declared.requests.Response.TheVariants as told
use Rattle.zb_types.specs.declared.requests.StoreFault.TheVariants as fault
use Rattle.zb_holding.specs.Exclusive.{xored}
use Rattle.zb_holding.proofs.Placings.{turn_once}
use Rattle.zb_stripe.specs.declared.read_plan.Got.{Got}
use Rattle.zb_stripe.specs.declared.read_plan.Got.TheVariants as got
use Rattle.zb_stripe.specs.declared.progress.Phase.{Phase}
use Rattle.zb_stripe.specs.declared.progress.Phase.TheVariants.{Direct, Lengths, Others}
use Rattle.zb_stripe.specs.Reading.{Reading, pos_of, end_of, index_of, place_of, server_at, is_lost, with_phase, entered, own_lost, sought, names_two, two_lost, gained, gained_by, own_gone, fed_in, PhaseIsSound, AnswersIn, AnswersRetrieve, Answers, CanRead, frag_at, len_of, asked_in, asked, lacks_bytes, is_gone, IsNotThere, DidNotAnswer, IsLost, NamesLost, OwnIsLost}

-- a range before the end lies in a share
pub index_below : (r : Reading) → r.ptr.offset + r.ptr.len ≤ (r.servers - 1) * r.fragment → 0 < r.fragment → pos_of r < end_of r → index_of r < r.servers - 1
index_below r room some below = div_below (pos_of r) r.fragment (r.servers - 1) some (omega arith)

-- what an answer to a request makes of a read
module _ (before : Reading) (asking : Option (ServerId × Request)) (t : Response) where
  -- the answer names two servers that are lost where it names any, and isn't Gone
  abbrev Fine : Got → Type 0
  Fine g = NamesLost before asking t g × (is_gone g ≡ false)

  -- the server of fragment k is lost
  abbrev LostAt : ℕ → Type 0
  LostAt k = (is_lost before k ≡ true) ⊎ DidNotAnswer asking t (server_at before k)

  two_fine : (own k : ℕ) → k < before.servers → own < before.servers → k ≢ own → LostAt own → LostAt k → Fine (names_two (server_at before own) (server_at before k))
  two_fine own k kn on ne one other =
      let a = server_at before own in
      let b = server_at before k in
      let first : IsLost before asking t a = record { index = own; below = on; at = refl; lost = one } in
      let second : IsLost before asking t b = record { index = k; below = kn; at = refl; lost = other } in
      cond_both (ltb a.0 b.0) (got.Unreachable a b) (got.Unreachable b a) Fine
      (λ less. ((ltb-true a.0 b.0 less, first, second), refl))
      (λ not_less.
      let le = ltb-false a.0 b.0 not_less in
      let differ : a.0 ≢ b.0 = λ e. ne (turn_once before.servers (before.ptr.log.0 + before.ptr.stripe) k own kn on (omega arith)) in
      ((omega (arith, differ), second, first), refl))

  on_fine : (r : Reading) → Fine (cond (ltb (pos_of r) (end_of r)) got.More (got.Bytes r.read))
  on_fine r = cond_both (ltb (pos_of r) (end_of r)) got.More (got.Bytes r.read) Fine (λ e. (tt, refl)) (λ e. (tt, refl))

  module _ (room : before.ptr.offset + before.ptr.len ≤ (before.servers - 1) * before.fragment) (some : 0 < before.fragment) where
    -- a read that has these bytes
    abbrev with_read : List ℕ → Reading
    with_read read = record { servers = before.servers; fragment = before.fragment; ptr = before.ptr; lost = before.lost; read = read; phase = Direct }

    entered_fine : (read : List ℕ) → Fine (gained before (entered (with_read read))).1
    entered_fine read =
        let r = with_read read in
        let test = ltb (pos_of r) (end_of r) && is_lost r (index_of r) in
        cond_both test Lengths Direct (λ p. Fine (gained before (with_phase r p)).1)
        (λ e.
        let parts = and_parts (ltb (pos_of r) (end_of r)) (is_lost r (index_of r)) e in
        let below = ltb-true (pos_of r) (end_of r) parts.0 in
        let own = index_below r room some below in
        cond_both (is_lost r (r.servers - 1)) (Some (r.servers - 1)) None (λ o. Fine (gained_by before (with_phase r Lengths) o).1)
        (λ gone. two_fine (index_of r) (r.servers - 1) (omega arith) (omega arith) (λ q. omega arith) (inl parts.1) (inl gone)) (λ _. on_fine r))
        (λ _. on_fine r)

    sought_fine : (lengths sum : List ℕ) (rest : ℕ) → pos_of before < end_of before → is_lost before (index_of before) ≡ true → Fine (gained before (sought before lengths sum rest)).1
    sought_fine lengths sum zero below gone = entered_fine (before.read ++ sum)
    sought_fine lengths sum (suc rest) below gone =
        let k = before.servers - 1 - suc rest in
        let own = index_below before room some below in
        cond_both (eqb k (index_of before) || leb (get_or lengths k 0) (place_of before)) (sought before lengths sum rest) (with_phase before (Others lengths sum k)) (λ z. Fine (gained before z).1)
        (λ _. sought_fine lengths sum rest below gone)
        (λ e.
        let ne = eqb-false k (index_of before) (or_parts (eqb k (index_of before)) (leb (get_or lengths k 0) (place_of before)) e).0 in
        cond_both (is_lost before k) (Some k) None (λ o. Fine (gained_by before (with_phase before (Others lengths sum k)) o).1)
        (λ other. two_fine (index_of before) k (omega arith) (omega arith) ne (inl gone) (inl other)) (λ _. on_fine before))

module _ (r : Reading) (room : r.ptr.offset + r.ptr.len ≤ (r.servers - 1) * r.fragment) (some : 0 < r.fragment) (below : pos_of r < end_of r) where
  -- what an answer at a phase comes to is Gone where the bytes aren't there, and names two servers that are lost where it
  -- names any
  abbrev pub Right : Phase → Response → Got → Type 0
  Right phase t g = NamesLost r (asked_in r phase) t g × (is_gone g ≡ lacks_bytes t)

  -- the range's own server was asked
  asks_own : asked_in r Direct ≡ Some (server_at r (index_of r), ask.Retrieve (frag_at r (index_of r)) (place_of r) (len_of r))
  asks_own = ap (λ (b : Bool). cond b (Some (server_at r (index_of r), ask.Retrieve (frag_at r (index_of r)) (place_of r) (len_of r))) None) (lt-ltb (pos_of r) (end_of r) below)

  own_fine : (t : Response) → IsNotThere t → Fine r (asked_in r Direct) t (own_gone r).1
  own_fine t down =
      let own = index_below r room some below in
      let stays : Reading × Got = (r, two_lost r (r.servers - 1)) in
      let goes : Reading × Got = (own_lost r, got.More) in
      cond_both (is_lost r (r.servers - 1)) stays goes (λ p. Fine r (asked_in r Direct) t p.1)
      (λ gone. two_fine r (asked_in r Direct) t (index_of r) (r.servers - 1) (omega arith) (omega arith) (λ q. omega arith)
      (inr (subst (λ (o : Option (ServerId × Request)). DidNotAnswer o t (server_at r (index_of r))) (sym asks_own) (refl, down))) (inl gone))
      (λ _. (tt, refl))

  parity_fine : (t : Response) → IsNotThere t → is_lost r (index_of r) ≡ true → Fine r (asked_in r Lengths) t (two_lost r (r.servers - 1))
  parity_fine t down gone =
      let own = index_below r room some below in
      two_fine r (asked_in r Lengths) t (index_of r) (r.servers - 1) (omega arith) (omega arith) (λ q. omega arith) (inl gone) (inr (refl, down))

  other_fine : (lengths sum : List ℕ) (k : ℕ) (t : Response) → IsNotThere t → k < r.servers - 1 → k ≢ index_of r → is_lost r (index_of r) ≡ true → Fine r (asked_in r (Others lengths sum k)) t (two_lost r k)
  other_fine lengths sum k t down l ne gone =
      let own = index_below r room some below in
      two_fine r (asked_in r (Others lengths sum k)) t (index_of r) k (omega arith) (omega arith) ne (inl gone) (inr (refl, down))

  pub right_in : (phase : Phase) (t : Response) → PhaseIsSound r phase → OwnIsLost r phase → AnswersIn r phase t → Right phase t (fed_in r phase t).1
  right_in Direct told.Done s o a = absurd a
  right_in Direct (told.Bytes bytes) s o a = entered_fine r (asked_in r Direct) (told.Bytes bytes) room some (r.read ++ bytes)
  right_in Direct (told.Parity lengths bytes) s o a = absurd a
  right_in Direct (told.Ids ids) s o a = absurd a
  right_in Direct (told.Refused fault.NoFragment) s o a = (tt, refl)
  right_in Direct (told.Refused fault.Exists) s o a = absurd a
  right_in Direct (told.Refused (fault.Offset len)) s o a = absurd a
  right_in Direct (told.Refused (fault.Short len)) s o a = (tt, refl)
  right_in Direct (told.Refused (fault.NoSlot free)) s o a = absurd a
  right_in Direct (told.Refused fault.Stopped) s o a = absurd a
  right_in Direct (told.Refused (fault.OldGeneration now)) s o a = (tt, refl)
  right_in Direct (told.Refused fault.NoMemory) s o a = (tt, refl)
  right_in Direct told.Down s o a = own_fine told.Down tt
  right_in Direct told.Blank s o a = own_fine told.Blank tt
  right_in Lengths told.Done s o a = absurd a
  right_in Lengths (told.Bytes bytes) s o a = absurd a
  right_in Lengths (told.Parity lengths bytes) s o a = sought_fine r (asked_in r Lengths) (told.Parity lengths bytes) room some lengths bytes (r.servers - 1) below o
  right_in Lengths (told.Ids ids) s o a = absurd a
  right_in Lengths (told.Refused fault.NoFragment) s o a = (tt, refl)
  right_in Lengths (told.Refused fault.Exists) s o a = absurd a
  right_in Lengths (told.Refused (fault.Offset len)) s o a = absurd a
  right_in Lengths (told.Refused (fault.Short len)) s o a = (tt, refl)
  right_in Lengths (told.Refused (fault.NoSlot free)) s o a = absurd a
  right_in Lengths (told.Refused fault.Stopped) s o a = absurd a
  right_in Lengths (told.Refused (fault.OldGeneration now)) s o a = (tt, refl)
  right_in Lengths (told.Refused fault.NoMemory) s o a = (tt, refl)
  right_in Lengths told.Down s o a = parity_fine told.Down tt o
  right_in Lengths told.Blank s o a = parity_fine told.Blank tt o
  right_in (Others ls sum k) told.Done s o a = absurd a
  right_in (Others ls sum k) (told.Bytes bytes) s o a = sought_fine r (asked_in r (Others ls sum k)) (told.Bytes bytes) room some ls (xored sum bytes) (r.servers - 1 - (k + 1)) below o
  right_in (Others ls sum k) (told.Parity lengths bytes) s o a = absurd a
  right_in (Others ls sum k) (told.Ids ids) s o a = absurd a
  right_in (Others ls sum k) (told.Refused fault.NoFragment) s o a = (tt, refl)
  right_in (Others ls sum k) (told.Refused fault.Exists) s o a = absurd a
  right_in (Others ls sum k) (told.Refused (fault.Offset len)) s o a = absurd a
  right_in (Others ls sum k) (told.Refused (fault.Short len)) s o a = (tt, refl)
  right_in (Others ls sum k) (told.Refused (fault.NoSlot free)) s o a = absurd a
  right_in (Others ls sum k) (told.Refused fault.Stopped) s o a = absurd a
  right_in (Others ls sum k) (told.Refused (fault.OldGeneration now)) s o a = (tt, refl)
  right_in (Others ls sum k) (told.Refused fault.NoMemory) s o a = (tt, refl)
  right_in (Others ls sum k) told.Down s o a = other_fine ls sum k told.Down tt s.index s.covered.other o
  right_in (Others ls sum k) told.Blank s o a = other_fine ls sum k told.Blank tt s.index s.covered.other o

-- an answer to the request that stands answers at the phase
module _ (r : Reading) (room : r.ptr.offset + r.ptr.len ≤ (r.servers - 1) * r.fragment) (some : 0 < r.fragment) where
  at_phase : (b : Bool) (o : ServerId × Request) (t : Response) → Answers r.servers (cond b (Some o) None) t → (b ≡ true) × Answers r.servers (Some o) t
  at_phase true o t a = (refl, a)
  at_phase false o t a = absurd a

  direct : pos_of r < end_of r → (t : Response) → AnswersRetrieve r.servers (frag_at r (index_of r)) (len_of r) t → AnswersIn r Direct t
  direct below told.Done a = absurd a
  direct below (told.Bytes bytes) a = a.1
  direct below (told.Parity lengths bytes) a = let own = index_below r room some below in absurd (omega (arith, a.0))
  direct below (told.Ids ids) a = absurd a
  direct below (told.Refused fault.NoFragment) a = tt
  direct below (told.Refused fault.Exists) a = absurd a
  direct below (told.Refused (fault.Offset len)) a = absurd a
  direct below (told.Refused (fault.Short len)) a = tt
  direct below (told.Refused (fault.NoSlot free)) a = absurd a
  direct below (told.Refused fault.Stopped) a = absurd a
  direct below (told.Refused (fault.OldGeneration now)) a = tt
  direct below (told.Refused fault.NoMemory) a = tt
  direct below told.Down a = tt
  direct below told.Blank a = tt

  of_parity : (t : Response) → AnswersRetrieve r.servers (frag_at r (r.servers - 1)) (len_of r) t → AnswersIn r Lengths t
  of_parity told.Done a = absurd a
  of_parity (told.Bytes bytes) a = absurd (a.0 refl)
  of_parity (told.Parity lengths bytes) a = (a.1, a.2)
  of_parity (told.Ids ids) a = absurd a
  of_parity (told.Refused fault.NoFragment) a = tt
  of_parity (told.Refused fault.Exists) a = absurd a
  of_parity (told.Refused (fault.Offset len)) a = absurd a
  of_parity (told.Refused (fault.Short len)) a = tt
  of_parity (told.Refused (fault.NoSlot free)) a = absurd a
  of_parity (told.Refused fault.Stopped) a = absurd a
  of_parity (told.Refused (fault.OldGeneration now)) a = tt
  of_parity (told.Refused fault.NoMemory) a = tt
  of_parity told.Down a = tt
  of_parity told.Blank a = tt

  of_share : (lengths sum : List ℕ) (k : ℕ) → k < r.servers - 1 → (t : Response)
      → AnswersRetrieve r.servers (frag_at r k) (min (len_of r) (get_or lengths k 0 - place_of r)) t → AnswersIn r (Others lengths sum k) t
  of_share lengths sum k low told.Done a = absurd a
  of_share lengths sum k low (told.Bytes bytes) a = a.1
  of_share lengths sum k low (told.Parity ls bytes) a = absurd (omega (arith, a.0))
  of_share lengths sum k low (told.Ids ids) a = absurd a
  of_share lengths sum k low (told.Refused fault.NoFragment) a = tt
  of_share lengths sum k low (told.Refused fault.Exists) a = absurd a
  of_share lengths sum k low (told.Refused (fault.Offset len)) a = absurd a
  of_share lengths sum k low (told.Refused (fault.Short len)) a = tt
  of_share lengths sum k low (told.Refused (fault.NoSlot free)) a = absurd a
  of_share lengths sum k low (told.Refused fault.Stopped) a = absurd a
  of_share lengths sum k low (told.Refused (fault.OldGeneration now)) a = tt
  of_share lengths sum k low (told.Refused fault.NoMemory) a = tt
  of_share lengths sum k low told.Down a = tt
  of_share lengths sum k low told.Blank a = tt

  answers_in : (phase : Phase) (t : Response) → PhaseIsSound r phase → Answers r.servers (asked_in r phase) t → (pos_of r < end_of r) × AnswersIn r phase t
  answers_in Direct t s a =
      let q = at_phase (ltb (pos_of r) (end_of r)) (server_at r (index_of r), ask.Retrieve (frag_at r (index_of r)) (place_of r) (len_of r)) t a in
      let below = ltb-true (pos_of r) (end_of r) q.0 in
      (below, direct below t q.1)
  answers_in Lengths t s a = (s, of_parity t a)
  answers_in (Others lengths sum k) t s a = (s.below, of_share lengths sum k s.index t a)

  pub can_read : (t : Response) → PhaseIsSound r r.phase → Answers r.servers (asked r) t → CanRead r t
  can_read t s a = let q = answers_in r.phase t s a in record { stands = q.0; answers = q.1 }
