-- A fetch that is answered from what the servers have leaves fewer steps.
use Rattle.std.proofs.Common.{◌≡◌, ℕ, ◌+◌, ◌-◌, ◌*◌, ◌<◌, ◌≤◌, Bool, true, false, List, length, take, drop, Option, Some, None, refl, sym, ap, ◌∙◌, subst, inl, inr, length-drop, arith}
use Rattle.std.specs.Prelude.{◌&&◌, ◌==◌, if◌then◌else◌, is_some, nat_le, nat_lt}
use Rattle.std.specs.Bool.{MatchBool}
use Rattle.std.proofs.lemmas.Bool.{cases_lt, false≢true, ltb-true}
use Rattle.std.proofs.lemmas.Bool.Decides.{nat_tests}
use Rattle.std.proofs.lemmas.List.{length-take}
use Rattle.std.proofs.lemmas.Nat.{mul-le}
use Rattle.zb_types.specs.declared.ids.Ptr.{Ptr}
use Rattle.zb_types.specs.declared.ids.ServerId.{ServerId}
use Rattle.zb_types.specs.declared.requests.Request.{Request}
use Rattle.zb_types.specs.declared.requests.Request.TheVariants as ask
use Rattle.zb_types.specs.declared.requests.Response.{Response}
use Rattle.zb_types.specs.declared.requests.Response.TheVariants as told
use Rattle.zb_types.specs.declared.requests.StoreFault.TheVariants as fault
use Rattle.zb_types.specs.Tree.{Tree}
use Rattle.zb_holding.specs.Carrying.{found}
use Rattle.zb_holding.specs.Fragments.{Fragment, parity_fragment, share_fragment}
use Rattle.zb_holding.specs.Holding.{AreBytesOfStripe, Maps, StripeHolds, away_at, standing, view_of}
use Rattle.zb_stripe.specs.declared.progress.Phase.{Phase}
use Rattle.zb_stripe.specs.declared.progress.Phase.TheVariants.{Direct}
use Rattle.zb_stripe.specs.declared.read_plan.Got.{Got}
use Rattle.zb_stripe.specs.declared.read_plan.Got.TheVariants as got
use Rattle.zb_stripe.specs.Reading.{Reading, advanced, asked, asked_in, end_of, fed, fed_in, pos_of}
use Rattle.zb_stripe_laws.specs.ReadAtWork.{AnswersFrom, AsksOther, LeadsTo, MayTell, ReadAtWork, StillGrow, WasLooked, answers_left}
use Rattle.zb_stripe_laws.proofs.Keeping.{holds_less}
use Rattle.zb_stripe_laws.proofs.Left.{held_remains}
use Rattle.zb_stripe_laws.proofs.Ongoing.{goes_on as read_on, gone_other, stays}
use Rattle.zb_basis.specs.declared.basis.Basis.{Basis}
use Rattle.zb_work.specs.Blocks.{next_missing}
use Rattle.zb_work.specs.declared.work.Step.{Step}
use Rattle.zb_work.specs.declared.work.Step.TheVariants as step
use Rattle.zb_work.specs.declared.work.Task.{Task}
use Rattle.zb_work.specs.Fitting.{Stands}
use Rattle.zb_work.specs.Steps.{step_of}
use Rattle.zb_client.specs.Seen.{SeenClient, at_step}
use Rattle.zb_client.specs.Hearing.{GoesOn, HearsFetch, HearsGot, caches, is_whole, with_block}
use Rattle.zb_client.specs.Telling.{Heard, looks_anew, silent}
use Rattle.zb_client_laws.specs.Around.{Around, IsAround}
use Rattle.zb_client_laws.specs.Current.{IsReading}
use Rattle.zb_client_laws.specs.Known.{IsKnown}
use Rattle.zb_client_laws.specs.Sound.{ClientIsSound}
use Rattle.zb_client_laws.proofs.Fetched.{fetch_goes_on, fits, reading}
use Rattle.zb_client_laws.proofs.Fetching.{all_bytes, gained_is, more}
use Rattle.zb_client_laws.proofs.Missing.{none_misses}
use Rattle.zb_client_laws.proofs.Moving.{take_lower}
use Rattle.zb_client_laws.proofs.Starts.{IsThere, there}
use Rattle.zb_progress.specs.Fresh.{is_fresh, is_fresh_at}
use Rattle.zb_progress.specs.Left.{missing_bytes, most_requests, stage, stale_steps, steps_left}
use Rattle.zb_progress.proofs.Falling.{step-falls}
use Rattle.zb_progress.proofs.Missing.{missing-filled, missing-one}
use Rattle.zb_progress.proofs.Ongoing.{fetch-now, found-now, goes-falls}

-- what a server may tell of a fragment
abbrev MayCome : Response → Type 0
MayCome (told.Bytes bytes) = Unit {0}
MayCome (told.Parity lengths bytes) = Unit {0}
MayCome (told.Refused fault.NoFragment) = Unit {0}
MayCome (told.Refused (fault.Short len)) = Unit {0}
MayCome response = ⊥

found-comes : (o : Option Fragment) (place len : ℕ) → MayCome (found o place len)
found-comes None place len = tt
found-comes (Some (share_fragment bytes)) place len = by (nat_le (place + len) (length bytes)) where
  by : (t : Bool) → MayCome (if t then told.Bytes (take len (drop place bytes)) else told.Refused (fault.Short (length bytes)))
  by true = tt
  by false = tt
found-comes (Some (parity_fragment lengths bytes)) place len = tt

may-come : (maps : Maps) (asking : Option (ServerId × Request)) (response : Response) → AnswersFrom maps None None asking response → MayCome response
may-come maps None response h = absurd h
may-come maps (Some (server, ask.Retrieve id place len)) response (inl down) = absurd (false≢true down.0)
may-come maps (Some (server, ask.Retrieve id place len)) response (inr here) = subst MayCome (sym here.1) (found-comes (maps server id) place len)
may-come maps (Some (server, ask.Store id bytes class)) response h = absurd h
may-come maps (Some (server, ask.Append id place bytes)) response h = absurd h
may-come maps (Some (server, ask.Parity id lengths bytes class)) response h = absurd h
may-come maps (Some (server, ask.Delete id)) response h = absurd h
may-come maps (Some (server, ask.Identify after)) response h = absurd h
may-come maps (Some (server, ask.Fence generation)) response h = absurd h

may-tell : (maps : Maps) (asking : Option (ServerId × Request)) (response : Response) → AnswersFrom maps None None asking response → MayTell maps None asking response
may-tell maps None response h = absurd h
may-tell maps (Some (server, ask.Retrieve id place len)) response (inl down) = absurd (false≢true down.0)
may-tell maps (Some (server, ask.Retrieve id place len)) response (inr here) = inl (inr here)
may-tell maps (Some (server, ask.Store id bytes class)) response h = absurd h
may-tell maps (Some (server, ask.Append id place bytes)) response h = absurd h
may-tell maps (Some (server, ask.Parity id lengths bytes class)) response h = absurd h
may-tell maps (Some (server, ask.Delete id)) response h = absurd h
may-tell maps (Some (server, ask.Identify after)) response h = absurd h
may-tell maps (Some (server, ask.Fence generation)) response h = absurd h

-- a direct read whose request stands wants bytes still
direct-wants : (plan : Reading) → plan.phase ≡ Direct → Stands plan → pos_of plan < end_of plan
direct-wants plan direct stands = by (nat_lt (pos_of plan) (end_of plan)) refl (subst (λ (p : Phase). is_some (asked_in plan p) ≡ true) direct stands) where
  by : (t : Bool) → nat_lt (pos_of plan) (end_of plan) ≡ t → is_some (asked_in plan Direct) ≡ true → pos_of plan < end_of plan
  by true e some = ltb-true (pos_of plan) (end_of plan) e
  by false e some = absurd (clash (rw e at some)) where
    clash : false ≡ true → ⊥
    clash x = false≢true x

-- fewer answers to come where the share itself is asked
answers-fall : (n last pos next : ℕ) → (last - next) * (n + 2) + (n + 1) < (last - pos) * (n + 2) + (n + 1) → last - next < last - pos
answers-fall n last pos next less = elim (cases_lt (last - next) (last - pos)) [
  | inl lt ↦ lt
  | inr ge ↦ let more = mul-le (last - pos) (n + 2) (last - next) (n + 2) ge (omega arith) in absurd (omega (arith, less, more))
]

module _ (slots : ℕ) (w : Around) (a : IsAround slots w) (ptr : Ptr) (plan : Reading) (rd : IsReading w.z w.contents w.st.maps w.tables.held ptr plan) where
  two : 2 ≤ plan.servers
  two = let l = a.limits.servers_low in let e = rd.servers in omega (arith, e)

  some : 0 < plan.fragment
  some = let l = a.limits.fragment_low in let e = rd.fragment in omega (arith, e)

  inside : plan.ptr.offset + plan.ptr.len ≤ rd.end
  inside = subst (λ (p : Ptr). p.offset + p.len ≤ rd.end) (sym rd.ptr_is) rd.reaches

  held : IsThere w.tables.held ptr.log ptr.stripe
  held = there w.tables.held ptr.log ptr.stripe (let l = rd.some in let r = rd.reaches in let c = rd.committed in omega arith)

  low : rd.end ≤ held.h.end
  low = let c = rd.committed in let e = held.end_is in omega (arith, e)

  agrees : AreBytesOfStripe (view_of w.z.servers w.z.fragment w.st.maps None) ptr.log ptr.stripe held.h.end (take held.h.end (w.contents ptr.log ptr.stripe))
  agrees = a.stands.agree.agree None (none_misses slots w a) ptr.log ptr.stripe held.h held.is

  abbrev Bytes : List ℕ
  Bytes = agrees.bytes

  holds : StripeHolds (view_of plan.servers plan.fragment w.st.maps None) plan.ptr.log plan.ptr.stripe rd.end Bytes
  holds =
      subst (λ (p : Ptr). StripeHolds (view_of plan.servers plan.fragment w.st.maps None) p.log p.stripe rd.end Bytes) (sym rd.ptr_is)
      (subst (λ (f : ℕ). StripeHolds (view_of plan.servers f w.st.maps None) ptr.log ptr.stripe rd.end Bytes) (sym rd.fragment)
      (subst (λ (n : ℕ). StripeHolds (view_of n w.z.fragment w.st.maps None) ptr.log ptr.stripe rd.end Bytes) (sym rd.servers)
      (holds_less (w.z.servers - 1) w.z.fragment (standing w.z.servers w.st.maps ptr.log ptr.stripe) (away_at w.z.servers None ptr.log ptr.stripe) rd.end held.h.end Bytes low agrees.held)))

  same : take rd.end (w.contents ptr.log ptr.stripe) ≡ take rd.end Bytes
  same = take_lower rd.end held.h.end (w.contents ptr.log ptr.stripe) Bytes low agrees.first

  work : ReadAtWork w.st.maps rd.seen None rd.end Bytes plan
  work =
      stays plan.servers plan.fragment plan.ptr rd.end two some inside w.st.maps w.st.maps rd.seen None (w.contents ptr.log ptr.stripe) Bytes same
      plan.lost plan.read plan.phase rd.work (grows plan.phase rd.direct) where
        grows : (phase : Phase) → phase ≡ Direct → StillGrow plan.servers plan.ptr w.st.maps w.st.maps rd.seen None phase
        grows phase e = subst (λ (p : Phase). StillGrow plan.servers plan.ptr w.st.maps w.st.maps rd.seen None p) (sym e) tt

  -- what is held isn't gone
  not-gone : (response : Response) → AnswersFrom w.st.maps None None (asked plan) response → (fed_in plan Direct response).1 ≡ got.Gone → ⊥
  not-gone response from gone =
      subst AsksOther rd.direct
      (gone_other plan.servers plan.fragment plan.ptr rd.end two some inside w.st.maps rd.seen None None Bytes holds plan.lost plan.read plan.phase response work
      (may-tell w.st.maps (asked plan) response from) (ap (λ (p : Phase). (fed_in plan p response).1) rd.direct ∙ gone))

  -- ---- bytes came

  module _ (bytes : List ℕ) (from : AnswersFrom w.st.maps None None (asked plan) (told.Bytes bytes)) where
    abbrev Next : Reading
    Next = advanced plan bytes

    fed_is : fed plan (told.Bytes bytes) ≡ (Next, if nat_lt (pos_of Next) (end_of Next) then got.More else got.Bytes Next.read)
    fed_is = ap (λ (p : Phase). fed_in plan p (told.Bytes bytes)) rd.direct ∙ gained_is slots w a ptr plan rd bytes from

    leads : LeadsTo w.st.maps rd.seen None None rd.end Bytes plan (told.Bytes bytes) (fed plan (told.Bytes bytes)).0 (fed plan (told.Bytes bytes)).1
    leads =
        read_on plan.servers plan.fragment plan.ptr rd.end two some inside w.st.maps rd.seen None None Bytes
        (held_remains (plan.servers - 1) plan.fragment (standing plan.servers w.st.maps plan.ptr.log plan.ptr.stripe) (away_at plan.servers None plan.ptr.log plan.ptr.stripe) rd.end Bytes holds)
        plan.lost plan.read plan.phase (told.Bytes bytes) work
        (λ tells. subst (λ (p : Phase). WasLooked plan.servers plan.ptr None p) (sym rd.direct) tt) (may-tell w.st.maps (asked plan) (told.Bytes bytes) from)

    -- more is wanted, and more is there
    reads-more : nat_lt (pos_of Next) (end_of Next) ≡ true → (length plan.read < length Next.read) × (length Next.read < ptr.len)
    reads-more e =
        let led = subst (λ (f : Reading × Got). LeadsTo w.st.maps rd.seen None None rd.end Bytes plan (told.Bytes bytes) f.0 f.1) fed_is leads in
        let on = subst (λ (b : Bool). LeadsTo w.st.maps rd.seen None None rd.end Bytes plan (told.Bytes bytes) Next (if b then got.More else got.Bytes Next.read)) e led in
        let next = (more slots w a ptr plan rd bytes from e).direct in
        let counts = subst (λ (p : Phase). answers_left plan.servers plan.fragment plan.ptr Next.read p < answers_left plan.servers plan.fragment plan.ptr plan.read plan.phase) next on.fewer in
        let direct = subst (λ (p : Phase). answers_left plan.servers plan.fragment plan.ptr Next.read Direct < answers_left plan.servers plan.fragment plan.ptr plan.read p) rd.direct counts in
        let less = answers-fall plan.servers (plan.ptr.offset + plan.ptr.len) (plan.ptr.offset + length plan.read) (plan.ptr.offset + length Next.read) direct in
        let wanted = ltb-true (pos_of Next) (end_of Next) e in
        let len = ap (λ (p : Ptr). p.len) rd.ptr_is in
        (omega (arith, less), omega (arith, wanted, len))

    -- all bytes are there
    all-long : nat_lt (pos_of Next) (end_of Next) ≡ false → length Next.read ≡ ptr.len
    all-long e =
        let is = ap (λ (xs : List ℕ). length xs) (all_bytes slots w a ptr plan rd bytes from e) in
        let cut = length-take ptr.len (drop ptr.offset (w.contents ptr.log ptr.stripe)) in
        let rest = length-drop ptr.offset (w.contents ptr.log ptr.stripe) in
        let whole = agrees.held.whole in
        let first = ap (λ (xs : List ℕ). length xs) agrees.first in
        let one = length-take held.h.end (w.contents ptr.log ptr.stripe) in
        let other = length-take held.h.end Bytes in
        let reach = rd.reaches in
        let l = low in
        omega (arith, is, cut, rest, whole, first, one, other, reach, l)

module _ (slots : ℕ) (w : Around) (a : IsAround slots w) (seen : Tree) (c : SeenClient) (known : IsKnown c) (s : ClientIsSound w seen c)
    (basis : Basis) (at : ℕ) (ptr : Ptr) (plan : Reading) (is_step : step_of c.task ≡ step.Fetch basis at ptr plan) where
  abbrev Rd : IsReading w.z w.contents w.st.maps w.tables.held ptr plan
  Rd = reading slots w a seen c known s basis at ptr plan is_step

  -- a step other than a lookup is of some work
  some-task : (o : Option Task) → c.task ≡ o → (task : Task) × (c.task ≡ Some task)
  some-task None n = absurd (clash (sym (ap step_of n) ∙ is_step)) where
    clash : step.Lookup ≡ step.Fetch basis at ptr plan → ⊥
    clash x = cc x
  some-task (Some task) is = (task, is)

  abbrev Fewer : Heard → Type 0
  Fewer heard = steps_left w.z w.tables heard.client < steps_left w.z w.tables c

  -- the block that is read is missing
  missing : next_missing basis.fetched ≡ Some (at, ptr)
  missing = (fits slots w a seen c known s basis at ptr plan is_step).0.missing

  -- less is read than the block has
  wants : length plan.read < ptr.len
  wants =
      let rd = Rd in
      let lt = direct-wants plan rd.direct (fits slots w a seen c known s basis at ptr plan is_step).1 in
      let len = ap (λ (p : Ptr). p.len) rd.ptr_is in
      omega (arith, lt, len)

  -- so many steps are left of the work
  was : stage w.z (step_of c.task) + stale_steps w.z (is_fresh w.tables c)
      ≡ missing_bytes basis.fetched - length plan.read + most_requests w.z + 3 + stale_steps w.z (found-now w.tables c.block c.kept basis.found)
  was =
      ap (λ (st : Step). stage w.z st + stale_steps w.z (is_fresh_at w.tables c.block c.kept st)) is_step
      ∙ ap (λ (b : Bool). missing_bytes basis.fetched - length plan.read + most_requests w.z + 3 + stale_steps w.z b) (fetch-now w.tables c.block c.kept basis at ptr plan)

  module _ (bytes : List ℕ) (from : AnswersFrom w.st.maps None None (asked plan) (told.Bytes bytes)) where
    abbrev Later : Reading
    Later = advanced plan bytes

    more-falls : nat_lt (pos_of Later) (end_of Later) ≡ true → Fewer (silent (at_step c (step.Fetch basis at ptr Later)))
    more-falls e =
        let own = some-task c.task refl in
        let new = step.Fetch basis at ptr Later in
        let reads = reads-more slots w a ptr plan Rd bytes from e in
        let longer = reads.0 in
        let inside = reads.1 in
        let least = missing-one ptr Later.read basis.fetched at (omega (arith, longer)) missing in
        let now = ap (stale_steps w.z) (fetch-now w.tables c.block c.kept basis at ptr Later) in
        let before = was in
        step-falls w.z w.tables c (silent (at_step c new)).client own.0 new own.1 refl refl refl refl (omega (arith, longer, inside, least, now, before))

    whole-true : nat_lt (pos_of Later) (end_of Later) ≡ false → is_whole ptr Later.read ≡ true
    whole-true e =
        let long = all-long slots w a ptr plan Rd bytes from e in
        let some = wants in
        tests (length Later.read) ptr.len long (omega (arith, some)) where
          tests : (n m : ℕ) → n ≡ m → 0 < m → (n == m && nat_lt 0 n) ≡ true
          tests n m e lt = grind (arith, nat_tests)

    all-falls : (heard : Heard) → nat_lt (pos_of Later) (end_of Later) ≡ false → MatchBool (is_whole ptr Later.read) (GoesOn (caches c ptr Later.read) (with_block basis at ptr Later.read) heard) (heard ≡ looks_anew c)
        → ClientIsSound w seen heard.client → Fewer heard
    all-falls heard e on sound =
        let own = some-task c.task refl in
        let long = all-long slots w a ptr plan Rd bytes from e in
        let some = wants in
        let goes = subst (λ (t : Bool). MatchBool t (GoesOn (caches c ptr Later.read) (with_block basis at ptr Later.read) heard) (heard ≡ looks_anew c)) (whole-true e) on in
        let filled_is = missing-filled ptr Later.read (omega (arith, long, some)) basis.fetched at missing in
        let before = was in
        goes-falls slots w a seen c known s.sizes own.0 own.1 (caches c ptr Later.read).cache (with_block basis at ptr Later.read) (omega (arith, filled_is, some, before)) heard goes sound

    bytes-fall : (serving : ℕ) (heard : Heard) (t : Bool) → nat_lt (pos_of Later) (end_of Later) ≡ t
        → HearsGot c basis at ptr Later serving (if t then got.More else got.Bytes Later.read) heard → ClientIsSound w seen heard.client → Fewer heard
    bytes-fall serving heard true e h sound = subst Fewer (sym h) (more-falls e)
    bytes-fall serving heard false e h sound = all-falls heard e h sound

  -- ---- by what was told

  abbrev Hears : ℕ → Reading × Got → Heard → Type 0
  Hears serving f heard = HearsGot c basis at ptr f.0 serving f.1 heard

  by-response : (response : Response) (serving : ℕ) (heard : Heard) → AnswersFrom w.st.maps None None (asked plan) response → MayCome response
      → Hears serving (fed_in plan Direct response) heard → ClientIsSound w seen heard.client → Fewer heard
  by-response (told.Bytes bytes) serving heard from comes h sound =
      bytes-fall bytes from serving heard (nat_lt (pos_of (advanced plan bytes)) (end_of (advanced plan bytes))) refl
      (subst (λ (f : Reading × Got). Hears serving f heard) (gained_is slots w a ptr plan Rd bytes from) h) sound
  by-response (told.Parity lengths bytes) serving heard from comes h sound = absurd (not-gone slots w a ptr plan Rd (told.Parity lengths bytes) from refl)
  by-response (told.Refused fault.NoFragment) serving heard from comes h sound = absurd (not-gone slots w a ptr plan Rd (told.Refused fault.NoFragment) from refl)
  by-response (told.Refused (fault.Short len)) serving heard from comes h sound = absurd (not-gone slots w a ptr plan Rd (told.Refused (fault.Short len)) from refl)
  by-response told.Down serving heard from comes h sound = absurd comes
  by-response told.Blank serving heard from comes h sound = absurd comes
  by-response told.Done serving heard from comes h sound = absurd comes
  by-response (told.Ids ids) serving heard from comes h sound = absurd comes
  by-response (told.Refused fault.Exists) serving heard from comes h sound = absurd comes
  by-response (told.Refused (fault.Offset len)) serving heard from comes h sound = absurd comes
  by-response (told.Refused (fault.NoSlot free)) serving heard from comes h sound = absurd comes
  by-response (told.Refused fault.Stopped) serving heard from comes h sound = absurd comes
  by-response (told.Refused (fault.OldGeneration now)) serving heard from comes h sound = absurd comes
  by-response (told.Refused fault.NoMemory) serving heard from comes h sound = absurd comes

  pub fetch-falls : (response : Response) (serving : ℕ) (heard : Heard) → AnswersFrom w.st.maps None None (asked plan) response
      → HearsFetch c (step.Fetch basis at ptr plan) response serving heard → Fewer heard
  fetch-falls response serving heard from h =
      let rd = Rd in
      by-response response serving heard from (may-come w.st.maps (asked plan) response from)
      (subst (λ (p : Phase). Hears serving (fed_in plan p response) heard) rd.direct h)
      (fetch_goes_on slots w a seen c known s basis at ptr plan is_step response serving heard from h).0
