-- A fetch that is answered from what the servers have.
use Rattle.std.proofs.Common.{◌≡◌, ℕ, ◌+◌, ◌-◌, ◌<◌, ◌≤◌, Bool, true, false, List, ◌++◌, Option, Some, None, refl, sym, ap, ◌∙◌, subst, inl, inr, arith}
use Rattle.std.specs.Prelude.{if◌then◌else◌, drop, is_some, length, nat_le, nat_lt, take}
use Rattle.std.proofs.lemmas.Bool.{and_right}
use Rattle.zb_types.specs.declared.ids.Ptr.{Ptr}
use Rattle.zb_types.specs.declared.ids.ServerId.{ServerId}
use Rattle.zb_types.specs.declared.requests.Request.{Request}
use Rattle.zb_types.specs.declared.requests.Request.TheVariants as ask
use Rattle.zb_types.specs.declared.requests.Response.{Response}
use Rattle.zb_types.specs.declared.requests.Response.TheVariants as told
use Rattle.zb_types.specs.declared.requests.StoreFault.TheVariants as fault
use Rattle.zb_holding.specs.Carrying.{found}
use Rattle.zb_holding.specs.Fragments.{Fragment, parity_fragment, share_fragment}
use Rattle.zb_holding.specs.Holding.{Maps, StripeRemains, away_at, standing, view_of}
use Rattle.zb_stripe.specs.declared.progress.Phase.{Phase}
use Rattle.zb_stripe.specs.declared.progress.Phase.TheVariants.{Direct, Lengths}
use Rattle.zb_stripe.specs.declared.read_plan.Got.{Got}
use Rattle.zb_stripe.specs.declared.read_plan.Got.TheVariants as got
use Rattle.zb_stripe.specs.Reading.{Answers, IsNotThere, Reading, advanced, asked, blocked_in, end_of, fed, fed_in, gained, gained_by, index_of, is_lost, pos_of}
use Rattle.zb_stripe_laws.specs.ReadAtWork.{AnswersFrom, LeadsTo, MayTell, ReadAtWork, StillGrow, WasLooked, as_seen}
use Rattle.zb_stripe_laws.proofs.Left.{remains_lower}
use Rattle.zb_stripe_laws.proofs.Ongoing.{goes_on as read_on, stays}
use Rattle.zb_stripe_laws.proofs.Taking.{may_be_fed}
use Rattle.zb_tables.specs.Tables.{bytes_at}
use Rattle.zb_sound.specs.LookupsCurrent.{RemainsIn}
use Rattle.zb_sound.specs.Standing.{seen as in_view}
use Rattle.zb_sound.proofs.Righted.{held_right}
use Rattle.zb_work.specs.Fitting.{Stands}
use Rattle.zb_client_laws.specs.Around.{Around, IsAround, at_rest}
use Rattle.zb_client_laws.specs.Current.{IsReading}
use Rattle.zb_client_laws.proofs.Missing.{none_misses}
use Rattle.zb_client_laws.proofs.Moving.{take_lower, take_within}
use Rattle.zb_client_laws.proofs.Starts.{IsThere, there as held_there}

-- what a server has is never told as down
there_is : (o : Option Fragment) (place len : ℕ) → IsNotThere (found o place len) → ⊥
there_is None place len h = h
there_is (Some (share_fragment bytes)) place len h = by (nat_le (place + len) (length bytes)) h where
  by : (t : Bool) → IsNotThere (if t then told.Bytes (take len (drop place bytes)) else told.Refused (fault.Short (length bytes))) → ⊥
  by true h = h
  by false h = h
there_is (Some (parity_fragment lengths bytes)) place len h = h

clash : false ≡ true → ⊥
clash c = cc

-- what is told from these maps, where none is away
pub told_from : (maps : Maps) (asking : Option (ServerId × Request)) (response : Response) → AnswersFrom maps None None asking response → IsNotThere response → ⊥
told_from maps None response h gone = h
told_from maps (Some (server, ask.Retrieve id place len)) response (inl down) gone = clash down.0
told_from maps (Some (server, ask.Retrieve id place len)) response (inr here) gone = there_is (maps server id) place len (subst IsNotThere here.1 gone)
told_from maps (Some (server, ask.Store id bytes class)) response h gone = h
told_from maps (Some (server, ask.Append id place bytes)) response h gone = h
told_from maps (Some (server, ask.Parity id lengths bytes class)) response h gone = h
told_from maps (Some (server, ask.Delete id)) response h gone = h
told_from maps (Some (server, ask.Identify after)) response h gone = h
told_from maps (Some (server, ask.Fence generation)) response h gone = h

may_tell : (maps : Maps) (asking : Option (ServerId × Request)) (response : Response) → AnswersFrom maps None None asking response → MayTell maps None asking response
may_tell maps None response h = absurd h
may_tell maps (Some (server, ask.Retrieve id place len)) response (inl down) = absurd (clash down.0)
may_tell maps (Some (server, ask.Retrieve id place len)) response (inr here) = inl (inr here)
may_tell maps (Some (server, ask.Store id bytes class)) response h = absurd h
may_tell maps (Some (server, ask.Append id place bytes)) response h = absurd h
may_tell maps (Some (server, ask.Parity id lengths bytes class)) response h = absurd h
may_tell maps (Some (server, ask.Delete id)) response h = absurd h
may_tell maps (Some (server, ask.Identify after)) response h = absurd h
may_tell maps (Some (server, ask.Fence generation)) response h = absurd h

module _ (slots : ℕ) (w : Around) (a : IsAround slots w) (ptr : Ptr) (plan : Reading) (rd : IsReading w.z w.contents w.st.maps w.tables.held ptr plan) where
  two : 2 ≤ plan.servers
  two = let l = a.limits.servers_low in let e = rd.servers in omega (arith, e)

  some : 0 < plan.fragment
  some = let l = a.limits.fragment_low in let e = rd.fragment in omega (arith, e)

  inside : plan.ptr.offset + plan.ptr.len ≤ rd.end
  inside = subst (λ (p : Ptr). p.offset + p.len ≤ rd.end) (sym rd.ptr_is) rd.reaches

  held : IsThere w.tables.held ptr.log ptr.stripe
  held = held_there w.tables.held ptr.log ptr.stripe (let l = rd.some in let r = rd.reaches in let c = rd.committed in omega arith)

  remains : RemainsIn (in_view w.z w.st None) w.contents ptr.log ptr.stripe held.h.end
  remains = held_right w.z w.contents (at_rest w.tables) w.st w.tables w.tree ptr.log ptr.stripe held.h a.stands held.is None (none_misses slots w a)

  same : take rd.end (w.contents ptr.log ptr.stripe) ≡ take rd.end remains.bytes
  same = take_lower rd.end held.h.end (w.contents ptr.log ptr.stripe) remains.bytes (let c = rd.committed in let e = held.end_is in omega (arith, e)) (sym remains.same)

  low : StripeRemains (view_of plan.servers plan.fragment w.st.maps None) plan.ptr.log plan.ptr.stripe rd.end remains.bytes
  low =
      subst (λ (p : Ptr). StripeRemains (view_of plan.servers plan.fragment w.st.maps None) p.log p.stripe rd.end remains.bytes) (sym rd.ptr_is)
      (subst (λ (f : ℕ). StripeRemains (view_of plan.servers f w.st.maps None) ptr.log ptr.stripe rd.end remains.bytes) (sym rd.fragment)
      (subst (λ (n : ℕ). StripeRemains (view_of n w.z.fragment w.st.maps None) ptr.log ptr.stripe rd.end remains.bytes) (sym rd.servers)
      (remains_lower (w.z.servers - 1) w.z.fragment (standing w.z.servers w.st.maps ptr.log ptr.stripe) (away_at w.z.servers None ptr.log ptr.stripe) rd.end held.h.end remains.bytes
      (let c = rd.committed in let e = held.end_is in omega (arith, e)) remains.remains)))

  grows : (seen : Maps) (phase : Phase) → phase ≡ Direct → StillGrow plan.servers plan.ptr w.st.maps w.st.maps seen None phase
  grows seen phase e = subst (λ (p : Phase). StillGrow plan.servers plan.ptr w.st.maps w.st.maps seen None p) (sym e) tt

  work : ReadAtWork w.st.maps rd.seen None rd.end remains.bytes plan
  work =
      stays plan.servers plan.fragment plan.ptr rd.end two some inside w.st.maps w.st.maps rd.seen None (w.contents ptr.log ptr.stripe) remains.bytes same
      plan.lost plan.read plan.phase rd.work (grows rd.seen plan.phase rd.direct)

  -- the response may be heard
  pub may_answer : (response : Response) → Stands plan → AnswersFrom w.st.maps None None (asked plan) response → Answers plan.servers (asked plan) response
  may_answer response stands from = by (asked plan) refl stands where
    by : (o : Option (ServerId × Request)) → asked plan ≡ o → is_some o ≡ true → Answers plan.servers (asked plan) response
    by None e some = absurd (clash some)
    by (Some one) e is =
        may_be_fed plan.servers plan.fragment plan.ptr rd.end two some inside w.st.maps rd.seen None None remains.bytes low plan.lost plan.read plan.phase response work one e
        (may_tell w.st.maps (asked plan) response from)

  -- ---- bytes came

  module _ (bytes : List ℕ) (from : AnswersFrom w.st.maps None None (asked plan) (told.Bytes bytes)) where
    abbrev pub Next : Reading
    Next = advanced plan bytes

    none_later : (k : ℕ) → is_lost Next k ≡ false
    none_later k = rd.none_lost k

    direct_later : Next.phase ≡ Direct
    direct_later =
        let r : Reading = record { servers = plan.servers; fragment = plan.fragment; ptr = plan.ptr; lost = plan.lost; read = plan.read ++ bytes; phase = Direct } in
        ap (λ (b : Bool). if b then Lengths else Direct) (and_right (nat_lt (pos_of r) (end_of r)) (is_lost r (index_of r)) (rd.none_lost (index_of r)))

    pub gained_is : gained plan Next ≡ (Next, if nat_lt (pos_of Next) (end_of Next) then got.More else got.Bytes Next.read)
    gained_is = ap (λ (p : Phase). gained_by plan Next (blocked_in Next p)) direct_later

    fed_is : fed plan (told.Bytes bytes) ≡ (Next, if nat_lt (pos_of Next) (end_of Next) then got.More else got.Bytes Next.read)
    fed_is = ap (λ (p : Phase). fed_in plan p (told.Bytes bytes)) rd.direct ∙ gained_is

    leads : LeadsTo w.st.maps rd.seen None None rd.end remains.bytes plan (told.Bytes bytes) (fed plan (told.Bytes bytes)).0 (fed plan (told.Bytes bytes)).1
    leads =
        read_on plan.servers plan.fragment plan.ptr rd.end two some inside w.st.maps rd.seen None None remains.bytes low plan.lost plan.read plan.phase (told.Bytes bytes) work
        (λ tells. subst (λ (p : Phase). WasLooked plan.servers plan.ptr None p) (sym rd.direct) tt) (may_tell w.st.maps (asked plan) (told.Bytes bytes) from)

    leads_next : LeadsTo w.st.maps rd.seen None None rd.end remains.bytes plan (told.Bytes bytes) Next (if nat_lt (pos_of Next) (end_of Next) then got.More else got.Bytes Next.read)
    leads_next = subst (λ (f : Reading × Got). LeadsTo w.st.maps rd.seen None None rd.end remains.bytes plan (told.Bytes bytes) f.0 f.1) fed_is leads

    -- more is wanted
    pub more : nat_lt (pos_of Next) (end_of Next) ≡ true → IsReading w.z w.contents w.st.maps w.tables.held ptr Next
    more e =
        let on = subst (λ (b : Bool). LeadsTo w.st.maps rd.seen None None rd.end remains.bytes plan (told.Bytes bytes) Next (if b then got.More else got.Bytes Next.read)) e leads_next in
        let at = subst (λ (p : Phase). ReadAtWork w.st.maps (as_seen p w.st.maps rd.seen) (as_seen p None None) rd.end remains.bytes Next) rd.direct on.work in
        record {
          servers = rd.servers;
          fragment = rd.fragment;
          ptr_is = rd.ptr_is;
          some = rd.some;
          end = rd.end;
          reaches = rd.reaches;
          committed = rd.committed;
          seen = w.st.maps;
          work =
              stays Next.servers Next.fragment Next.ptr rd.end two some inside w.st.maps w.st.maps w.st.maps None remains.bytes (w.contents ptr.log ptr.stripe) (sym same)
              Next.lost Next.read Next.phase at (grows w.st.maps Next.phase direct_later);
          none_lost = none_later;
          direct = direct_later;
        }

    -- all bytes are there
    pub all_bytes : nat_lt (pos_of Next) (end_of Next) ≡ false → Next.read ≡ bytes_at w.contents ptr
    all_bytes e =
        let is : Next.read ≡ take plan.ptr.len (drop plan.ptr.offset remains.bytes) =
        subst (λ (b : Bool). LeadsTo w.st.maps rd.seen None None rd.end remains.bytes plan (told.Bytes bytes) Next (if b then got.More else got.Bytes Next.read)) e leads_next in
        is ∙ ap (λ (p : Ptr). take p.len (drop p.offset remains.bytes)) rd.ptr_is
        ∙ sym (take_within ptr.offset ptr.len rd.end (w.contents ptr.log ptr.stripe) remains.bytes rd.reaches same)
