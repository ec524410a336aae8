-- An answer from the maps may be fed to a read.
use Rattle.std.proofs.Common.{◌≡◌, ◌≢◌, ℕ, ◌+◌, ◌-◌, ◌/◌, ◌%◌, ◌<◌, ◌≤◌, min, Bool, true, false, cond, ltb, leb, List, length, take, drop, get_or, Option, Some, None, refl, sym, subst, inl, inr, arith}
use Rattle.std.proofs.lemmas.Bool.{cond_both, ltb-true, leb-true}
use Rattle.std.proofs.lemmas.Nat.{div_below}
use Rattle.std.proofs.lemmas.List.{length-take-le, length-drop}
use Rattle.zb_types.specs.declared.ids.ServerId.{ServerId}
use Rattle.zb_types.specs.declared.ids.FragId.{FragId}
use Rattle.zb_types.specs.declared.ids.Ptr.{Ptr}
use Rattle.zb_types.specs.declared.requests.Request.{Request}
use Rattle.zb_types.specs.declared.requests.Request.TheVariants as ask
use Rattle.zb_types.specs.declared.requests.Response.{Response}
use Rattle.zb_types.specs.declared.requests.Response.TheVariants as told
use Rattle.zb_types.specs.declared.requests.StoreFault.TheVariants as fault
use Rattle.zb_holding.specs.Fragments.{Fragment, share_fragment, parity_fragment}
use Rattle.zb_holding.specs.Placing.{share_of, frag_id, server_of}
use Rattle.zb_holding.specs.Holding.{Maps, Begins, ParityRemains, StripeRemains, standing, away_at, view_of}
use Rattle.zb_holding.specs.Carrying.{found}
use Rattle.zb_stripe.specs.declared.progress.Phase.{Phase}
use Rattle.zb_stripe.specs.declared.progress.Phase.TheVariants.{Direct, Lengths, Others}
use Rattle.zb_stripe.specs.Reading.{Reading, asked, Answers, AnswersRetrieve, IsNotThere}
use Rattle.zb_stripe_laws.specs.ReadAtWork.{ReadAtWork, MayTell}
use Rattle.zb_stripe_laws.proofs.Ranges.{length-parity_range}

-- who isn't there may answer any retrieve
not_there : (n : ℕ) (id : FragId) (len : ℕ) (t : Response) → IsNotThere t → AnswersRetrieve n id len t
not_there n id len told.Done g = absurd g
not_there n id len (told.Bytes b) g = absurd g
not_there n id len (told.Parity l b) g = absurd g
not_there n id len (told.Ids l) g = absurd g
not_there n id len (told.Refused r) g = absurd g
not_there n id len told.Down g = tt
not_there n id len told.Blank g = tt

-- what is found of a share that begins as it should, or isn't there
of_share : (n : ℕ) (id : FragId) (place len : ℕ) (o : Option Fragment) (bytes : List ℕ) → id.index ≢ n - 1 → Begins o bytes → AnswersRetrieve n id len (found o place len)
of_share n id place len None bytes other b = tt
of_share n id place len (Some (share_fragment s)) bytes other b =
    cond_both (leb (place + len) (length s)) (told.Bytes (take len (drop place s))) (told.Refused (fault.Short (length s))) (AnswersRetrieve n id len)
    (λ e. (other, length-take-le len (drop place s) (omega (arith, leb-true (place + len) (length s) e, length-drop place s)))) (λ _. tt)
of_share n id place len (Some (parity_fragment lengths parity)) bytes other b = absurd b

-- what is found of a parity that covers what remains, or isn't there
of_parity : (n f : ℕ) (stands : ℕ → Option Fragment) (away : ℕ → Bool) (end : ℕ) (bytes : List ℕ) (id : FragId) (place len : ℕ) (o : Option Fragment) → id.index ≡ n - 1
    → ParityRemains (n - 1) f stands away end bytes o → AnswersRetrieve n id len (found o place len)
of_parity n f stands away end bytes id place len None last c = tt
of_parity n f stands away end bytes id place len (Some (share_fragment s)) last c = absurd c
of_parity n f stands away end bytes id place len (Some (parity_fragment lengths parity)) last c = (last, c.count, length-parity_range parity place len)

-- what is asked where something is asked
which : (b : Bool) (o one : ServerId × Request) → cond b (Some o) None ≡ Some one → b ≡ true
which true o one e = refl
which false o one e = absurd cc

module _ (n f : ℕ) (ptr : Ptr) (end : ℕ) (two : 2 ≤ n) (some : 0 < f) (inside : ptr.offset + ptr.len ≤ end)
    (now seen : Maps) (x y : Option ServerId) (bytes : List ℕ) (remains : StripeRemains (view_of n f now x) ptr.log ptr.stripe end bytes) where
  abbrev mk : List Bool → List ℕ → Phase → Reading
  mk lost read phase = record { servers = n; fragment = f; ptr = ptr; lost = lost; read = read; phase = phase }

  abbrev At : ℕ → ServerId × FragId
  At k = (server_of n (frag_id ptr.log ptr.stripe k), frag_id ptr.log ptr.stripe k)

  abbrev Tells : ℕ → ℕ → ℕ → Response → Type 0
  Tells k place len t = MayTell now x (Some ((At k).0, ask.Retrieve (At k).1 place len)) t

  share_fits : (k place len : ℕ) (t : Response) → k < n - 1 → Tells k place len t → AnswersRetrieve n (At k).1 len t
  share_fits k place len t below (inl (inl down)) = not_there n (At k).1 len t down.1
  share_fits k place len t below (inl (inr is)) =
      subst (AnswersRetrieve n (At k).1 len) (sym is.1)
      (of_share n (At k).1 place len (standing n now ptr.log ptr.stripe k) (share_of f bytes k) (λ e. omega (arith, e)) (remains.shares k below is.0).begins)
  share_fits k place len t below (inr old) = subst (AnswersRetrieve n (At k).1 len) (sym old.1) tt

  parity_fits : (place len : ℕ) (t : Response) → Tells (n - 1) place len t → AnswersRetrieve n (At (n - 1)).1 len t
  parity_fits place len t (inl (inl down)) = not_there n (At (n - 1)).1 len t down.1
  parity_fits place len t (inl (inr is)) =
      subst (AnswersRetrieve n (At (n - 1)).1 len) (sym is.1)
      (of_parity n f (standing n now ptr.log ptr.stripe) (away_at n x ptr.log ptr.stripe) end bytes (At (n - 1)).1 place len (standing n now ptr.log ptr.stripe (n - 1)) refl (remains.parity is.0))
  parity_fits place len t (inr old) = subst (AnswersRetrieve n (At (n - 1)).1 len) (sym old.1) tt

  direct_fits : (b : Bool) (k place len : ℕ) (t : Response) → b ≡ true → k < n - 1
      → MayTell now x (cond b (Some ((At k).0, ask.Retrieve (At k).1 place len)) None) t → Answers n (cond b (Some ((At k).0, ask.Retrieve (At k).1 place len)) None) t
  direct_fits true k place len t e below tells = share_fits k place len t below tells
  direct_fits false k place len t e below tells = absurd cc

  pub may_be_fed : (lost : List Bool) (read : List ℕ) (phase : Phase) (t : Response) → ReadAtWork now seen y end bytes (mk lost read phase)
      → (one : ServerId × Request) → asked (mk lost read phase) ≡ Some one → MayTell now x (asked (mk lost read phase)) t → Answers n (asked (mk lost read phase)) t
  may_be_fed lost read Direct t w one stands tells =
      let pos = ptr.offset + length read in
      let last = ptr.offset + ptr.len in
      let len = min (last - pos) (f - pos % f) in
      let left : ltb pos last ≡ true = which (ltb pos last) ((At (pos / f)).0, ask.Retrieve (At (pos / f)).1 (pos % f) len) one stands in
      let below = ltb-true pos last left in
      let whole = remains.whole in
      let room = remains.room in
      direct_fits (ltb pos last) (pos / f) (pos % f) len t left (div_below pos f (n - 1) some (omega arith)) tells
  may_be_fed lost read Lengths t w one stands tells =
      let pos = ptr.offset + length read in
      parity_fits (pos % f) (min (ptr.offset + ptr.len - pos) (f - pos % f)) t tells
  may_be_fed lost read (Others lengths sum j) t w one stands tells =
      let pos = ptr.offset + length read in
      share_fits j (pos % f) (min (min (ptr.offset + ptr.len - pos) (f - pos % f)) (get_or lengths j 0 - pos % f)) t w.fits.1.index tells
