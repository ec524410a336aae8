-- A stripe of which nothing stands isn't held.
use Rattle.std.proofs.Common.{◌≡◌, ℕ, ◌-◌, ◌<◌, ◌≤◌, false, List, length, Option, Some, None, ap, subst, inl, inr, arith}
use Rattle.std.proofs.lemmas.Bool.{cases_Bool}
use Rattle.zb_types.specs.declared.ids.LogId.{LogId}
use Rattle.zb_types.specs.declared.tables.HeldUse.{HeldUse}
use Rattle.zb_types.specs.Tree.{Tree}
use Rattle.zb_holding.specs.Fragments.{Fragment}
use Rattle.zb_holding.specs.Placing.{share_length}
use Rattle.zb_holding.specs.Holding.{View, StripeHolds, ParityHolds, share_bytes, standing, away_at}
use Rattle.zb_stripe_laws.specs.PartAtWork.{IsUnwritten}
use Rattle.zb_stripe_laws.proofs.Away.{away_once}
use Rattle.zb_tables.specs.Tables.{Tables, Contents, held_at}
use Rattle.zb_tables.specs.Replay.{Platter}
use Rattle.zb_tables.specs.Taking.{Sizes}
use Rattle.zb_recovery.specs.Missing.{Servers}
use Rattle.zb_sound.specs.Standing.{StandFor, seen}
use Rattle.zb_sound.specs.Delivering.{ForEach, allowed}
use Rattle.zb_sound.proofs.Missing.{some_may}
use Rattle.zb_sound.proofs.Saying.{said_some}

first_share : (f end : ℕ) → 0 < f → 0 < end → 0 < share_length f end 0
first_share f end pos some = omega arith

-- nothing stands of a stripe that holds bytes: absurd
pub unwritten_holds_none : (v : View) (log : LogId) (stripe end : ℕ) (bytes : List ℕ) → 2 ≤ v.servers → 0 < v.fragment → 0 < end
    → IsUnwritten v log stripe → StripeHolds v log stripe end bytes → ⊥
unwritten_holds_none v log stripe end bytes two pos some none h = elim (cases_Bool (away_at v.servers v.away log stripe 0)) as (λ _. ⊥) [
  | inr looked ↦
      let reaches = (h.shares 0 (omega arith) looked).reaches in
      let empty : length (share_bytes (standing v.servers v.maps log stripe 0)) ≡ 0 = ap (λ (o : Option Fragment). length (share_bytes o)) (none 0 (omega arith) looked) in
      let long = first_share v.fragment end pos some in
      absurd (omega arith)
  | inl gone ↦
      let there : away_at v.servers v.away log stripe (v.servers - 1) ≡ false = elim (cases_Bool (away_at v.servers v.away log stripe (v.servers - 1))) as (λ _. away_at v.servers v.away log stripe (v.servers - 1) ≡ false) [
        | inr f ↦ f
        | inl t ↦
            let one = away_once v.servers v.away log stripe 0 (v.servers - 1) (omega arith) (omega arith) gone t in
            absurd (omega arith)
      ] in
      subst (ParityHolds (v.servers - 1) v.fragment (standing v.servers v.maps log stripe) (away_at v.servers v.away log stripe) end bytes)
      (none (v.servers - 1) (omega arith) there) (h.parity there)
]

pub unwritten_not_held : (z : Sizes) (contents : Contents) (p : Platter) (st : Servers) (tables : Tables) (tree : Tree) (log : LogId) (stripe : ℕ) → StandFor z contents p st tables tree → 2 ≤ z.servers → 0 < z.fragment
    → ForEach z.servers st (allowed tables.members) (λ x. IsUnwritten (seen z st x) log stripe) → (o : Option HeldUse) → held_at log stripe tables.held ≡ o → held_at log stripe tables.held ≡ None
unwritten_not_held z contents p st tables tree log stripe s two pos none None e = e
unwritten_not_held z contents p st tables tree log stripe s two pos none (Some h) e =
    let one = some_may z.servers tables.members st s.agree.one_unfit in
    let held = s.agree.agree one.0 one.1 log stripe h e in
    absurd (unwritten_holds_none (seen z st one.0) log stripe h.end held.bytes two pos (said_some z contents p tables tree s.says log stripe h e) (none one.0 one.1) held.held)
