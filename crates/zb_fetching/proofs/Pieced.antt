-- A piece that is read.
use Rattle.std.proofs.Common.{◌≡◌, ◌⊎◌, ℕ, zero, suc, ◌+◌, ◌≤◌, List, [], take, drop, Result, Ok, Err, refl, sym, ap, ◌∙◌, subst, inl, inr, arith}
use Rattle.std.specs.Prelude.{IfOk, OnOk, IsErrOf}
use Rattle.std.proofs.lemmas.List.{take-take}
use Rattle.zb_types.specs.declared.ids.LogId.{LogId}
use Rattle.zb_types.specs.declared.ids.ServerId.{ServerId}
use Rattle.zb_types.specs.declared.memory.NoMemory.{NoMemory}
use Rattle.zb_holding.specs.Holding.{StripeHolds}
use Rattle.zb_stripe.specs.declared.read_plan.Got.{Got}
use Rattle.zb_stripe.specs.declared.read_plan.Got.TheVariants as got
use Rattle.zb_tables.specs.Tables.{end_at}
use Rattle.zb_tables.proofs.Growing.{same_range}
use Rattle.zb_replay.specs.declared.pieces.PiecesFault.{PiecesFault}
use Rattle.zb_replay.specs.declared.pieces.PiecesFault.TheVariants as fault
use Rattle.zb_fetching.specs.Stores.{SeenServers, IsSoundStore, view_at, contents_of}
use Rattle.zb_fetching.proofs.Lost.{given_held}

module _ (s : SeenServers) (sound : IsSoundStore s) (log : LogId) (stripe offset len : ℕ) (within : offset + len ≤ end_at s.held log stripe) where
  -- its bytes are those that are given
  same_bytes : (bytes : List ℕ) → StripeHolds (view_at s) log stripe (end_at s.held log stripe) bytes → take len (drop offset bytes) ≡ take len (drop offset (contents_of s log stripe))
  same_bytes bytes holds =
      let low = s.geo.limits.servers_low in
      let some = s.geo.limits.fragment_low in
      let end = end_at s.held log stripe in
      let given = given_held (view_at s) log stripe end bytes (omega arith) (omega arith) holds in
      same_range bytes (contents_of s log stripe) end offset len (sym (ap (take end) given ∙ take-take end end bytes (omega arith))) within

  -- so a read comes to them
  pub read_is : (read : Result Got NoMemory)
      → ((end : ℕ) (bytes : List ℕ) → offset + len ≤ end → StripeHolds (view_at s) log stripe end bytes → IfOk read (λ g. g ≡ got.Bytes (take len (drop offset bytes))))
      → (len ≡ 0 → IfOk read (λ g. g ≡ got.Bytes []))
      → IfOk read (λ g. g ≡ got.Bytes (take len (drop offset (contents_of s log stripe))))
  read_is read some none = by len refl
    where
      by : (l : ℕ) → len ≡ l → IfOk read (λ g. g ≡ got.Bytes (take len (drop offset (contents_of s log stripe))))
      by zero is = subst (λ (l : ℕ). IfOk read (λ g. g ≡ got.Bytes (take l (drop offset (contents_of s log stripe))))) (sym is) (none is)
      by (suc l) is =
          let h = sound.held log stripe (omega arith) in
          subst (λ (bytes : List ℕ). IfOk read (λ g. g ≡ got.Bytes bytes)) (same_bytes h.bytes h.holds) (some (end_at s.held log stripe) h.bytes within h.holds)

-- what is told of a piece whose bytes are these, or for which memory ran out
abbrev pub IsTold : Result (List ℕ) PiecesFault → List ℕ → Type 0
IsTold r bytes = (r ≡ Ok bytes) ⊎ (r ≡ Err fault.NoMemory)

pub told_bytes : (r : Result (List ℕ) PiecesFault) (bytes : List ℕ) → IsTold r bytes → IfOk r (λ b. b ≡ bytes)
told_bytes r bytes (inl is) = subst (λ o. IfOk o (λ b. b ≡ bytes)) (sym is) refl
told_bytes r bytes (inr is) = subst (λ o. IfOk o (λ b. b ≡ bytes)) (sym is) tt

pub no_missing : (r : Result (List ℕ) PiecesFault) (bytes : List ℕ) → IsTold r bytes → IsErrOf r fault.Missing → ⊥
no_missing r bytes (inl is) err = cc
no_missing r bytes (inr is) err = cc

pub no_unreachable : (r : Result (List ℕ) PiecesFault) (bytes : List ℕ) (a b : ServerId) → IsTold r bytes → IsErrOf r (fault.Unreachable a b) → ⊥
no_unreachable r bytes a b (inl is) err = cc
no_unreachable r bytes a b (inr is) err = cc

pub ok_where : {T E P : Type 0} (r : Result T E) → P → OnOk r P
ok_where (Ok x) p = p
ok_where (Err e) p = tt
