-- What a commit that is prepared, or refused, rests on.
use Rattle.std.proofs.Common.{◌≡◌, ℕ, ◌-◌, ◌*◌, ◌^◌, ◌<◌, ◌≤◌, List, [], ◌∷◌, Option, Some, None, ap, subst, arith}
use Rattle.std.specs.Prelude.{◌==◌, nat_lt, Result, Err}
use Rattle.std.specs.List.{AllByRecursion}
use Rattle.std.proofs.lemmas.Bool.{cond_both}
use Rattle.std.proofs.lemmas.Nat.{mul-le}
use Rattle.zb_types.specs.declared.ids.LogId.{LogId}
use Rattle.zb_types.specs.declared.ids.Piece.{Piece}
use Rattle.zb_types.specs.declared.tables.CommitFault.{CommitFault}
use Rattle.zb_types.specs.declared.tables.CommitFault.TheVariants.{Regen, Stale, Worn, NoMemory, Stopped}
use Rattle.zb_types.specs.Keyed.{look}
use Rattle.zb_tables.specs.Tables.{Tables}
use Rattle.zb_tables.specs.Taking.{IsAnswer, IsPiece, Sizes, below_mark, mark_of, or_else, regen_of, stripe_room}
use Rattle.zb_log_tables.specs.HeldStripes.{EndFits}
use Rattle.zb_log_tables.specs.Logs.{StripeFits}

-- the room of a stripe has a number of four bytes
pub small_stripe : (n f : ℕ) → n ≤ 16 → f ≤ 65536 → (n - 1) * f < 2 ^ 32
small_stripe n f servers fragment =
    let most = mul-le (n - 1) f 15 65536 (omega arith) fragment in
    omega arith

-- so have the ends of pieces
pub ends_fit : (z : Sizes) (pieces : List Piece) → stripe_room z < 2 ^ 32 → AllByRecursion (IsPiece z) pieces → AllByRecursion EndFits pieces
ends_fit z [] small are = tt
ends_fit z (p ∷ ps) small are = (let within = are.0.within in omega arith, ends_fit z ps small are.1)

pub stripes_fit : (z : Sizes) (pieces : List Piece) → AllByRecursion (IsPiece z) pieces → AllByRecursion StripeFits pieces
stripes_fit z [] are = tt
stripes_fit z (p ∷ ps) are = (are.0.stripe, stripes_fit z ps are.1)

-- a refusal for members that changed
abbrev IsRegen : Option CommitFault → Type 0
IsRegen None = Unit {0}
IsRegen (Some (Regen seen now)) = Unit {0}
IsRegen (Some (Stale fid seen now)) = ⊥
IsRegen (Some (Worn field)) = ⊥
IsRegen (Some NoMemory) = ⊥
IsRegen (Some Stopped) = ⊥

mark_regen : (mark : ℕ) (pieces : List Piece) → IsRegen (below_mark mark pieces)
mark_regen mark [] = tt
mark_regen mark (p ∷ ps) =
    cond_both (nat_lt p.stripe mark) (Some (Regen p.stripe mark)) (below_mark mark ps) IsRegen (λ t. tt) (λ f. mark_regen mark ps)

is_regen : (t : Tables) (log : LogId) (pieces : List Piece) (generation : ℕ) → IsRegen (regen_of t log pieces generation)
is_regen t log pieces generation =
    cond_both (generation == t.members.generation) (below_mark (mark_of (look log.0 t.logs)) pieces) (Some (Regen generation t.members.generation)) IsRegen
    (λ same. mark_regen (mark_of (look log.0 t.logs)) pieces) (λ other. tt)

-- it is the answer
pub regen_answers : (A : Type 0) (t : Tables) (log : LogId) (pieces : List Piece) (generation : ℕ) (rest : Option CommitFault) (fault : CommitFault)
    → regen_of t log pieces generation ≡ Some fault → IsAnswer {A = A} (or_else (regen_of t log pieces generation) rest) (Err fault)
regen_answers A t log pieces generation rest fault e = answer fault (subst IsRegen e (is_regen t log pieces generation)) (ap (λ (o : Option CommitFault). or_else o rest) e) where
  answer : (f : CommitFault) → IsRegen (Some f) → or_else (regen_of t log pieces generation) rest ≡ Some f → IsAnswer {A = A} (or_else (regen_of t log pieces generation) rest) (Err f)
  answer (Regen seen now) is same = same
  answer (Stale fid seen now) is same = absurd is
  answer (Worn field) is same = absurd is
  answer NoMemory is same = tt
  answer Stopped is same = absurd is

-- want of memory isn't
pub regen_members : (A : Type 0) (t : Tables) (log : LogId) (pieces : List Piece) (generation : ℕ) (fault : CommitFault)
    → regen_of t log pieces generation ≡ Some fault → ◌≡◌ {A = Result A CommitFault} (Err fault) (Err NoMemory) → regen_of t log pieces generation ≡ None
regen_members A t log pieces generation fault e err = by_fault fault (subst IsRegen e (is_regen t log pieces generation)) err where
  by_fault : (f : CommitFault) → IsRegen (Some f) → ◌≡◌ {A = Result A CommitFault} (Err f) (Err NoMemory) → regen_of t log pieces generation ≡ None
  by_fault (Regen seen now) is same = absurd cc
  by_fault (Stale fid seen now) is same = absurd is
  by_fault (Worn field) is same = absurd is
  by_fault NoMemory is same = absurd is
  by_fault Stopped is same = absurd is
