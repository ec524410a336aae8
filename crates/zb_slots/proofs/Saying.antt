-- What a header says may stand.
use Rattle.std.proofs.Common.{◌≡◌, ℕ, ◌+◌, ◌<◌, ◌≤◌, ◌==◌, nat_lt, nat_le, ◌&&◌, Bool, true, false, if◌then◌else◌, List, slice_index, Option, None, Some, refl, sym, subst, arith}
use Rattle.std.proofs.lemmas.Bool.Decides.{nat_tests}
use Rattle.byteorder.specs.Endian.{big_from}
use Rattle.zb_types.specs.declared.ids.FragId.{FragId}
use Rattle.zb_slots.specs.declared.header.Header.{Header}
use Rattle.zb_slots.specs.declared.header.Header.TheVariants.{Free, Share, Parity}
use Rattle.zb_slots.specs.Headers.{judged, name_in, said, MayStand}
use Rattle.zb_slots.specs.Slots.{header_in}

-- what is said here, if anything, may stand
abbrev pub Stands : (n f : ℕ) → Option Header → Type 0
Stands n f None = Unit {0}
Stands n f (Some header) = MayStand n f header

stands_by : (n f : ℕ) (id : FragId) (turn length : ℕ) (free share parity : Bool) → (share ≡ true → MayStand n f (Share id length)) → (parity ≡ true → MayStand n f (Parity id turn length))
    → Stands n f (if free then Some Free else (if share then Some (Share id length) else (if parity then Some (Parity id turn length) else None)))
stands_by n f id turn length true share parity a b = tt
stands_by n f id turn length false true parity a b = a refl
stands_by n f id turn length false false true a b = b refl
stands_by n f id turn length false false false a b = tt

share_below : (n f kind index turn length : ℕ) → (kind == 1 && (nat_lt (index + 1) n && (turn == 0 && nat_le length f))) ≡ true → index + 1 < n
share_below n f kind index turn length h = grind (arith, nat_tests)

share_fits : (n f kind index turn length : ℕ) → (kind == 1 && (nat_lt (index + 1) n && (turn == 0 && nat_le length f))) ≡ true → length ≤ f
share_fits n f kind index turn length h = grind (arith, nat_tests)

parity_last : (n f kind index turn length : ℕ) → (kind == 2 && (index + 1 == n && (nat_lt turn 3 && nat_le length f))) ≡ true → index + 1 ≡ n
parity_last n f kind index turn length h = grind (arith, nat_tests)

parity_turn : (n f kind index turn length : ℕ) → (kind == 2 && (index + 1 == n && (nat_lt turn 3 && nat_le length f))) ≡ true → turn < 3
parity_turn n f kind index turn length h = grind (arith, nat_tests)

parity_fits : (n f kind index turn length : ℕ) → (kind == 2 && (index + 1 == n && (nat_lt turn 3 && nat_le length f))) ≡ true → length ≤ f
parity_fits n f kind index turn length h = grind (arith, nat_tests)

judged_stands : (n f kind : ℕ) (id : FragId) (turn length : ℕ) → Stands n f (judged n f kind id turn length)
judged_stands n f kind id turn length = stands_by n f id turn length
    (kind == 0 && (id.index == 0 && (turn == 0 && length == 0)))
    (kind == 1 && (nat_lt (id.index + 1) n && (turn == 0 && nat_le length f)))
    (kind == 2 && (id.index + 1 == n && (nat_lt turn 3 && nat_le length f)))
    (λ h. (share_below n f kind id.index turn length h, share_fits n f kind id.index turn length h))
    (λ h. (parity_last n f kind id.index turn length h, (parity_turn n f kind id.index turn length h, parity_fits n f kind id.index turn length h)))

-- what a cell says may stand
pub header_stands : (n f : ℕ) (v : Option (List ℕ)) → Stands n f (header_in n f v)
header_stands n f None = tt
header_stands n f (Some payload) = judged_stands n f (slice_index payload 13) (name_in payload) (slice_index payload 14) (big_from 16 4 payload)

-- what a payload says may stand
pub said_stands : (n f : ℕ) (payload : List ℕ) (says : Option Header) → says ≡ said n f payload → (header : Header) → says ≡ Some header → MayStand n f header
said_stands n f payload says is header some = subst (Stands n f) some (subst (Stands n f) (sym is) (header_stands n f (Some payload)))
