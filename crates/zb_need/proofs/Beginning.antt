-- Half full stripes are begun for what updates need.
use Rattle.std.proofs.Common.{◌≡◌, ◌⊎◌, ℕ, ◌+◌, ◌-◌, ◌*◌, ◌/◌, ◌<◌, ◌≤◌, Bool, true, List, [], ◌∷◌, map, ap, subst, inl, inr, arith}
use Rattle.std.specs.Prelude.{min, if◌then◌else◌}
use Rattle.std.specs.List.{sum}
use Rattle.std.proofs.lemmas.Bool.{cases_lt}
use Rattle.std.proofs.lemmas.List.Sums.{sum_by-cons}
use Rattle.std.proofs.lemmas.Nat.{mul-le}
use Rattle.zb_types.specs.declared.geometry.Geometry.{Geometry}
use Rattle.zb_types.specs.declared.calls.Call.{Call}
use Rattle.zb_types.specs.declared.lines.Line.TheVariants.{Call as CallLine}
use Rattle.zb_types.specs.Apply.{is_update}
use Rattle.zb_headline.specs.Need.{need_of, weight}
use Rattle.zb_log.specs.declared.places.Place.{Place}
use Rattle.zb_need.specs.Filling.{HalfFull, stripes_begun}
use Rattle.zb_need.specs.Weights.{need, needs, weights}
use Rattle.zb_need.proofs.Numbers.{enough}

-- as many stripes are begun as there is room for
few-begun : (room s o n : ℕ) → 0 < room → s * room + o ≤ n * room → s + min 1 o ≤ n
few-begun room s o n some le = by (cases_lt n (s + min 1 o)) where
  by : (n < s + min 1 o) ⊎ (s + min 1 o ≤ n) → s + min 1 o ≤ n
  by (inr low) = low
  by (inl high) = let whole = mul-le n room s room (omega arith) (omega arith) in by_rest (cases_lt 0 o) whole where
    by_rest : (0 < o) ⊎ (o ≤ 0) → n * room ≤ s * room → s + min 1 o ≤ n
    by_rest (inl l) whole = absurd (omega arith)
    by_rest (inr none) whole = let more = mul-le (n + 1) room s room (omega arith) (omega arith) in absurd (omega arith)

abbrev needs_of : Geometry → ℕ → List Call → ℕ
needs_of geo room updates = sum (map (λ u. 1 + 2 * weight geo u / room) updates)

all-enough : (geo : Geometry) (room : ℕ) (updates : List Call) → 0 < room → 2 * weights geo updates ≤ needs_of geo room updates * room
all-enough geo room [] some = omega arith
all-enough geo room (u ∷ us) some =
    let here = enough room (weight geo u) some in
    let rest = all-enough geo room us some in
    let weigh = sum_by-cons (λ (n : ℕ). n) (weight geo u) (map (weight geo) us) in
    let need = sum_by-cons (λ (n : ℕ). n) (1 + 2 * weight geo u / room) (map (λ u. 1 + 2 * weight geo u / room) us) in
    let product = ap (λ (n : ℕ). n * room) need in
    omega arith

pub begun-few : (geo : Geometry) (room : ℕ) (at : Place) (updates : List Call) → room ≡ (geo.servers - 1) * geo.fragment → 0 < room → HalfFull room at (weights geo updates) → stripes_begun at ≤ needs geo updates
begun-few geo room at updates same some half =
    subst (λ (r : ℕ). stripes_begun at ≤ needs_of geo r updates) same
    (few-begun room at.stripe at.offset (needs_of geo room updates) some (let all = all-enough geo room updates some in omega arith))

pub need-lines : (geo : Geometry) (plus : Bool) (client : ℕ) (update : Call) → is_update update ≡ true → need_of geo (CallLine plus client update) ≡ need geo update
need-lines geo plus client update is = ap (λ (t : Bool). if t then need geo update else 0) is
