-- Names above another, in order.
use Rattle.std.specs.Prelude.{◌≡◌, ℕ, ◌≤◌, Bool, true, false, ◌&&◌, List, length, filter, Option, Some, None, All}
use Rattle.std.specs.List.{list_any}
use Rattle.std.specs.List.Sorted.{IsStrictlySortedBy}
use Rattle.std.specs.Map.{keys_of}
use Rattle.std.specs.Ordering.{is_lt}
use Rattle.std.specs.declared.ops.Bound.{Bound}
use Rattle.std.specs.declared.ops.Bound.TheVariants.{Unbounded, Excluded}
use Rattle.zb_types.specs.declared.ids.FragId.{FragId}
use Rattle.zb_types.specs.Order.{frag_cmp}
use Rattle.zb_holding.specs.Carrying.{same_frag}

-- is a name above another, or above none?
abbrev pub is_above : Option FragId → FragId → Bool
is_above None id = true
is_above (Some after) id = is_lt (frag_cmp after id)

-- where the names above another begin
abbrev pub start_above : Option FragId → Bound FragId
start_above None = Unbounded
start_above (Some after) = Excluded after

-- the names above another, of entries in order
abbrev pub names_above : {A : Type 0} → Option FragId → List (FragId × A) → List FragId
names_above after entries = keys_of (filter (λ e. is_above after e.0) entries)

-- the most names of one answer
abbrev pub most_names : ℕ
most_names = 256

-- is a name one of these?
abbrev pub is_listed : FragId → List FragId → Bool
is_listed id ids = list_any (same_frag id) ids

-- there are as many names as one answer may have, and this one is above them all
pub record IsBehind (id : FragId) (ids : List FragId) : Type 0 where
  pub many : length ids ≡ most_names
  pub above : All (λ other. is_lt (frag_cmp other id) ≡ true) ids

-- the least names above another of those that are there, each once and in order; a name is left out only behind as many as an
-- answer may have
pub record AreLeastAbove (there : FragId → Bool) (after : Option FragId) (ids : List FragId) : Type 0 where
  pub order : IsStrictlySortedBy frag_cmp ids
  pub count : length ids ≤ most_names
  pub held : (id : FragId) → is_listed id ids ≡ true → (is_above after id && there id) ≡ true
  pub left_out : (id : FragId) → (is_above after id && there id) ≡ true → is_listed id ids ≡ false → IsBehind id ids
