-- Which kept calls form a batch.
use Rattle.std.specs.Prelude.{ℕ, zero, suc, Bool, true, false, if◌then◌else◌, List, [], ◌∷◌}
use Rattle.zb_types.specs.declared.calls.Call.{Call}
use Rattle.zb_types.specs.declared.calls.Call.TheVariants.{Create, Mkdir, Remove, Rename, Write, Truncate, Sync, Read, List as ListOf, Stat, Find}
use Rattle.zb_types.specs.Limits.{most_kept}
use Rattle.zb_basis.specs.declared.calls.Numbered.{Numbered}

-- a call that changes names stands alone
abbrev pub is_alone : Call → Bool
is_alone (Create path) = true
is_alone (Mkdir path) = true
is_alone (Remove path) = true
is_alone (Rename path to) = true
is_alone (Write fid offset bytes) = false
is_alone (Truncate fid size) = false
is_alone Sync = false
is_alone (Read fid offset len) = true
is_alone (ListOf path) = true
is_alone (Stat path) = true
is_alone (Find path) = true

-- the first calls, at most so many, up to one that stands alone
abbrev pub company : ℕ → List Numbered → List Numbered
company most [] = []
company zero (call ∷ calls) = []
company (suc most) (call ∷ calls) = if is_alone call.call then [] else call ∷ company most calls

-- the calls of the next batch: one that stands alone, or the longest run of one to eight others
abbrev pub run_of : List Numbered → List Numbered
run_of [] = []
run_of (call ∷ calls) = if is_alone call.call then call ∷ [] else company most_kept (call ∷ calls)
