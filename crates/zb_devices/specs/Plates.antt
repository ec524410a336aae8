-- What a platter in memory holds.
use Rattle.std.specs.Prelude.{◌≡◌, ℕ, ◌+◌, nat_lt, min, if◌then◌else◌, List, [], ◌∷◌, ◌++◌, length, take, drop}
use Rattle.zb_devices.specs.Record.{PlatterState}
use Rattle.zb_devices.specs.declared.plate.Plate.{Plate}
use Rattle.zb_devices.specs.declared.unsynced.Unsynced.{Unsynced}

-- an image as it was before this range was written
abbrev pub restored : Unsynced → List ℕ → List ℕ
restored u image =
    let cut : List ℕ = take u.length image in
    let end : ℕ = u.from + length u.old.items in
    if nat_lt (length cut) end then cut else take u.from cut ++ u.old.items ++ drop end cut

-- an image as it was before these ranges were written, the last one first
abbrev pub undone : List Unsynced → List ℕ → List ℕ
undone [] image = image
undone (u ∷ us) image = restored u (undone us image)

-- the ranges, with none of what stood there
abbrev pub ranges_of : List Unsynced → List (ℕ × ℕ)
ranges_of [] = []
ranges_of (u ∷ us) = (u.place, u.count) ∷ ranges_of us

-- a platter in memory holds what the record says
pub record Shows (plate : Plate) (s : PlatterState) : Type 0 where
  pub seen : plate.seen.items ≡ s.seen
  pub base : undone plate.unsynced.items plate.seen.items ≡ s.base
  pub ranges : ranges_of plate.unsynced.items ≡ s.ranges

-- what stood in a range before it was written, as far as the image went
pub record Saves (at n : ℕ) (image : List ℕ) (u : Unsynced) : Type 0 where
  pub place : u.place ≡ at
  pub count : u.count ≡ n
  pub from : u.from ≡ min at (length image)
  pub length_is : u.length ≡ length image
  pub old : u.old.items ≡ drop (min at (length image)) (take (at + n) image)
