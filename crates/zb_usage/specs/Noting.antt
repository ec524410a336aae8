-- What notes tell of the use of stripes.
use Rattle.std.specs.Prelude.{◌≡◌, ℕ, ◌+◌, ◌%◌, ◌^◌, if◌then◌else◌, Option, Some, None}
use Rattle.zb_types.specs.declared.ids.Ptr.{Ptr}
use Rattle.zb_delta.specs.declared.delta.Delta.{Delta}
use Rattle.zb_delta.specs.declared.delta.Delta.TheVariants.{Update, Clean, Reject}
use Rattle.zb_tables.specs.Fold.{same_place}

-- the pointer that is named from a note on, if there is one: a reject of the pointer that the tables had gives the old one of its delta back, which that delta's own note took off in vain
abbrev pub come : Delta → Option Ptr
come (Update body) = Some body.now
come (Clean body) = Some body.now
come (Reject body table) = if same_place table (Some body.now) then body.was else None

-- the pointer that isn't named any longer, if there is one: a reject of another pointer than the tables had changes nothing
abbrev pub gone : Delta → Option Ptr
gone (Update body) = body.was
gone (Clean body) = body.was
gone (Reject body table) = if same_place table (Some body.now) then Some body.now else None

-- a count of 32 bits, which wraps, once bytes have come and others have gone
abbrev pub Counts : ℕ → ℕ → ℕ → ℕ → Type 0
Counts old came went new = (new + went) % 2 ^ 32 ≡ (old + came) % 2 ^ 32
