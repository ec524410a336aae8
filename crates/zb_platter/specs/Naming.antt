-- Which entries name a stripe.
use Rattle.std.specs.Prelude.{ℕ, ◌+◌, ◌==◌, ◌&&◌, Bool, false, if◌then◌else◌, List, [], ◌∷◌, Option, None, Some}
use Rattle.std.specs.List.{list_any}
use Rattle.zb_types.specs.declared.ids.LogId.{LogId}
use Rattle.zb_entries.specs.declared.entry.Entry.{Entry}
use Rattle.zb_entries.specs.declared.entry.Entry.TheVariants.{Attach, Commit, Mark, Retire}

-- is the entry a Commit with a piece in this stripe?
abbrev pub names_stripe : LogId → ℕ → Entry → Bool
names_stripe log stripe (Commit l batch generation pieces) = l.0 == log.0 && list_any (λ p. p.stripe == stripe) pieces
names_stripe log stripe (Attach owner l) = false
names_stripe log stripe (Mark members) = false
names_stripe log stripe (Retire l s) = false

-- the number of the first such entry, where the first of all has this number
abbrev pub first_naming : ℕ → LogId → ℕ → List Entry → Option ℕ
first_naming number log stripe [] = None
first_naming number log stripe (entry ∷ entries) = if names_stripe log stripe entry then Some number else first_naming (number + 1) log stripe entries
