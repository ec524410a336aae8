-- What a step does with the first queued call.
use Rattle.std.specs.Prelude.{◌≡◌, true, List, [], ◌∷◌}
use Rattle.zb_types.specs.Apply.{is_update}
use Rattle.zb_basis.specs.declared.calls.Numbered.{Numbered}
use Rattle.zb_client.specs.declared.steps.Lookup.{Lookup}
use Rattle.zb_client.specs.declared.steps.Lookup.TheVariants.{Files, Names}

-- the first queued call is an update
abbrev pub BeginsUpdate : List Numbered → Type 0
BeginsUpdate [] = ⊥
BeginsUpdate (call ∷ rest) = is_update call.call ≡ true

-- the lookup is to find the reply to a call that reads names
abbrev pub ReadsNames : Lookup → Type 0
ReadsNames (Names call) = Unit {0}
ReadsNames (Files hold asks) = ⊥
