-- What a rebuild has covered.
use Rattle.std.specs.Prelude.{◌≡◌, ℕ, List, None, Some}
use Rattle.zb_types.specs.declared.ids.LogId.{LogId}
use Rattle.zb_types.specs.declared.tables.HeldUse.{HeldUse}
use Rattle.zb_tables.specs.Tables.{Contents, held_at}
use Rattle.zb_tables.specs.Taking.{Sizes}
use Rattle.zb_recovery.specs.Missing.{Servers}
use Rattle.zb_recovery.specs.Agreeing.{StripeAgrees}
use Rattle.zb_sound.specs.Standing.{seen}
use Rattle.zb_sound.specs.Delivering.{ForEach, any_one}

-- the servers hold the committed bytes of a stripe whichever one of them may be missing
abbrev pub StandsWhole : Sizes → Contents → Servers → LogId → ℕ → ℕ → Type 0
StandsWhole z contents st log stripe end = ForEach z.servers st any_one (λ x. StripeAgrees (seen z st x) contents log stripe end)

-- each held stripe but those that a rebuild has still to restore stands so
abbrev pub RebuildIsCovered : Sizes → Contents → Servers → List HeldUse → List HeldUse → Type 0
RebuildIsCovered z contents st held left =
    (log : LogId) (stripe : ℕ) (h : HeldUse) → held_at log stripe held ≡ Some h → held_at log stripe left ≡ None → StandsWhole z contents st log stripe h.end
