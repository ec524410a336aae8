use Rattle.std.proofs.Common.{◌≡◌, ℕ, ◌%◌, ◌^◌, Option, Some, None, refl, sym, ap, ◌∙◌}
use Rattle.zb_types.specs.declared.tables.HeldUse.{HeldUse}
use Rattle.zb_tables.specs.Tables.{held_at}
use Rattle.zb_usage.specs.Uses.{stripe_use}
use Rattle.zb_usage.specs.Seen.{counted, if_held}
use Rattle.zb_usage.proofs.Named.{none_named}
use Rattle.zb_usage.proofs.laws.a_renewed_usage_counts_the_use.Goals as goal

pub returns : goal.returns
returns c z t old new are points counts held log stripe = held log stripe ∙ by_held (held_at log stripe t.held) refl
  where
    by_held : (o : Option HeldUse) → held_at log stripe t.held ≡ o → if_held o (counted old log stripe) ≡ stripe_use t log stripe % 2 ^ 32
    by_held (Some h) e = counts log stripe
    by_held None e = sym (ap (λ (n : ℕ). n % 2 ^ 32) (none_named log stripe z t are points e))
