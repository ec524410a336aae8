-- What leaves the parts of a flush as they are, at work or at their end.
use Rattle.std.specs.Prelude.{◌≡◌, All, List, Option}
use Rattle.zb_types.specs.declared.ids.LogId.{LogId}
use Rattle.zb_types.specs.declared.ids.ServerId.{ServerId}
use Rattle.zb_types.specs.declared.tables.HeldUse.{HeldUse}
use Rattle.zb_stripe.specs.declared.flush.Part.{Part}
use Rattle.zb_stripe_laws.specs.PlanAtWork.{EachStandsAsIn}
use Rattle.zb_tables.specs.Tables.{Contents, held_at}
use Rattle.zb_tables.specs.Taking.{Sizes}
use Rattle.zb_recovery.specs.Missing.{Servers}
use Rattle.zb_sound.specs.Standing.{seen}
use Rattle.zb_sound.specs.Delivering.{Missing, Misses, ForEach}

-- no more servers may be missing, and what is looked at of the parts' stripes stands as before
pub record LeavesParts (z : Sizes) (st new : Servers) (who after : Missing) (log : LogId) (parts : List Part) : Type 0 where
  pub fewer : (x : Option ServerId) → Misses z.servers new after x → Misses z.servers st who x
  pub same : ForEach z.servers new after (λ x. EachStandsAsIn (seen z new x) st.maps log parts)

-- what is held of the part's stripe is as before, and its contents are
pub record SameStripe (contents new : Contents) (held after : List HeldUse) (log : LogId) (part : Part) : Type 0 where
  pub same_held : held_at log part.stripe after ≡ held_at log part.stripe held
  pub same_contents : new log part.stripe ≡ contents log part.stripe

-- so it is of each part
abbrev pub SameStripes : Contents → Contents → List HeldUse → List HeldUse → LogId → List Part → Type 0
SameStripes contents new held after log parts = All (SameStripe contents new held after log) parts
