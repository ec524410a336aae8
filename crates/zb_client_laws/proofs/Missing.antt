-- Where all servers take part, each of them may be missing, and none.
use Rattle.std.proofs.Common.{◌≡◌, ℕ, Bool, true, false, Option, None, sym, ap, ◌∙◌}
use Rattle.std.specs.Prelude.{◌||◌, IfSome}
use Rattle.zb_types.specs.declared.ids.ServerId.{ServerId}
use Rattle.zb_types.specs.declared.nodes.Members.{Members}
use Rattle.zb_types.specs.declared.nodes.State.{State}
use Rattle.zb_types.specs.declared.nodes.State.TheVariants.{Whole}
use Rattle.zb_tables.specs.Taking.{IsServer}
use Rattle.zb_recovery.specs.Missing.{MayMiss, is_unfit, names_server}
use Rattle.zb_client_laws.specs.Around.{Around, IsAround}

false_true : (b : Bool) → b ≡ false → b ≡ true → ⊥
false_true b e t = clash (sym e ∙ t) where
  clash : false ≡ true → ⊥
  clash c = cc

none_unfit : (members : Members) (blank : ServerId → Bool) (s : ServerId) → members.state ≡ Whole → blank s ≡ false → is_unfit members blank s ≡ false
none_unfit members blank s e b = ap (λ (x : Bool). x || names_server members.state s) b ∙ ap (λ (x : State). names_server x s) e

-- whichever server, or none
pub any_misses : (slots : ℕ) (w : Around) → IsAround slots w → (x : Option ServerId) → IfSome x (IsServer w.z.servers) → MayMiss w.z.servers w.tables.members w.st.blank x
any_misses slots w a x is = record {
  covers = λ s i unfit. absurd (false_true (is_unfit w.tables.members w.st.blank s) (none_unfit w.tables.members w.st.blank s a.whole (a.none_blank s)) unfit);
  among = is;
}

pub none_misses : (slots : ℕ) (w : Around) → IsAround slots w → MayMiss w.z.servers w.tables.members w.st.blank None
none_misses slots w a = any_misses slots w a None tt
