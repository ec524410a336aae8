-- A call that a fuse holds back changes nothing.
use Rattle.std.proofs.Common.{inr, ℕ, List, Result, Err, length, refl, sym, subst}
use Rattle.zb_outside.specs.Meaning.{Meaning}
use Rattle.zb_outside.specs.Platters.{ReadTold, WriteTold, SyncTold, RestartTold, BlankTold}
use Rattle.zb_outside.specs.Ranges.{Torn, torn_same}
use Rattle.zb_outside.specs.Runs.{Held}
use Rattle.zb_outside.proofs.Time.{ticks_same}

pub read_held : {T E : Type 0} (p at : ℕ) (bytes : List ℕ) (e : E) (w : Meaning) → ReadTold {T = T} p at bytes (Err e) w w
read_held p at bytes e w = record { ticks = ticks_same p w; seen = refl; crash = λ c h. h; read = tt }

pub write_held : {T E : Type 0} (p at : ℕ) (bytes : List ℕ) (e : E) (w : Meaning) → WriteTold {T = T} p at bytes (Err e) w w
write_held p at bytes e w = record { ticks = ticks_same p w; crash = λ c h. (c, h, torn_same at _ c); torn = torn_same at _ (w.now.seen p); written = tt }

pub sync_held : {T E : Type 0} (p : ℕ) (e : E) (w : Meaning) → SyncTold {T = T} p (Err e) w w
sync_held p e w = record { ticks = ticks_same p w; seen = refl; crash = λ c h. h; durable = tt }

pub restart_held : {T E : Type 0} (p : ℕ) (e : E) (w : Meaning) → RestartTold {T = T} p (Err e) w w
restart_held p e w = record { ticks = ticks_same p w; crash = λ c h. h; seen = w.seen_now p; ok = tt }

pub blank_held : {T E : Type 0} (p : ℕ) (e : E) (w : Meaning) → BlankTold {T = T} p (Err e) w w
blank_held p e w = record { ticks = ticks_same p w; crash = λ c h. inr h; seen = inr (w.seen_now p); ok = tt }

pub write_failed : {T E : Type 0} (p at : ℕ) (bytes : List ℕ) (e : E) (r : Result T E) (old new : Meaning) → WriteTold p at bytes r old new → WriteTold {T = T} p at bytes (Err e) old new
write_failed p at bytes e r old new h = record { ticks = h.ticks; crash = h.crash; torn = h.torn; written = tt }

-- the same of a call after which only counts differ
pub held_read : {T E : Type 0} (p at : ℕ) (bytes : List ℕ) (e : E) (a b : Meaning) → Held p a b → ReadTold {T = T} p at bytes (Err e) a b
held_read p at bytes e a b h = record { ticks = h.ticks; seen = h.seen; crash = h.left; read = tt }

pub held_write : {T E : Type 0} (p at : ℕ) (bytes : List ℕ) (e : E) (a b : Meaning) → Held p a b → WriteTold {T = T} p at bytes (Err e) a b
held_write p at bytes e a b h = record {
  ticks = h.ticks;
  crash = λ c k. (c, h.left c k, torn_same at _ c);
  torn = subst (Torn at (length bytes) (a.now.seen p)) (sym h.seen) (torn_same at _ (a.now.seen p));
  written = tt;
}

pub held_sync : {T E : Type 0} (p : ℕ) (e : E) (a b : Meaning) → Held p a b → SyncTold {T = T} p (Err e) a b
held_sync p e a b h = record { ticks = h.ticks; seen = h.seen; crash = h.left; durable = tt }

pub held_restart : {T E : Type 0} (p : ℕ) (e : E) (a b : Meaning) → Held p a b → RestartTold {T = T} p (Err e) a b
held_restart p e a b h = record { ticks = h.ticks; crash = h.left; seen = subst (a.now.may_leave p) (sym h.seen) (a.seen_now p); ok = tt }

pub held_blank : {T E : Type 0} (p : ℕ) (e : E) (a b : Meaning) → Held p a b → BlankTold {T = T} p (Err e) a b
held_blank p e a b h = record { ticks = h.ticks; crash = λ c k. inr (h.left c k); seen = inr (subst (a.now.may_leave p) (sym h.seen) (a.seen_now p)); ok = tt }
