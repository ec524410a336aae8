-- What the work is for stays so.
use Rattle.std.proofs.Common.{◌≡◌, ℕ, zero, suc, ◌<◌, Bool, true, false, List, [], ◌∷◌, ◌++◌, length, drop, Option, Some, None, refl, sym, subst, ◌∙◌, arith}
use Rattle.std.specs.Prelude.{nat_lt, slice_get, All}
use Rattle.std.specs.List.{AllByRecursion}
use Rattle.zb_basis.proofs.Each.{each-of, all-of}
use Rattle.std.proofs.lemmas.Bool.{ltb-true}
use Rattle.std.proofs.lemmas.Option.{same_Some}
use Rattle.zb_work.specs.declared.work.Task.{Task}
use Rattle.zb_types.specs.Apply.{is_update}
use Rattle.zb_basis.specs.declared.calls.Numbered.{Numbered}
use Rattle.zb_work.specs.declared.work.Aim.{Aim}
use Rattle.zb_work.specs.declared.work.Aim.TheVariants.{Update, Read, Finish}
use Rattle.zb_work.specs.Steps.{aim_of, next_task}
use Rattle.zb_work.specs.Fitting.{BeginsRead, last_number, AimFits}

none_left : (n : ℕ) → 0 < length (drop {A = Numbered} n []) → ⊥
none_left zero h = omega arith
none_left (suc n) h = omega arith

last_dropped : (n : ℕ) (ks : List Numbered) → 0 < length (drop n ks) → last_number (drop n ks) ≡ last_number ks
last_dropped zero [] h = refl
last_dropped zero (k ∷ ks) h = refl
last_dropped (suc n) [] h = absurd (omega arith)
last_dropped (suc n) (k ∷ []) h = absurd (none_left n h)
last_dropped (suc n) (k ∷ (l ∷ ks)) h = last_dropped n (l ∷ ks) h

-- a call that was put behind others is the last
pub last_pushed : (ks : List Numbered) (k : Numbered) → last_number (ks ++ k ∷ []) ≡ Some k.number
last_pushed [] k = refl
last_pushed (x ∷ []) k = refl
last_pushed (x ∷ (y ∷ ks)) k = last_pushed (y ∷ ks) k

aim_by : (kept queue : List Numbered) (n : ℕ) (aim : Option Aim) (t : Bool) → nat_lt 0 (length (drop n kept)) ≡ t → AimFits kept queue aim → AimFits (drop n kept) queue (aim_of (next_task aim t))
aim_by kept queue n None true e h = tt
aim_by kept queue n None false e h = tt
aim_by kept queue n (Some Read) true e h = h
aim_by kept queue n (Some Read) false e h = h
aim_by kept queue n (Some (Update number)) true e h = last_dropped n kept (ltb-true 0 (length (drop n kept)) e) ∙ h
aim_by kept queue n (Some (Update number)) false e h = tt
aim_by kept queue n (Some Finish) true e h = ltb-true 0 (length (drop n kept)) e
aim_by kept queue n (Some Finish) false e h = tt

-- some calls left, and the next batch or the read is at work
pub aim_left : (kept queue : List Numbered) (n : ℕ) (aim : Option Aim) → AimFits kept queue aim → AimFits (drop n kept) queue (aim_of (next_task aim (nat_lt 0 (length (drop n kept)))))
aim_left kept queue n aim h = aim_by kept queue n aim (nat_lt 0 (length (drop n kept))) refl h

begins_pushed : (queue : List Numbered) (x : Numbered) → BeginsRead queue → BeginsRead (queue ++ x ∷ [])
begins_pushed [] x h = absurd h
begins_pushed (read ∷ rest) x h = h

aim_queued : (kept queue : List Numbered) (x : Numbered) (aim : Option Aim) → AimFits kept queue aim → AimFits kept (queue ++ x ∷ []) aim
aim_queued kept queue x None h = tt
aim_queued kept queue x (Some Read) h = begins_pushed queue x h
aim_queued kept queue x (Some (Update number)) h = h
aim_queued kept queue x (Some Finish) h = h

-- a call was queued
pub aim_pushed : (kept queue new : List Numbered) (x : Numbered) (aim : Option Aim) → AimFits kept queue aim → new ≡ queue ++ x ∷ [] → AimFits kept new aim
aim_pushed kept queue new x aim h e = subst (λ (q : List Numbered). AimFits kept q aim) (sym e) (aim_queued kept queue x aim h)

pub aim_leave : (kept new queue : List Numbered) (n : ℕ) (task t : Option Task) → new ≡ drop n kept → t ≡ next_task (aim_of task) (nat_lt 0 (length (drop n kept))) → AimFits kept queue (aim_of task) → AimFits new queue (aim_of t)
aim_leave kept new queue n task t k e h = subst (λ (ks : List Numbered). AimFits ks queue (aim_of t)) (sym k) (subst (λ (z : Option Task). AimFits (drop n kept) queue (aim_of z)) (sym e) (aim_left kept queue n (aim_of task) h))

pub last_is : (new ks : List Numbered) (k : Numbered) → new ≡ ks ++ k ∷ [] → last_number new ≡ Some k.number
last_is new ks k e = rw e (last_pushed ks k)

-- the first of some calls is no update
pub begins_with : (queue : List Numbered) (read : Numbered) → slice_get queue 0 ≡ Some read → is_update read.call ≡ false → BeginsRead queue
begins_with [] read e u = absurd (cc e)
begins_with (x ∷ rest) read e u = let same : x ≡ read = same_Some _ _ e in subst (λ (z : Numbered). is_update z.call ≡ false) (sym same) u

each_left : (n : ℕ) (ks : List Numbered) → AllByRecursion (λ (k : Numbered). is_update k.call ≡ true) ks → AllByRecursion (λ (k : Numbered). is_update k.call ≡ true) (drop n ks)
each_left zero [] each = tt
each_left zero (k ∷ ks) each = each
each_left (suc n) [] each = tt
each_left (suc n) (k ∷ ks) each = each_left n ks each.1

-- some calls left, and the others are updates still
pub updates_left : (n : ℕ) (ks new : List Numbered) → new ≡ drop n ks → All (λ (k : Numbered). is_update k.call ≡ true) ks → All (λ (k : Numbered). is_update k.call ≡ true) new
updates_left n ks new e all =
    subst (λ (z : List Numbered). All (λ (k : Numbered). is_update k.call ≡ true) z) (sym e)
    (all-of (λ (k : Numbered). is_update k.call ≡ true) (drop n ks) (each_left n ks (each-of (λ (k : Numbered). is_update k.call ≡ true) ks all)))
