-- What callers see of an outside in memory beside its meaning.
use Rattle.std.specs.Prelude.{◌≡◌, ◌≤◌, ℕ, ◌+◌, ◌-◌, ◌^◌, min, Bool, not, ◌==◌, List, Result, slice_index, refl}
use Rattle.std.specs.List.{list_any}
use Rattle.std.proofs.Common.{◌∙◌, arith}
use Rattle.zb_outside.specs.Meaning.{Meaning}
use Rattle.zb_devices.specs.Memory.{meaning_of_device, counts_of_device, platter_of_device}
use Rattle.zb_devices.specs.Answers.{Answers, StreamAnswers}
use Rattle.zb_devices.specs.Record.{PlatterState}
use Rattle.zb_outside.specs.Counts.{Counts}
use Rattle.zb_devices.specs.declared.mem_outside.MemOutside.{MemOutside}

-- what an outside tells
abbrev pub meaning_of : MemOutside → Meaning
meaning_of outside = meaning_of_device outside.device

-- what is counted of an outside
abbrev pub counts_of : MemOutside → Counts
counts_of outside = counts_of_device outside.device

-- whether there is memory for the record
abbrev pub is_recording : MemOutside → Bool
is_recording outside = not outside.device.is_frozen

-- how each platter stands: what a read gives, what its last sync left, the ranges written since, and its counts
abbrev pub platter_of : MemOutside → ℕ → PlatterState
platter_of outside = platter_of_device outside.device

-- the numbers of the device calls that fail
abbrev pub failing_of : MemOutside → List ℕ
failing_of outside = outside.failing.items

-- what each restart leaves of unsynced writes
abbrev pub choices_of : MemOutside → List ℕ
choices_of outside = outside.choices.items

-- how many restarts there were, up to the last value of a u64
abbrev pub restarts_of : MemOutside → ℕ
restarts_of outside = outside.restarts

-- what the next restart leaves: 0 where there is no choice for it
abbrev pub next_choice : MemOutside → ℕ
next_choice outside = slice_index (choices_of outside) (restarts_of outside)

-- how many device calls there were, up to the last value of a u64
abbrev pub calls_of : MemOutside → ℕ
calls_of outside = outside.calls

-- how many calls failed for want of memory, up to the last value of a u64
abbrev pub starved_of : MemOutside → ℕ
starved_of outside = outside.device.starved

-- the number of the next device call
abbrev pub next_call : MemOutside → ℕ
next_call outside = min (calls_of outside + 1) (2 ^ 64 - 1)

-- the number of the next device call stands among those that fail
abbrev pub is_due : MemOutside → Bool
is_due outside = list_any (λ n. n == next_call outside) (failing_of outside)

-- a call of platter p answers as it is due, and leaves the platter done or failed
abbrev pub AnswersAs : {T E : Type 0} → ℕ → Result T E → MemOutside → MemOutside → (PlatterState → PlatterState) → (PlatterState → PlatterState) → Type 0
AnswersAs p result old new done undone =
    Answers p (is_due old) (is_recording new) result (starved_of old) (starved_of new) (platter_of old) (platter_of new) (done (platter_of old p)) (undone (platter_of old p))

-- a call of a stream answers as it is due
abbrev pub StreamAnswersAs : {T E : Type 0} → Result T E → MemOutside → MemOutside → Type 0
StreamAnswersAs result old new = StreamAnswers (is_due old) (is_recording new) result (starved_of old) (starved_of new) (platter_of old) (platter_of new)

-- calls leave what is to fail and what restarts leave, and their numbers never fall
pub record MemFollows (old new : MemOutside) : Type 0 where
  pub failing : failing_of new ≡ failing_of old
  pub choices : choices_of new ≡ choices_of old
  pub calls : calls_of old ≤ calls_of new
  pub restarts : restarts_of old ≤ restarts_of new
  pub starved : starved_of old ≤ starved_of new

-- what no calls do
pub mem_same : (a : MemOutside) → MemFollows a a
mem_same a = record { failing = refl; choices = refl; calls = omega arith; restarts = omega arith; starved = omega arith }

-- one run after another
pub mem_then : (a b c : MemOutside) → MemFollows a b → MemFollows b c → MemFollows a c
mem_then a b c f g = record { failing = g.failing ∙ f.failing; choices = g.choices ∙ f.choices; calls = omega (arith, f.calls, g.calls); restarts = omega (arith, f.restarts, g.restarts); starved = omega (arith, f.starved, g.starved) }
