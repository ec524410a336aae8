-- What a store answers where memory or its platter failed.
use Rattle.std.specs.Prelude.{◌≡◌, ◌⊎◌, Bool, true, false, Result, Ok, Err}
use Rattle.zb_types.specs.declared.memory.Failed.{Failed}
use Rattle.zb_types.specs.declared.requests.StoreFault.{StoreFault}
use Rattle.zb_types.specs.declared.requests.StoreFault.TheVariants.{NoMemory, Stopped}

-- what a call of the platter answered
abbrev pub or_stopped : {T : Type 0} → Result T Failed → Result T StoreFault
or_stopped (Ok value) = Ok value
or_stopped (Err failed) = Err Stopped

-- did the platter stop?
abbrev pub is_stopped : {T : Type 0} → Result T StoreFault → Bool
is_stopped (Err Stopped) = true
is_stopped result = false

-- the platter stopped
abbrev pub HasStopped : {T : Type 0} → Result T StoreFault → Type 0
HasStopped result = is_stopped result ≡ true

-- want of memory, or the platter stopped
abbrev pub IsUnforeseen : StoreFault → Type 0
IsUnforeseen fault = (fault ≡ NoMemory) ⊎ (fault ≡ Stopped)
