-- What a store answers where a slot wasn't read.
use Rattle.std.specs.Prelude.{ℕ, Result, Ok, Err}
use Rattle.zb_outside.specs.Meaning.{Meaning}
use Rattle.zb_slots.specs.Reading.{LeftAlone}
use Rattle.zb_types.specs.declared.requests.StoreFault.{StoreFault}
use Rattle.zb_types.specs.declared.requests.StoreFault.TheVariants.{NoMemory, Stopped}
use Rattle.zb_slots.specs.declared.read_fault.ReadFault.{ReadFault}
use Rattle.zb_slots.specs.declared.read_fault.ReadFault.TheVariants as reading

-- a server's platter was looked at, and is as it was
abbrev pub IsLookedAt : ℕ → Meaning → Meaning → Type 0
IsLookedAt p a b = LeftAlone p a b

-- why a slot wasn't read
abbrev pub unread : ReadFault → StoreFault
unread reading.NoMemory = NoMemory
unread reading.Stopped = Stopped

-- what a read of a slot answered
abbrev pub or_unread : {T : Type 0} → Result T ReadFault → Result T StoreFault
or_unread (Ok value) = Ok value
or_unread (Err fault) = Err (unread fault)
