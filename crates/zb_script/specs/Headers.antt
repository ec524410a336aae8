-- The sizes that a header names.
use Rattle.std.specs.Prelude.{ℕ, List, ◌++◌, codes}
use Rattle.std.specs.Fmt.{decimal}
use Rattle.zb_types.specs.declared.geometry.Geometry.{Geometry}
use Rattle.zb_script.specs.Numbers.{IsNumber, field_text}
use Rattle.zb_script.specs.declared.header.Sizes.{Sizes}

-- a name with its space, a number, and what stands behind that number's space
abbrev pub named_text : List ℕ → ℕ × List ℕ → List ℕ
named_text name field = name ++ field_text field

-- each size is a number
pub record AreNumbers (sizes : Sizes) : Type 0 where
  pub servers_fit : IsNumber sizes.servers
  pub clients_fit : IsNumber sizes.clients
  pub fragment_fits : IsNumber sizes.fragment
  pub block_fits : IsNumber sizes.block
  pub slots_fit : IsNumber sizes.slots

-- the last size, with its name
abbrev pub slots_text : Sizes → List ℕ
slots_text sizes = codes "slots " ++ decimal sizes.slots

-- the last two sizes, with their names
abbrev pub block_text : Sizes → List ℕ
block_text sizes = named_text (codes "block ") (sizes.block, slots_text sizes)

-- the last three sizes, with their names
abbrev pub fragment_text : Sizes → List ℕ
fragment_text sizes = named_text (codes "fragment ") (sizes.fragment, block_text sizes)

-- the last four sizes, with their names
abbrev pub clients_text : Sizes → List ℕ
clients_text sizes = named_text (codes "clients ") (sizes.clients, fragment_text sizes)

-- a header without its line end
abbrev pub sizes_text : Sizes → List ℕ
sizes_text sizes = named_text (codes "zebra 1 servers ") (sizes.servers, clients_text sizes)

-- any sizes that a system may have
abbrev pub IsGeometry : Geometry → Type 0
IsGeometry geo = Unit {0}
