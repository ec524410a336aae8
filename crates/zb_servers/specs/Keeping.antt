-- What is kept under a name, and how it changes.
use Rattle.std.specs.Prelude.{◌≡◌, if◌then◌else◌, Option, Some, None}
use Rattle.zb_types.specs.declared.ids.FragId.{FragId}
use Rattle.zb_types.specs.declared.requests.Response.{Response}
use Rattle.zb_types.specs.declared.requests.Response.TheVariants as told
use Rattle.zb_types.specs.declared.requests.StoreFault.{StoreFault}
use Rattle.zb_holding.specs.Fragments.{Fragment, share_fragment, parity_fragment}
use Rattle.zb_holding.specs.Carrying.{same_frag}
use Rattle.zb_servers.specs.declared.kept.Form.{Form}
use Rattle.zb_servers.specs.declared.kept.Form.TheVariants.{Share, Parity}
use Rattle.zb_servers.specs.Standing.{Entries, stands_in}

-- what is kept, as a fragment
abbrev pub fragment_of : Form → Fragment
fragment_of (Share bytes) = share_fragment bytes
fragment_of (Parity lengths bytes) = parity_fragment lengths bytes

-- one name has this, and each other one what it had
abbrev pub IsPut : Entries → Entries → FragId → Option Fragment → Type 0
IsPut old new id stands = (q : FragId) → stands_in new q ≡ (if same_frag id q then stands else stands_in old q)

-- done, or this fault
abbrev pub done_unless : Option StoreFault → Response
done_unless None = told.Done
done_unless (Some fault) = told.Refused fault
