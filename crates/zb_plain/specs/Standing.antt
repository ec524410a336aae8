-- What plain servers keep.
use Rattle.std.specs.Prelude.{◌≡◌, if◌then◌else◌, List, [], ◌∷◌, slice_index_or, Option, None, option_map}
use Rattle.std.specs.List.Sorted.{IsStrictlySortedBy}
use Rattle.std.specs.Map.{lookup, keys_of}
use Rattle.zb_types.specs.declared.geometry.Geometry.{Geometry}
use Rattle.zb_types.specs.declared.ids.ServerId.{ServerId}
use Rattle.zb_types.specs.declared.ids.FragId.{FragId}
use Rattle.zb_types.specs.declared.requests.Request.{Request}
use Rattle.zb_types.specs.Order.{frag_cmp}
use Rattle.zb_holding.specs.Fragments.{Fragment, share_fragment, parity_fragment}
use Rattle.zb_holding.specs.Holding.{Maps, View, view_of}
use Rattle.zb_holding.specs.Carrying.{same_frag, is_about, stands_after}
use Rattle.zb_plain.specs.declared.kept.Kept.{Kept}
use Rattle.zb_plain.specs.declared.kept.Kept.TheVariants.{Share, Parity}

-- what a server keeps: names, each with what stands under it
abbrev pub Entries : Type 0
Entries = List (FragId × Kept)

-- each name once, in order
abbrev pub IsInOrder : Entries → Type 0
IsInOrder entries = IsStrictlySortedBy frag_cmp (keys_of entries)

-- what is kept, as a fragment
abbrev pub fragment_of : Kept → Fragment
fragment_of (Share bytes) = share_fragment bytes
fragment_of (Parity lengths bytes) = parity_fragment lengths bytes

-- what stands under a name
abbrev pub stands_in : Entries → FragId → Option Fragment
stands_in entries id = option_map fragment_of (lookup (same_frag id) entries)

-- what server i keeps, counted from 1, and nothing where there is none
abbrev pub entries_of : List Entries → ServerId → Entries
entries_of servers server = slice_index_or ([] ∷ servers) server.0 []

-- what each of some servers keeps under each name
abbrev pub maps_of : List Entries → Maps
maps_of servers server id = stands_in (entries_of servers server) id

-- all of these servers, each of which is looked at
abbrev pub seen_at : Geometry → List Entries → View
seen_at geo servers = view_of geo.servers geo.fragment (maps_of servers) None

-- the new entries have this under a name, and what the old ones have under each other
abbrev pub IsPut : Entries → Entries → FragId → Option Fragment → Type 0
IsPut old new id stands = (q : FragId)
    → stands_in new q ≡ (if same_frag id q then stands else stands_in old q)

-- the new entries are the old ones after a request
abbrev pub IsAfter : Entries → Entries → Request → Type 0
IsAfter old new request = (q : FragId)
    → stands_in new q ≡ (if is_about request q then stands_after request (stands_in old q) else stands_in old q)
