-- What the servers keep once they have carried out requests, and what they answer to a retrieve.
use Rattle.std.specs.Prelude.{ℕ, ◌+◌, Bool, false, ◌==◌, ◌&&◌, nat_le, if◌then◌else◌, List, [], ◌∷◌, ◌++◌, length, take, drop, replicate, Option, Some, None}
use Rattle.zb_types.specs.declared.ids.ServerId.{ServerId}
use Rattle.zb_types.specs.declared.ids.FragId.{FragId}
use Rattle.zb_types.specs.declared.requests.Request.{Request}
use Rattle.zb_types.specs.declared.requests.Request.TheVariants as ask
use Rattle.zb_types.specs.declared.requests.Response.{Response}
use Rattle.zb_types.specs.declared.requests.Response.TheVariants as told
use Rattle.zb_types.specs.declared.requests.StoreFault.TheVariants as fault
use Rattle.zb_holding.specs.Fragments.{Fragment, share_fragment, parity_fragment}
use Rattle.zb_holding.specs.Holding.{Maps, View, with_maps}

-- the bytes of a share after an append at a place, which is carried out only at the end
abbrev pub appended : List ℕ → ℕ → List ℕ → List ℕ
appended stands place bytes = if place == length stands then stands ++ bytes else stands

-- what stands under a request's name after it
abbrev pub stands_after : Request → Option Fragment → Option Fragment
stands_after (ask.Store id bytes class) None = Some (share_fragment bytes)
stands_after (ask.Append id place bytes) (Some (share_fragment stands)) = Some (share_fragment (appended stands place bytes))
stands_after (ask.Parity id lengths bytes class) stands = Some (parity_fragment lengths bytes)
stands_after (ask.Delete id) stands = None
stands_after request stands = stands

-- are the two names one?
abbrev pub same_frag : FragId → FragId → Bool
same_frag a b = a.log.0 == b.log.0 && a.stripe == b.stripe && a.index == b.index

-- is the request about this name?
abbrev pub is_about : Request → FragId → Bool
is_about (ask.Store id bytes class) q = same_frag id q
is_about (ask.Append id place bytes) q = same_frag id q
is_about (ask.Parity id lengths bytes class) q = same_frag id q
is_about (ask.Retrieve id place len) q = same_frag id q
is_about (ask.Delete id) q = same_frag id q
is_about request q = false

-- the maps after one server has carried out a request
abbrev pub carried : Maps → ServerId × Request → Maps
carried maps asked server id =
    if asked.0.0 == server.0 && is_about asked.1 id then stands_after asked.1 (maps server id)
    else maps server id

-- the maps after some requests, one behind the other
abbrev pub carried_all : Maps → List (ServerId × Request) → Maps
carried_all maps [] = maps
carried_all maps (asked ∷ rest) = carried_all (carried maps asked) rest

-- the view after one server has carried out a request
abbrev pub after_request : View → ServerId × Request → View
after_request v asked = with_maps v (carried v.maps asked)

-- the view after some requests, one behind the other
abbrev pub after_requests : View → List (ServerId × Request) → View
after_requests v requests = with_maps v (carried_all v.maps requests)

-- the answer to a retrieve: a range of a share, or a parity's lengths with a range of its bytes, zeros past their end
abbrev pub found : Option Fragment → ℕ → ℕ → Response
found None place len = told.Refused fault.NoFragment
found (Some (share_fragment bytes)) place len =
    if nat_le (place + len) (length bytes) then told.Bytes (take len (drop place bytes))
    else told.Refused (fault.Short (length bytes))
found (Some (parity_fragment lengths bytes)) place len = told.Parity lengths (take len (drop place bytes ++ replicate len 0))
