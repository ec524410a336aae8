-- What a change of a platter's map is, as a request.
use Rattle.std.proofs.Common.{◌≡◌, ℕ, Bool, true, false, if◌then◌else◌, List, ◌++◌, length, Option, None, Some, refl, sym, ◌∙◌, ap, arith}
use Rattle.zb_types.specs.declared.ids.FragId.{FragId}
use Rattle.zb_types.specs.declared.nodes.Class.{Class}
use Rattle.zb_types.specs.declared.requests.Request.{Request}
use Rattle.zb_types.specs.declared.requests.Request.TheVariants as ask
use Rattle.zb_holding.specs.Fragments.{Fragment, share_fragment, parity_fragment}
use Rattle.zb_holding.specs.Carrying.{same_frag, stands_after, appended}
use Rattle.zb_slot_map.specs.Tidy.{put}
use Rattle.zb_holding.proofs.Keys.{same_frag-is}
use Rattle.zb_holding.specs.Rules.{map_after}

-- a map in which a name stands for what a request leaves under it
put_next : (id q : FragId) (request : Request) (fragment : Option Fragment) (map : FragId → Option Fragment) → fragment ≡ stands_after request (map id) → (b : Bool) → same_frag id q ≡ b
    → (if b then fragment else map q) ≡ (if b then stands_after request (map q) else map q)
put_next id q request fragment map is true same = is ∙ ap (λ name. stands_after request (map name)) (same_frag-is id q same)
put_next id q request fragment map is false same = refl

pub next_store : (id : FragId) (bytes : List ℕ) (class : Class) (map : FragId → Option Fragment) → map id ≡ None
    → (q : FragId) → put id (Some (share_fragment bytes)) map q ≡ map_after (ask.Store id bytes class) map q
next_store id bytes class map none q =
    put_next id q (ask.Store id bytes class) (Some (share_fragment bytes)) map (sym (ap (stands_after (ask.Store id bytes class)) none)) (same_frag id q) refl

pub next_parity : (id : FragId) (lengths bytes : List ℕ) (class : Class) (map : FragId → Option Fragment)
    → (q : FragId) → put id (Some (parity_fragment lengths bytes)) map q ≡ map_after (ask.Parity id lengths bytes class) map q
next_parity id lengths bytes class map q =
    put_next id q (ask.Parity id lengths bytes class) (Some (parity_fragment lengths bytes)) map refl (same_frag id q) refl

pub next_delete : (id : FragId) (map : FragId → Option Fragment) → (q : FragId) → put id None map q ≡ map_after (ask.Delete id) map q
next_delete id map q = put_next id q (ask.Delete id) None map refl (same_frag id q) refl

at_end : (stands bytes : List ℕ) → appended stands (length stands) bytes ≡ stands ++ bytes
at_end stands bytes = grind arith

pub next_append : (id : FragId) (place : ℕ) (stands bytes : List ℕ) (map : FragId → Option Fragment) → map id ≡ Some (share_fragment stands) → length stands ≡ place
    → (q : FragId) → put id (Some (share_fragment (stands ++ bytes))) map q ≡ map_after (ask.Append id place bytes) map q
next_append id place stands bytes map is len q =
    put_next id q (ask.Append id place bytes) (Some (share_fragment (stands ++ bytes))) map
    (sym (ap (stands_after (ask.Append id place bytes)) is ∙ ap (λ n. Some (share_fragment (appended stands n bytes))) (sym len) ∙ ap (λ all. Some (share_fragment all)) (at_end stands bytes)))
    (same_frag id q) refl
