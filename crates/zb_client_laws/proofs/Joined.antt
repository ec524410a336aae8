-- The clients of a system, each with a log of its own.
use Rattle.std.proofs.Common.{◌≡◌, ◌≢◌, ℕ, zero, suc, ◌+◌, Bool, List, [], ◌∷◌, Option, Some, refl, sym, ap, ◌∙◌, subst, inl, inr, arith}
use Rattle.std.specs.Prelude.{◌⊎◌, if◌then◌else◌, slice_get, slice_set}
use Rattle.std.proofs.lemmas.Bool.{cases_eq, eq-eqb, ne_eqb}
use Rattle.std.proofs.lemmas.Option.{none-some, same_Some}
use Rattle.zb_types.specs.declared.ids.LogId.{LogId}
use Rattle.zb_types.specs.declared.ids.Piece.{Piece}
use Rattle.zb_types.specs.declared.ids.ServerId.{ServerId}
use Rattle.zb_types.specs.declared.nodes.Class.{Class}
use Rattle.zb_types.specs.declared.requests.Request.{Request}
use Rattle.zb_types.specs.Keyed.{look}
use Rattle.zb_types.specs.Tree.{Tree}
use Rattle.zb_stripe.specs.declared.flush.Flush.{Flush}
use Rattle.zb_batch.specs.declared.batch.Batch.{Batch}
use Rattle.zb_tables.specs.Fold.{Shelf}
use Rattle.zb_tables.specs.Tables.{LogState}
use Rattle.zb_sound.specs.Delivering.{FlushWorks, allowed}
use Rattle.zb_client.specs.Seen.{SeenClient}
use Rattle.zb_client_laws.specs.Around.{Around, IsAround}
use Rattle.zb_client_laws.specs.Effects.{IsCommit, after_commit, after_request}
use Rattle.zb_client_laws.specs.Sound.{ClientIsSound, ClientsAreSound, with_seen}
use Rattle.zb_client_laws.proofs.Others.{commit_beside, request_beside}

-- a list with another element at a place
set_there : (cs : List SeenClient) (i : ℕ) (c after : SeenClient) → slice_get cs i ≡ Some c → slice_get (slice_set cs i after) i ≡ Some after
set_there [] i c after e = absurd (none-some c e)
set_there (d ∷ ds) zero c after e = refl
set_there (d ∷ ds) (suc i) c after e = set_there ds i c after e

set_other : (cs : List SeenClient) (i j : ℕ) (after : SeenClient) → j ≢ i → slice_get (slice_set cs i after) j ≡ slice_get cs j
set_other [] i j after ne = refl
set_other (d ∷ ds) zero zero after ne = absurd (ne refl)
set_other (d ∷ ds) zero (suc j) after ne = refl
set_other (d ∷ ds) (suc i) zero after ne = refl
set_other (d ∷ ds) (suc i) (suc j) after ne = set_other ds i j after (λ e. ne (ap suc e))

-- two clients don't share a log
module _ (w : Around) (one two : Tree) (c d : SeenClient) (s : ClientIsSound w one c) (t : ClientIsSound w two d) where
  pub logs_differ : c.client ≢ d.client → c.log.log.0 ≢ d.log.log.0
  logs_differ ne same =
      let a = s.log.current.is in
      let b = t.log.current.is in
      let state = same_Some a.state b.state (sym a.there ∙ ap (λ (k : ℕ). look k w.tables.logs) same ∙ b.there) in
      ne (sym a.owner_is ∙ ap (λ (l : LogState). l.owner) state ∙ b.owner_is)

module _ (w new : Around) (seen later : ℕ → Tree) (clients : List SeenClient) (all : ClientsAreSound w seen clients) (i : ℕ) (c after : SeenClient) (is : slice_get clients i ≡ Some c)
    (same : after.client ≡ c.client) (own : ClientIsSound new (later i) after)
    (others : (j : ℕ) (d : SeenClient) → j ≢ i → slice_get clients j ≡ Some d → ClientIsSound new (later j) d) where
  by_place : (j : ℕ) (d : SeenClient) → slice_get (slice_set clients i after) j ≡ Some d → (j ≡ i) ⊎ (j ≢ i) → ClientIsSound new (later j) d × (d.client ≡ j + 1)
  by_place j d e (inl here) =
      let there : after ≡ d = same_Some after d (sym (set_there clients i c after is) ∙ ap (slice_get (slice_set clients i after)) (sym here) ∙ e) in (
        subst (λ (x : SeenClient). ClientIsSound new (later j) x) there (subst (λ (k : ℕ). ClientIsSound new (later k) after) (sym here) own),
        ap (λ (x : SeenClient). x.client) (sym there) ∙ same ∙ (all i c is).1 ∙ ap (λ (k : ℕ). k + 1) (sym here),
      )
  by_place j d e (inr ne) = let at = sym (set_other clients i j after ne) ∙ e in (others j d ne at, (all j d at).1)

  pub all_sound : ClientsAreSound new later (slice_set clients i after)
  all_sound j d e = by_place j d e (cases_eq j i)

module _ (seen : ℕ → Tree) (clients : List SeenClient) (i : ℕ) (c after : SeenClient) (is : slice_get clients i ≡ Some c) (same : after.client ≡ c.client) where
  pub inside_together : (w : Around) (tree : Tree) → ClientsAreSound w seen clients → ClientIsSound w tree after → ClientsAreSound w (with_seen seen i tree) (slice_set clients i after)
  inside_together w tree all own =
      all_sound w w seen (with_seen seen i tree) clients all i c after is same
      (subst (λ (t : Tree). ClientIsSound w t after) (sym (ap (λ (b : Bool). if b then tree else seen i) (eq-eqb i i refl))) own)
      (λ j d ne at. subst (λ (t : Tree). ClientIsSound w t d) (sym (ap (λ (b : Bool). if b then tree else seen j) (ne_eqb j i ne))) (all j d at).0)

  module _ (slots : ℕ) (w : Around) (a : IsAround slots w) (all : ClientsAreSound w seen clients) (flush : Flush) (log_is : flush.log ≡ c.log.log) where
    other_log : (j : ℕ) (d : SeenClient) → j ≢ i → slice_get clients j ≡ Some d → d.log.log.0 ≢ flush.log.0
    other_log j d ne at same_log =
        logs_differ w (seen j) (seen i) d c (all j d at).0 (all i c is).0
        (λ e. let p = (all j d at).1 in let q = (all i c is).1 in ne (by (sym p ∙ e ∙ q)))
        (same_log ∙ ap (λ (l : LogId). l.0) log_is) where
          by : j + 1 ≡ i + 1 → j ≡ i
          by e = omega (arith, e)

    pub store_together : (out : Option ServerId) (class : Class) (left : List (ServerId × Request)) (asked : ServerId × Request)
        → FlushWorks w.z w.contents w.st w.tables.held (allowed w.tables.members) out class flush left → slice_get left 0 ≡ Some asked
        → ClientIsSound (after_request w asked) (seen i) after → ClientsAreSound (after_request w asked) seen (slice_set clients i after)
    store_together out class left asked works first own =
        all_sound w (after_request w asked) seen seen clients all i c after is same own
        (λ j d ne at. request_beside slots w (seen j) d a (all j d at).0 out class flush left asked (other_log j d ne at) works first)

    pub commit_together : (number : ℕ) (pieces : List Piece) (batch : Batch) (shelf : Shelf) (tree : Tree) → IsCommit w flush pieces batch shelf
        → ClientIsSound (after_commit w flush number pieces shelf tree) (seen i) after
        → ClientsAreSound (after_commit w flush number pieces shelf tree) seen (slice_set clients i after)
    commit_together number pieces batch shelf tree commits own =
        all_sound w (after_commit w flush number pieces shelf tree) seen seen clients all i c after is same own
        (λ j d ne at. commit_beside slots w (seen j) d a (all j d at).0 flush number pieces batch shelf tree (other_log j d ne at) commits)
