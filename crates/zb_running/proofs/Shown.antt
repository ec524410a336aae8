-- What a report tells of a course.
use Rattle.std.proofs.Common.{◌≡◌, ℕ, ◌-◌, ◌≤◌, ◌<◌, List, length, Option, Some, None, refl, sym, ap, ◌∙◌, subst, arith}
use Rattle.std.specs.Prelude.{option_map, slice_get}
use Rattle.std.proofs.lemmas.Option.{none-some, same_Some}
use Rattle.zb_types.specs.declared.geometry.Geometry.{Geometry}
use Rattle.zb_types.specs.declared.lines.Kind.TheVariants.{Idle}
use Rattle.zb_types.specs.declared.lines.Outcome.{Outcome}
use Rattle.zb_types.specs.declared.tables.TreeEntry.{TreeEntry}
use Rattle.zb_types.specs.History.{IsLegal}
use Rattle.zb_types.specs.Tree.{Tree, listing}
use Rattle.zb_claims.specs.Points.{Subject, calls, tree_at}
use Rattle.zb_given.specs.Ends.{HaveLastLines, HaveLines}
use Rattle.zb_given.specs.Given.{FitGiven, Given, script_of}
use Rattle.zb_client.specs.Seen.{SeenClient, kind_of}
use Rattle.zb_ledger.proofs.Looking.{keeps_legal}
use Rattle.zb_system.proofs.Resting.{has_lines}
use Rattle.zb_tables.specs.Tables.{Contents, shown_tree}
use Rattle.zb_nodes.specs.Seen.{kind_at}
use Rattle.zb_finishing.specs.Clients.{AllIdle, AllKeepNone}
use Rattle.zb_finishing.specs.Giving.{AreCalls}
use Rattle.zb_finishing.proofs.Asked.{all_have_last}
use Rattle.zb_course.specs.Seen.{SeenCourse}
use Rattle.zb_course.specs.Sound.{IsSoundWith}
use Rattle.zb_course.specs.declared.lines.Untold.{Untold}
use Rattle.zb_course.proofs.Stepping.{numbered}
use Rattle.zb_running.specs.Reports.{HasReport, IsReported}
use Rattle.zb_running.proofs.OfSystems.{clients_are}

-- what holds whether lines wait or not
module _ {geo : Geometry} {given : Given} {lines : List Outcome} {c : SeenCourse} (r : IsReported geo given lines c) where
  count_is : (u : Option Untold) → IsSoundWith given lines c u → length c.nodes.clients ≡ c.nodes.manager.sizes.clients
  count_is None s = s.sound.count
  count_is (Some untold) w = w.sound.count

  ledger_is : (u : Option Untold) → IsSoundWith given lines c u → length c.nodes.clients ≡ c.ledger.clients
  ledger_is None s = s.well.clients
  ledger_is (Some untold) w = w.well.clients

  fits_so : (u : Option Untold) → IsSoundWith given lines c u → FitGiven given lines
  fits_so None s = s.sound.told.fit
  fits_so (Some untold) w = w.fit

  pub shows_clients : length c.nodes.clients ≡ geo.clients
  shows_clients = count_is c.untold r.sound ∙ clients_are r.system

  pub shows_own : c.ledger.clients ≡ geo.clients
  shows_own = sym (ledger_is c.untold r.sound) ∙ shows_clients

  pub shows_fits : FitGiven given lines
  shows_fits = fits_so c.untold r.sound

module _ {geo : Geometry} {given : Given} {lines : List Outcome} {c : SeenCourse} (r : HasReport geo given lines c) where
  pub shows_places : (client : ℕ) → client ≤ geo.clients → client < length c.ledger.counts
  shows_places client high = omega (arith, high, r.settled.keeps.count_places, r.settled.well.clients, r.settled.sound.count, clients_are r.system)

  pub shows_legal : IsLegal c.ledger.updates c.ledger.answered
  shows_legal = keeps_legal given lines r.settled.sound.reads c.ledger r.settled.sound.told.fit r.settled.keeps

  -- ---- at rest

  pub idle_lines : (client : ℕ) → 1 ≤ client → kind_at c.nodes (client - 1) ≡ Some Idle → HaveLines given lines (calls client)
  idle_lines client low idle = by (slice_get c.nodes.clients (client - 1)) refl where
    own : (d : SeenClient) → slice_get c.nodes.clients (client - 1) ≡ Some d → kind_of d ≡ Idle
    own d e = same_Some (kind_of d) Idle (sym (ap (λ (o : Option SeenClient). option_map kind_of o) e) ∙ idle)

    by : (o : Option SeenClient) → slice_get c.nodes.clients (client - 1) ≡ o → HaveLines given lines (calls client)
    by None e = absurd (none-some Idle (sym (ap (λ (o : Option SeenClient). option_map kind_of o) e) ∙ idle))
    by (Some d) e =
        subst (λ (n : ℕ). HaveLines given lines (calls n)) (sym (numbered client low))
        (has_lines given lines c.nodes (client - 1) d r.settled.sound e (own d e))

  pub all_last : AllIdle c.nodes → AllKeepNone c.nodes → (subject : Subject) → HaveLastLines given lines subject
  all_last idle none =
      all_have_last given lines c.nodes r.settled.sound
      (subst (λ (n : ℕ). AreCalls n given) (sym (clients_are r.system)) r.system.calls) idle none

  pub lists_tree : (entries : List TreeEntry) → ((contents : Contents) → entries ≡ listing (shown_tree c.nodes.manager.sizes.block c.nodes.manager.tables contents)) → entries ≡ listing (tree_at (script_of given) lines)
  lists_tree entries list = list r.settled.sound.contents ∙ ap (λ (t : Tree). listing t) r.settled.sound.stands.stands.says.shows
