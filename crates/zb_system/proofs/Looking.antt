-- A client looks files or names up.
use Rattle.std.proofs.Common.{◌≡◌, ℕ, true, false, Bool, List, [], append-nil, length, Option, Some, None, refl, sym, ap, ◌∙◌, subst, inl, inr}
use Rattle.std.specs.Prelude.{if◌then◌else◌, slice_set}
use Rattle.zb_types.specs.Apply.{reply_to}
use Rattle.zb_types.specs.Tree.{Tree}
use Rattle.zb_types.specs.declared.lines.Kind.TheVariants.{Lookup as LookupKind}
use Rattle.zb_types.specs.declared.lines.Outcome.{Outcome}
use Rattle.zb_claims.specs.Points.{tree_at}
use Rattle.zb_given.specs.Given.{Given, script_of}
use Rattle.zb_given.specs.Calls.{LookedUp}
use Rattle.zb_given.specs.Telling.{is_number, seen_by}
use Rattle.zb_manager.specs.Managers.{SeenManager}
use Rattle.zb_manager.specs.Seen.{held_by}
use Rattle.zb_work.specs.declared.work.Step.TheVariants.{Lookup}
use Rattle.zb_work.specs.declared.work.Task.{Task}
use Rattle.zb_work.specs.Steps.{aim_of, kind_of_step, step_of}
use Rattle.zb_client.specs.declared.steps.Lookup.{Lookup as Wanted}
use Rattle.zb_client.specs.declared.steps.Lookup.TheVariants.{Files, Names}
use Rattle.zb_client.specs.Seen.{SeenClient, kind_of, kind_of_task}
use Rattle.zb_client.specs.Telling.{Heard}
use Rattle.zb_client.specs.Wishing.{lookup_of}
use Rattle.zb_client_laws.specs.Around.{Around}
use Rattle.zb_client_laws.specs.Effects.{TellsNothing, TellsRight}
use Rattle.zb_client_laws.specs.Known.{IsKnown}
use Rattle.zb_client_laws.specs.Sound.{ClientIsSound}
use Rattle.zb_client_laws.proofs.Looking.{found_sound, named_sound}
use Rattle.zb_line_laws.specs.Calls.{lines_in}
use Rattle.zb_system.specs.Nodes.{IsClient, SeenNodes, readied}
use Rattle.zb_system.specs.Looking.{FirstIsLookedUp, is_fetch, is_reading, reads_with, tree_for}
use Rattle.zb_system.specs.Sound.{AreSound, StaysSound}
use Rattle.zb_system.specs.Steps.{LooksUp}
use Rattle.zb_system.proofs.Inside.{still}
use Rattle.zb_system.proofs.FirstReads.{Reads, first_read, looked_now, looked_still, none_kept, not_fetch, not_looked, seen_now}
use Rattle.zb_system.proofs.ReadsLeft.{none_left, not_reading, silent}
use Rattle.zb_system.proofs.Quiet.{StandsStill, Tree_now, World, answer_stays, at as read_at, calls, calls_ready, known_ready, looked_ready, quiet_stays, sound_ready}

module _ {given : Given} {lines : List Outcome} {old : SeenNodes} (s : AreSound given lines old) (i : ℕ) (c : SeenClient) (is : IsClient old i c) (known : IsKnown c)
    (task : Task) (work : c.task ≡ Some task) (at_lookup : task.step ≡ Lookup) (new : SeenNodes) (heard : Heard) (clients_are : new.clients ≡ slice_set old.clients i heard.client) where
  abbrev W : Around
  W = World s i c is

  step_is : step_of c.task ≡ Lookup
  step_is = ap step_of work ∙ at_lookup

  kind_is : kind_of c ≡ LookupKind
  kind_is = ap (λ (t : Option Task). kind_of_task t c.queue) work ∙ ap kind_of_step at_lookup

  unread : s.reads i ≡ None
  unread = not_looked given lines (readied c) (s.reads i) (looked_ready s i c is) (ap (reads_with c.kept) step_is ∙ not_fetch c.kept Lookup refl)

  -- what a lookup leaves is of the tree of now
  module _ (same : StandsStill old new) (right : ClientIsSound W (Tree_now s i c is) heard.client × TellsRight (Tree_now s i c is) (readied c) heard) where
    silent_so : TellsNothing (readied c) heard → (reading : Bool) → is_reading heard.client ≡ reading → StaysSound s new i []
    silent_so quiet false e = quiet_stays s i c is new same heard.client clients_are quiet.same None e right.0 (inr tt) (none_left (kind_of c) (s.reads i) lines [] (silent (kind_of c) (s.reads i)))
    silent_so quiet true e =
        let none : c.kept ≡ [] = sym quiet.same.kept ∙ none_kept heard.client.kept (step_of heard.client.task) e in
        let r : Reads given lines (readied c) = first_read given lines (readied c) task.aim (ap aim_of work) none known.aim in
        let read : LookedUp = record { number = r.read.number; at = length lines } in
        let first : FirstIsLookedUp given lines c.client read c.queue = subst (FirstIsLookedUp given lines c.client read) (sym r.queue) (refl, looked_now given lines (readied c) (calls_ready s i c is) r.aim r.read r.rest r.queue s.told.fit r.is_read) in
        quiet_stays s i c is new same heard.client clients_are quiet.same (Some read)
        (looked_still given lines (readied c) heard.client read quiet.same e first)
        (subst (λ (t : Tree). ClientIsSound W t heard.client) (sym (seen_now given lines r.read.number)) right.0)
        (inr refl)
        (record { looked = λ e. ap length (sym (append-nil lines)); goes_on = λ ne. absurd (ne kind_is); answers = silent (kind_of c) (s.reads i) })

    pub now_stays : StaysSound s new i (lines_in heard.told)
    now_stays = by right.1 where
      by : TellsRight (Tree_now s i c is) (readied c) heard → StaysSound s new i (lines_in heard.told)
      by (inl quiet) = subst (StaysSound s new i) (sym (ap lines_in quiet.told)) (silent_so quiet (is_reading heard.client) refl)
      by (inr (d, ans)) =
          let r : Reads given lines d = read_at s i c is new same heard clients_are known task work (Tree_now s i c is) d ans in
          answer_stays s i c is new same heard clients_are known task work (Tree_now s i c is) d ans
          (length lines)
          (looked_now given lines d (calls s i c is new same heard clients_are known task work (Tree_now s i c is) d ans) r.aim r.read r.rest r.queue s.told.fit r.is_read)
          (sym (seen_now given lines r.read.number))
          (subst (λ (x : Option LookedUp). is_number x r.read.number ≡ true) (sym unread) refl)
          (subst (λ (x : Option LookedUp). tree_at (script_of given) lines ≡ tree_at (script_of given) (seen_by x lines)) (sym unread) refl)
          (Tree_now s i c is) right.0
          (not_reading c (lines_in heard.told) (s.reads i) (ap is_fetch step_is))

  held_same : (hold : Bool) → (if hold then held_by (Some c.client) old.manager else old.manager).tables ≡ old.manager.tables
  held_same true = refl
  held_same false = refl

  held_sizes : (hold : Bool) → (if hold then held_by (Some c.client) old.manager else old.manager).sizes ≡ old.manager.sizes
  held_sizes true = refl
  held_sizes false = refl

  lookup_stays : (wanted : Wanted) → lookup_of (readied c) task.tries c.kept ≡ wanted → LooksUp old new (readied c) task wanted heard → StaysSound s new i (lines_in heard.told)
  lookup_stays (Files hold asks) wants looks =
      now_stays
      (still old new (ap (λ (m : SeenManager). m.tables) looks.0.manager ∙ held_same hold) (ap (λ (m : SeenManager). m.sizes) looks.0.manager ∙ held_sizes hold) looks.0.servers s.servers)
      (found_sound old.servers.slots W s.stands (tree_for given lines (s.reads i)) (readied c) (known_ready c known) (sound_ready s i c is) task work at_lookup asks hold wants heard looks.1)
  lookup_stays (Names call) wants looks =
      now_stays
      (still old new (ap (λ (m : SeenManager). m.tables) looks.same.manager) (ap (λ (m : SeenManager). m.sizes) looks.same.manager) looks.same.servers s.servers)
      (named (named_sound old.servers.slots W s.stands (tree_for given lines (s.reads i)) (readied c) (known_ready c known) (sound_ready s i c is) task work at_lookup call looks.reply
      (looks.right s.contents ∙ ap (λ (t : Tree). reply_to t call) s.stands.stands.says.shows) heard wants looks.heard_is)) where
        named : ClientIsSound W (tree_for given lines (s.reads i)) heard.client × TellsRight (Tree_now s i c is) (readied c) heard → ClientIsSound W (Tree_now s i c is) heard.client × TellsRight (Tree_now s i c is) (readied c) heard
        named right = (subst (λ (t : Tree). ClientIsSound W t heard.client) (ap (tree_for given lines) unread) right.0, right.1)

  pub looks_stay : LooksUp old new (readied c) task (lookup_of (readied c) task.tries c.kept) heard → StaysSound s new i (lines_in heard.told)
  looks_stay looks = lookup_stays (lookup_of (readied c) task.tries c.kept) refl looks
