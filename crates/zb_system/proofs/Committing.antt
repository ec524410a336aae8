-- A client asks for the commit of its batch.
use Rattle.std.proofs.Common.{◌≡◌, ◌≢◌, ℕ, ◌+◌, ◌≤◌, true, false, Bool, List, [], ◌++◌, length, Option, Some, None, refl, sym, ap, ◌∙◌, subst, inl, inr, arith}
use Rattle.std.specs.Prelude.{◌⊎◌, if◌then◌else◌, nat_le, nat_lt, slice_set, Result, Ok, Err}
use Rattle.std.proofs.lemmas.Bool.Decides.{nat_tests}
use Rattle.zb_types.specs.Apply.{is_update}
use Rattle.zb_types.specs.Tree.{Tree}
use Rattle.zb_types.specs.declared.ids.LogId.{LogId}
use Rattle.zb_types.specs.declared.lines.Outcome.{Outcome}
use Rattle.zb_types.specs.declared.tables.CommitFault.{CommitFault}
use Rattle.zb_types.specs.declared.tables.CommitFault.TheVariants as commit_fault
use Rattle.zb_stripe.specs.declared.flush.Flush.{Flush}
use Rattle.zb_claims.specs.Points.{tree_at}
use Rattle.zb_given.specs.Given.{Given, script_of}
use Rattle.zb_tables.specs.Fold.{Shelf, Stale, committed, done_ops, shelf_of}
use Rattle.zb_tables.specs.Shown.{tree_through}
use Rattle.zb_tables.specs.Tables.{Tables, last_value, risen}
use Rattle.zb_tables.specs.Taking.{MayCommit, Sizes, or_else, regen_of, stale_of, worn_of}
use Rattle.zb_given.specs.Telling.{AreOfLookups}
use Rattle.zb_servers.specs.Standing.{SeenServers, maps_of, server_at}
use Rattle.zb_servers_laws.specs.Indexed.{AllFitIndex}
use Rattle.zb_basis.specs.declared.basis.Basis.{Basis}
use Rattle.zb_basis.specs.declared.basis.Sealed.{Sealed}
use Rattle.zb_basis.specs.declared.calls.Numbered.{Numbered}
use Rattle.zb_basis.specs.Runs.{run_of}
use Rattle.zb_basis.proofs.Each.{each-of}
use Rattle.zb_forming_laws.specs.Resting.{updates_of}
use Rattle.zb_work.specs.declared.work.Aim.{Aim}
use Rattle.zb_work.specs.declared.work.Aim.TheVariants.{Update, Read, Finish}
use Rattle.zb_work.specs.declared.work.Step.TheVariants as step
use Rattle.zb_work.specs.declared.work.Task.{Task}
use Rattle.zb_work.specs.Steps.{aim_of, next_task, step_of}
use Rattle.zb_client.specs.Hearing.{commits, hears_outdated, tried}
use Rattle.zb_client.specs.Seen.{SeenClient, kind_of}
use Rattle.zb_client.specs.Telling.{Heard}
use Rattle.zb_client_laws.specs.Around.{Around, IsAround}
use Rattle.zb_client_laws.specs.Effects.{TellsNothing, after_commit}
use Rattle.zb_client_laws.specs.Known.{IsKnown}
use Rattle.zb_client_laws.specs.Sound.{ClientIsSound}
use Rattle.zb_client_laws.proofs.Delivered.{Leaves, commit_sound, may_sealed, outdated_sound}
use Rattle.zb_client_laws.proofs.Joined.{commit_together}
use Rattle.zb_client_laws.proofs.Telling.{outdated_told}
use Rattle.zb_line_laws.specs.Calls.{FitsAfter, HasItsCalls, TellsOwn, lines_in}
use Rattle.zb_line_laws.proofs.Owning.{replied}
use Rattle.zb_line_laws.proofs.Replying.{replied_fits}
use Rattle.zb_progress.specs.Fresh.{RoseBy}
use Rattle.zb_progress.proofs.Rising.{commit-rises}
use Rattle.zb_system.specs.Nodes.{IsClient, SeenNodes, readied}
use Rattle.zb_system.specs.Looking.{is_fetch, is_reading, reads_with, tree_for}
use Rattle.zb_system.specs.Sound.{AreSound, ServersAreSound, StaysSound}
use Rattle.zb_system.specs.Steps.{AsksCommit, Commits, IsBehindNow}
use Rattle.zb_system.proofs.AnyTree.{any_tree}
use Rattle.zb_system.proofs.FirstReads.{not_fetch}
use Rattle.zb_system.proofs.Inside.{still}
use Rattle.zb_system.proofs.Joining.{elsewhere, joined}
use Rattle.zb_system.proofs.ReadsLeft.{none_left, not_reading, silent}
use Rattle.zb_system.proofs.Quiet.{World, calls_ready, known_ready, own_of, quiet_stays, sound_ready, with_parts}
use Rattle.zb_system.proofs.Storing.{step_rests}
use Rattle.zb_system.proofs.Telling.{replies_look}

abbrev Done : Shelf → Result Shelf Stale
Done s = Ok s

same_ok : (a b : Shelf) → Done a ≡ Done b → a ≡ b
same_ok a b e = ap of e where
  of : Result Shelf Stale → Shelf
  of (Ok x) = x
  of (Err x) = a

-- ---- what isn't refused isn't worn

last_none : (a b : Option CommitFault) → or_else a b ≡ None → b ≡ None
last_none (Some fault) b e = absurd (cc e)
last_none None b e = e

entry_low : (b : Bool) (rest : Option CommitFault) → (if b then Some (commit_fault.Worn 2) else rest) ≡ None → b ≡ false
entry_low true rest e = absurd (cc e)
entry_low false rest e = refl

rises : (n : ℕ) → nat_le last_value n ≡ false → risen n ≡ n + 1
rises n e = by (nat_lt n last_value) refl where
  by : (b : Bool) → nat_lt n last_value ≡ b → (if b then n + 1 else n) ≡ n + 1
  by true h = refl
  by false h = absurd (grind (arith, nat_tests, e, h))

next_rests : (kept : List Numbered) (aim : Option Aim) (more : Bool) → reads_with kept (step_of (next_task aim more)) ≡ false
next_rests kept None true = not_fetch kept step.Lookup refl
next_rests kept None false = not_fetch kept step.Lookup refl
next_rests kept (Some (Update n)) true = not_fetch kept step.Lookup refl
next_rests kept (Some (Update n)) false = not_fetch kept step.Lookup refl
next_rests kept (Some Read) more = not_fetch kept step.Lookup refl
next_rests kept (Some Finish) true = not_fetch kept step.Lookup refl
next_rests kept (Some Finish) false = not_fetch kept step.Lookup refl

outdated_rests : (c : SeenClient) (fault : CommitFault) → is_reading (hears_outdated c fault).client ≡ false
outdated_rests c (commit_fault.Regen seen now) = step_rests c.kept c.task step.Lookup refl
outdated_rests c (commit_fault.Stale fid seen now) = step_rests c.kept (tried c.task) step.Lookup refl
outdated_rests c (commit_fault.Worn field) = step_rests c.kept c.task step.Lookup refl
outdated_rests c commit_fault.NoMemory = step_rests c.kept c.task step.Lookup refl
outdated_rests c commit_fault.Stopped = step_rests c.kept c.task step.Lookup refl

module _ {given : Given} {lines : List Outcome} {old : SeenNodes} (s : AreSound given lines old) (i : ℕ) (c : SeenClient) (is : IsClient old i c) (known : IsKnown c)
    (task : Task) (work : c.task ≡ Some task) (basis : Basis) (sealed : Sealed) (at_commit : task.step ≡ step.Commit basis sealed)
    (new : SeenNodes) (heard : Heard) (clients_are : new.clients ≡ slice_set old.clients i heard.client) where
  abbrev W : Around
  W = World s i c is

  abbrev Seen : Tree
  Seen = tree_for given lines (s.reads i)

  abbrev C : SeenClient
  C = readied c

  abbrev S : ClientIsSound W Seen C
  S = sound_ready s i c is

  step_is : step_of c.task ≡ step.Commit basis sealed
  step_is = ap step_of work ∙ at_commit

  -- ---- it is behind
  module _ (behind : IsBehindNow old new C sealed heard) (servers : new.servers ≡ old.servers) where
    quiet : TellsNothing C heard
    quiet = subst (TellsNothing C) (sym behind.heard_is) (outdated_told C behind.fault)

    not_then : is_reading heard.client ≡ false
    not_then = ap (λ (h : Heard). is_reading h.client) behind.heard_is ∙ outdated_rests C behind.fault

    behind_stays : StaysSound s new i (lines_in heard.told)
    behind_stays =
        subst (StaysSound s new i) (sym (ap lines_in quiet.told))
        (quiet_stays s i c is new (still old new behind.same.tables behind.same.sizes servers s.servers) heard.client clients_are quiet.same None not_then
        (any_tree W Seen (tree_for given lines None) heard.client not_then
        (subst (λ (h : Heard). ClientIsSound W Seen h.client) (sym behind.heard_is) (outdated_sound W Seen C S basis sealed step_is behind.fault)))
        (inr tt)
        (none_left (kind_of c) (s.reads i) lines [] (silent (kind_of c) (s.reads i))))

  -- ---- it is committed
  module _ (done : Commits old new C sealed heard) (servers : new.servers ≡ old.servers) where
    abbrev Left : Leaves W Seen C S basis sealed step_is old.servers.slots s.stands (known_ready c known) done.right sealed
    Left = commit_sound W Seen C S basis sealed step_is old.servers.slots s.stands (known_ready c known) done.right

    abbrev Committed_flush : Flush
    Committed_flush = Left.0

    abbrev Shelf_after : Shelf
    Shelf_after = Left.1

    abbrev Tree_then : Tree
    Tree_then = tree_through W.tree (updates_of (run_of c.kept))

    abbrev After : Around
    After = after_commit W Committed_flush c.batch sealed.placed.pieces Shelf_after Tree_then

    shelf_is : done.committed.after ≡ Shelf_after
    shelf_is = same_ok done.committed.after Shelf_after (sym done.committed.done ∙ Left.3.done)

    replies_are : done.replies ≡ Shelf_after.replies
    replies_are = done.committed.replies_are ∙ ap (λ (x : Shelf). x.replies) shelf_is

    heard_is : heard ≡ commits C Shelf_after.replies
    heard_is = done.heard_is ∙ ap (commits C) replies_are

    tables_are : new.manager.tables ≡ After.tables
    tables_are =
        done.committed.tables
        ∙ ap (λ (l : LogId). committed old.manager.tables l sealed.batch.number sealed.placed.pieces done.committed.after) (Left.5 ∙ sym Left.2)
        ∙ ap (λ (n : ℕ). committed old.manager.tables Committed_flush.log n sealed.placed.pieces done.committed.after) Left.4
        ∙ ap (committed old.manager.tables Committed_flush.log c.batch sealed.placed.pieces) shelf_is

    -- ---- its lines

    h : HasItsCalls given lines C
    h = calls_ready s i c is

    abbrev fitted : FitsAfter given lines (commits C Shelf_after.replies) × (tree_at (script_of given) (lines ++ lines_in (commits C Shelf_after.replies).told) ≡ Tree_then)
    fitted = let f = replied_fits given lines C Shelf_after.replies s.told.fit h s.told.calm Left.6 in ((f.0, f.1), f.3)

    fits : FitsAfter given lines heard
    fits = subst (FitsAfter given lines) (sym heard_is) fitted.0

    tree_is : tree_at (script_of given) (lines ++ lines_in heard.told) ≡ Tree_then
    tree_is = ap (λ (x : Heard). tree_at (script_of given) (lines ++ lines_in x.told)) heard_is ∙ fitted.1

    not : is_reading heard.client ≡ false
    not = ap (λ (x : Heard). is_reading x.client) heard_is ∙ next_rests (commits C Shelf_after.replies).client.kept (aim_of c.task) _

    right : ClientIsSound After Seen heard.client
    right = subst (λ (x : Heard). ClientIsSound After Seen x.client) (sym heard_is) Left.8

    client_is : heard.client.client ≡ c.client
    client_is = ap (λ (x : Heard). x.client.client) heard_is

    others : (j : ℕ) (d : SeenClient) → j ≢ i → IsClient old j d → ClientIsSound After (tree_for given lines (s.reads j)) d
    others j d ne at =
        (commit_together (λ j. tree_for given lines (s.reads j)) old.clients i c heard.client is client_is old.servers.slots W s.stands s.clients Committed_flush Left.2
        c.batch sealed.placed.pieces sealed.batch Shelf_after Tree_then Left.3 right j d (elsewhere old.clients i heard.client old.clients i j ne ∙ at)).0

    -- ---- the tables

    entry_rises : risen old.manager.tables.next_entry ≡ old.manager.tables.next_entry + 1
    entry_rises =
        rises old.manager.tables.next_entry
        (entry_low (nat_le last_value old.manager.tables.next_entry) _
        (last_none (stale_of (done_ops W.z.block sealed.batch.ops (shelf_of W.tables))) (worn_of W.z.block W.tables sealed.batch)
        (last_none (regen_of W.tables sealed.batch.log sealed.placed.pieces sealed.members.generation)
        (or_else (stale_of (done_ops W.z.block sealed.batch.ops (shelf_of W.tables))) (worn_of W.z.block W.tables sealed.batch)) done.right)))

    may : MayCommit W.z W.tables sealed.batch sealed.placed.pieces
    may = may_sealed W Seen C S basis sealed step_is old.servers.slots s.stands (known_ready c known)

    rose_by : RoseBy (old.manager.tables.next_entry + 1) (committed old.manager.tables Committed_flush.log sealed.batch.number sealed.placed.pieces Shelf_after)
    rose_by =
        commit-rises old.manager.tables.next_entry W.z.block sealed.batch.log.0 sealed.batch.number W.tables Committed_flush.log sealed.placed.pieces sealed.batch.ops Shelf_after
        Left.3.updates may.spelled.company may.next Left.3.done s.rose

    rose : RoseBy new.manager.tables.next_entry new.manager.tables
    rose =
        subst (λ (t : Tables). RoseBy t.next_entry t) (sym tables_are)
        (subst (λ (n : ℕ). RoseBy n After.tables) (sym entry_rises)
        (subst (λ (n : ℕ). RoseBy (old.manager.tables.next_entry + 1) (committed old.manager.tables Committed_flush.log n sealed.placed.pieces Shelf_after)) Left.4 rose_by))

    servers_after : ServersAreSound new
    servers_after = record {
      count = ap (λ (x : SeenServers). length x.servers) servers ∙ s.servers.count ∙ sym (ap (λ (z : Sizes). z.servers) done.committed.sizes);
      index =
          subst (λ (z : Sizes). AllFitIndex z.servers (maps_of new.servers)) (sym done.committed.sizes)
          (subst (λ (x : SeenServers). AllFitIndex old.manager.sizes.servers (maps_of x)) (sym servers) s.servers.index);
      fences = λ server.
          subst (λ (t : Tables). (server_at new.servers.servers server).fence ≤ t.members.generation) (sym tables_are)
          (subst (λ (x : SeenServers). (server_at x.servers server).fence ≤ old.manager.tables.members.generation) (sym servers) (s.servers.fences server));
    }

    commit_stays : StaysSound s new i (lines_in heard.told)
    commit_stays =
        joined s new i c is heard clients_are client_is
        (own_of c C heard refl (subst (TellsOwn C) (sym heard_is) (replied C Shelf_after.replies)))
        After After.contents
        (λ k. with_parts (done.committed.sizes k) After.contents (maps_of (servers k)) (tables_are k) (tree_is k))
        (subst (λ (x : SeenServers). IsAround x.slots After) (sym servers) Left.7)
        None
        (any_tree After Seen (tree_for given (lines ++ lines_in heard.told) None) heard.client not right)
        others fits not servers_after
        (ap (λ (z : Sizes). z.clients) done.committed.sizes)
        rose
        (subst (λ (x : Heard). AreOfLookups given lines (s.reads i) (lines_in x.told)) (sym heard_is)
        (replies_look given c.client c.kept Shelf_after.replies lines (s.reads i) h.kept (each-of (λ k. is_update k.call ≡ true) c.kept known.updates)))
        (inr tt)
        (none_left (kind_of c) (s.reads i) lines (lines_in heard.told) (not_reading c (lines_in heard.told) (s.reads i) (ap is_fetch step_is)))

  pub commit_turn_stays : AsksCommit old new C sealed heard → StaysSound s new i (lines_in heard.told)
  commit_turn_stays asks = by asks.turn where
    by : Commits old new C sealed heard ⊎ IsBehindNow old new C sealed heard → StaysSound s new i (lines_in heard.told)
    by (inl done) = commit_stays done asks.servers
    by (inr behind) = behind_stays behind asks.servers
