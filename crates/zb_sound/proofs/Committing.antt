-- What a commit leaves.
use Rattle.std.proofs.Common.{◌≡◌, ℕ, ◌<◌, List, [], ◌∷◌, Some, sym, ap, ◌∙◌}
use Rattle.std.specs.Prelude.{Ok}
use Rattle.zb_types.specs.declared.ids.LogId.{LogId}
use Rattle.zb_types.specs.declared.ids.Piece.{Piece}
use Rattle.zb_types.specs.declared.calls.Call.{Call}
use Rattle.zb_types.specs.Tree.{Tree}
use Rattle.zb_delta.specs.declared.delta.Delta.{Delta}
use Rattle.zb_batch.specs.declared.batch.Batch.{Batch}
use Rattle.zb_batch.specs.declared.batch.Op.TheVariants.{Clean}
use Rattle.zb_entries.specs.declared.entry.Entry.{Entry}
use Rattle.zb_entries.specs.declared.entry.Entry.TheVariants.{Commit}
use Rattle.zb_tables.specs.Tables.{Tables, Contents, EachFile, EndsInFile}
use Rattle.zb_tables.specs.Fold.{Shelf, held_with_all, shelf_of, done_ops, committed, after_batch, folded, all_moved}
use Rattle.zb_tables.specs.Shown.{shelf_tree, tree_through, replies_through}
use Rattle.zb_tables.specs.Pointing.{AllCopies}
use Rattle.zb_tables.specs.Replay.{Platter, with_entry}
use Rattle.zb_tables.specs.Taking.{Sizes}
use Rattle.zb_tables.proofs.Ops.{ops_show}
use Rattle.zb_tables.proofs.Cleans.{clean_shows}
use Rattle.zb_recovery.specs.Missing.{Servers}
use Rattle.zb_tables.proofs.Growing.{same_tree}
use Rattle.zb_tables.proofs.Holding.{with_all_on}
use Rattle.zb_tables.proofs.Pointers.{points_on, ops_points}
use Rattle.zb_sound.specs.Standing.{StandFor}
use Rattle.zb_sound.specs.Committing.{IsFlushed, IsOfUpdates}
use Rattle.zb_tables.proofs.Taken.{same_taken, taken_then, taken_entries}

module _ (z : Sizes) (contents new : Contents) (p : Platter) (st : Servers) (log : LogId) (number generation : ℕ) (pieces : List Piece) (batch : Batch) where
  abbrev E : Entry
  E = Commit log number generation pieces

  -- the tables after the commit of a batch that leaves this shelf
  abbrev AfterTables : Tables → Shelf → Tables
  AfterTables t after = committed t log number pieces after

  pub record Commits (t : Tables) (tree : Tree) : Type 0 where
    pub after : Shelf
    pub done : done_ops z.block batch.ops (shelf_of t) ≡ Ok after
    pub stands : StandFor z new (with_entry p E) st (AfterTables t after) tree

  commits : (t : Tables) (tree : Tree) (s : StandFor z contents p st t tree) → IsFlushed z contents new st t log number generation pieces batch
      → (after : Shelf) → done_ops z.block batch.ops (shelf_of t) ≡ Ok after → EachFile (EndsInFile z.block) after.files → (tree' : Tree) → shelf_tree z.block new after ≡ tree'
      → Commits t tree'
  commits t tree s f after done ends tree' shows =
      let held = held_with_all log t.next_entry pieces t.held in
      let on = with_all_on log t.next_entry pieces t.held in
      let says = s.says in
      let old = same_taken z t.held contents new f.same [] p.entries p.tables t (taken_entries z contents p.entries p.tables t says.taken) says.taken in
      let fold : folded z.block t E batch ≡ Some (AfterTables t after) = ap (after_batch t log number pieces) done in
      record {
        after = after;
        done = done;
        stands = record {
          says = record {
            taken = taken_then z new p.entries p.tables t (AfterTables t after) E batch old f.spells (f.may, f.taken) fold;
            shows = shows;
            points = ops_points held z.block batch.ops (shelf_of t) after (points_on t.held held on t.files says.points) f.lie done;
            ends = ends;
            spelled = says.spelled;
          };
          agree = record { one_unfit = s.agree.one_unfit; agree = f.stand };
          none_empty = s.none_empty;
        };
      }

  same_shown : (t : Tables) (tree : Tree) (s : StandFor z contents p st t tree) → IsFlushed z contents new st t log number generation pieces batch → shelf_tree z.block new (shelf_of t) ≡ tree
  same_shown t tree s f = sym (same_tree t.held contents new f.same z.block t s.says.points) ∙ s.says.shows

  -- a commit of updates takes the tree to the tree after them, with the plain tree's replies
  pub record TakesTree (t : Tables) (tree : Tree) (updates : List Call) : Type 0 where
    pub commits : Commits t (tree_through tree updates)
    pub replies : commits.after.replies ≡ replies_through tree updates

  pub commit_takes : 0 < z.block → (t : Tables) (tree : Tree) (s : StandFor z contents p st t tree) → IsFlushed z contents new st t log number generation pieces batch
      → (updates : List Call) → IsOfUpdates z new t batch updates → TakesTree t tree updates
  unfolding commits
  commit_takes pos t tree s f updates are =
      let r = ops_show z.block new pos batch.ops updates (shelf_of t) s.says.ends are in
      let same = same_shown t tree s f in
      record {
        commits = commits t tree s f r.after r.is r.ends (tree_through tree updates) (r.shows.tree ∙ ap (λ (t : Tree). tree_through t updates) same);
        replies = r.shows.replies ∙ ap (λ (t : Tree). replies_through t updates) same;
      }

  -- a commit of copies leaves the tree
  pub clean_leaves : (deltas : List Delta) → batch.ops ≡ Clean deltas ∷ [] → (t : Tables) (tree : Tree) (s : StandFor z contents p st t tree) → IsFlushed z contents new st t log number generation pieces batch
      → AllCopies new deltas → Commits t tree
  clean_leaves deltas is t tree s f copies =
      let c = clean_shows z.block new deltas t.files s.says.ends copies in
      let after : Shelf = record { names = t.names; files = all_moved deltas t.files; replies = [] } in
      commits t tree s f after (ap (λ ops. done_ops z.block ops (shelf_of t)) is) c.ends tree
      (ap (λ (fs : List (ℕ × List ℕ)). record { names = t.names; files = fs }) c.shows ∙ same_shown t tree s f)
