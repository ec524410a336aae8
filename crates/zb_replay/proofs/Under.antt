-- How platter 0 stands under the node.
use Rattle.std.proofs.Common.{◌≡◌, inl, inr, ℕ, ◌+◌, Bool, false, List, [], Option, None, Some, Result, Ok, Err, OnOk, OnErr, IsErrOf, refl, sym, ◌∙◌, ap, subst}
use Rattle.zb_types.specs.declared.geometry.Geometry.{Geometry}
use Rattle.zb_batch.specs.declared.batch.Batch.{Batch}
use Rattle.zb_entries.specs.declared.entry.Entry.{Entry}
use Rattle.zb_entries.specs.declared.entry.Entry.TheVariants.{Attach, Commit, Mark, Retire}
use Rattle.zb_outside.specs.Counts.{Counts, HasWritten}
use Rattle.zb_outside.specs.Meaning.{Meaning}
use Rattle.zb_outside.specs.Runs.{Run}
use Rattle.zb_outside.proofs.Runs.{started, then_run, weaker_run}
use Rattle.zb_journal.specs.Putting.{writes_at}
use Rattle.zb_tables.specs.Tables.{Tables, Contents}
use Rattle.zb_tables.specs.Taking.{IsTaken, Sizes}
use Rattle.zb_spelling.specs.Unspelling.{sizes_of}
use Rattle.zb_platter.specs.declared.faults.NodeFault.{NodeFault}
use Rattle.zb_platter.specs.declared.faults.NodeFault.TheVariants.{Worn, NoMemory, Stopped}
use Rattle.zb_platter.specs.Faults.{is_stopped}
use Rattle.zb_platter.specs.Says.{SaysTables, SaysEither}
use Rattle.zb_platter.specs.Standing.{SeenPlatter, Stands}
use Rattle.zb_platter.specs.Changing.{ChangeTold, Leads, with_checkpoint, with_entry}
use Rattle.zb_platter.proofs.Changed.{says_now}
use Rattle.zb_types.specs.declared.tables.CommitFault.{CommitFault}
use Rattle.zb_types.specs.declared.tables.CommitFault.TheVariants.{NoMemory as Lacking}
use Rattle.zb_types.specs.declared.tables.RetireFault.{RetireFault}
use Rattle.zb_replay.specs.Answers.{commit_fault, commit_stopped, retire_fault, retire_stopped}
use Rattle.zb_replay.specs.Nodes.{NodeTold, SaysBeforeOr, SeenNode}
use Rattle.zb_replay.specs.Entering.{EnterTold, IsEntered, IsPlaced, PlaceTold}

-- before the first call
run_still : (p : SeenPlatter) (contents : Contents) (t : Tables) (a : Meaning) → Stands p contents t a.now → Run 0 (λ image. SaysTables p.root.geo contents image t) a a
run_still p contents t a st = started 0 (λ image. SaysTables p.root.geo contents image t) a (λ image left. subst (λ (i : List ℕ). SaysTables p.root.geo contents i t) (sym (st.settled.only image left)) (says_now p contents t a.now st))

pub place_still : {T : Type 0} (r : Result T NodeFault) (p : SeenPlatter) (contents : Contents) (t : Tables) (a : Meaning) → Stands p contents t a.now → PlaceTold p.root.geo p contents t r a a
place_still r p contents t a st = record { run = run_still p contents t a st; stands = λ e. st }

one_of_same : (geo : Geometry) (contents : Contents) (t : Tables) (image : List ℕ) → SaysEither geo contents t t image → SaysTables geo contents image t
one_of_same geo contents t image (inl h) = h
one_of_same geo contents t image (inr h) = h

module _ {B : Type 0} (meaning : B → Meaning) (contents : Contents) where
  -- a platter that is as it was, at an outside that is
  stand_same : (old new : SeenPlatter) (t : Tables) (a b : B) → new ≡ old → b ≡ a → Stands old contents t (meaning a).now → Stands new contents t (meaning b).now
  stand_same old new t a b same still st = subst (λ (p : SeenPlatter). Stands p contents t (meaning b).now) (sym same) (subst (λ (x : B). Stands old contents t (meaning x).now) (sym still) st)

  -- A checkpoint.

  pub cut_told : (old new : SeenPlatter) (bytes : List ℕ) (t : Tables) (r : Result (Unit {0}) NodeFault) (a b : B) → Stands old contents t (meaning a).now
      → ChangeTold (with_checkpoint old bytes) contents t t r (meaning a) (meaning b) → OnOk r (new ≡ with_checkpoint old bytes) → OnErr r (new ≡ old) → ((IsErrOf r Stopped → ⊥) → OnErr r (b ≡ a))
      → PlaceTold old.root.geo new contents t r (meaning a) (meaning b)
  cut_told old new bytes t (Ok x) a b st told ok err still = record {
    run = weaker_run told.run (one_of_same old.root.geo contents t);
    stands = λ e. subst (λ (p : SeenPlatter). Stands p contents t (meaning b).now) (sym ok) told.stands;
  }
  cut_told old new bytes t (Err (Worn field)) a b st told ok err still = record {
    run = weaker_run told.run (one_of_same old.root.geo contents t);
    stands = λ e. stand_same old new t a b err (still (λ same. absurd cc)) st;
  }
  cut_told old new bytes t (Err NoMemory) a b st told ok err still = record {
    run = weaker_run told.run (one_of_same old.root.geo contents t);
    stands = λ e. stand_same old new t a b err (still (λ same. absurd cc)) st;
  }
  cut_told old new bytes t (Err Stopped) a b st told ok err still = record {
    run = weaker_run told.run (one_of_same old.root.geo contents t);
    stands = λ e. absurd cc;
  }

  -- An entry.

  pub enter_still : {T : Type 0} (e : NodeFault) (p : SeenPlatter) (before after : Tables) (a : Meaning) → Stands p contents before a.now → EnterTold {T = T} p.root.geo p contents before after (Err e) a a
  enter_still e p before after a st = record { run = weaker_run (run_still p contents before a st) (λ image h. inl h); stands = tt; kept = λ fine. st }

  -- no place was made
  pub enter_unplaced : {T S : Type 0} (e : NodeFault) (geo : Geometry) (p : SeenPlatter) (before after : Tables) (a b : Meaning) → PlaceTold {T = S} geo p contents before (Err e) a b → EnterTold {T = T} geo p contents before after (Err e) a b
  enter_unplaced (Worn field) geo p before after a b told = record { run = weaker_run told.run (λ image h. inl h); stands = tt; kept = λ fine. told.stands refl }
  enter_unplaced NoMemory geo p before after a b told = record { run = weaker_run told.run (λ image h. inl h); stands = tt; kept = λ fine. told.stands refl }
  enter_unplaced Stopped geo p before after a b told = record { run = weaker_run told.run (λ image h. inl h); stands = tt; kept = λ fine. absurd cc }

  -- behind a checkpoint an entry can be taken where it could before
  taken_anew : (z : Sizes) (before : List Entry) (t : Tables) (e : Entry) (batch : Batch) → IsTaken z before t e batch → IsTaken z [] t e batch
  taken_anew z before t (Attach owner log) batch taken = taken
  taken_anew z before t (Commit log number generation pieces) batch taken = taken
  taken_anew z before t (Mark members) batch taken = taken
  taken_anew z before t (Retire log stripe) batch taken = (taken.0, tt)

  pub leads_still : (old mid : SeenPlatter) (before after : Tables) (entry : Entry) (batch : Batch) → IsPlaced before old mid → Leads old contents before entry batch after → Leads mid contents before entry batch after
  leads_still old mid before after entry batch (inl same) leads = subst (λ (p : SeenPlatter). Leads p contents before entry batch after) (sym same) leads
  leads_still old mid before after entry batch (inr cut) leads = subst (λ (p : SeenPlatter). Leads p contents before entry batch after) (sym cut)
      (record { batch_is = leads.batch_is; taken = taken_anew (sizes_of old.root.geo) old.entries before entry batch leads.taken; folds = leads.folds })

  pub same_system : (old mid : SeenPlatter) (t : Tables) → IsPlaced t old mid → mid.root.geo ≡ old.root.geo
  same_system old mid t (inl same) = ap (λ (p : SeenPlatter). p.root.geo) same
  same_system old mid t (inr cut) = ap (λ (p : SeenPlatter). p.root.geo) cut

  pub enter_told : (geo : Geometry) (mid new : SeenPlatter) (before after : Tables) (entry : Entry) (r : Result (Unit {0}) NodeFault) (a m b : B) → mid.root.geo ≡ geo
      → Run 0 (λ image. SaysTables geo contents image before) (meaning a) (meaning m) → Stands mid contents before (meaning m).now
      → ChangeTold (with_entry mid entry) contents before after r (meaning m) (meaning b) → OnOk r (new ≡ with_entry mid entry) → OnErr r (new ≡ mid) → ((IsErrOf r Stopped → ⊥) → OnErr r (b ≡ m))
      → EnterTold geo new contents before after r (meaning a) (meaning b)
  enter_told geo mid new before after entry r a m b system placed st told ok err still =
      let run = then_run (weaker_run placed (λ image h. inl h)) told.run (λ image h. subst (λ (s : Geometry). SaysEither s contents before after image) system h) in
      told_by r ok err told.stands still run where
        told_by : (r : Result (Unit {0}) NodeFault) → OnOk r (new ≡ with_entry mid entry) → OnErr r (new ≡ mid) → OnOk r (Stands (with_entry mid entry) contents after (meaning b).now) → ((IsErrOf r Stopped → ⊥) → OnErr r (b ≡ m))
            → Run 0 (SaysEither geo contents before after) (meaning a) (meaning b) → EnterTold geo new contents before after r (meaning a) (meaning b)
        told_by (Ok x) ok err stands still run = record { run = run; stands = subst (λ (p : SeenPlatter). Stands p contents after (meaning b).now) (sym ok) stands; kept = tt }
        told_by (Err (Worn field)) ok err stands still run = record { run = run; stands = tt; kept = λ fine. stand_same mid new before m b err (still (λ same. absurd cc)) st }
        told_by (Err NoMemory) ok err stands still run = record { run = run; stands = tt; kept = λ fine. stand_same mid new before m b err (still (λ same. absurd cc)) st }
        told_by (Err Stopped) ok err stands still run = record { run = run; stands = tt; kept = λ fine. absurd cc }

-- which entries the platter has then
pub entered_by : {T : Type 0} (r : Result T NodeFault) (t : Tables) (entry : Entry) (old mid new : SeenPlatter) → IsPlaced t old mid → OnOk r (new ≡ with_entry mid entry) → OnOk r (IsEntered t entry old new)
entered_by (Ok x) t entry old mid new (inl same) ok = inl (ok ∙ ap (λ (p : SeenPlatter). with_entry p entry) same)
entered_by (Ok x) t entry old mid new (inr cut) ok = inr (ok ∙ ap (λ (p : SeenPlatter). with_entry p entry) cut)
entered_by (Err e) t entry old mid new placed ok = tt

pub placed_by : {T : Type 0} (r : Result T NodeFault) (t : Tables) (old mid new : SeenPlatter) → IsPlaced t old mid → OnErr r (new ≡ mid) → OnErr r (IsPlaced t old new)
placed_by (Ok x) t old mid new placed err = tt
placed_by (Err e) t old mid new placed err = subst (λ (p : SeenPlatter). IsPlaced t old p) (sym err) placed

-- where memory lacked behind a place that stood there before, nothing was done
pub lacking_by : {B T : Type 0} (r : Result T NodeFault) (a m b : B) → m ≡ a → ((IsErrOf r Stopped → ⊥) → OnErr r (b ≡ m)) → IsErrOf r NoMemory → b ≡ a
lacking_by (Ok x) a m b same still is = absurd cc
lacking_by (Err (Worn field)) a m b same still is = absurd cc
lacking_by (Err NoMemory) a m b same still is = still (λ other. absurd cc) ∙ same
lacking_by (Err Stopped) a m b same still is = absurd cc

-- tables in memory and an entry that are the same
pub entered_same : (t u : Tables) (e d : Entry) (old new : SeenPlatter) → t ≡ u → e ≡ d → IsEntered t e old new → IsEntered u d old new
entered_same t u e d old new a b h = subst (λ (x : Tables). IsEntered x d old new) a (subst (λ (x : Entry). IsEntered t x old new) b h)

pub placed_same : (t u : Tables) (old new : SeenPlatter) → t ≡ u → IsPlaced t old new → IsPlaced u old new
placed_same t u old new a h = subst (λ (x : Tables). IsPlaced x old new) a h

-- how many writes it was asked for where the place stood there before
pub written_by : {B : Type 0} (meaning : B → Meaning) (counts : B → Counts) {T : Type 0} (r : Result T NodeFault) (old mid : SeenPlatter) (a m b : B) → mid ≡ old → m ≡ a
    → OnOk r (HasWritten 0 (writes_at ((meaning m).now.seen 0) (4096 + mid.journal.place)) (counts m) (counts b)) → OnOk r (HasWritten 0 (writes_at ((meaning a).now.seen 0) (4096 + old.journal.place)) (counts a) (counts b))
written_by {B} meaning counts r old mid a m b same still h =
    subst (λ (x : B). OnOk r (HasWritten 0 (writes_at ((meaning x).now.seen 0) (4096 + old.journal.place)) (counts x) (counts b))) still
    (subst (λ (p : SeenPlatter). OnOk r (HasWritten 0 (writes_at ((meaning m).now.seen 0) (4096 + p.journal.place)) (counts m) (counts b))) same h)

-- The node.

-- nothing has changed
pub node_still : (node : SeenNode) (p : SeenPlatter) (contents : Contents) (before : Tables) (after : Option Tables) (stopped : Bool) (a : Meaning) → Stands p contents before a.now → node.platter ≡ p → node.manager.tables ≡ before → NodeTold p.root.geo node contents before after stopped a a
node_still node p contents before after stopped a st same tables = record {
  run = weaker_run (run_still p contents before a st) (says_before p.root.geo contents before after);
  stands = λ fine. subst (λ (q : SeenPlatter). Stands q contents node.manager.tables a.now) (sym same) (subst (λ (t : Tables). Stands p contents t a.now) (sym tables) st);
} where
  says_before : (geo : Geometry) (contents : Contents) (before : Tables) (after : Option Tables) (image : List ℕ) → SaysTables geo contents image before → SaysBeforeOr geo contents before after image
  says_before geo contents before None image h = h
  says_before geo contents before (Some after) image h = inl h

pub node_placed : {T : Type 0} (r : Result T NodeFault) (geo : Geometry) (node : SeenNode) (contents : Contents) (t : Tables) (a b : Meaning) → PlaceTold geo node.platter contents t r a b → node.manager.tables ≡ t → NodeTold geo node contents t None (is_stopped r) a b
node_placed r geo node contents t a b told same = record { run = told.run; stands = λ fine. subst (λ (u : Tables). Stands node.platter contents u b.now) (sym same) (told.stands fine) }

-- the entry is durable, and the tables are those after it
pub node_after : {T : Type 0} {x : T} (geo : Geometry) (node : SeenNode) (p : SeenPlatter) (contents : Contents) (before after : Tables) (stopped : Bool) (a b : Meaning) → EnterTold {T = T} geo p contents before after (Ok x) a b
    → node.platter ≡ p → node.manager.tables ≡ after → NodeTold geo node contents before (Some after) stopped a b
node_after geo node p contents before after stopped a b told same tables = record {
  run = told.run;
  stands = λ fine. subst (λ (q : SeenPlatter). Stands q contents node.manager.tables b.now) (sym same) (subst (λ (t : Tables). Stands p contents t b.now) (sym tables) told.stands);
}

-- it isn't, and they are those before it
pub node_before : {T : Type 0} (e : NodeFault) (geo : Geometry) (node : SeenNode) (p : SeenPlatter) (contents : Contents) (before after : Tables) (stopped : Bool) (a b : Meaning) → EnterTold {T = T} geo p contents before after (Err e) a b
    → (stopped ≡ false → is_stopped {T = T} (Err e) ≡ false) → node.platter ≡ p → node.manager.tables ≡ before → NodeTold geo node contents before (Some after) stopped a b
node_before e geo node p contents before after stopped a b told less same tables = record {
  run = told.run;
  stands = λ fine. subst (λ (q : SeenPlatter). Stands q contents node.manager.tables b.now) (sym same) (subst (λ (t : Tables). Stands p contents t b.now) (sym tables) (told.kept (less fine)));
}

-- tables in memory that are the same
pub entered_as : {T : Type 0} (r : Result T NodeFault) (geo : Geometry) (p q : SeenPlatter) (contents : Contents) (t before after : Tables) (entry : Entry) (batch : Batch) (a b : Meaning) → t ≡ before
    → (Stands p contents t a.now → Leads p contents t entry batch after → EnterTold geo q contents t after r a b) → Stands p contents before a.now → Leads p contents before entry batch after → EnterTold geo q contents before after r a b
entered_as r geo p q contents t before after entry batch a b same told =
    subst (λ (u : Tables). Stands p contents u a.now → Leads p contents u entry batch after → EnterTold geo q contents u after r a b) same told

-- the option of the tables after a change
pub told_as : (geo : Geometry) (node : SeenNode) (contents : Contents) (before : Tables) (one other : Option Tables) (stopped : Bool) (a b : Meaning) → one ≡ other → NodeTold geo node contents before other stopped a b → NodeTold geo node contents before one stopped a b
told_as geo node contents before one other stopped a b same told = subst (λ (o : Option Tables). NodeTold geo node contents before o stopped a b) (sym same) told

-- a fault stops a commit, or a retire, where it stops the node
pub commit_less : (T S : Type 0) (e : NodeFault) (answer : CommitFault) → answer ≡ commit_fault e → commit_stopped {T = T} (Err answer) ≡ false → is_stopped {T = S} (Err e) ≡ false
commit_less T S e answer is = subst (λ (f : CommitFault). commit_stopped {T = T} (Err f) ≡ false → is_stopped {T = S} (Err e) ≡ false) (sym is) (by e) where
  by : (e : NodeFault) → commit_stopped {T = T} (Err (commit_fault e)) ≡ false → is_stopped {T = S} (Err e) ≡ false
  by (Worn field) fine = refl
  by NoMemory fine = refl
  by Stopped fine = absurd cc

pub lacked : {T : Type 0} (e : NodeFault) (answer : CommitFault) → answer ≡ commit_fault e → IsErrOf {T = T} {E = CommitFault} (Err answer) Lacking → e ≡ NoMemory
lacked {T} e answer is = subst (λ (f : CommitFault). IsErrOf {T = T} {E = CommitFault} (Err f) Lacking → e ≡ NoMemory) (sym is) (by e) where
  by : (e : NodeFault) → IsErrOf {T = T} {E = CommitFault} (Err (commit_fault e)) Lacking → e ≡ NoMemory
  by (Worn field) told = absurd cc
  by NoMemory told = refl
  by Stopped told = absurd cc

pub retire_less : (T S : Type 0) (e : NodeFault) (answer : RetireFault) → answer ≡ retire_fault e → retire_stopped {T = T} (Err answer) ≡ false → is_stopped {T = S} (Err e) ≡ false
retire_less T S e answer is = subst (λ (f : RetireFault). retire_stopped {T = T} (Err f) ≡ false → is_stopped {T = S} (Err e) ≡ false) (sym is) (by e) where
  by : (e : NodeFault) → retire_stopped {T = T} (Err (retire_fault e)) ≡ false → is_stopped {T = S} (Err e) ≡ false
  by (Worn field) fine = refl
  by NoMemory fine = refl
  by Stopped fine = absurd cc

pub same_stop : (T S : Type 0) (e : NodeFault) → is_stopped {T = T} (Err e) ≡ false → is_stopped {T = S} (Err e) ≡ false
same_stop T S (Worn field) fine = refl
same_stop T S NoMemory fine = refl
same_stop T S Stopped fine = absurd cc
