-- What the node's entries make of the tables.
use Rattle.std.proofs.Common.{◌≡◌, ℕ, ◌<◌, ◌≤◌, ◌==◌, nat_le, Bool, true, false, if◌then◌else◌, List, [], ◌∷◌, length, Option, None, Some, Err, IsSomeAnd, refl, sym, ◌∙◌, ap, subst, arith}
use Rattle.std.proofs.lemmas.Option.{none-some}
use Rattle.std.proofs.lemmas.Bool.{eqb-true, leb-false}
use Rattle.zb_types.specs.declared.ids.LogId.{LogId}
use Rattle.zb_types.specs.declared.ids.Piece.{Piece}
use Rattle.zb_types.specs.declared.nodes.Members.{Members}
use Rattle.zb_types.specs.declared.tables.CommitFault.{CommitFault}
use Rattle.zb_types.specs.declared.tables.CommitFault.TheVariants.{Worn as NoNumber}
use Rattle.zb_types.specs.declared.tables.RetireFault.{RetireFault}
use Rattle.zb_types.specs.declared.tables.RetireFault.TheVariants.{Live, Needed}
use Rattle.zb_types.specs.declared.calls.Reply.{Reply}
use Rattle.zb_types.specs.Keyed.{look}
use Rattle.zb_types.specs.Names.{last_number}
use Rattle.zb_batch.specs.declared.batch.Batch.{Batch}
use Rattle.zb_entries.specs.declared.entry.Entry.{Entry}
use Rattle.zb_entries.specs.declared.entry.Entry.TheVariants.{Attach, Commit, Mark, Retire}
use Rattle.zb_tables.specs.Tables.{LogState, Tables, Contents, last_value}
use Rattle.zb_tables.specs.Finding.{live}
use Rattle.zb_tables.specs.Fold.{after_retire, attached, done_ops, folded, shelf_of, with_members}
use Rattle.zb_tables.specs.Replay.{IsBatchIn, joined}
use Rattle.zb_tables.specs.Taking.{IsState, IsTaken, MayCommit, Sizes, commit_refusal, no_batch, or_else, regen_of, stale_of, worn_of}
use Rattle.zb_tables.proofs.Living.{nothing_there}
use Rattle.zb_spelling.specs.Unspelling.{sizes_of}
use Rattle.zb_manager.specs.declared.prepared.Prepared.{Prepared}
use Rattle.zb_manager.specs.Seen.{IsPrepared, last_in, prepared_tables}
use Rattle.zb_manager.proofs.Folding.{is_folded, last_replies}
use Rattle.zb_platter.specs.declared.faults.NodeFault.{NodeFault}
use Rattle.zb_platter.specs.declared.faults.NodeFault.TheVariants.{Worn, NoMemory, Stopped}
use Rattle.zb_platter.specs.Changing.{Leads}
use Rattle.zb_platter.specs.Naming.{first_naming}
use Rattle.zb_platter.specs.Standing.{SeenPlatter}
use Rattle.zb_platter.proofs.Elsewhere.{none_names}
use Rattle.zb_replay.specs.Answers.{TellsRefusal, commit_fault, live_of, mending_of, needed_of, or_kept, retire_refusal}
use Rattle.zb_replay.specs.Nodes.{SeenNode}

pub attach_leads : (p : SeenPlatter) (contents : Contents) (t : Tables) (owner n : ℕ) → n ≡ t.next_log → n < last_number → owner ≤ p.root.geo.clients
    → Leads p contents t (Attach owner (record { 0 = n })) no_batch (attached t owner (record { 0 = n }))
attach_leads p contents t owner n next few is = record { batch_is = tt; taken = (next, omega (arith, few, next), is); folds = refl }

pub mark_leads : (p : SeenPlatter) (contents : Contents) (t : Tables) (members : Members) → IsState p.root.geo.servers members.state → t.members.generation ≤ members.generation → members.generation ≤ last_value
    → Leads p contents t (Mark members) no_batch (with_members t members)
mark_leads p contents t members state low high = record { batch_is = tt; taken = (state, low, high); folds = refl }

-- Retires.

both_none : (a b : Option RetireFault) → or_kept a b ≡ None → (a ≡ None) × (b ≡ None)
both_none None b e = (refl, e)
both_none (Some x) b e = absurd (none-some x (sym e))

none_live : (n : ℕ) (b : Bool) → b ≡ (n == 0) → (if b then None else Some (Live n)) ≡ None → n ≡ 0
none_live n true is e = eqb-true n 0 (sym is)
none_live n false is e = absurd (none-some (Live n) (sym e))

none_needed : (o : Option ℕ) → needed_of o ≡ None → o ≡ None
none_needed None e = refl
none_needed (Some entry) e = absurd (none-some (Needed entry) (sym e))

empty : {A : Type 0} (xs : List A) → length xs ≡ 0 → xs ≡ []
empty [] e = refl
empty (x ∷ xs) e = absurd (omega (arith, e))

pub retire_leads : (n : SeenNode) (contents : Contents) (log : LogId) (stripe : ℕ) → retire_refusal n log stripe ≡ None
    → Leads n.platter contents n.manager.tables (Retire log stripe) no_batch (after_retire n.manager.tables log stripe)
retire_leads n contents log stripe none =
    let more = both_none (mending_of n.manager.tables.members.state) _ none in
    let rest = both_none (live_of (length (live n.manager.tables log stripe))) _ more.1 in
    let dead = empty (live n.manager.tables log stripe) (none_live (length (live n.manager.tables log stripe)) _ refl rest.0) in
    record {
      batch_is = tt;
      taken = (nothing_there log stripe n.manager.tables.files dead, none_names n.platter.root.first log stripe n.platter.entries (none_needed (first_naming n.platter.root.first log stripe n.platter.entries) rest.1));
      folds = refl;
    }

-- Commits.

pub commit_leads : (p : SeenPlatter) (z : Sizes) (contents : Contents) (t : Tables) (batch : Batch) (pieces : List Piece) (generation : ℕ) (made : Prepared) (entry : Entry) → z ≡ sizes_of p.root.geo
    → entry ≡ Commit batch.log batch.number generation pieces → IsBatchIn (joined contents batch.log pieces) batch.log batch.number batch → MayCommit z t batch pieces → commit_refusal z.block t batch pieces generation ≡ None
    → IsPrepared z.block t batch pieces made → Leads p contents t entry batch (prepared_tables z.block t made)
commit_leads p z contents t batch pieces generation made entry system is bytes may none prepared =
    subst (λ (e : Entry). Leads p contents t e batch (prepared_tables z.block t made)) (sym is) (record {
      batch_is = bytes;
      taken = subst (λ (y : Sizes). IsTaken y p.entries t (Commit batch.log batch.number generation pieces) batch) system (may, none);
      folds = subst (λ (y : Sizes). folded y.block t (Commit batch.log batch.number generation pieces) batch ≡ Some (prepared_tables z.block t made)) system (is_folded z.block t batch pieces made prepared generation);
    })

or_none : (a b : Option CommitFault) → or_else a b ≡ None → b ≡ None
or_none (Some x) b e = absurd (none-some x (sym e))
or_none None b e = e

not_first : (b : Bool) (x : CommitFault) (r : Option CommitFault) → (if b then Some x else r) ≡ None → b ≡ false
not_first true x r e = absurd (none-some x (sym e))
not_first false x r e = refl

-- a batch that isn't refused has a number for its entry
pub has_number : (b : ℕ) (t : Tables) (batch : Batch) (pieces : List Piece) (generation : ℕ) → commit_refusal b t batch pieces generation ≡ None → t.next_entry < last_value
has_number b t batch pieces generation none =
    let worn = or_none (stale_of (done_ops b batch.ops (shelf_of t))) (worn_of b t batch) (or_none (regen_of t batch.log pieces generation) _ none) in
    leb-false last_value t.next_entry (not_first (nat_le last_value t.next_entry) (NoNumber 2) _ worn)

pub refused_by : (A : Type 0) (refusal : Option CommitFault) (fault : NodeFault) (answer : CommitFault) → answer ≡ commit_fault fault → refusal ≡ None → ((field : ℕ) → fault ≡ Worn field → ⊥) → TellsRefusal {A = A} refusal (Err answer)
refused_by A refusal fault answer is none unworn = subst (λ (e : CommitFault). TellsRefusal {A = A} refusal (Err e)) (sym is) (by fault unworn) where
  by : (fault : NodeFault) → ((field : ℕ) → fault ≡ Worn field → ⊥) → TellsRefusal {A = A} refusal (Err (commit_fault fault))
  by (Worn field) unworn = absurd (unworn field refl)
  by NoMemory unworn = tt
  by Stopped unworn = none

-- a log that was found
some_and : (o : Option LogState) (P : LogState → Type 0) → IsSomeAnd o P → (l : LogState) × (o ≡ Some l)
some_and None P is = absurd is
some_and (Some l) P is = (l, refl)

-- the replies that are answered are those in the tables
pub replies_kept : (z : Sizes) (t now : Tables) (batch : Batch) (pieces : List Piece) (made : Prepared) (replies : List Reply) → MayCommit z t batch pieces → IsPrepared z.block t batch pieces made → now ≡ prepared_tables z.block t made → replies ≡ made.replies
    → last_in (look batch.log.0 now.logs) ≡ Some (batch.number, replies)
replies_kept z t now batch pieces made replies may prepared tables same =
    let l = some_and (look batch.log.0 t.logs) _ may.next in
    ap (λ (u : Tables). last_in (look batch.log.0 u.logs)) tables ∙ last_replies z.block t batch pieces made prepared l.0 l.1 ∙ ap (λ (rs : List Reply). Some (batch.number, rs)) (sym same)
