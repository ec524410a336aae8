-- The operations of a batch, one behind the other.
use Rattle.std.proofs.Common.{◌≡◌, ℕ, ◌+◌, ◌-◌, ◌/◌, ◌≤◌, Bool, true, false, List, [], ◌∷◌, ◌++◌, length, Some, None, refl, sym, ap, ◌∙◌, subst, arith, append_assoc, length-append}
use Rattle.std.specs.Prelude.{if◌then◌else◌, ◌&&◌, ◌||◌, nat_le, slice_get}
use Rattle.std.specs.List.{AllByRecursion}
use Rattle.std.proofs.lemmas.List.FromFn.{length-map-range_with_len}
use Rattle.zb_types.specs.declared.ids.Ptr.{Ptr}
use Rattle.zb_types.specs.declared.calls.Call.{Call}
use Rattle.zb_types.specs.declared.calls.Call.TheVariants.{Create, Mkdir, Remove, Rename, Write, Truncate, Sync, Read, List as ListOf, Stat, Find}
use Rattle.zb_types.specs.declared.tables.Found.{Found}
use Rattle.zb_types.specs.Apply.{is_update}
use Rattle.zb_basis.specs.declared.basis.Fetched.{Fetched}
use Rattle.zb_basis.specs.declared.calls.Numbered.{Numbered}
use Rattle.zb_basis.specs.Looking.{ask_of}
use Rattle.zb_basis.specs.Operations.{Changed, is_done, OpsAre, after_op, short_length, new_of}
use Rattle.zb_basis.specs.Wanting.{touches, wanted_of, wanted_behind}
use Rattle.zb_forming.specs.declared.draft.Change.{Change}
use Rattle.zb_forming.specs.declared.draft.Draft.{Draft}
use Rattle.zb_forming.specs.declared.draft.Drafts.{Drafts}
use Rattle.zb_forming.specs.Drafts.{known, stands, change_at, changes_of, length_at, is_cut, cut_count, write_count, was_bytes, merged, made_by, draft_of, added, drafted, version_in}
use Rattle.zb_forming.specs.Ops.{deltas_made, first_only, op_made, ops_made}
use Rattle.zb_forming.proofs.Runs.{each-front, each-back, length-map, append-none}
use Rattle.zb_forming.proofs.Moving.{Touched}
use Rattle.zb_forming.proofs.Touching.{touched-more}
use Rattle.zb_forming.proofs.Wanted.{wanted-same}
use Rattle.zb_forming.proofs.Shown.{Shows, done-same, done-short, new-changes, shows-done, shows-undone, Bounded, bound-more, changes-bound}
use Rattle.zb_forming.proofs.Operating.{Stands, IsKnown, op-is}

-- the operations that calls add
abbrev pub new_drafts : ℕ → (Ptr → List ℕ) → List Numbered → List Found → Drafts → List Draft
new_drafts b bytes (call ∷ calls) (found ∷ founds) s = draft_of b s call.call found ∷ new_drafts b bytes calls founds (added b bytes s call.call found)
new_drafts b bytes calls founds s = []

pub drafts-are : (b : ℕ) (bytes : Ptr → List ℕ) (calls : List Numbered) (founds : List Found) (s : Drafts) → (drafted b bytes calls founds s).drafts ≡ s.drafts ++ new_drafts b bytes calls founds s
drafts-are b bytes [] founds s = sym (append-none s.drafts)
drafts-are b bytes (call ∷ calls) [] s = sym (append-none s.drafts)
drafts-are b bytes (call ∷ calls) (found ∷ founds) s =
    drafts-are b bytes calls founds (added b bytes s call.call found)
    ∙ append_assoc s.drafts (draft_of b s call.call found ∷ []) (new_drafts b bytes calls founds (added b bytes s call.call found))

-- the blocks so far stay
pub blocks-stay : (b : ℕ) (bytes : Ptr → List ℕ) (calls : List Numbered) (founds : List Found) (s : Drafts) → (rest : List (List ℕ)) × (s.blocks ++ rest ≡ (drafted b bytes calls founds s).blocks)
blocks-stay b bytes [] founds s = ([], append-none s.blocks)
blocks-stay b bytes (call ∷ calls) [] s = ([], append-none s.blocks)
blocks-stay b bytes (call ∷ calls) (found ∷ founds) s =
    let behind = blocks-stay b bytes calls founds (added b bytes s call.call found) in
    let made = made_by b bytes s.blocks call.call (draft_of b s call.call found).changes in
    (made ++ behind.0, sym (append_assoc s.blocks made behind.0) ∙ behind.1)

-- ---- what an operation leaves

shows-if : (ptrs : List Ptr) (changed new : Changed) (ds : List Draft) (t : Bool) → (t ≡ true → Shows ptrs new ds) → (t ≡ false → Shows ptrs changed ds) → Shows ptrs (if t then new else changed) ds
shows-if ptrs changed new ds true one other = one refl
shows-if ptrs changed new ds false one other = other refl

pub only-same : (ds : List Draft) (found : Found) (g first start : ℕ) (t : Bool) → first_only (changes_of ds found g first start (if t then 1 else 0)) ≡ changes_of ds found g first start (if t then 1 else 0)
only-same ds found g first start true = refl
only-same ds found g first start false = refl

pub shows-more : (b : ℕ) (ptrs : List Ptr) (number : ℕ) (s : Drafts) (changed : Changed) (found : Found) (call : Call) → Shows ptrs changed s.drafts
    → Shows ptrs (after_op b changed (op_made ptrs number call (draft_of b s call found))) (s.drafts ++ draft_of b s call found ∷ [])
shows-more b ptrs number s changed found (Write fid offset text) shows =
    shows-if ptrs changed _ (s.drafts ++ draft_of b s (Write fid offset text) found ∷ []) (is_done (version_in s.drafts found fid.0) (offset + short_length (length text)))
    (λ e. shows-done ptrs changed s.drafts (draft_of b s (Write fid offset text) found)
    (deltas_made ptrs fid (version_in s.drafts found fid.0) (draft_of b s (Write fid offset text) found).changes) shows
    (sym (done-short s.drafts found fid.0 offset (length text)) ∙ e)
    (λ k. new-changes ptrs fid (version_in s.drafts found fid.0) s.drafts found fid.0 (ask_of b (Write fid offset text)).first (length s.blocks)
    (write_count (is_done found.version (offset + length text)) (ask_of b (Write fid offset text)).count) k))
    (λ e. shows-undone ptrs changed s.drafts (draft_of b s (Write fid offset text) found) shows (sym (done-short s.drafts found fid.0 offset (length text)) ∙ e))
shows-more b ptrs number s changed found (Truncate fid n) shows =
    shows-if ptrs changed _ (s.drafts ++ draft_of b s (Truncate fid n) found ∷ []) (is_done (version_in s.drafts found fid.0) n)
    (λ e. shows-done ptrs changed s.drafts (draft_of b s (Truncate fid n) found)
    (deltas_made ptrs fid (version_in s.drafts found fid.0) (first_only (draft_of b s (Truncate fid n) found).changes)) shows
    (sym (done-same s.drafts found fid.0 n) ∙ e)
    (λ k. ap (λ changes. new_of k (deltas_made ptrs fid (version_in s.drafts found fid.0) changes))
    (only-same s.drafts found fid.0 (n / b) (length s.blocks) (is_done found.version n && is_cut b n (length_at s.blocks (stands s.drafts found fid.0 (n / b)))))
    ∙ new-changes ptrs fid (version_in s.drafts found fid.0) s.drafts found fid.0 (n / b) (length s.blocks)
    (cut_count b n (is_done found.version n) (length_at s.blocks (stands s.drafts found fid.0 (n / b)))) k))
    (λ e. shows-undone ptrs changed s.drafts (draft_of b s (Truncate fid n) found) shows (sym (done-same s.drafts found fid.0 n) ∙ e))
shows-more b ptrs number s changed found (Create path) shows = shows-undone ptrs changed s.drafts (draft_of b s (Create path) found) shows refl
shows-more b ptrs number s changed found (Mkdir path) shows = shows-undone ptrs changed s.drafts (draft_of b s (Mkdir path) found) shows refl
shows-more b ptrs number s changed found (Remove path) shows = shows-undone ptrs changed s.drafts (draft_of b s (Remove path) found) shows refl
shows-more b ptrs number s changed found (Rename path to) shows = shows-undone ptrs changed s.drafts (draft_of b s (Rename path to) found) shows refl
shows-more b ptrs number s changed found Sync shows = shows-undone ptrs changed s.drafts (draft_of b s Sync found) shows refl
shows-more b ptrs number s changed found (Read fid offset len) shows = shows-undone ptrs changed s.drafts (draft_of b s (Read fid offset len) found) shows refl
shows-more b ptrs number s changed found (ListOf path) shows = shows-undone ptrs changed s.drafts (draft_of b s (ListOf path) found) shows refl
shows-more b ptrs number s changed found (Stat path) shows = shows-undone ptrs changed s.drafts (draft_of b s (Stat path) found) shows refl
shows-more b ptrs number s changed found (Find path) shows = shows-undone ptrs changed s.drafts (draft_of b s (Find path) found) shows refl

-- ---- how many blocks

module _ (b : ℕ) (bytes : Ptr → List ℕ) (s : Drafts) (found : Found) (bound : Bounded s.drafts (length s.blocks)) where
  bound-changes : (call : Call) (g first n : ℕ) (d : Draft) → d.first ≡ first → d.changes ≡ changes_of s.drafts found g first (length s.blocks) n
      → Bounded (s.drafts ++ d ∷ []) (length (s.blocks ++ made_by b bytes s.blocks call d.changes))
  bound-changes call g first n d at are =
      bound-more s.drafts d (length s.blocks) (length (s.blocks ++ made_by b bytes s.blocks call d.changes)) (omega (arith, long)) bound
      (λ k change e. omega (arith, long, changes-bound s.drafts found g first (length s.blocks) n k change ((λ i. if nat_le (sym at i) k then slice_get (sym are i) (k - sym at i) else None) ∙ e))) where
        long : length (s.blocks ++ made_by b bytes s.blocks call d.changes) ≡ length s.blocks + n
        long =
            length-append s.blocks (made_by b bytes s.blocks call d.changes)
            ∙ ap (λ (m : ℕ). length s.blocks + m) (length-map (λ (change : Change). merged b call change.block (was_bytes bytes s.blocks change.was)) d.changes
            ∙ ap length are ∙ length-map-range_with_len (change_at s.drafts found g first (length s.blocks)) first n)

  none-there : (t : Bool) (k : ℕ) (change : Change) → (if t then slice_get [] k else None) ≡ Some change → ⊥
  none-there true k change e = cc
  none-there false k change e = cc

  bound-none : (call : Call) (d : Draft) → d.changes ≡ [] → Bounded (s.drafts ++ d ∷ []) (length (s.blocks ++ made_by b bytes s.blocks call d.changes))
  bound-none call d none =
      bound-more s.drafts d (length s.blocks) (length (s.blocks ++ made_by b bytes s.blocks call d.changes)) (omega (arith, length-append s.blocks (made_by b bytes s.blocks call d.changes))) bound
      (λ k change e. absurd (none-there (nat_le d.first k) (k - d.first) change ((λ i. if nat_le d.first k then slice_get (sym none i) (k - d.first) else None) ∙ e)))

  pub bound-added : (call : Call) → Bounded (added b bytes s call found).drafts (length (added b bytes s call found).blocks)
  bound-added (Write fid offset text) =
      bound-changes (Write fid offset text) fid.0 (ask_of b (Write fid offset text)).first (write_count (is_done found.version (offset + length text)) (ask_of b (Write fid offset text)).count) (draft_of b s (Write fid offset text) found) refl refl
  bound-added (Truncate fid n) =
      bound-changes (Truncate fid n) fid.0 (n / b) (cut_count b n (is_done found.version n) (length_at s.blocks (stands s.drafts found fid.0 (n / b)))) (draft_of b s (Truncate fid n) found) refl refl
  bound-added (Create path) = bound-none (Create path) (draft_of b s (Create path) found) refl
  bound-added (Mkdir path) = bound-none (Mkdir path) (draft_of b s (Mkdir path) found) refl
  bound-added (Remove path) = bound-none (Remove path) (draft_of b s (Remove path) found) refl
  bound-added (Rename path to) = bound-none (Rename path to) (draft_of b s (Rename path to) found) refl
  bound-added Sync = bound-none Sync (draft_of b s Sync found) refl
  bound-added (Read fid offset len) = bound-none (Read fid offset len) (draft_of b s (Read fid offset len) found) refl
  bound-added (ListOf path) = bound-none (ListOf path) (draft_of b s (ListOf path) found) refl
  bound-added (Stat path) = bound-none (Stat path) (draft_of b s (Stat path) found) refl
  bound-added (Find path) = bound-none (Find path) (draft_of b s (Find path) found) refl

-- ---- all operations

-- what is known of calls and what was found for them, behind others
pub record Behind (b : ℕ) (fetched : List Fetched) (ptrs : List Ptr) (all : List (List ℕ)) (calls : List Numbered) (founds : List Found) (s : Drafts) (changed : Changed) (touched : ℕ → ℕ → Bool) : Type 0 where
  pub same_count : length calls ≡ length founds
  pub updates : AllByRecursion (λ (call : Numbered). is_update call.call ≡ true) calls
  pub short : AllByRecursion (λ (found : Found). AllByRecursion (λ (e : ℕ × Ptr). e.1.len ≤ b) found.blocks) founds
  pub are_touched : Touched touched s.drafts
  pub shows : Shows ptrs changed s.drafts
  pub bound : Bounded s.drafts (length s.blocks)
  pub wants : AllByRecursion (IsKnown fetched) (wanted_behind b calls founds touched)
  pub blocks : (drafted b (known fetched) calls founds s).blocks ≡ all

pub ops-are : (b : ℕ) (fetched : List Fetched) (bytes : Ptr → List ℕ) (ptrs : List Ptr) (all : List (List ℕ)) → Stands fetched bytes ptrs all
    → (calls : List Numbered) (founds : List Found) (s : Drafts) (changed : Changed) (touched : ℕ → ℕ → Bool) → Behind b fetched ptrs all calls founds s changed touched
    → OpsAre b bytes changed calls founds (ops_made ptrs calls (new_drafts b (known fetched) calls founds s))
ops-are b fetched bytes ptrs all stand [] [] s changed touched are = tt
ops-are b fetched bytes ptrs all stand [] (found ∷ founds) s changed touched are = absurd (omega (arith, are.same_count))
ops-are b fetched bytes ptrs all stand (call ∷ calls) [] s changed touched are = absurd (omega (arith, are.same_count))
ops-are b fetched bytes ptrs all stand (call ∷ calls) (found ∷ founds) s changed touched are =
    let behind = blocks-stay b (known fetched) calls founds (added b (known fetched) s call.call found) in (
      op-is b fetched bytes ptrs all stand s changed found are.shows are.bound are.short.0 call.number call.call behind.0 are.updates.0
          (sym (append_assoc s.blocks (made_by b (known fetched) s.blocks call.call (draft_of b s call.call found).changes) behind.0) ∙ (behind.1 ∙ are.blocks))
          (subst (AllByRecursion (IsKnown fetched)) (wanted-same b s found touched are.are_touched call.call)
          (each-front (IsKnown fetched) (wanted_of b call.call found touched) (wanted_behind b calls founds (λ g k. touched g k || touches b call.call found g k)) are.wants)),
      ops-are b fetched bytes ptrs all stand calls founds (added b (known fetched) s call.call found) (after_op b changed (op_made ptrs call.number call.call (draft_of b s call.call found))) (λ g k. touched g k || touches b call.call found g k) (record {
        same_count = omega (arith, are.same_count);
        updates = are.updates.1;
        short = are.short.1;
        are_touched = touched-more b s found touched are.are_touched call.call;
        shows = shows-more b ptrs call.number s changed found call.call are.shows;
        bound = bound-added b (known fetched) s found are.bound call.call;
        wants = each-back (IsKnown fetched) (wanted_of b call.call found touched) (wanted_behind b calls founds (λ g k. touched g k || touches b call.call found g k)) are.wants;
        blocks = are.blocks;
      }),
    )
