-- Entries that are replayed lead to one result, and what is held after them depends on no bytes.
use Rattle.std.proofs.Common.{◌≡◌, ℕ, List, [], ◌∷◌, refl, sym, ap, ◌∙◌, subst}
use Rattle.std.proofs.lemmas.Option.{same_Some}
use Rattle.zb_batch.specs.declared.batch.Batch.{Batch}
use Rattle.zb_batch.proofs.Whole.{batch_once}
use Rattle.zb_entries.specs.declared.entry.Entry.{Entry}
use Rattle.zb_entries.specs.declared.entry.Entry.TheVariants.{Attach, Commit, Mark, Retire}
use Rattle.zb_tables.specs.Tables.{Tables, risen, Contents}
use Rattle.zb_tables.specs.Fold.{folded}
use Rattle.zb_tables.specs.Replay.{IsBatchOf, Replays, held_all}
use Rattle.zb_tables.proofs.Holding.{folded_held}

module _ (b : ℕ) (contents : Contents) where
  pub held_replayed : (es : List Entry) (tables after : Tables) → Replays b contents tables es after → after.held ≡ held_all tables.next_entry es tables.held
  held_replayed [] tables after r = sym (ap (λ (t : Tables). t.held) r)
  held_replayed (e ∷ es) tables after r =
      let mid = r.2.0 in
      let f = folded_held b tables e r.0 mid r.2.1 in
      held_replayed es mid after r.2.2 ∙ ap (λ n. held_all n es mid.held) f.next ∙ ap (λ h. held_all (risen tables.next_entry) es h) f.held

  same_fold : (e : Entry) (one other : Batch) (t : Tables) → IsBatchOf contents e one → IsBatchOf contents e other → folded b t e one ≡ folded b t e other
  same_fold (Commit log number generation pieces) one other t p q =
      ap (folded b t (Commit log number generation pieces)) (batch_once one other p.rest q.rest p.valid q.valid (p.begins ∙ sym q.begins)).0
  same_fold (Attach owner log) one other t p q = refl
  same_fold (Mark members) one other t p q = refl
  same_fold (Retire log stripe) one other t p q = refl

  pub replays_once : (es : List Entry) (tables one other : Tables) → Replays b contents tables es one → Replays b contents tables es other → one ≡ other
  replays_once [] tables one other r s = sym r ∙ s
  replays_once (e ∷ es) tables one other r s =
      let same : r.2.0 ≡ s.2.0 = same_Some r.2.0 s.2.0 (sym r.2.1 ∙ same_fold e r.0 s.0 tables r.1 s.1 ∙ s.2.1) in
      replays_once es r.2.0 one other r.2.2 (subst (λ (t : Tables). Replays b contents t es other) (sym same) s.2.2)
