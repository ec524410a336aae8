-- What was found and fetched is for the batch, or for the read.
use Rattle.std.proofs.Common.{◌≡◌, ℕ, zero, suc, ◌+◌, ◌<◌, ◌≤◌, Bool, true, false, List, [], ◌∷◌, length, get_or, Some, None, refl, ap, sym, subst, arith}
use Rattle.std.specs.Prelude.{All, nat_lt, ◌==◌, min, if◌then◌else◌}
use Rattle.std.specs.List.{AllByRecursion}
use Rattle.std.proofs.lemmas.Bool.{and_parts, eqb-true}
use Rattle.zb_types.specs.declared.ids.Ptr.{Ptr}
use Rattle.zb_types.specs.declared.calls.Call.{Call}
use Rattle.zb_types.specs.declared.calls.Call.TheVariants.{Create, Mkdir, Remove, Rename, Write, Truncate, Sync, Read, List as ListOf, Stat, Find}
use Rattle.zb_types.specs.declared.tables.Found.{Found}
use Rattle.zb_cache.specs.Entries.{SeenCache}
use Rattle.zb_basis.specs.declared.calls.Numbered.{Numbered}
use Rattle.zb_basis.specs.declared.basis.Basis.{Basis}
use Rattle.zb_basis.specs.declared.basis.Fetched.{Fetched}
use Rattle.zb_basis.specs.Runs.{is_alone, company, run_of}
use Rattle.zb_basis.specs.Looking.{ask_of, asks_of, room_of, AreFoundFor}
use Rattle.zb_basis.specs.Wanting.{wanted_by, reaches, wanted_in, wanted_by_read, AreFetched}
use Rattle.zb_basis.proofs.Each.{each-weaker, all-of}
use Rattle.zb_basis.proofs.Found.{IsFine, fine, wanted-each, filter-each, EachIs}
use Rattle.zb_work.specs.Blocks.{slots_of, next_missing, filled, AreSlots}
use Rattle.zb_work.specs.Fitting.{FoundFor, wanted_for, Rests, IsFetching}
use Rattle.zb_steps.specs.Going.{is_whole}
use Rattle.zb_work.proofs.Missing.{all_fetched, first_slots, slots_filled, unfilled, filled_long}

company_step : (most : ℕ) (k : Numbered) (ks : List Numbered) (t : Bool) → is_alone k.call ≡ t → company most (company most ks) ≡ company most ks
    → company (suc most) (company (suc most) (k ∷ ks)) ≡ company (suc most) (k ∷ ks)
company_step most k ks true e h = rw e refl
company_step most k ks false e h = rw e (rw e (ap (λ (z : List Numbered). k ∷ z) h))

company_again : (most : ℕ) (ks : List Numbered) → company most (company most ks) ≡ company most ks
company_again zero [] = refl
company_again (suc most) [] = refl
company_again zero (k ∷ ks) = refl
company_again (suc most) (k ∷ ks) = company_step most k ks (is_alone k.call) refl (company_again most ks)

run_step : (k : Numbered) (ks : List Numbered) (t : Bool) → is_alone k.call ≡ t → run_of (run_of (k ∷ ks)) ≡ run_of (k ∷ ks)
run_step k ks true e = rw e (rw e refl)
run_step k ks false e = rw e (rw e (ap (λ (z : List Numbered). k ∷ z) (company_again 7 ks)))

-- the calls of a batch are those of the next batch of them
pub run_again : (ks : List Numbered) → run_of (run_of ks) ≡ run_of ks
run_again [] = refl
run_again (k ∷ ks) = run_step k ks (is_alone k.call) refl

some_step : (k : Numbered) (ks : List Numbered) (t : Bool) → is_alone k.call ≡ t → 0 < length (run_of (k ∷ ks))
some_step k ks true e = rw e (omega arith)
some_step k ks false e = rw e (omega arith)

-- where calls are kept, a batch has some
pub run_some : (ks : List Numbered) → 0 < length ks → 0 < length (run_of ks)
run_some [] h = absurd (omega arith)
run_some (k ∷ ks) h = some_step k ks (is_alone k.call) refl

-- what a batch is formed of is there
pub record BatchHas (n f b : ℕ) (kept : List Numbered) (basis : Basis) : Type 0 where
  pub run : run_of (run_of kept) ≡ run_of kept
  pub some : 0 < length (run_of kept)
  pub found : AreFoundFor b (room_of n f) (asks_of b (run_of kept)) basis.found
  pub fetched : AreFetched (wanted_by b (run_of kept) basis.found) basis.fetched

pub batch_has : (n f b : ℕ) (kept queue : List Numbered) (doubted : ℕ) (basis : Basis) → 0 < length kept → Rests n f b kept queue doubted basis → next_missing basis.fetched ≡ None → BatchHas n f b kept basis
batch_has n f b [] queue doubted basis k r m = absurd (omega arith)
batch_has n f b (first ∷ others) queue doubted basis k r m = record {
  run = run_again (first ∷ others);
  some = run_some (first ∷ others) k;
  found = r.found;
  fetched = all_fetched (room_of n f) (wanted_by b (run_of (first ∷ others)) basis.found) basis.fetched r.slots m;
}

-- the blocks that are wanted for a read were fetched
pub read_fetched : (n f b : ℕ) (kept queue : List Numbered) (read : Numbered) (doubted : ℕ) (basis : Basis) → length kept ≡ 0 → Rests n f b kept queue doubted basis → next_missing basis.fetched ≡ None
    → read ≡ get_or queue 0 read → AreFetched (wanted_by_read b read.call basis.found) basis.fetched
read_fetched n f b (first ∷ others) queue read doubted basis k r m e = absurd (omega arith)
read_fetched n f b [] [] read doubted basis k r m e = absurd r.found
read_fetched n f b [] (x ∷ rest) read doubted basis k r m e =
    subst (λ (z : Numbered). AreFetched (wanted_by_read b z.call basis.found) basis.fetched) (sym e) (all_fetched (room_of n f) (wanted_by_read b x.call basis.found) basis.fetched r.slots m)

-- the blocks that are wanted for a read have some bytes
read_some : (b room : ℕ) (call : Call) (founds : List Found) → EachIs (IsFine b room) founds → AllByRecursion (IsFine b room) (wanted_by_read b call founds)
read_some b room (Read fid offset len) [] each = tt
read_some b room (Read fid offset len) (found ∷ []) each = if_there b room found offset len (found.version == 0) each.0
  where
    if_there : (b room : ℕ) (found : Found) (offset len : ℕ) (absent : Bool) → AllByRecursion (λ (e : ℕ × Ptr). IsFine b room e.1) found.blocks
        → AllByRecursion (IsFine b room) (if absent then [] else wanted_in b (min offset found.length) (min (offset + len) found.length) found)
    if_there b room found offset len true each = tt
    if_there b room found offset len false each = filter-each (IsFine b room) (reaches b (min offset found.length) (min (offset + len) found.length)) found.blocks each
read_some b room (Read fid offset len) (found ∷ (other ∷ founds)) each = tt
read_some b room (Write fid offset text) founds each = tt
read_some b room (Truncate fid n) founds each = tt
read_some b room (Create path) founds each = tt
read_some b room (Mkdir path) founds each = tt
read_some b room (Remove path) founds each = tt
read_some b room (Rename path to) founds each = tt
read_some b room Sync founds each = tt
read_some b room (ListOf path) founds each = tt
read_some b room (Stat path) founds each = tt
read_some b room (Find path) founds each = tt

each_some : (b room : ℕ) (ws : List Ptr) → AllByRecursion (IsFine b room) ws → All (λ (p : Ptr). 0 < p.len) ws
each_some b room ws each = all-of (λ (p : Ptr). 0 < p.len) ws (each-weaker (IsFine b room) (λ (p : Ptr). 0 < p.len) ws (λ p is. is.some) each)

-- the blocks that are wanted have some bytes
wanted_some : (b room : ℕ) (kept queue : List Numbered) (found : List Found) → FoundFor b room kept queue found → All (λ (p : Ptr). 0 < p.len) (wanted_for b kept queue found)
wanted_some b room [] [] found h = absurd h
wanted_some b room [] (read ∷ rest) found h = each_some b room (wanted_by_read b read.call found) (read_some b room read.call found (fine b room (ask_of b read.call ∷ []) found h.1))
wanted_some b room (first ∷ others) queue found h =
    each_some b room (wanted_by b (run_of (first ∷ others)) found)
    (wanted-each (IsFine b room) b (run_of (first ∷ others)) found (λ g k. false) (fine b room (asks_of b (run_of (first ∷ others))) found h))

-- what the work rests on once it was looked up
pub rests_first : (n f b : ℕ) (kept queue : List Numbered) (doubted : ℕ) (found : List Found) (wanted : List Ptr) (cache : SeenCache) → doubted ≡ 0 → FoundFor b (room_of n f) kept queue found
    → wanted ≡ wanted_for b kept queue found → All (λ (p : Ptr). p.offset + p.len ≤ room_of n f) wanted
    → Rests n f b kept queue doubted (record { found = found; wanted = wanted; fetched = slots_of cache wanted })
rests_first n f b kept queue doubted found wanted cache d h e fits = record {
  settled = d;
  found = h;
  slots = subst (λ (ws : List Ptr). AreSlots (room_of n f) ws (slots_of cache wanted)) e
      (first_slots (room_of n f) cache wanted (subst (λ (ws : List Ptr). All (λ (p : Ptr). 0 < p.len) ws) (sym e) (wanted_some b (room_of n f) kept queue found h)) fits);
}

-- what the work rests on once a block has come
pub rests_filled : (n f b : ℕ) (kept queue : List Numbered) (doubted : ℕ) (basis : Basis) (at : ℕ) (ptr : Ptr) (bytes : List ℕ) → IsFetching n f b kept queue doubted basis at ptr → length bytes ≡ ptr.len
    → Rests n f b kept queue doubted (record basis { fetched = filled basis.fetched at ptr bytes })
rests_filled n f b kept queue doubted basis at ptr bytes i long = record {
  settled = i.rests.settled;
  found = i.rests.found;
  slots = slots_filled (room_of n f) (wanted_for b kept queue basis.found) basis.fetched at ptr bytes i.rests.slots i.missing long;
}

-- without the bytes again it rests on what it did
pub emptied_is : (basis : Basis) (at : ℕ) (ptr : Ptr) (bytes : List ℕ) → next_missing basis.fetched ≡ Some (at, ptr)
    → (record basis { fetched = filled (filled basis.fetched at ptr bytes) at ptr [] }) ≡ basis
emptied_is basis at ptr bytes h = ap (λ (fs : List Fetched). record basis { fetched = fs }) (unfilled basis.fetched at ptr bytes h)

-- the place is one of theirs
pub filled_within : (bs : List Fetched) (at : ℕ) (p : Ptr) (bytes : List ℕ) → next_missing bs ≡ Some (at, p) → at ≤ length (filled bs at p bytes)
filled_within bs at p bytes h = let w : at < length (filled bs at p bytes) = filled_long bs at p bytes h in omega arith

-- all bytes of a pointer are as many as it says
pub whole_long : (ptr : Ptr) (bytes : List ℕ) → is_whole ptr bytes ≡ true → length bytes ≡ ptr.len
whole_long ptr bytes e = let two = and_parts (length bytes == ptr.len) (nat_lt 0 (length bytes)) e in eqb-true (length bytes) ptr.len two.0
