-- How many bytes are wanted at most for a batch or a read.
use Rattle.std.proofs.Common.{ℕ, zero, suc, ◌+◌, ◌-◌, ◌*◌, ◌/◌, ◌<◌, ◌≤◌, min, Bool, true, false, List, [], ◌∷◌, length, length-append, filter, Option, Some, None, arith}
use Rattle.std.specs.Prelude.{◌==◌, ◌&&◌, ◌||◌, not, if◌then◌else◌, nat_le, AllPairs, slice_index_or}
use Rattle.std.specs.List.{AllByRecursion, flat_map, range_with_len}
use Rattle.std.proofs.Math.Nat.{div-le_self}
use Rattle.std.proofs.lemmas.Bool.{cond_both, leb-true}
use Rattle.std.proofs.lemmas.Bool.Decides.{nat_tests}
use Rattle.std.proofs.lemmas.List.{length-map}
use Rattle.std.proofs.lemmas.Nat.{mul-le}
use Rattle.zb_types.specs.declared.calls.Call.{Call}
use Rattle.zb_types.specs.declared.calls.Call.TheVariants.{Create, Mkdir, Remove, Rename, Write, Truncate, Sync, Read, List as ListOf, Stat, Find}
use Rattle.zb_types.specs.declared.ids.Fid.{Fid}
use Rattle.zb_types.specs.declared.ids.Ptr.{Ptr}
use Rattle.zb_types.specs.declared.tables.Found.{Found}
use Rattle.zb_types.specs.Apply.{max_file}
use Rattle.zb_types.specs.Keyed.{look}
use Rattle.zb_types.specs.Limits.{most_kept}
use Rattle.zb_basis.specs.declared.asks.Ask.{Ask}
use Rattle.zb_basis.specs.declared.calls.Numbered.{Numbered}
use Rattle.zb_basis.specs.Looking.{AreFoundFor, IsFoundBlock, MayFind, ask_of, ask_range, ask_to, asks_of, end_of}
use Rattle.zb_basis.specs.Operations.{is_done, is_longer}
use Rattle.zb_basis.specs.Runs.{run_of}
use Rattle.zb_basis.specs.Wanting.{has_other, reaches, touches, wanted_at, wanted_behind, wanted_by_read, wanted_in, wanted_of, wanted_of_write}
use Rattle.zb_basis.proofs.Each.{each-of, each-weaker}
use Rattle.zb_basis.proofs.Found.{filter-each, wanted-each}
use Rattle.zb_cache.specs.Entries.{SeenCache}
use Rattle.zb_work.specs.Blocks.{slots_of}
use Rattle.zb_work.specs.Fitting.{FoundFor, FoundForRead, wanted_for, wanted_for_read}
use Rattle.zb_progress.specs.Left.{missing_bytes}
use Rattle.zb_progress.proofs.Missing.{missing-few}
use Rattle.zb_progress.proofs.Versions.{run-few}

abbrev AtMost : ℕ → List Ptr → Type 0
AtMost n ps = length ps ≤ n

-- ---- what is asked

range-few : (b : ℕ) (fid : Fid) (from to : ℕ) → to ≤ max_file → (ask_range b fid from to).count ≤ max_file
range-few b fid from to le = cond_both (nat_le to from) _ _ (λ (ask : Ask). ask.count ≤ max_file) (λ _. omega arith) (λ f. not-empty (grind (arith, nat_tests))) where
  not-empty : from < to → (to - 1) / b - from / b + 1 ≤ max_file
  not-empty lt = let less = div-le_self (to - 1) b in omega (arith, less)

to-few : (b : ℕ) (fid : Fid) (offset len : ℕ) → (ask_to b fid offset (end_of offset len)).count ≤ max_file
to-few b fid offset len =
    cond_both (nat_le (offset + len) max_file) (Some (offset + len)) None (λ (o : Option ℕ). (ask_to b fid offset o).count ≤ max_file)
    (λ t. range-few b fid offset (offset + len) (leb-true (offset + len) max_file t)) (λ _. range-few b fid 0 0 (omega arith))

-- ---- the blocks that are wanted for a batch

at-few : (touched wants : Bool) (o : Option Ptr) → AtMost 1 (wanted_at touched wants o)
at-few touched wants None = omega arith
at-few touched wants (Some p) = cond_both (not touched && wants) (p ∷ []) [] (AtMost 1) (λ _. omega arith) (λ _. omega arith)

flat-few : (h : ℕ → List Ptr) → ((k : ℕ) → AtMost 1 (h k)) → (from n : ℕ) → AtMost n (flat_map h (range_with_len from n))
flat-few h each from zero = omega arith
flat-few h each from (suc n) =
    let first = each from in
    let rest = flat-few h each (from + 1) n in
    let all = length-append (h from) (flat_map h (range_with_len (from + 1) n)) in
    omega (arith, first, rest, all)

call-few : (b : ℕ) (call : Call) (found : Found) (touched : ℕ → ℕ → Bool) → AtMost max_file (wanted_of b call found touched)
call-few b (Write fid offset text) found touched =
    let ask = ask_of b (Write fid offset text) in
    let few = to-few b fid offset (length text) in
    let most = flat-few (wanted_of_write b (touched fid.0) offset (offset + length text) found)
    (λ k. at-few (touched fid.0 k) (has_other b offset (offset + length text) k (look k found.blocks)) (look k found.blocks)) ask.first ask.count in
    cond_both (is_done found.version (offset + length text)) (flat_map (wanted_of_write b (touched fid.0) offset (offset + length text) found) (range_with_len ask.first ask.count)) [] (AtMost max_file)
    (λ _. omega (arith, few, most)) (λ _. omega arith)
call-few b (Truncate fid n) found touched =
    let one = at-few (touched fid.0 (n / b)) (is_longer b n (look (n / b) found.blocks)) (look (n / b) found.blocks) in
    cond_both (is_done found.version n) (wanted_at (touched fid.0 (n / b)) (is_longer b n (look (n / b) found.blocks)) (look (n / b) found.blocks)) [] (AtMost max_file)
    (λ _. omega (arith, one)) (λ _. omega arith)
call-few b (Create path) found touched = omega arith
call-few b (Mkdir path) found touched = omega arith
call-few b (Remove path) found touched = omega arith
call-few b (Rename path to) found touched = omega arith
call-few b Sync found touched = omega arith
call-few b (Read fid offset len) found touched = omega arith
call-few b (ListOf path) found touched = omega arith
call-few b (Stat path) found touched = omega arith
call-few b (Find path) found touched = omega arith

behind-few : (b : ℕ) (calls : List Numbered) (found : List Found) (touched : ℕ → ℕ → Bool) → AtMost (length calls * max_file) (wanted_behind b calls found touched)
behind-few b [] found touched = omega arith
behind-few b (call ∷ calls) [] touched = omega arith
behind-few b (call ∷ calls) (f ∷ found) touched =
    let more = λ (g k : ℕ). touched g k || touches b call.call f g k in
    let first = call-few b call.call f touched in
    let rest = behind-few b calls found more in
    let all = length-append (wanted_of b call.call f touched) (wanted_behind b calls found more) in
    omega (arith, first, rest, all)

-- ---- the blocks that are wanted for a read

-- numbers that rise below an end
rising-few : (es : List (ℕ × Ptr)) (from end : ℕ) → AllByRecursion (λ (e : ℕ × Ptr). (from ≤ e.0) × (e.0 < end)) es → AllPairs (λ (one other : ℕ × Ptr). one.0 < other.0) es → length es ≤ end - from
rising-few [] from end within rise = omega arith
rising-few (e ∷ es) from end within rise =
    let here = within.0 in
    let rest = rising-few es (e.0 + 1) end (above es within.1 (λ k l. rise 0 (suc k) e (omega arith) (omega (arith, l)))) (λ i j d less l. rise (suc i) (suc j) d (omega arith) (omega (arith, l))) in
    omega (arith, here, rest) where
      above : (xs : List (ℕ × Ptr)) → AllByRecursion (λ (x : ℕ × Ptr). (from ≤ x.0) × (x.0 < end)) xs → ((k : ℕ) → k < length xs → e.0 < (slice_index_or xs k e).0)
          → AllByRecursion (λ (x : ℕ × Ptr). (e.0 + 1 ≤ x.0) × (x.0 < end)) xs
      above [] all less = tt
      above (x ∷ xs) all less = ((let l = less 0 (omega arith) in omega (arith, l), all.0.1), above xs all.1 (λ k l. less (suc k) (omega (arith, l))))

filter-few : (test : ℕ × Ptr → Bool) (es : List (ℕ × Ptr)) → length (filter test es) ≤ length es
filter-few test [] = omega arith
filter-few test (e ∷ es) =
    let rest = filter-few test es in
    cond_both (test e) (e ∷ filter test es) (filter test es) (λ (xs : List (ℕ × Ptr)). length xs ≤ length (e ∷ es)) (λ _. omega (arith, rest)) (λ _. omega (arith, rest))

found-few : (b room : ℕ) (fid : Fid) (offset len : ℕ) (found : Found) → MayFind b room (ask_of b (Read fid offset len)) found → length found.blocks ≤ max_file
found-few b room fid offset len found may =
    let ask = ask_of b (Read fid offset len) in
    let few = range-few b fid offset (min (offset + len) max_file) (omega arith) in
    let most = rising-few found.blocks ask.first (ask.first + ask.count)
    (each-weaker (IsFoundBlock b room ask) (λ (e : ℕ × Ptr). (ask.first ≤ e.0) × (e.0 < ask.first + ask.count)) found.blocks (λ e is. (is.begins, is.ends)) (each-of (IsFoundBlock b room ask) found.blocks may.blocks)) may.rise in
    omega (arith, few, most)

in-few : (b from to : ℕ) (found : Found) → length found.blocks ≤ max_file → AtMost max_file (wanted_in b from to found)
in-few b from to found le =
    let less = filter-few (reaches b from to) found.blocks in
    let same = length-map (filter (reaches b from to) found.blocks) (λ (entry : ℕ × Ptr). entry.1) in
    omega (arith, less, same)

read-few : (b room : ℕ) (call : Call) (found : List Found) → AreFoundFor b room (ask_of b call ∷ []) found → AtMost max_file (wanted_by_read b call found)
read-few b room (Read fid offset len) [] may = omega arith
read-few b room (Read fid offset len) (f ∷ []) may =
    let most = in-few b (min offset f.length) (min (offset + len) f.length) f (found-few b room fid offset len f may.0) in
    cond_both (f.version == 0) [] (wanted_in b (min offset f.length) (min (offset + len) f.length) f) (AtMost max_file) (λ _. omega arith) (λ _. most)
read-few b room (Read fid offset len) (f ∷ (g ∷ found)) may = omega arith
read-few b room (Write fid offset text) found may = omega arith
read-few b room (Truncate fid n) found may = omega arith
read-few b room (Create path) found may = omega arith
read-few b room (Mkdir path) found may = omega arith
read-few b room (Remove path) found may = omega arith
read-few b room (Rename path to) found may = omega arith
read-few b room Sync found may = omega arith
read-few b room (ListOf path) found may = omega arith
read-few b room (Stat path) found may = omega arith
read-few b room (Find path) found may = omega arith

-- ---- none is longer than a block

abbrev IsShortIn : ℕ → Ptr → Type 0
IsShortIn b p = p.len ≤ b

found-short : (b room : ℕ) (asks : List Ask) (found : List Found) → AreFoundFor b room asks found → AllByRecursion (λ (f : Found). AllByRecursion (λ (e : ℕ × Ptr). IsShortIn b e.1) f.blocks) found
found-short b room [] [] may = tt
found-short b room [] (f ∷ found) may = absurd may
found-short b room (ask ∷ asks) [] may = absurd may
found-short b room (ask ∷ asks) (f ∷ found) may =
    (each-weaker (IsFoundBlock b room ask) (λ (e : ℕ × Ptr). IsShortIn b e.1) f.blocks (λ e is. is.fits) (each-of (IsFoundBlock b room ask) f.blocks may.0.blocks), found-short b room asks found may.1)

there-short : (b : ℕ) (absent : Bool) (ps : List Ptr) → AllByRecursion (IsShortIn b) ps → AllByRecursion (IsShortIn b) (if absent then [] else ps)
there-short b true ps each = tt
there-short b false ps each = each

read-short : (b room : ℕ) (call : Call) (found : List Found) → AreFoundFor b room (ask_of b call ∷ []) found → AllByRecursion (IsShortIn b) (wanted_by_read b call found)
read-short b room (Read fid offset len) [] may = tt
read-short b room (Read fid offset len) (f ∷ []) may =
    there-short b (f.version == 0) (wanted_in b (min offset f.length) (min (offset + len) f.length) f)
    (filter-each (IsShortIn b) (reaches b (min offset f.length) (min (offset + len) f.length)) f.blocks (found-short b room (ask_of b (Read fid offset len) ∷ []) (f ∷ []) may).0)
read-short b room (Read fid offset len) (f ∷ (g ∷ found)) may = tt
read-short b room (Write fid offset text) found may = tt
read-short b room (Truncate fid n) found may = tt
read-short b room (Create path) found may = tt
read-short b room (Mkdir path) found may = tt
read-short b room (Remove path) found may = tt
read-short b room (Rename path to) found may = tt
read-short b room Sync found may = tt
read-short b room (ListOf path) found may = tt
read-short b room (Stat path) found may = tt
read-short b room (Find path) found may = tt

-- ---- all that is wanted

record IsBounded (b : ℕ) (ps : List Ptr) : Type 0 where
  few : AtMost (most_kept * max_file) ps
  short : AllByRecursion (IsShortIn b) ps

queue-bounded : (b room : ℕ) (queue : List Numbered) (found : List Found) → FoundForRead b room queue found → IsBounded b (wanted_for_read b queue found)
queue-bounded b room [] found may = absurd may
queue-bounded b room (read ∷ rest) found may =
    record { few = (let few = read-few b room read.call found may.1 in omega (arith, few)); short = read-short b room read.call found may.1 }

all-bounded : (b room : ℕ) (kept queue : List Numbered) (found : List Found) → FoundFor b room kept queue found → IsBounded b (wanted_for b kept queue found)
all-bounded b room [] queue found may = queue-bounded b room queue found may
all-bounded b room (first ∷ others) queue found may =
    let run = run_of (first ∷ others) in
    record {
      few = (let few = behind-few b run found (λ g k. false) in let most = run-few (first ∷ others) in omega (arith, few, most));
      short = wanted-each (IsShortIn b) b run found (λ g k. false) (found-short b room (asks_of b run) found may);
    }

pub wanted-few : (b room : ℕ) (kept queue : List Numbered) (found : List Found) (cache : SeenCache) → FoundFor b room kept queue found
    → missing_bytes (slots_of cache (wanted_for b kept queue found)) ≤ most_kept * max_file * b
wanted-few b room kept queue found cache may =
    let all = all-bounded b room kept queue found may in
    let few = all.few in
    let bytes = missing-few b cache (wanted_for b kept queue found) all.short in
    let most = mul-le (length (wanted_for b kept queue found)) b (most_kept * max_file) b few (omega arith) in
    omega (arith, bytes, most)
