-- How many files and logs tables in form have.
use Rattle.std.proofs.Common.{◌≡◌, ℕ, suc, ◌+◌, ◌<◌, ◌≤◌, List, [], ◌∷◌, length, length-append, ap, arith}
use Rattle.std.specs.List.{AllByRecursion}
use Rattle.std.specs.Map.{keys_of}
use Rattle.std.proofs.lemmas.List.Sorted.{length_permutation}
use Rattle.zb_types.specs.Names.{Entry, directory, numbered, max_names}
use Rattle.zb_types.proofs.KeyedLists.{IsRising, KeysAbove, IsRising-from_ordered}
use Rattle.zb_tables.specs.Tables.{LogState, Tables}
use Rattle.zb_tables.specs.Taking.{Sizes}
use Rattle.zb_tables.specs.Checkpoint.{AreTables, IsLog, number_of, numbers_of}
use Rattle.zb_tables.proofs.Alls.{all_map}
use Rattle.zb_tables.proofs.NamesForm.{Entries, numbers}

one_number : (entry : Entry) → length (number_of entry) ≤ 1
one_number directory = omega arith
one_number (numbered n) = omega arith

few_numbers : (es : Entries) → length (numbers es) ≤ length es
few_numbers [] = omega arith
few_numbers (e ∷ es) =
    let long = length-append (number_of e.1) (numbers es) in
    let first = one_number e.1 in
    let rest = few_numbers es in
    omega (arith, long, first, rest)

keys_length : {A : Type 0} (es : List (ℕ × A)) → length (keys_of es) ≡ length es
keys_length [] = omega arith
keys_length (e ∷ es) = ap suc (keys_length es)

-- rising keys between two numbers are fewer than their distance
few_between : {A : Type 0} (low high : ℕ) (es : List (ℕ × A)) → low < high → KeysAbove low es → IsRising es → AllByRecursion (λ (e : ℕ × A). e.0 < high) es → length es + low < high
few_between low high [] lt above rising all = omega (arith, lt)
few_between low high (e ∷ es) lt above rising all = let rest = few_between e.0 high es all.0 rising.0 rising.1 all.1 in let up = above.0 in omega (arith, rest, up)

from_one : (es : List (ℕ × LogState)) → AllByRecursion (λ (e : ℕ × LogState). 1 ≤ e.0) es → KeysAbove 0 es
from_one [] all = tt
from_one (e ∷ es) all = (let a = all.0 in omega (arith, a), from_one es all.1)

pub few_files : (z : Sizes) (t : Tables) → AreTables z t → length t.files ≤ max_names
few_files z t f =
    let keys = keys_length t.files in
    let same = length_permutation (numbers_of t.names) (keys_of t.files) f.named in
    let few = few_numbers t.names.entries in
    let most = f.few in
    omega (arith, keys, same, few, most)

pub few_logs : (z : Sizes) (t : Tables) → AreTables z t → length t.logs < t.next_log
few_logs z t f =
    let from = f.next_log.0 in
    let few = few_between 0 t.next_log t.logs (omega (arith, from))
    (from_one t.logs (all_map (IsLog z t.next_log t.held) (λ (e : ℕ × LogState). 1 ≤ e.0) (λ e i. i.numbered.0) t.logs f.logs))
    (IsRising-from_ordered t.logs f.logs_rise) (all_map (IsLog z t.next_log t.held) (λ (e : ℕ × LogState). e.0 < t.next_log) (λ e i. i.numbered.1) t.logs f.logs) in
    omega (arith, few)
