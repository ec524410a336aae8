-- The listing of the tree that tables show.
use Rattle.std.proofs.Common.{◌≡◌, ℕ, zero, suc, ◌+◌, ◌<◌, ◌≤◌, List, [], ◌∷◌, ◌++◌, length, drop, map, refl, sym, ap, ◌∙◌, add-one, append-nil, append_assoc, arith}
use Rattle.std.specs.Prelude.{slice_index_or}
use Rattle.std.proofs.Math.Seq.{drop-cons}
use Rattle.zb_types.specs.declared.tables.Listed.{Listed}
use Rattle.zb_types.specs.declared.tables.TreeEntry.{TreeEntry}
use Rattle.zb_types.specs.Names.{Names}
use Rattle.zb_types.specs.Tree.{listed, listing}
use Rattle.zb_names.specs.declared.entries.Entry.{Entry}
use Rattle.zb_names.specs.Shown.{listed as entries_of, seen}

-- what a listing shows of these entries
abbrev pub shown_entries : List (ℕ × List ℕ) → List (List ℕ × Entry) → List TreeEntry
shown_entries files entries = map (λ e. record { path = e.0; listed = listed files (seen e.1) }) entries

listing_of : (files : List (ℕ × List ℕ)) (entries : List (List ℕ × Entry)) → shown_entries files entries ≡ map (λ e. record { path = e.0; listed = listed files e.1 }) (entries_of entries)
listing_of files [] = refl
listing_of files (e ∷ es) = ap (λ rest. record { path = e.0; listed = listed files (seen e.1) } ∷ rest) (listing_of files es)

pub listing_shown : (names : Names) (files : List (ℕ × List ℕ)) (entries : List (List ℕ × Entry)) → entries_of entries ≡ names.entries → shown_entries files entries ≡ listing (record { names = names; files = files })
listing_shown names files entries same = listing_of files entries ∙ ap (map (λ e. record { path = e.0; listed = listed files e.1 })) same

-- one more of them
pub more_shown : (files : List (ℕ × List ℕ)) (entries : List (List ℕ × Entry)) (i : ℕ) (item : List ℕ × Entry) (got : List TreeEntry) (path : List ℕ) (shown : Listed) → i < length entries → item ≡ slice_index_or entries i item → path ≡ item.0
    → shown ≡ listed files (seen item.1) → (got ++ record { path = path; listed = shown } ∷ []) ++ shown_entries files (drop (i + 1) entries) ≡ got ++ shown_entries files (drop i entries)
more_shown files entries i item got path shown below is path_is shown_is =
    let here : drop i entries ≡ item ∷ drop (i + 1) entries = rw add-one (drop-cons entries i item below ∙ ap (λ (x : List ℕ × Entry). x ∷ drop (suc i) entries) (sym is)) in
    append_assoc got (record { path = path; listed = shown } ∷ []) (shown_entries files (drop (i + 1) entries))
    ∙ ap (λ (e : TreeEntry). got ++ e ∷ shown_entries files (drop (i + 1) entries)) (λ j. record { path = path_is j; listed = shown_is j })
    ∙ ap (λ (es : List (List ℕ × Entry)). got ++ shown_entries files es) (sym here)

none_left : {A : Type 0} (i : ℕ) (xs : List A) → length xs ≤ i → drop i xs ≡ []
none_left zero [] past = refl
none_left zero (x ∷ xs) past = absurd (omega (arith, past))
none_left (suc i) [] past = refl
none_left (suc i) (x ∷ xs) past = none_left i xs (omega (arith, past))

-- and at the end none is left
pub all_shown : (files : List (ℕ × List ℕ)) (entries : List (List ℕ × Entry)) (i : ℕ) (got : List TreeEntry) → length entries ≤ i → got ≡ got ++ shown_entries files (drop i entries)
all_shown files entries i got past =
    sym (append-nil got) ∙ ap (λ (es : List (List ℕ × Entry)). got ++ shown_entries files es) (sym (none_left i entries past))
