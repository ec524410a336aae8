-- A range that was saved gives the image back, whatever was written into it.
use Rattle.std.proofs.Common.{◌≡◌, inl, inr, ℕ, ◌+◌, ◌-◌, ◌<◌, ◌≤◌, nat_lt, min, Bool, false, if◌then◌else◌, List, [], ◌∷◌, ◌++◌, length, take, drop, slice_index, refl, sym, ◌∙◌, ap, subst, arith, length-append, length-drop, length-take}
use Rattle.std.proofs.lemmas.List.{get_or-take, get_or-drop, get_or_append_left, get_or-append_right, ext_get_or}
use Rattle.std.proofs.lemmas.Bool.{cases_lt}
use Rattle.std.proofs.lemmas.Bool.Decides.{nat_tests}
use Rattle.zb_outside.specs.Ranges.{Torn, torn_same}
use Rattle.zb_devices.specs.Record.{PlatterState, overlaid, written, write_failed}
use Rattle.zb_devices.specs.Images.{torn_written, overlaid_written}
use Rattle.zb_devices.specs.Plates.{Saves, Shows, restored, undone, ranges_of}
use Rattle.zb_devices.specs.declared.plate.Plate.{Plate}
use Rattle.zb_devices.specs.declared.unsynced.Unsynced.{Unsynced}

pub undone_push : (us : List Unsynced) (u : Unsynced) (image : List ℕ) → undone (us ++ u ∷ []) image ≡ undone us (restored u image)
undone_push [] u image = refl
undone_push (v ∷ us) u image = ap (restored v) (undone_push us u image)

pub ranges_push : (us : List Unsynced) (u : Unsynced) → ranges_of (us ++ u ∷ []) ≡ ranges_of us ++ (u.place, u.count) ∷ []
ranges_push [] u = refl
ranges_push (v ∷ us) u = ap (λ (rs : List (ℕ × ℕ)). (v.place, v.count) ∷ rs) (ranges_push us u)

-- an image whose range has changed, with these bytes put back
abbrev back : ℕ → List ℕ → ℕ → List ℕ → List ℕ
back from old size image = if nat_lt (length (take size image)) (from + length old) then take size image else take from (take size image) ++ old ++ drop (from + length old) (take size image)

module _ (at n : ℕ) (s x : List ℕ) (torn : Torn at n s x) where
  abbrev from : ℕ
  from = min at (length s)

  abbrev old : List ℕ
  old = drop from (take (at + n) s)

  abbrev cut : List ℕ
  cut = take (length s) x

  cut_long : length cut ≡ length s
  cut_long = omega (arith, length-take (length s) x, torn.no_shorter)

  old_long : length old ≡ min (at + n) (length s) - from
  old_long = omega (arith, length-drop from (take (at + n) s), length-take (at + n) s)

  fits : nat_lt (length cut) (from + length old) ≡ false
  fits =
      let e : from + length old ≤ length cut = omega (arith, cut_long, old_long) in
      grind (arith, nat_tests)

  front_long : length (take from cut) ≡ from
  front_long = omega (arith, length-take from cut, cut_long)

  two_long : length (take from cut ++ old) ≡ from + length old
  two_long = omega (arith, length-append (take from cut) old, front_long)

  all_long : length (take from cut ++ old ++ drop (from + length old) cut) ≡ length s
  all_long = omega (arith, length-append (take from cut ++ old) (drop (from + length old) cut), two_long, length-drop (from + length old) cut, cut_long, old_long)

  cut_at : (i : ℕ) → i < length s → slice_index cut i ≡ slice_index x i
  cut_at i lt = get_or-take (length s) x i 0 lt

  old_at : (i : ℕ) → i < at + n → from ≤ i → slice_index old (i - from) ≡ slice_index s i
  old_at i lt le = get_or-drop from (take (at + n) s) (i - from) 0 ∙ ap (slice_index (take (at + n) s)) (omega arith) ∙ get_or-take (at + n) s i 0 lt

  same : (i : ℕ) → i < length (take from cut ++ old ++ drop (from + length old) cut) → slice_index (take from cut ++ old ++ drop (from + length old) cut) i ≡ slice_index s i
  same i lt =
      let small : i < length s = omega (arith, lt, all_long) in
      elim (cases_lt i from) [
        | inl low ↦ get_or_append_left (take from cut ++ old) (drop (from + length old) cut) 0 i (omega (arith, two_long))
            ∙ get_or_append_left (take from cut) old 0 i (omega (arith, front_long)) ∙ get_or-take from cut i 0 low ∙ cut_at i small ∙ torn.below i small (omega (arith, low))
        | inr ge ↦ elim (cases_lt i (from + length old)) [
          | inl mid ↦ get_or_append_left (take from cut ++ old) (drop (from + length old) cut) 0 i (omega (arith, two_long))
              ∙ get_or-append_right (take from cut) old from i 0 front_long ge ∙ old_at i (omega (arith, mid, old_long)) ge
          | inr high ↦ get_or-append_right (take from cut ++ old) (drop (from + length old) cut) (from + length old) i 0 two_long high
              ∙ get_or-drop (from + length old) cut (i - (from + length old)) 0 ∙ ap (slice_index cut) (omega arith) ∙ cut_at i small ∙ torn.above i small (omega (arith, high, old_long, small))
        ]
      ]

  pub put_back : back from old (length s) x ≡ s
  put_back = ap (λ (b : Bool). if b then cut else take from cut ++ old ++ drop (from + length old) cut) fits ∙ ext_get_or 0 (take from cut ++ old ++ drop (from + length old) cut) s all_long same

pub restored_saved : (at n : ℕ) (s x : List ℕ) (u : Unsynced) → Saves at n s u → Torn at n s x → restored u x ≡ s
restored_saved at n s x u h torn =
    let step : restored u x ≡ back (min at (length s)) (drop (min at (length s)) (take (at + n) s)) (length s) x = λ i. back (h.from i) (h.old i) (h.length_is i) x in
    step ∙ put_back at n s x torn

-- one range more
module _ (old new : Plate) (s : PlatterState) (u : Unsynced) (shows : Shows old s) (more : new.unsynced.items ≡ old.unsynced.items ++ u ∷ []) where
  undone_same : (at n : ℕ) → Saves at n old.seen.items u → Torn at n old.seen.items new.seen.items → undone new.unsynced.items new.seen.items ≡ s.base
  undone_same at n saves torn = ap (λ (us : List Unsynced). undone us new.seen.items) more ∙ undone_push old.unsynced.items u new.seen.items
      ∙ ap (undone old.unsynced.items) (restored_saved at n old.seen.items new.seen.items u saves torn) ∙ shows.base

  more_ranges : (at n : ℕ) → Saves at n old.seen.items u → ranges_of new.unsynced.items ≡ s.ranges ++ (at, n) ∷ []
  more_ranges at n saves = ap ranges_of more ∙ ranges_push old.unsynced.items u ∙ λ i. shows.ranges i ++ (saves.place i, saves.count i) ∷ []

  pub shows_written : (at : ℕ) (bytes : List ℕ) → Saves at (length bytes) old.seen.items u → new.seen.items ≡ overlaid old.seen.items at bytes → Shows new (written at bytes s)
  shows_written at bytes saves seen = record {
    seen = seen ∙ ap (λ (image : List ℕ). overlaid image at bytes) shows.seen;
    base = undone_same at (length bytes) saves (subst (Torn at (length bytes) old.seen.items) (sym seen) (torn_written (overlaid_written at bytes old.seen.items)));
    ranges = more_ranges at (length bytes) saves;
  }

  pub shows_marked : (at n : ℕ) → Saves at n old.seen.items u → new.seen.items ≡ old.seen.items → Shows new (write_failed at n s)
  shows_marked at n saves seen = record {
    seen = seen ∙ shows.seen;
    base = undone_same at n saves (subst (Torn at n old.seen.items) (sym seen) (torn_same at n old.seen.items));
    ranges = more_ranges at n saves;
  }
