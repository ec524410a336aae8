-- Operations part by part.
use Rattle.std.proofs.Common.{◌≡◌, ℕ, ◌<◌, ◌≤◌, List, [], ◌∷◌, ◌++◌, ◌-◌, length, get_or, take, drop, Option, Some, None, refl, sym, ap, subst, ◌∙◌, append_assoc, arith, length-append}
use Rattle.std.specs.List.{AllByRecursion, flat_map}
use Rattle.zb_types.specs.declared.ids.Fid.{Fid}
use Rattle.zb_numbers.specs.Fronts.{ReadsFront}
use Rattle.zb_numbers.specs.Numbers.{number_text, IsBelow}
use Rattle.zb_numbers.proofs.Digits.{number_once, number_rest}
use Rattle.zb_delta.specs.declared.delta.Delta.{Delta}
use Rattle.zb_delta.specs.Spelling.{IsDelta, spelling_of_delta}
use Rattle.zb_batch.specs.declared.batch.Op.{Op}
use Rattle.zb_batch.specs.declared.batch.Op.TheVariants.{Name, Write, Cut, Sync, Clean}
use Rattle.zb_batch.specs.declared.owners.Owner.{Owner}
use Rattle.zb_batch.specs.declared.owners.Owner.TheVariants.{Client, Cleaner}
use Rattle.zb_batch.specs.Spelling.{paths_text, deltas_text, deltas_of, call_of, rest_text, op_text}
use Rattle.zb_batch.specs.Batches.{IsUpdateOf, IsCleanDelta, IsOp}
use Rattle.zb_batch.specs.Reading.{IsOwned, IsDeltaOf, AreDeltas, IsNameOf, IsOpOf, op_length}
use Rattle.zb_batch.proofs.Sizes.{length-deltas_text, length-op_text, length-behind}
use Rattle.zb_batch.proofs.Once.{name_kind, call_room, four, five}

-- what holds of each delta of an owner holds of all
owned : (owner : Owner) (deltas : List Delta) → AllByRecursion (IsDeltaOf owner) deltas → AllByRecursion IsDelta deltas × AllByRecursion (IsOwned owner) deltas
owned owner [] h = (tt, tt)
owned owner (d ∷ ds) h = let others = owned owner ds h.1 in ((h.0.0, others.0), (h.0.1, others.1))

both : (owner : Owner) (deltas : List Delta) → AllByRecursion IsDelta deltas → AllByRecursion (IsOwned owner) deltas → AllByRecursion (IsDeltaOf owner) deltas
both owner [] h g = tt
both owner (d ∷ ds) h g = ((h.0, g.0), both owner ds h.1 g.1)

updates : (fid : Fid) (version : ℕ) (deltas : List Delta) → AllByRecursion (IsOwned (Client fid version)) deltas → AllByRecursion (IsUpdateOf fid version) deltas
updates fid version [] h = tt
updates fid version (d ∷ ds) h = (h.0, updates fid version ds h.1)

owned_updates : (fid : Fid) (version : ℕ) (deltas : List Delta) → AllByRecursion (IsUpdateOf fid version) deltas → AllByRecursion (IsOwned (Client fid version)) deltas
owned_updates fid version [] h = tt
owned_updates fid version (d ∷ ds) h = (h.0, owned_updates fid version ds h.1)

cleans : (deltas : List Delta) → AllByRecursion (IsOwned Cleaner) deltas → AllByRecursion IsCleanDelta deltas
cleans [] h = tt
cleans (d ∷ ds) h = (h.0, cleans ds h.1)

owned_cleans : (deltas : List Delta) → AllByRecursion IsCleanDelta deltas → AllByRecursion (IsOwned Cleaner) deltas
owned_cleans [] h = tt
owned_cleans (d ∷ ds) h = (h.0, owned_cleans ds h.1)

-- the deltas of a client's operation are those of their owner
client_deltas : (fid : Fid) (version : ℕ) (deltas : List Delta) → AllByRecursion IsDelta deltas → AllByRecursion (IsUpdateOf fid version) deltas → IsBelow 4 (length deltas) → AreDeltas (Client fid version) deltas
client_deltas fid version deltas h g room = (both (Client fid version) deltas h (owned_updates fid version deltas g), room)

-- Name operations.

pub no_name : (kind call : ℕ) (bytes : List ℕ) → 1 ≤ kind → kind ≤ 4 → ReadsFront (IsNameOf kind) paths_text bytes None → ReadsFront (IsOpOf kind call) rest_text bytes None
no_name kind call bytes low high none (Name c what) r h same = none what r (h.0.shaped, h.1) same
no_name kind call bytes low high none (Write c f v o l x) r h same = omega (arith, h.1)
no_name kind call bytes low high none (Cut c f v l x) r h same = omega (arith, h.1)
no_name kind call bytes low high none (Sync c) r h same = omega (arith, h.1)
no_name kind call bytes low high none (Clean x) r h same = omega (arith, h.1)

-- Writes.

pub write_too_short : (call : ℕ) (bytes : List ℕ) → length bytes < 20 → ReadsFront (IsOpOf 5 call) rest_text bytes None
write_too_short call bytes less (Write c f v o l x) r h same =
    omega (
      arith,
      ap length same,
      length-append (rest_text (Write c f v o l x)) r,
      length-op_text (Write c f v o l x),
      length-behind 4 f.0 (number_text 8 v ++ (number_text 4 o ++ (number_text 4 l ++ deltas_text x))),
      length-behind 8 v (number_text 4 o ++ (number_text 4 l ++ deltas_text x)),
      length-behind 4 o (number_text 4 l ++ deltas_text x),
      length-behind 4 l (deltas_text x),
      length-deltas_text x,
    )
write_too_short call bytes less (Name c what) r h same = omega (arith, h.1, name_kind what h.0.shaped)
write_too_short call bytes less (Cut c f v l x) r h same = omega (arith, h.1)
write_too_short call bytes less (Sync c) r h same = omega (arith, h.1)
write_too_short call bytes less (Clean x) r h same = omega (arith, h.1)

pub no_write : (call version offset len : ℕ) (fid : Fid) (bytes a b c d : List ℕ) → IsBelow 4 fid.0 → IsBelow 8 version
    → number_text 4 fid.0 ++ a ≡ bytes → number_text 8 version ++ b ≡ a → number_text 4 offset ++ c ≡ b → number_text 4 len ++ d ≡ c
    → ReadsFront (AreDeltas (Client fid version)) deltas_text d None → ReadsFront (IsOpOf 5 call) rest_text bytes None
no_write call version offset len fid bytes a b c d fid_room version_room e f g i none (Write n k v o l x) r h same =
    let parts = five (number_text 4 k.0) (number_text 8 v) (number_text 4 o) (number_text 4 l) (deltas_text x) r in
    let one = number_once 4 k.0 fid.0 _ a h.0.room.1 fid_room (sym parts ∙ same ∙ sym e) in
    let two = number_once 8 v version _ b h.0.room.2 version_room (one.1 ∙ sym f) in
    let three = number_rest 4 o offset _ c (two.1 ∙ sym g) in
    let rest = number_rest 4 l len _ d (three ∙ sym i) in
    let file : k ≡ fid = λ j. record { 0 = one.0 j } in
    let deltas : AreDeltas (Client fid version) x = subst (λ (p : Fid × ℕ). AreDeltas (Client p.0 p.1) x) (λ j. (file j, two.0 j)) (client_deltas k v x h.0.deltas h.0.shaped h.0.count) in
    none x r deltas rest
no_write call version offset len fid bytes a b c d fid_room version_room e f g i none (Name n what) r h same = omega (arith, h.1, name_kind what h.0.shaped)
no_write call version offset len fid bytes a b c d fid_room version_room e f g i none (Cut n k v l x) r h same = omega (arith, h.1)
no_write call version offset len fid bytes a b c d fid_room version_room e f g i none (Sync n) r h same = omega (arith, h.1)
no_write call version offset len fid bytes a b c d fid_room version_room e f g i none (Clean x) r h same = omega (arith, h.1)

pub write_found : (call version offset len : ℕ) (fid : Fid) (deltas : List Delta) (bytes a b c d rest : List ℕ) → IsBelow 8 call → IsBelow 4 fid.0 → IsBelow 8 version → IsBelow 4 offset → IsBelow 4 len
    → number_text 4 fid.0 ++ a ≡ bytes → number_text 8 version ++ b ≡ a → number_text 4 offset ++ c ≡ b → number_text 4 len ++ d ≡ c
    → AreDeltas (Client fid version) deltas × (deltas_text deltas ++ rest ≡ d) → IsOpOf 5 call (Write call fid version offset len deltas) × (rest_text (Write call fid version offset len deltas) ++ rest ≡ bytes)
write_found call version offset len fid deltas bytes a b c d rest cr fr vr or lr e f g i h =
    let parts = owned (Client fid version) deltas h.0.0 in (
      (record { shaped = updates fid version deltas parts.1; room = (cr, fr, vr, or, lr); count = h.0.1; deltas = parts.0 }, refl, refl),
      five (number_text 4 fid.0) (number_text 8 version) (number_text 4 offset) (number_text 4 len) (deltas_text deltas) rest
          ∙ ap (λ (t : List ℕ). number_text 4 fid.0 ++ (number_text 8 version ++ (number_text 4 offset ++ (number_text 4 len ++ t)))) h.1
          ∙ ap (λ (t : List ℕ). number_text 4 fid.0 ++ (number_text 8 version ++ (number_text 4 offset ++ t))) i
          ∙ ap (λ (t : List ℕ). number_text 4 fid.0 ++ (number_text 8 version ++ t)) g ∙ ap (λ (t : List ℕ). number_text 4 fid.0 ++ t) f ∙ e,
    )

-- Truncations.

pub cut_too_short : (call : ℕ) (bytes : List ℕ) → length bytes < 16 → ReadsFront (IsOpOf 6 call) rest_text bytes None
cut_too_short call bytes less (Cut c f v l x) r h same =
    omega (
      arith,
      ap length same,
      length-append (rest_text (Cut c f v l x)) r,
      length-behind 4 f.0 (number_text 8 v ++ (number_text 4 l ++ deltas_text x)),
      length-behind 8 v (number_text 4 l ++ deltas_text x),
      length-behind 4 l (deltas_text x),
      length-deltas_text x,
    )
cut_too_short call bytes less (Name c what) r h same = omega (arith, h.1, name_kind what h.0.shaped)
cut_too_short call bytes less (Write c f v o l x) r h same = omega (arith, h.1)
cut_too_short call bytes less (Sync c) r h same = omega (arith, h.1)
cut_too_short call bytes less (Clean x) r h same = omega (arith, h.1)

-- a truncation that stands there has deltas of its owner there
cut_there : (call version size : ℕ) (fid : Fid) (bytes a b d : List ℕ) → IsBelow 4 fid.0 → IsBelow 8 version
    → number_text 4 fid.0 ++ a ≡ bytes → number_text 8 version ++ b ≡ a → number_text 4 size ++ d ≡ b
    → (op : Op) (r : List ℕ) → IsOpOf 6 call op → rest_text op ++ r ≡ bytes → AreDeltas (Client fid version) (deltas_of op) × (deltas_text (deltas_of op) ++ r ≡ d) × (length (deltas_of op) ≤ 1)
cut_there call version size fid bytes a b d fid_room version_room e f g (Cut n k v l x) r h same =
    let parts = four (number_text 4 k.0) (number_text 8 v) (number_text 4 l) (deltas_text x) r in
    let one = number_once 4 k.0 fid.0 _ a h.0.room.1 fid_room (sym parts ∙ same ∙ sym e) in
    let two = number_once 8 v version _ b h.0.room.2 version_room (one.1 ∙ sym f) in
    let rest = number_rest 4 l size _ d (two.1 ∙ sym g) in
    let file : k ≡ fid = λ j. record { 0 = one.0 j } in
    (subst (λ (p : Fid × ℕ). AreDeltas (Client p.0 p.1) x) (λ j. (file j, two.0 j)) (client_deltas k v x h.0.deltas h.0.shaped.1 h.0.count), rest, h.0.shaped.0)
cut_there call version size fid bytes a b d fid_room version_room e f g (Name n what) r h same = absurd (omega (arith, h.1, name_kind what h.0.shaped))
cut_there call version size fid bytes a b d fid_room version_room e f g (Write n k v o l x) r h same = absurd (omega (arith, h.1))
cut_there call version size fid bytes a b d fid_room version_room e f g (Sync n) r h same = absurd (omega (arith, h.1))
cut_there call version size fid bytes a b d fid_room version_room e f g (Clean x) r h same = absurd (omega (arith, h.1))

pub no_cut : (call version size : ℕ) (fid : Fid) (bytes a b d : List ℕ) → IsBelow 4 fid.0 → IsBelow 8 version
    → number_text 4 fid.0 ++ a ≡ bytes → number_text 8 version ++ b ≡ a → number_text 4 size ++ d ≡ b
    → ReadsFront (AreDeltas (Client fid version)) deltas_text d None → ReadsFront (IsOpOf 6 call) rest_text bytes None
no_cut call version size fid bytes a b d fid_room version_room e f g none op r h same =
    let there = cut_there call version size fid bytes a b d fid_room version_room e f g op r h same in
    none (deltas_of op) r there.0 there.1

pub cut_with_many : (call version size : ℕ) (fid : Fid) (deltas : List Delta) (bytes a b d rest : List ℕ) → IsBelow 4 fid.0 → IsBelow 8 version
    → number_text 4 fid.0 ++ a ≡ bytes → number_text 8 version ++ b ≡ a → number_text 4 size ++ d ≡ b
    → AreDeltas (Client fid version) deltas × (deltas_text deltas ++ rest ≡ d) → 1 < length deltas → ReadsFront (IsOpOf 6 call) rest_text bytes None
cut_with_many call version size fid deltas bytes a b d rest fid_room version_room e f g h more op r is same =
    let there = cut_there call version size fid bytes a b d fid_room version_room e f g op r is same in
    let count = number_once 4 (length (deltas_of op)) (length deltas) _ _ there.0.1 h.0.1
    (sym (append_assoc (number_text 4 (length (deltas_of op))) (flat_map spelling_of_delta (deltas_of op)) r) ∙ there.1 ∙ sym h.1 ∙ append_assoc (number_text 4 (length deltas)) (flat_map spelling_of_delta deltas) rest) in
    omega (arith, count.0, there.2)

pub cut_found : (call version size : ℕ) (fid : Fid) (deltas : List Delta) (bytes a b d rest : List ℕ) → IsBelow 8 call → IsBelow 4 fid.0 → IsBelow 8 version → IsBelow 4 size
    → number_text 4 fid.0 ++ a ≡ bytes → number_text 8 version ++ b ≡ a → number_text 4 size ++ d ≡ b
    → AreDeltas (Client fid version) deltas × (deltas_text deltas ++ rest ≡ d) → length deltas ≤ 1 → IsOpOf 6 call (Cut call fid version size deltas) × (rest_text (Cut call fid version size deltas) ++ rest ≡ bytes)
cut_found call version size fid deltas bytes a b d rest cr fr vr sr e f g h few =
    let parts = owned (Client fid version) deltas h.0.0 in (
      (record { shaped = (few, updates fid version deltas parts.1); room = (cr, fr, vr, sr); count = h.0.1; deltas = parts.0 }, refl, refl),
      four (number_text 4 fid.0) (number_text 8 version) (number_text 4 size) (deltas_text deltas) rest
          ∙ ap (λ (t : List ℕ). number_text 4 fid.0 ++ (number_text 8 version ++ (number_text 4 size ++ t))) h.1
          ∙ ap (λ (t : List ℕ). number_text 4 fid.0 ++ (number_text 8 version ++ t)) g ∙ ap (λ (t : List ℕ). number_text 4 fid.0 ++ t) f ∙ e,
    )

-- Cleans.

pub no_clean : (bytes : List ℕ) → ReadsFront (AreDeltas Cleaner) deltas_text bytes None → ReadsFront (IsOpOf 8 0) rest_text bytes None
no_clean bytes none (Clean x) r h same = none x r (both Cleaner x h.0.deltas (owned_cleans x h.0.shaped), h.0.count) same
no_clean bytes none (Name c what) r h same = omega (arith, h.1, name_kind what h.0.shaped)
no_clean bytes none (Write c f v o l x) r h same = omega (arith, h.1)
no_clean bytes none (Cut c f v l x) r h same = omega (arith, h.1)
no_clean bytes none (Sync c) r h same = omega (arith, h.1)

pub clean_found : (deltas : List Delta) (bytes rest : List ℕ) → AreDeltas Cleaner deltas × (deltas_text deltas ++ rest ≡ bytes) → IsOpOf 8 0 (Clean deltas) × (rest_text (Clean deltas) ++ rest ≡ bytes)
clean_found deltas bytes rest h =
    let parts = owned Cleaner deltas h.0.0 in
    ((record { shaped = cleans deltas parts.1; room = tt; count = h.0.1; deltas = parts.0 }, refl, refl), h.1)

-- Any operation.

heads : {x y : ℕ} {r s : List ℕ} → x ∷ r ≡ y ∷ s → (x ≡ y) × (r ≡ s)
heads e = (cc, cc)

op_long : (op : Op) → 9 ≤ op_length op
op_long (Name call what) = omega arith
op_long (Write call fid version offset len deltas) = omega arith
op_long (Cut call fid version size deltas) = omega arith
op_long (Sync call) = omega arith
op_long (Clean deltas) = omega arith

pub op_too_short : (bytes : List ℕ) → length bytes < 9 → ReadsFront IsOp op_text bytes None
op_too_short bytes less op r h same = omega (arith, ap length same, length-append (op_text op) r, length-op_text op, op_long op)

pub op_found : (kind call : ℕ) (bytes a rest : List ℕ) → IsBelow 8 call → kind ∷ a ≡ bytes → number_text 8 call ++ rest ≡ a → (found : Option (Op × List ℕ)) → ReadsFront (IsOpOf kind call) rest_text rest found → ReadsFront IsOp op_text bytes found
unfolding op_text
op_found kind call bytes a rest room e f (Some found) h =
    (h.0.0, (λ i. h.0.1 i ∷ ((number_text 8 (h.0.2 i) ++ rest_text found.0) ++ found.1)) ∙ ap (λ (t : List ℕ). kind ∷ t) (append_assoc (number_text 8 call) (rest_text found.0) found.1 ∙ ap (λ (t : List ℕ). number_text 8 call ++ t) h.1 ∙ f) ∙ e)
op_found kind call bytes a rest room e f None none =
    λ op r h same.
    let first = heads (same ∙ sym e) in
    let second = number_once 8 (call_of op) call _ rest (call_room op h) room (sym (append_assoc (number_text 8 (call_of op)) (rest_text op) r) ∙ first.1 ∙ sym f) in
    none op r (h, first.0, second.0) second.1

take_all : (bytes : List ℕ) → take (length bytes) bytes ≡ bytes
take_all [] = refl
take_all (b ∷ bytes) = ap (λ (t : List ℕ). b ∷ t) (take_all bytes)

-- the first byte, and what stands behind it
pub first_and_rest : (bytes : List ℕ) → 1 ≤ length bytes → get_or bytes 0 0 ∷ take (length bytes - 1) (drop 1 bytes) ≡ bytes
first_and_rest [] h = absurd (omega arith)
first_and_rest (b ∷ bytes) h =
    let n : length (b ∷ bytes) - 1 ≡ length bytes = omega arith in
    ap (λ k. b ∷ take k bytes) n ∙ ap (λ (t : List ℕ). b ∷ t) (take_all bytes)
