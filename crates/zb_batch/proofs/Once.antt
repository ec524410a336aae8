-- The bytes of a batch, and of each of its parts, determine it.
use Rattle.std.proofs.Common.{◌≡◌, ℕ, ◌≤◌, Bool, true, false, List, [], ◌∷◌, ◌++◌, length, refl, sym, ap, ◌∙◌, append_assoc, arith}
use Rattle.std.specs.Prelude.{IsTrue, codes, ◌&&◌, ◌==◌, nat_le, take, drop}
use Rattle.std.specs.List.{flat_map, AllByRecursion}
use Rattle.std.proofs.lemmas.Bool.{leb-true}
use Rattle.std.proofs.lemmas.List.{take_at, drop_at, append_cancel_left}
use Rattle.zb_types.specs.declared.ids.Fid.{Fid}
use Rattle.zb_types.specs.Paths.{are_names}
use Rattle.zb_types.specs.declared.calls.Call.{Call}
use Rattle.zb_types.specs.declared.calls.Call.TheVariants.{Create, Mkdir, Remove, Rename}
use Rattle.zb_numbers.specs.Fronts.{IsPrefixFree}
use Rattle.zb_numbers.specs.Numbers.{number_text, IsBelow, zeros}
use Rattle.zb_numbers.proofs.Digits.{number_once}
use Rattle.zb_numbers.proofs.Many.{many_once}
use Rattle.zb_delta.specs.declared.delta.Delta.{Delta}
use Rattle.zb_delta.specs.declared.delta.Delta.TheVariants.{Update, Clean as CleanDelta, Reject}
use Rattle.zb_delta.specs.Spelling.{IsDelta, IsRead, spelling_of_delta}
use Rattle.zb_delta.proofs.Once.{delta_once}
use Rattle.zb_batch.specs.declared.batch.Op.{Op}
use Rattle.zb_batch.specs.declared.batch.Op.TheVariants.{Name, Write, Cut, Sync, Clean}
use Rattle.zb_batch.specs.declared.owners.Owner.{Owner}
use Rattle.zb_batch.specs.declared.owners.Owner.TheVariants.{Client, Cleaner}
use Rattle.zb_batch.specs.Spelling.{path_text, paths_text, deltas_text, deltas_of, kind_of_name, kind_of, call_of, rest_text, op_text}
use Rattle.zb_batch.specs.Batches.{IsUpdateOf, IsCleanDelta, IsNameCall, IsOp}
use Rattle.zb_batch.specs.Reading.{IsPath, IsDeltaOf, IsHeader, numbers_text, header_text}

last_of : (a b c : Bool) → IsTrue (a && b && c) → IsTrue c
last_of true true c h = h
last_of true false c h = absurd cc
last_of false b c h = absurd cc

-- a path has room behind its length
pub path_short : (path : List ℕ) → IsPath path → IsBelow 2 (length path)
path_short [] h = omega arith
path_short (b ∷ rest) h = omega (arith, leb-true (length rest) 1023 (last_of (b == 47) (are_names [] rest) (nat_le (length rest) 1023) h))

-- lists of one length are the same where the same bytes stand first
split_same : (p q r s : List ℕ) → length p ≡ length q → p ++ r ≡ q ++ s → (p ≡ q) × (r ≡ s)
split_same p q r s n e =
    (sym (take_at p r (length p) refl) ∙ ap (take (length p)) e ∙ take_at q s (length p) (sym n), sym (drop_at p r (length p) refl) ∙ ap (drop (length p)) e ∙ drop_at q s (length p) (sym n))

pub path_once : IsPrefixFree IsPath path_text
path_once p q r s h g e =
    let size = number_once 2 (length p) (length q) (p ++ r) (q ++ s) (path_short p h) (path_short q g) (sym (append_assoc (number_text 2 (length p)) p r) ∙ e ∙ append_assoc (number_text 2 (length q)) q s) in
    split_same p q r s size.0 size.1

-- the kind of a name operation is from 1 to 4
pub name_kind : (what : Call) → IsNameCall what → (1 ≤ kind_of_name what) × (kind_of_name what ≤ 4)
name_kind (Create path) h = (omega arith, omega arith)
name_kind (Mkdir path) h = (omega arith, omega arith)
name_kind (Remove path) h = (omega arith, omega arith)
name_kind (Rename from to) h = (omega arith, omega arith)
name_kind what h = absurd h

paths_once : (a b : Call) (r s : List ℕ) → IsNameCall a → IsNameCall b → kind_of_name a ≡ kind_of_name b → paths_text a ++ r ≡ paths_text b ++ s → (a ≡ b) × (r ≡ s)
paths_once (Create p) (Create q) r s h g k e = let same = path_once p q r s h g e in (ap Create same.0, same.1)
paths_once (Mkdir p) (Mkdir q) r s h g k e = let same = path_once p q r s h g e in (ap Mkdir same.0, same.1)
paths_once (Remove p) (Remove q) r s h g k e = let same = path_once p q r s h g e in (ap Remove same.0, same.1)
paths_once (Rename p v) (Rename q w) r s h g k e =
    let from = path_once p q (path_text v ++ r) (path_text w ++ s) h.0 g.0 (sym (append_assoc (path_text p) (path_text v) r) ∙ e ∙ append_assoc (path_text q) (path_text w) s) in
    let to = path_once v w r s h.1 g.1 from.1 in
    (λ i. Rename (from.0 i) (to.0 i), to.1)
paths_once (Create p) b r s h g k e = absurd (omega arith)
paths_once (Mkdir p) b r s h g k e = absurd (omega arith)
paths_once (Remove p) b r s h g k e = absurd (omega arith)
paths_once (Rename p v) b r s h g k e = absurd (omega arith)
paths_once a b r s h g k e = absurd h

-- a delta of an owner may be read
pub read_of : (owner : Owner) (delta : Delta) → IsDeltaOf owner delta → IsRead delta
read_of (Client fid version) (Update body) h = (h.0, refl)
read_of (Client fid version) (CleanDelta body) h = (h.0, refl)
read_of (Client fid version) (Reject body table) h = absurd h.1
read_of Cleaner (Update body) h = (h.0, refl)
read_of Cleaner (CleanDelta body) h = (h.0, refl)
read_of Cleaner (Reject body table) h = absurd h.1

pub owned_once : (owner : Owner) → IsPrefixFree (IsDeltaOf owner) spelling_of_delta
owned_once owner a b r s h g e = delta_once a b r s (read_of owner a h) (read_of owner b g) e

updates_read : (fid : Fid) (version : ℕ) (deltas : List Delta) → AllByRecursion (IsUpdateOf fid version) deltas → AllByRecursion IsDelta deltas → AllByRecursion IsRead deltas
updates_read fid version [] h g = tt
updates_read fid version (d ∷ ds) h g = (read_of (Client fid version) d (g.0, h.0), updates_read fid version ds h.1 g.1)

cleans_read : (deltas : List Delta) → AllByRecursion IsCleanDelta deltas → AllByRecursion IsDelta deltas → AllByRecursion IsRead deltas
cleans_read [] h g = tt
cleans_read (d ∷ ds) h g = (read_of Cleaner d (g.0, h.0), cleans_read ds h.1 g.1)

-- the deltas of an operation may be read
deltas_read : (op : Op) → IsOp op → AllByRecursion IsRead (deltas_of op)
deltas_read (Name call what) h = tt
deltas_read (Write call fid version offset len deltas) h = updates_read fid version deltas h.shaped h.deltas
deltas_read (Cut call fid version size deltas) h = updates_read fid version deltas h.shaped.1 h.deltas
deltas_read (Sync call) h = tt
deltas_read (Clean deltas) h = cleans_read deltas h.shaped h.deltas

deltas_once : (a b : List Delta) (r s : List ℕ) → AllByRecursion IsRead a → AllByRecursion IsRead b → IsBelow 4 (length a) → IsBelow 4 (length b)
    → deltas_text a ++ r ≡ deltas_text b ++ s → (a ≡ b) × (r ≡ s)
deltas_once a b r s h g m n e =
    let count = number_once 4 (length a) (length b) (flat_map spelling_of_delta a ++ r) (flat_map spelling_of_delta b ++ s) m n
    (sym (append_assoc (number_text 4 (length a)) (flat_map spelling_of_delta a) r) ∙ e ∙ append_assoc (number_text 4 (length b)) (flat_map spelling_of_delta b) s) in
    many_once IsRead spelling_of_delta delta_once a b r s h g count.0 count.1

pub four : (a b c d r : List ℕ) → (a ++ (b ++ (c ++ d))) ++ r ≡ a ++ (b ++ (c ++ (d ++ r)))
four a b c d r = simp append_assoc

pub five : (a b c d e r : List ℕ) → (a ++ (b ++ (c ++ (d ++ e)))) ++ r ≡ a ++ (b ++ (c ++ (d ++ (e ++ r))))
five a b c d e r = simp append_assoc

pub seven : (a b c d e f g r : List ℕ) → (a ++ (b ++ (c ++ (d ++ (e ++ (f ++ g)))))) ++ r ≡ a ++ (b ++ (c ++ (d ++ (e ++ (f ++ (g ++ r))))))
seven a b c d e f g r = simp append_assoc

-- operations of one kind and call
rest_once : (a b : Op) (r s : List ℕ) → IsOp a → IsOp b → kind_of a ≡ kind_of b → call_of a ≡ call_of b → rest_text a ++ r ≡ rest_text b ++ s → (a ≡ b) × (r ≡ s)
rest_once (Name c v) (Name d w) r s h g k n e =
    let same = paths_once v w r s h.shaped g.shaped k e in
    (λ i. Name (n i) (same.0 i), same.1)
rest_once (Write c f v o l x) (Write d f' v' o' l' y) r s h g k n e =
    let fid = number_once 4 f.0 f'.0 _ _ h.room.1 g.room.1
    (sym (five (number_text 4 f.0) (number_text 8 v) (number_text 4 o) (number_text 4 l) (deltas_text x) r) ∙ e ∙ five (number_text 4 f'.0) (number_text 8 v') (number_text 4 o') (number_text 4 l') (deltas_text y) s) in
    let version = number_once 8 v v' _ _ h.room.2 g.room.2 fid.1 in
    let offset = number_once 4 o o' _ _ h.room.3 g.room.3 version.1 in
    let len = number_once 4 l l' _ _ h.room.4 g.room.4 offset.1 in
    let deltas = deltas_once x y r s (deltas_read (Write c f v o l x) h) (deltas_read (Write d f' v' o' l' y) g) h.count g.count len.1 in
    (λ i. Write (n i) (record { 0 = fid.0 i }) (version.0 i) (offset.0 i) (len.0 i) (deltas.0 i), deltas.1)
rest_once (Cut c f v l x) (Cut d f' v' l' y) r s h g k n e =
    let fid = number_once 4 f.0 f'.0 _ _ h.room.1 g.room.1
    (sym (four (number_text 4 f.0) (number_text 8 v) (number_text 4 l) (deltas_text x) r) ∙ e ∙ four (number_text 4 f'.0) (number_text 8 v') (number_text 4 l') (deltas_text y) s) in
    let version = number_once 8 v v' _ _ h.room.2 g.room.2 fid.1 in
    let len = number_once 4 l l' _ _ h.room.3 g.room.3 version.1 in
    let deltas = deltas_once x y r s (deltas_read (Cut c f v l x) h) (deltas_read (Cut d f' v' l' y) g) h.count g.count len.1 in
    (λ i. Cut (n i) (record { 0 = fid.0 i }) (version.0 i) (len.0 i) (deltas.0 i), deltas.1)
rest_once (Sync c) (Sync d) r s h g k n e = (ap Sync n, e)
rest_once (Clean x) (Clean y) r s h g k n e =
    let deltas = deltas_once x y r s (deltas_read (Clean x) h) (deltas_read (Clean y) g) h.count g.count e in
    (ap Clean deltas.0, deltas.1)
rest_once (Name c v) b r s h g k n e = absurd (omega (arith, name_kind v h.shaped, k))
rest_once (Write c f v o l x) (Name d w) r s h g k n e = absurd (omega (arith, name_kind w g.shaped, k))
rest_once (Cut c f v l x) (Name d w) r s h g k n e = absurd (omega (arith, name_kind w g.shaped, k))
rest_once (Sync c) (Name d w) r s h g k n e = absurd (omega (arith, name_kind w g.shaped, k))
rest_once (Clean x) (Name d w) r s h g k n e = absurd (omega (arith, name_kind w g.shaped, k))
rest_once (Write c f v o l x) b r s h g k n e = absurd (omega arith)
rest_once (Cut c f v l x) b r s h g k n e = absurd (omega arith)
rest_once (Sync c) b r s h g k n e = absurd (omega arith)
rest_once (Clean x) b r s h g k n e = absurd (omega arith)

-- the number of an operation's call has room
pub call_room : (op : Op) → IsOp op → IsBelow 8 (call_of op)
call_room (Name call what) h = h.room
call_room (Write call fid version offset len deltas) h = h.room.0
call_room (Cut call fid version size deltas) h = h.room.0
call_room (Sync call) h = h.room
call_room (Clean deltas) h = omega arith

heads : {x y : ℕ} {r s : List ℕ} → x ∷ r ≡ y ∷ s → (x ≡ y) × (r ≡ s)
heads e = (cc, cc)

pub op_once : IsPrefixFree IsOp op_text
unfolding op_text
op_once a b r s h g e =
    let kind = heads e in
    let call = number_once 8 (call_of a) (call_of b) (rest_text a ++ r) (rest_text b ++ s) (call_room a h) (call_room b g)
    (sym (append_assoc (number_text 8 (call_of a)) (rest_text a) r) ∙ kind.1 ∙ append_assoc (number_text 8 (call_of b)) (rest_text b) s) in
    rest_once a b r s h g kind.0 call.0 call.1

numbers_once : IsPrefixFree IsHeader numbers_text
numbers_once a b r s h g e =
    let log = number_once 4 a.log.0 b.log.0 _ _ h.log g.log
    (sym (seven (number_text 4 a.log.0) (number_text 8 a.number) (number_text 4 a.size) (number_text 2 a.ops) (zeros 2) (number_text 4 a.deltas) (zeros 4) r) ∙ e
    ∙ seven (number_text 4 b.log.0) (number_text 8 b.number) (number_text 4 b.size) (number_text 2 b.ops) (zeros 2) (number_text 4 b.deltas) (zeros 4) s) in
    let number = number_once 8 a.number b.number _ _ h.number g.number log.1 in
    let size = number_once 4 a.size b.size _ _ h.size g.size number.1 in
    let ops = number_once 2 a.ops b.ops _ _ h.ops g.ops size.1 in
    let deltas = number_once 4 a.deltas b.deltas _ _ h.deltas g.deltas (append_cancel_left (zeros 2) _ _ ops.1) in
    (λ i. record { log = record { 0 = log.0 i }; number = number.0 i; size = size.0 i; ops = ops.0 i; deltas = deltas.0 i }, append_cancel_left (zeros 4) r s deltas.1)

pub header_once : IsPrefixFree IsHeader header_text
header_once a b r s h g e = numbers_once a b r s h g (append_cancel_left (codes "ZBBT") _ _ e)
