-- How many bytes an entry takes, and that they determine it.
use Rattle.std.proofs.Common.{◌≡◌, ℕ, suc, ◌+◌, ◌*◌, ◌<◌, ◌^◌, List, [], ◌∷◌, ◌++◌, length, slice_index, refl, sym, ◌∙◌, ap, arith, append_assoc, length-append}
use Rattle.std.proofs.lemmas.List.{append_cancel_left, get_or_append_left, get_or-append_right}
use Rattle.std.specs.List.{flat_map}
use Rattle.zb_types.specs.declared.ids.Piece.{Piece}
use Rattle.zb_types.specs.declared.nodes.State.{State}
use Rattle.zb_types.specs.declared.nodes.State.TheVariants.{Whole, Out, Mending}
use Rattle.zb_entries.specs.declared.entry.Entry.{Entry}
use Rattle.zb_entries.specs.declared.entry.Entry.TheVariants.{Attach, Commit, Mark, Retire}
use Rattle.zb_numbers.specs.Numbers.{number_text}
use Rattle.zb_numbers.specs.Fronts.{IsPrefixFree}
use Rattle.zb_numbers.proofs.Digits.{number_once, length-number_text}
use Rattle.zb_cell.specs.Cell.{window}
use Rattle.zb_cell.proofs.Values.{window_is}
use Rattle.zb_journal.specs.declared.fields.Fields.{Fields}
use Rattle.zb_journal.specs.Spelling.{IsPiece, IsFields, pieces_of, size_of, state_number, server_in, fields_of, fields_text, piece_text, body_text, entry_text}

pub length-fields : (f : Fields) (n : ℕ) → length (fields_text f n) ≡ 31
length-fields f n = simp (length-append, length-number_text)

pub length-piece : (p : Piece) → length (piece_text p) ≡ 16
length-piece p = simp (length-append, length-number_text)

pub length-pieces : (ps : List Piece) → length (flat_map piece_text ps) ≡ 16 * length ps
length-pieces [] = refl
length-pieces (p ∷ ps) = let a = length-append (piece_text p) (flat_map piece_text ps) in let b = length-pieces ps in omega (arith, a, b, length-piece p)

pub length-body : (n : ℕ) (e : Entry) → length (body_text n e) + 1 ≡ size_of e
length-body n e =
    let a = length-append (fields_text (fields_of e) n) (flat_map piece_text (pieces_of e)) in
    omega (arith, a, length-fields (fields_of e) n, length-pieces (pieces_of e))

pub length-entry : (n : ℕ) (e : Entry) → length (entry_text n e) ≡ size_of e
length-entry n e = omega (arith, length-body n e)

-- an entry has as many pieces as it says
pub counted : (e : Entry) → (fields_of e).count ≡ length (pieces_of e)
counted (Attach owner log) = refl
counted (Commit log batch generation pieces) = refl
counted (Mark members) = refl
counted (Retire log stripe) = refl

-- the bytes behind the first n
skip : (a b : List ℕ) (n i : ℕ) → length a ≡ n → slice_index (a ++ b) (n + i) ≡ slice_index b i
skip a b n i long = get_or-append_right a b n (n + i) 0 long (omega arith) ∙ ap (slice_index b) (omega arith)

-- the entry's own number stands behind the first 23 bytes
pub number_in : (f : Fields) (n : ℕ) (more : List ℕ) (i : ℕ) → i < 8 → slice_index (fields_text f n ++ more) (23 + i) ≡ slice_index (number_text 8 n) i
number_in f n more i lt =
    let last : List ℕ = number_text 8 f.generation ++ number_text 8 n in
    let third : List ℕ = number_text 8 f.what ++ last in
    let second : List ℕ = number_text 4 f.who ++ third in
    let long = length-fields f n in
    let steps : 23 + i ≡ suc (22 + i) = omega arith in
    ap (slice_index (fields_text f n ++ more)) steps
    ∙ get_or_append_left (number_text 2 f.count ++ second) more 0 (22 + i) (omega (arith, long, lt))
    ∙ ap (slice_index (number_text 2 f.count ++ second)) (let h : 22 + i ≡ 2 + (20 + i) = omega arith in h) ∙ skip (number_text 2 f.count) second 2 (20 + i) (length-number_text 2 f.count)
    ∙ ap (slice_index second) (let h : 20 + i ≡ 4 + (16 + i) = omega arith in h) ∙ skip (number_text 4 f.who) third 4 (16 + i) (length-number_text 4 f.who)
    ∙ ap (slice_index third) (let h : 16 + i ≡ 8 + (8 + i) = omega arith in h) ∙ skip (number_text 8 f.what) last 8 (8 + i) (length-number_text 8 f.what)
    ∙ skip (number_text 8 f.generation) (number_text 8 n) 8 i (length-number_text 8 f.generation)

pub same_number : (m n : ℕ) → m < 2 ^ 64 → n < 2 ^ 64 → ((i : ℕ) → i < 8 → slice_index (number_text 8 m) i ≡ slice_index (number_text 8 n) i) → m ≡ n
same_number m n p q same =
    let one : window (slice_index (number_text 8 m)) 0 8 ≡ number_text 8 m = window_is (slice_index (number_text 8 m)) (number_text 8 m) 0 8 (sym (length-number_text 8 m)) (λ i lt. ap (slice_index (number_text 8 m)) (omega arith)) in
    let two : window (slice_index (number_text 8 m)) 0 8 ≡ number_text 8 n = window_is (slice_index (number_text 8 m)) (number_text 8 n) 0 8 (sym (length-number_text 8 n)) (λ i lt. ap (slice_index (number_text 8 m)) (omega arith) ∙ same i lt) in
    (number_once 8 m n [] [] (omega (arith, p)) (omega (arith, q)) (ap (λ (l : List ℕ). l ++ []) (sym one ∙ two))).0

pub piece_once : IsPrefixFree IsPiece piece_text
piece_once p q r s h g e =
    let stripe = number_once 8 p.stripe q.stripe _ _ h.stripe g.stripe (simp append_assoc at e) in
    let offset = number_once 4 p.offset q.offset _ _ h.offset g.offset stripe.1 in
    let len = number_once 4 p.len q.len _ _ h.len g.len offset.1 in
    (λ i. record { stripe = stripe.0 i; offset = offset.0 i; len = len.0 i }, len.1)

regroup : (a b c d e r : List ℕ) → (a ++ (b ++ (c ++ (d ++ e)))) ++ r ≡ a ++ (b ++ (c ++ (d ++ (e ++ r))))
regroup a b c d e r = simp append_assoc

heads : {x y : ℕ} {r s : List ℕ} → x ∷ r ≡ y ∷ s → (x ≡ y) × (r ≡ s)
heads e = (cc, cc)

-- numbers that stand before the same number and the same bytes
pub fields_once : (f g : Fields) (n : ℕ) (r s : List ℕ) → IsFields f → IsFields g → fields_text f n ++ r ≡ fields_text g n ++ s → (f ≡ g) × (r ≡ s)
fields_once f g n r s h k e =
    let kind = heads e in
    let count = number_once 2 f.count g.count _ _ h.count k.count (sym (regroup (number_text 2 f.count) (number_text 4 f.who) (number_text 8 f.what) (number_text 8 f.generation) (number_text 8 n) r) ∙ kind.1 ∙ regroup (number_text 2 g.count) (number_text 4 g.who) (number_text 8 g.what) (number_text 8 g.generation) (number_text 8 n) s) in
    let who = number_once 4 f.who g.who _ _ h.who k.who count.1 in
    let what = number_once 8 f.what g.what _ _ h.what k.what who.1 in
    let generation = number_once 8 f.generation g.generation _ _ h.generation k.generation what.1 in
    (λ i. record { kind = kind.0 i; count = count.0 i; who = who.0 i; what = what.0 i; generation = generation.0 i }, cut_off generation.1)
  where
    cut_off : number_text 8 n ++ r ≡ number_text 8 n ++ s → r ≡ s
    cut_off same = append_cancel_left (number_text 8 n) r s same

state_once : (a b : State) → state_number a ≡ state_number b → server_in a ≡ server_in b → a ≡ b
state_once Whole Whole n s = refl
state_once Whole (Out y) n s = absurd cc
state_once Whole (Mending y) n s = absurd cc
state_once (Out x) Whole n s = absurd cc
state_once (Out x) (Out y) n s = λ i. Out (record { 0 = s i })
state_once (Out x) (Mending y) n s = absurd cc
state_once (Mending x) Whole n s = absurd cc
state_once (Mending x) (Out y) n s = absurd cc
state_once (Mending x) (Mending y) n s = λ i. Mending (record { 0 = s i })

-- its numbers and its pieces determine an entry
pub entry_once : (a b : Entry) → fields_of a ≡ fields_of b → pieces_of a ≡ pieces_of b → a ≡ b
entry_once (Attach o l) (Attach p m) f s = λ i. Attach (f i).what (record { 0 = (f i).who })
entry_once (Commit l b g ps) (Commit m c h qs) f s = λ i. Commit (record { 0 = (f i).who }) (f i).what (f i).generation (s i)
entry_once (Mark x) (Mark y) f s =
    let state = state_once x.state y.state (ap (λ (k : Fields). k.what) f) (ap (λ (k : Fields). k.who) f) in
    λ i. Mark (record { state = state i; generation = (f i).generation })
entry_once (Retire l x) (Retire m y) f s = λ i. Retire (record { 0 = (f i).who }) (f i).what
entry_once (Attach o l) (Commit m c h qs) f s = absurd (let k = ap (λ (x : Fields). x.kind) f in cc)
entry_once (Attach o l) (Mark y) f s = absurd (let k = ap (λ (x : Fields). x.kind) f in cc)
entry_once (Attach o l) (Retire m y) f s = absurd (let k = ap (λ (x : Fields). x.kind) f in cc)
entry_once (Commit l b g ps) (Attach p m) f s = absurd (let k = ap (λ (x : Fields). x.kind) f in cc)
entry_once (Commit l b g ps) (Mark y) f s = absurd (let k = ap (λ (x : Fields). x.kind) f in cc)
entry_once (Commit l b g ps) (Retire m y) f s = absurd (let k = ap (λ (x : Fields). x.kind) f in cc)
entry_once (Mark x) (Attach p m) f s = absurd (let k = ap (λ (z : Fields). z.kind) f in cc)
entry_once (Mark x) (Commit m c h qs) f s = absurd (let k = ap (λ (z : Fields). z.kind) f in cc)
entry_once (Mark x) (Retire m y) f s = absurd (let k = ap (λ (z : Fields). z.kind) f in cc)
entry_once (Retire l x) (Attach p m) f s = absurd (let k = ap (λ (z : Fields). z.kind) f in cc)
entry_once (Retire l x) (Commit m c h qs) f s = absurd (let k = ap (λ (z : Fields). z.kind) f in cc)
entry_once (Retire l x) (Mark y) f s = absurd (let k = ap (λ (z : Fields). z.kind) f in cc)
