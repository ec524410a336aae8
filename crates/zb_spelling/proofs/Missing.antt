-- Where bytes begin with no part of the tables, and what is found where they do.
use Rattle.std.proofs.Common.{◌≡◌, ℕ, ◌<◌, ◌≤◌, Bool, true, false, List, ◌∷◌, ◌++◌, length, take, Option, Some, None, refl, sym, ap, ◌∙◌, append_assoc, arith, length-append}
use Rattle.std.specs.Prelude.{IsTrue}
use Rattle.std.specs.List.{flat_map, AllByRecursion}
use Rattle.std.proofs.lemmas.List.{length-replicate}
use Rattle.zb_types.specs.declared.ids.Ptr.{Ptr}
use Rattle.zb_types.specs.declared.calls.Reply.TheVariants.{Done, Made, Refused}
use Rattle.zb_types.specs.declared.nodes.State.{State}
use Rattle.zb_types.specs.declared.nodes.State.TheVariants.{Whole, Out, Mending}
use Rattle.zb_types.specs.declared.tables.HeldUse.{HeldUse}
use Rattle.zb_types.specs.Names.{Entry, directory, numbered}
use Rattle.zb_numbers.specs.Fronts.{IsPrefixFree, ReadsFront}
use Rattle.zb_numbers.specs.Numbers.{number_text, IsBelow, zeros}
use Rattle.zb_numbers.proofs.Digits.{number_once, number_rest, length-number_text}
use Rattle.zb_numbers.proofs.Many.{none_more}
use Rattle.zb_delta.specs.Spelling.{ptr_text}
use Rattle.zb_delta.proofs.Lengths.{length-ptr_text}
use Rattle.zb_batch.specs.Reading.{IsPath}
use Rattle.zb_batch.specs.Spelling.{path_text}
use Rattle.zb_batch.proofs.Once.{path_once, four}
use Rattle.zb_tables.specs.Tables.{LogState}
use Rattle.zb_tables.specs.Fold.{following}
use Rattle.zb_tables.specs.Checkpoint.{IsUpdateReply}
use Rattle.zb_spelling.specs.declared.head.Head.{Head}
use Rattle.zb_spelling.specs.Spelling.{list_text, number_of_entry, entry_text, name_text, block_text, file_text, reply_text, flag_of, owner_text, log_text, held_text, state_text}
use Rattle.zb_spelling.specs.Reading.{IsAny, AreItems, AreSome, IsEntry, IsName, IsBlock, IsFileRow, IsReplyOf, IsRefusalOf, IsLogRow, IsHeldRow, IsHead, text_of_head}
use Rattle.zb_spelling.proofs.Once.{heads, owner_once, log_parts, head_parts, state_once}

-- Lists.

pub list_too_short : {A : Type 0} (Is : A → Type 0) (text : A → List ℕ) (bytes : List ℕ) → length bytes < 4 → ReadsFront (AreItems Is) (list_text text) bytes None
list_too_short Is text bytes less xs r h same =
    omega (arith, length-number_text 4 (length xs), length-append (number_text 4 (length xs)) (flat_map text xs), length-append (list_text text xs) r, ap length same)

pub no_more_items : {A : Type 0} (Is : A → Type 0) (text : A → List ℕ) → IsPrefixFree Is text → (count : ℕ) (found : List A) (rest bytes : List ℕ) → AllByRecursion Is found → length found < count
    → flat_map text found ++ rest ≡ bytes → ReadsFront Is text rest None → ReadsFront (AreSome Is count) (flat_map text) bytes None
no_more_items Is text free count found rest bytes each less whole none xs r h same =
    none_more Is text free found xs rest r each h.0 (omega (arith, less, h.1)) (same ∙ sym whole) none

pub list_found : {A : Type 0} (Is : A → Type 0) (text : A → List ℕ) (count : ℕ) (bytes rest : List ℕ) → IsBelow 4 count → number_text 4 count ++ rest ≡ bytes → (found : Option (List A × List ℕ))
    → ReadsFront (AreSome Is count) (flat_map text) rest found → ReadsFront (AreItems Is) (list_text text) bytes found
list_found Is text count bytes rest room e (Some found) h =
    let size = h.0.1 in
    ((h.0.0, rw size room), append_assoc (number_text 4 (length found.0)) (flat_map text found.0) found.1 ∙ ap (λ (t : List ℕ). number_text 4 (length found.0) ++ t) h.1 ∙ ap (λ n. number_text 4 n ++ rest) size ∙ e)
list_found Is text count bytes rest room e None none =
    λ xs r h same.
    let there = number_once 4 (length xs) count (flat_map text xs ++ r) rest h.1 room (sym (append_assoc (number_text 4 (length xs)) (flat_map text xs) r) ∙ same ∙ sym e) in
    none xs r (h.0, there.0) there.1

-- A kind and a number.

module _ {A : Type 0} (Is : A → Type 0) (kind_of number_of : A → ℕ) (room : (a : A) → Is a → IsBelow 4 (number_of a)) where
  abbrev Text : A → List ℕ
  Text a = kind_of a ∷ number_text 4 (number_of a)

  pub tagged_too_short : (bytes : List ℕ) → length bytes < 5 → ReadsFront Is Text bytes None
  tagged_too_short bytes less a r h same = omega (arith, length-number_text 4 (number_of a), length-append (Text a) r, ap length same)

  pub no_tagged : (kind number : ℕ) (bytes rest : List ℕ) → IsBelow 4 number → kind ∷ (number_text 4 number ++ rest) ≡ bytes → ((a : A) → Is a → kind_of a ≡ kind → number_of a ≡ number → ⊥)
      → ReadsFront Is Text bytes None
  no_tagged kind number bytes rest small e none a r h same =
      let both = heads (same ∙ sym e) in
      none a h both.0 (number_once 4 (number_of a) number r rest (room a h) small both.1).0

  pub tagged_found : (kind number : ℕ) (bytes rest : List ℕ) (a : A) → kind ∷ (number_text 4 number ++ rest) ≡ bytes → kind_of a ≡ kind → number_of a ≡ number → Text a ++ rest ≡ bytes
  tagged_found kind number bytes rest a e k n = ap (λ (m : ℕ). m ∷ (number_text 4 (number_of a) ++ rest)) k ∙ ap (λ (m : ℕ). kind ∷ (number_text 4 m ++ rest)) n ∙ e

pub entry_small : (entry : Entry) (number : ℕ) → IsBelow 4 number → number_of_entry entry ≡ number → IsEntry entry
entry_small directory number small e = tt
entry_small (numbered n) number small e = omega (arith, small, e)

-- no name, where no path stands, or nothing behind it
pub no_path_no_name : (bytes : List ℕ) → ReadsFront IsPath path_text bytes None → ReadsFront IsName name_text bytes None
no_path_no_name bytes none e r h same = none e.0 (entry_text e.1 ++ r) h.0 (sym (append_assoc (path_text e.0) (entry_text e.1) r) ∙ same)

pub no_entry_no_name : (path bytes rest : List ℕ) → IsPath path × (path_text path ++ rest ≡ bytes) → ReadsFront IsEntry entry_text rest None → ReadsFront IsName name_text bytes None
no_entry_no_name path bytes rest found none e r h same =
    let first = path_once e.0 path (entry_text e.1 ++ r) rest h.0 found.0 (sym (append_assoc (path_text e.0) (entry_text e.1) r) ∙ same ∙ sym found.1) in
    none e.1 r h.1 first.1

pub name_found : (path bytes rest behind : List ℕ) (entry : Entry) → IsPath path × (path_text path ++ rest ≡ bytes) → IsEntry entry × (entry_text entry ++ behind ≡ rest)
    → IsName (path, entry) × (name_text (path, entry) ++ behind ≡ bytes)
name_found path bytes rest behind entry p f = ((p.0, f.0), append_assoc (path_text path) (entry_text entry) behind ∙ ap (λ (t : List ℕ). path_text path ++ t) f.1 ∙ p.1)

-- Blocks and files.

pub block_too_short : (bytes : List ℕ) → length bytes < 24 → ReadsFront IsBlock block_text bytes None
block_too_short bytes less e r h same =
    omega (arith, length-number_text 4 e.0, length-ptr_text e.1, length-append (number_text 4 e.0) (ptr_text e.1), length-append (block_text e) r, ap length same)

length-file_head : (a b c d : List ℕ) → length a ≡ 4 → length b ≡ 8 → length c ≡ 4 → 16 ≤ length (a ++ (b ++ (c ++ d)))
length-file_head a b c d p q s = omega (arith, p, q, s, length-append a (b ++ (c ++ d)), length-append b (c ++ d), length-append c d)

pub file_too_short : (bytes : List ℕ) → length bytes < 16 → ReadsFront IsFileRow file_text bytes None
file_too_short bytes less e r h same =
    omega (
      arith,
      length-file_head (number_text 4 e.0) (number_text 8 (e.1).version) (number_text 4 (e.1).length) (list_text block_text (e.1).blocks)
          (length-number_text 4 e.0) (length-number_text 8 (e.1).version) (length-number_text 4 (e.1).length),
      length-append (file_text e) r,
      ap length same,
    )

pub no_file : (number version size : ℕ) (bytes a b c : List ℕ) → number_text 4 number ++ a ≡ bytes → number_text 8 version ++ b ≡ a → number_text 4 size ++ c ≡ b
    → ReadsFront (AreItems IsBlock) (list_text block_text) c None → ReadsFront IsFileRow file_text bytes None
no_file number version size bytes a b c e f g none row r h same =
    let parts = four (number_text 4 row.0) (number_text 8 (row.1).version) (number_text 4 (row.1).length) (list_text block_text (row.1).blocks) r in
    let one = number_rest 4 row.0 number _ a (sym parts ∙ same ∙ sym e) in
    let two = number_rest 8 (row.1).version version _ b (one ∙ sym f) in
    let three = number_rest 4 (row.1).length size _ c (two ∙ sym g) in
    none (row.1).blocks r h.blocks three

pub file_whole : (number version size : ℕ) (blocks : List (ℕ × Ptr)) (bytes a b c d : List ℕ) → number_text 4 number ++ a ≡ bytes → number_text 8 version ++ b ≡ a → number_text 4 size ++ c ≡ b
    → list_text block_text blocks ++ d ≡ c → file_text (number, record { version = version; length = size; blocks = blocks }) ++ d ≡ bytes
file_whole number version size blocks bytes a b c d e f g i =
    four (number_text 4 number) (number_text 8 version) (number_text 4 size) (list_text block_text blocks) d
    ∙ ap (λ (t : List ℕ). number_text 4 number ++ (number_text 8 version ++ (number_text 4 size ++ t))) i
    ∙ ap (λ (t : List ℕ). number_text 4 number ++ (number_text 8 version ++ t)) g
    ∙ ap (λ (t : List ℕ). number_text 4 number ++ t) f ∙ e

-- Replies.

pub no_reply : (kind number : ℕ) → (kind ≡ 1 → ⊥) → (number ≡ 0 → ⊥) → IsReplyOf kind number None
no_reply kind number not_made not_zero Done h k n = not_zero (sym n)
no_reply kind number not_made not_zero (Made fid) h k n = not_made (sym k)
no_reply kind number not_made not_zero (Refused why) h k n = not_zero (sym n)
no_reply kind number not_made not_zero reply h k n = absurd h

pub no_refusal : (kind number : ℕ) → (kind ≡ 1 → ⊥) → (kind ≡ 0 → ⊥) → IsRefusalOf kind None → IsReplyOf kind number None
no_refusal kind number not_made not_done none Done h k n = not_done (sym k)
no_refusal kind number not_made not_done none (Made fid) h k n = not_made (sym k)
no_refusal kind number not_made not_done none (Refused why) h k n = none why k
no_refusal kind number not_made not_done none reply h k n = absurd h

-- Logs.

length-log_head : (a b c d e f : List ℕ) → length a ≡ 4 → length b ≡ 4 → length c ≡ 8 → length d ≡ 8 → length e ≡ 8 → 32 ≤ length (a ++ (b ++ (c ++ (d ++ (e ++ f)))))
length-log_head a b c d e f p q s t u =
    omega (arith, p, q, s, t, u, length-append a (b ++ (c ++ (d ++ (e ++ f)))), length-append b (c ++ (d ++ (e ++ f))), length-append c (d ++ (e ++ f)), length-append d (e ++ f), length-append e f)

pub log_too_short : (bytes : List ℕ) → length bytes < 32 → ReadsFront IsLogRow log_text bytes None
log_too_short bytes less e r h same =
    omega (
      arith,
      length-log_head (number_text 4 e.0) (owner_text ((e.1).owner, (e.1).live)) (number_text 8 (e.1).batch) (number_text 8 (following (e.1).last)) (number_text 8 (e.1).mark) (list_text reply_text (e.1).replies)
          (length-number_text 4 e.0) refl (length-number_text 8 (e.1).batch) (length-number_text 8 (following (e.1).last)) (length-number_text 8 (e.1).mark),
      length-append (log_text e) r,
      ap length same,
    )

flag_small : (live : Bool) → flag_of live ≤ 1
flag_small true = omega arith
flag_small false = omega arith

pub no_flag : (owner flag : ℕ) (bytes rest : List ℕ) → owner ∷ (flag ∷ rest) ≡ bytes → 1 < flag → ReadsFront IsAny owner_text bytes None
no_flag owner flag bytes rest e more a r h same =
    let there = (heads (heads (same ∙ sym e)).1).0 in
    let small = flag_small a.1 in
    omega (arith, there, small, more)

-- bytes that are zeros were looked at
zeros_seen : (n : ℕ) (z : List ℕ) (seen : Bool) → z ≡ zeros n → (z ≡ zeros (length z) → IsTrue seen) → seen ≡ false → ⊥
zeros_seen n z seen is look e =
    let size : length z ≡ n = ap length is ∙ length-replicate n 0 in
    let told : seen ≡ true = look (is ∙ ap zeros (sym size)) in
    absurd cc

pub no_owner_zeros : (owner flag : ℕ) (bytes rest z : List ℕ) (seen : Bool) → owner ∷ (flag ∷ rest) ≡ bytes → z ≡ take 2 rest → (z ≡ zeros (length z) → IsTrue seen) → seen ≡ false → ReadsFront IsAny owner_text bytes None
no_owner_zeros owner flag bytes rest z seen e front look false_seen a r h same =
    let there = (heads (heads (same ∙ sym e)).1).1 in
    zeros_seen 2 z seen (front ∙ ap (take 2) (sym there)) look false_seen

pub no_owner_no_log : (number : ℕ) (bytes a : List ℕ) → number_text 4 number ++ a ≡ bytes → ReadsFront IsAny owner_text a None → ReadsFront IsLogRow log_text bytes None
no_owner_no_log number bytes a e none log r h same =
    none ((log.1).owner, (log.1).live) _ tt (number_rest 4 log.0 number _ a (sym (log_parts log r) ∙ same ∙ sym e))

-- what stands behind the numbers of a log
pub no_replies_no_log : (number batch last mark : ℕ) (owner : ℕ × Bool) (bytes a b c : List ℕ) → number_text 4 number ++ a ≡ bytes → owner_text owner ++ b ≡ a
    → number_text 8 batch ++ (number_text 8 last ++ (number_text 8 mark ++ c)) ≡ b → ReadsFront (AreItems IsUpdateReply) (list_text reply_text) c None → ReadsFront IsLogRow log_text bytes None
no_replies_no_log number batch last mark owner bytes a b c e f g none log r h same =
    let one = number_rest 4 log.0 number _ a (sym (log_parts log r) ∙ same ∙ sym e) in
    let two = (owner_once ((log.1).owner, (log.1).live) owner _ b tt tt (one ∙ sym f)).1 in
    let three = number_rest 8 (log.1).batch batch _ (number_text 8 last ++ (number_text 8 mark ++ c)) (two ∙ sym g) in
    let four = number_rest 8 (following (log.1).last) last _ (number_text 8 mark ++ c) three in
    let five = number_rest 8 (log.1).mark mark _ c four in
    none (log.1).replies r h.replies five

pub log_whole : (log : ℕ × LogState) (bytes a b c d : List ℕ) → number_text 4 log.0 ++ a ≡ bytes → owner_text ((log.1).owner, (log.1).live) ++ b ≡ a
    → number_text 8 (log.1).batch ++ (number_text 8 (following (log.1).last) ++ (number_text 8 (log.1).mark ++ c)) ≡ b → list_text reply_text (log.1).replies ++ d ≡ c → log_text log ++ d ≡ bytes
log_whole log bytes a b c d e f g i =
    log_parts log d
    ∙ ap (λ (t : List ℕ). number_text 4 log.0 ++ (owner_text ((log.1).owner, (log.1).live) ++ (number_text 8 (log.1).batch ++ (number_text 8 (following (log.1).last) ++ (number_text 8 (log.1).mark ++ t))))) i
    ∙ ap (λ (t : List ℕ). number_text 4 log.0 ++ (owner_text ((log.1).owner, (log.1).live) ++ t)) g
    ∙ ap (λ (t : List ℕ). number_text 4 log.0 ++ t) f ∙ e

-- Held stripes.

length-held : (h : HeldUse) → length (held_text h) ≡ 24
length-held h = simp (length-append, length-number_text)

pub held_too_short : (bytes : List ℕ) → length bytes < 24 → ReadsFront IsHeldRow held_text bytes None
held_too_short bytes less h r is same = omega (arith, length-held h, length-append (held_text h) r, ap length same)

pub held_whole : (h : HeldUse) (bytes a b c d : List ℕ) → number_text 4 h.log.0 ++ a ≡ bytes → number_text 8 h.stripe ++ b ≡ a → number_text 4 h.end ++ c ≡ b → number_text 8 h.born ++ d ≡ c → held_text h ++ d ≡ bytes
held_whole h bytes a b c d e f g i =
    four (number_text 4 h.log.0) (number_text 8 h.stripe) (number_text 4 h.end) (number_text 8 h.born) d
    ∙ ap (λ (t : List ℕ). number_text 4 h.log.0 ++ (number_text 8 h.stripe ++ (number_text 4 h.end ++ t))) i
    ∙ ap (λ (t : List ℕ). number_text 4 h.log.0 ++ (number_text 8 h.stripe ++ t)) g
    ∙ ap (λ (t : List ℕ). number_text 4 h.log.0 ++ t) f ∙ e

-- What stands before the lists.

length-state : (s : State) → length (state_text s) ≡ 2
length-state Whole = refl
length-state (Out a) = refl
length-state (Mending a) = refl

length-head : (h : Head) → length (text_of_head h) ≡ 28
length-head h = simp (length-append, length-number_text, length-state)

pub head_too_short : (bytes : List ℕ) → length bytes < 28 → ReadsFront IsHead text_of_head bytes None
head_too_short bytes less h r is same = omega (arith, length-head h, length-append (text_of_head h) r, ap length same)

pub state_too_short : (bytes : List ℕ) → length bytes < 2 → ReadsFront IsAny state_text bytes None
state_too_short bytes less s r h same = omega (arith, length-state s, length-append (state_text s) r, ap length same)

pub no_state : (kind server : ℕ) (bytes rest : List ℕ) → kind ∷ (server ∷ rest) ≡ bytes → ((kind ≡ 0 → server ≡ 0 → ⊥) × (kind ≡ 1 → ⊥) × (kind ≡ 2 → ⊥)) → ReadsFront IsAny state_text bytes None
no_state kind server bytes rest e none Whole r h same = let both = heads (same ∙ sym e) in none.0 (sym both.0) (sym (heads both.1).0)
no_state kind server bytes rest e none (Out a) r h same = none.1 (sym (heads (same ∙ sym e)).0)
no_state kind server bytes rest e none (Mending a) r h same = none.2 (sym (heads (same ∙ sym e)).0)

pub no_state_no_head : (file log : ℕ) (bytes a b : List ℕ) → number_text 4 file ++ a ≡ bytes → number_text 4 log ++ b ≡ a → ReadsFront IsAny state_text b None → ReadsFront IsHead text_of_head bytes None
no_state_no_head file log bytes a b e f none head r h same =
    let one = number_rest 4 head.next_file file _ a (sym (head_parts head r) ∙ same ∙ sym e) in
    let two = number_rest 4 head.numbers.next_log log _ b (one ∙ sym f) in
    none head.numbers.members.state _ tt two

pub no_head_zeros : (file log : ℕ) (state : State) (bytes a b c z : List ℕ) (seen : Bool) → number_text 4 file ++ a ≡ bytes → number_text 4 log ++ b ≡ a → state_text state ++ c ≡ b
    → z ≡ take 2 c → (z ≡ zeros (length z) → IsTrue seen) → seen ≡ false → ReadsFront IsHead text_of_head bytes None
no_head_zeros file log state bytes a b c z seen e f g front look false_seen head r h same =
    let one = number_rest 4 head.next_file file _ a (sym (head_parts head r) ∙ same ∙ sym e) in
    let two = number_rest 4 head.numbers.next_log log _ b (one ∙ sym f) in
    let three = (state_once head.numbers.members.state state _ c tt tt (two ∙ sym g)).1 in
    zeros_seen 2 z seen (front ∙ ap (take 2) (sym three)) look false_seen

pub head_whole : (head : Head) (bytes a b c d e f : List ℕ) → number_text 4 head.next_file ++ a ≡ bytes → number_text 4 head.numbers.next_log ++ b ≡ a → state_text head.numbers.members.state ++ c ≡ b
    → zeros 2 ++ d ≡ c → number_text 8 head.numbers.members.generation ++ e ≡ d → number_text 8 head.numbers.next_entry ++ f ≡ e → text_of_head head ++ f ≡ bytes
head_whole head bytes a b c d e f p q s t u v =
    head_parts head f
    ∙ ap (λ (x : List ℕ). number_text 4 head.next_file ++ (number_text 4 head.numbers.next_log ++ (state_text head.numbers.members.state ++ (zeros 2 ++ (number_text 8 head.numbers.members.generation ++ x))))) v
    ∙ ap (λ (x : List ℕ). number_text 4 head.next_file ++ (number_text 4 head.numbers.next_log ++ (state_text head.numbers.members.state ++ (zeros 2 ++ x)))) u
    ∙ ap (λ (x : List ℕ). number_text 4 head.next_file ++ (number_text 4 head.numbers.next_log ++ (state_text head.numbers.members.state ++ x))) t
    ∙ ap (λ (x : List ℕ). number_text 4 head.next_file ++ (number_text 4 head.numbers.next_log ++ x)) s
    ∙ ap (λ (x : List ℕ). number_text 4 head.next_file ++ x) q ∙ p
