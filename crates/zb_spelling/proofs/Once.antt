-- The bytes of each part of the tables determine it.
use Rattle.std.proofs.Common.{◌≡◌, ℕ, ◌≤◌, Bool, true, false, List, ◌∷◌, ◌++◌, length, Option, Some, None, refl, sym, ap, ◌∙◌, append_assoc, arith}
use Rattle.std.specs.Prelude.{◌==◌, if◌then◌else◌}
use Rattle.std.specs.List.{flat_map}
use Rattle.std.proofs.lemmas.List.{append_cancel_left}
use Rattle.zb_types.specs.declared.calls.Refusal.{Refusal}
use Rattle.zb_types.specs.declared.calls.Refusal.TheVariants.{NoEntry, NotDir, IsDir, Exists, Inside, NotEmpty, Gone, TooBig, Full}
use Rattle.zb_types.specs.declared.calls.Reply.{Reply}
use Rattle.zb_types.specs.declared.calls.Reply.TheVariants.{Done, Made, Refused}
use Rattle.zb_types.specs.declared.nodes.State.TheVariants.{Whole, Out, Mending}
use Rattle.zb_types.specs.Names.{Entry, directory, numbered}
use Rattle.zb_numbers.specs.Fronts.{IsPrefixFree}
use Rattle.zb_numbers.specs.Numbers.{number_text, IsBelow, zeros}
use Rattle.zb_numbers.proofs.Digits.{number_once}
use Rattle.zb_numbers.proofs.Many.{many_once}
use Rattle.zb_delta.specs.Spelling.{IsPtr, ptr_text}
use Rattle.zb_batch.specs.Spelling.{path_text}
use Rattle.zb_batch.proofs.Once.{path_once, four, five}
use Rattle.zb_log_tables.specs.Logs.{IsLast}
use Rattle.zb_tables.specs.Fold.{following}
use Rattle.zb_tables.specs.Tables.{LogState, Tables}
use Rattle.zb_tables.specs.Checkpoint.{IsUpdateReply}
use Rattle.zb_spelling.specs.declared.head.Head.{Head}
use Rattle.zb_spelling.specs.Spelling.{list_text, kind_of_entry, number_of_entry, entry_text, name_text, block_text, file_text, kind_of_refusal, kind_of_reply, number_of_reply, reply_text, flag_of, owner_text, log_text, held_text, state_text, spelling_of_tables}
use Rattle.zb_spelling.specs.Reading.{IsAny, AreItems, IsEntry, IsName, IsBlock, IsFileRow, IsLogRow, IsHeldRow, IsHead, text_of_head, head_of, HasRoom}

-- the first bytes are the same, and so is what stands behind them
pub heads : {x y : ℕ} {r s : List ℕ} → x ∷ r ≡ y ∷ s → (x ≡ y) × (r ≡ s)
heads e = (cc, cc)

pub six : (a b c d e f r : List ℕ) → (a ++ (b ++ (c ++ (d ++ (e ++ f))))) ++ r ≡ a ++ (b ++ (c ++ (d ++ (e ++ (f ++ r)))))
six a b c d e f r = simp append_assoc

pub list_once : {A : Type 0} (Is : A → Type 0) (text : A → List ℕ) → IsPrefixFree Is text → IsPrefixFree (AreItems Is) (list_text text)
list_once Is text free xs ys r s h g e =
    let count = number_once 4 (length xs) (length ys) (flat_map text xs ++ r) (flat_map text ys ++ s) h.1 g.1
    (sym (append_assoc (number_text 4 (length xs)) (flat_map text xs) r) ∙ e ∙ append_assoc (number_text 4 (length ys)) (flat_map text ys) s) in
    many_once Is text free xs ys r s h.0 g.0 count.0 count.1

-- Names.

pub same_entry : (a b : Entry) → kind_of_entry a ≡ kind_of_entry b → number_of_entry a ≡ number_of_entry b → a ≡ b
same_entry directory directory k n = refl
same_entry (numbered x) (numbered y) k n = ap numbered n
same_entry directory (numbered y) k n = absurd (omega arith)
same_entry (numbered x) directory k n = absurd (omega arith)

pub entry_room : (a : Entry) → IsEntry a → IsBelow 4 (number_of_entry a)
entry_room directory h = omega arith
entry_room (numbered x) h = h

pub entry_once : IsPrefixFree IsEntry entry_text
entry_once a b r s h g e =
    let number = number_once 4 (number_of_entry a) (number_of_entry b) r s (entry_room a h) (entry_room b g) (heads e).1 in
    (same_entry a b (heads e).0 number.0, number.1)

pub name_once : IsPrefixFree IsName name_text
name_once a b r s h g e =
    let path = path_once a.0 b.0 (entry_text a.1 ++ r) (entry_text b.1 ++ s) h.0 g.0 (sym (append_assoc (path_text a.0) (entry_text a.1) r) ∙ e ∙ append_assoc (path_text b.0) (entry_text b.1) s) in
    let entry = entry_once a.1 b.1 r s h.1 g.1 path.1 in
    (λ i. (path.0 i, entry.0 i), entry.1)

-- Files.

pub ptr_once : IsPrefixFree IsPtr ptr_text
ptr_once p q r s h g e =
    let log = number_once 4 p.log.0 q.log.0 _ _ h.log g.log (simp append_assoc at e) in
    let stripe = number_once 8 p.stripe q.stripe _ _ h.stripe g.stripe log.1 in
    let offset = number_once 4 p.offset q.offset _ _ h.offset g.offset stripe.1 in
    let len = number_once 4 p.len q.len _ _ h.len g.len offset.1 in
    (λ i. record { log = record { 0 = log.0 i }; stripe = stripe.0 i; offset = offset.0 i; len = len.0 i }, len.1)

pub block_once : IsPrefixFree IsBlock block_text
block_once a b r s h g e =
    let number = number_once 4 a.0 b.0 (ptr_text a.1 ++ r) (ptr_text b.1 ++ s) h.0 g.0 (sym (append_assoc (number_text 4 a.0) (ptr_text a.1) r) ∙ e ∙ append_assoc (number_text 4 b.0) (ptr_text b.1) s) in
    let ptr = ptr_once a.1 b.1 r s h.1 g.1 number.1 in
    (λ i. (number.0 i, ptr.0 i), ptr.1)

pub blocks_once : IsPrefixFree (AreItems IsBlock) (list_text block_text)
blocks_once = list_once IsBlock block_text block_once

pub file_once : IsPrefixFree IsFileRow file_text
file_once a b r s h g e =
    let number = number_once 4 a.0 b.0 _ _ h.number g.number
    (sym (four (number_text 4 a.0) (number_text 8 (a.1).version) (number_text 4 (a.1).length) (list_text block_text (a.1).blocks) r) ∙ e
    ∙ four (number_text 4 b.0) (number_text 8 (b.1).version) (number_text 4 (b.1).length) (list_text block_text (b.1).blocks) s) in
    let version = number_once 8 (a.1).version (b.1).version _ _ h.version g.version number.1 in
    let size = number_once 4 (a.1).length (b.1).length _ _ h.length g.length version.1 in
    let blocks = blocks_once (a.1).blocks (b.1).blocks r s h.blocks g.blocks size.1 in
    (λ i. (number.0 i, record { version = version.0 i; length = size.0 i; blocks = blocks.0 i }), blocks.1)

-- Replies.

-- the refusal of a kind; any for another number
abbrev refusal_of : ℕ → Refusal
refusal_of kind = if kind == 2 then NoEntry else (if kind == 3 then NotDir else (if kind == 4 then IsDir else (if kind == 5 then Exists
    else (if kind == 6 then Inside else (if kind == 7 then NotEmpty else (if kind == 8 then Gone else (if kind == 9 then TooBig else Full)))))))

found_refusal : (why : Refusal) → refusal_of (kind_of_refusal why) ≡ why
found_refusal NoEntry = refl
found_refusal NotDir = refl
found_refusal IsDir = refl
found_refusal Exists = refl
found_refusal Inside = refl
found_refusal NotEmpty = refl
found_refusal Gone = refl
found_refusal TooBig = refl
found_refusal Full = refl

pub same_refusal : (v w : Refusal) → kind_of_refusal v ≡ kind_of_refusal w → v ≡ w
same_refusal v w e = sym (found_refusal v) ∙ ap refusal_of e ∙ found_refusal w

pub refusal_range : (why : Refusal) → (2 ≤ kind_of_refusal why) × (kind_of_refusal why ≤ 10)
refusal_range NoEntry = (omega arith, omega arith)
refusal_range NotDir = (omega arith, omega arith)
refusal_range IsDir = (omega arith, omega arith)
refusal_range Exists = (omega arith, omega arith)
refusal_range Inside = (omega arith, omega arith)
refusal_range NotEmpty = (omega arith, omega arith)
refusal_range Gone = (omega arith, omega arith)
refusal_range TooBig = (omega arith, omega arith)
refusal_range Full = (omega arith, omega arith)

pub same_reply : (a b : Reply) → IsUpdateReply a → IsUpdateReply b → kind_of_reply a ≡ kind_of_reply b → number_of_reply a ≡ number_of_reply b → a ≡ b
same_reply Done Done h g k n = refl
same_reply (Made x) (Made y) h g k n = λ i. Made (record { 0 = n i })
same_reply (Refused v) (Refused w) h g k n = ap Refused (same_refusal v w k)
same_reply Done (Made y) h g k n = absurd (omega arith)
same_reply Done (Refused w) h g k n = absurd (omega (arith, (refusal_range w).0, k))
same_reply (Made x) Done h g k n = absurd (omega arith)
same_reply (Made x) (Refused w) h g k n = absurd (omega (arith, (refusal_range w).0, k))
same_reply (Refused v) Done h g k n = absurd (omega (arith, (refusal_range v).0, k))
same_reply (Refused v) (Made y) h g k n = absurd (omega (arith, (refusal_range v).0, k))
same_reply Done b h g k n = absurd g
same_reply (Made x) b h g k n = absurd g
same_reply (Refused v) b h g k n = absurd g
same_reply a b h g k n = absurd h

pub reply_room : (a : Reply) → IsUpdateReply a → IsBelow 4 (number_of_reply a)
reply_room Done h = omega arith
reply_room (Made fid) h = omega arith
reply_room (Refused why) h = omega arith
reply_room a h = absurd h

pub reply_once : IsPrefixFree IsUpdateReply reply_text
reply_once a b r s h g e =
    let number = number_once 4 (number_of_reply a) (number_of_reply b) r s (reply_room a h) (reply_room b g) (heads e).1 in
    (same_reply a b h g (heads e).0 number.0, number.1)

pub replies_once : IsPrefixFree (AreItems IsUpdateReply) (list_text reply_text)
replies_once = list_once IsUpdateReply reply_text reply_once

-- Logs.

same_flag : (a b : Bool) → flag_of a ≡ flag_of b → a ≡ b
same_flag true true e = refl
same_flag false false e = refl
same_flag true false e = absurd (omega arith)
same_flag false true e = absurd (omega arith)

pub owner_once : IsPrefixFree IsAny owner_text
owner_once a b r s h g e =
    let owner = heads e in
    let flag = heads owner.1 in
    (λ i. (owner.0 i, same_flag a.1 b.1 flag.0 i), append_cancel_left (zeros 2) r s flag.1)

pub same_last : (a b : Option ℕ) → following a ≡ following b → a ≡ b
same_last None None e = refl
same_last (Some x) (Some y) e = let same : x ≡ y = omega arith in ap Some same
same_last None (Some y) e = absurd (omega arith)
same_last (Some x) None e = absurd (omega arith)

pub last_room : (a : Option ℕ) → IsLast a → IsBelow 8 (following a)
last_room None h = omega arith
last_room (Some x) h = omega arith

-- a log part by part
pub log_parts : (a : ℕ × LogState) (r : List ℕ) → log_text a ++ r ≡ number_text 4 a.0 ++ (owner_text ((a.1).owner, (a.1).live) ++ (number_text 8 (a.1).batch
    ++ (number_text 8 (following (a.1).last) ++ (number_text 8 (a.1).mark ++ (list_text reply_text (a.1).replies ++ r)))))
log_parts a r = six (number_text 4 a.0) (owner_text ((a.1).owner, (a.1).live)) (number_text 8 (a.1).batch) (number_text 8 (following (a.1).last)) (number_text 8 (a.1).mark) (list_text reply_text (a.1).replies) r

pub log_once : IsPrefixFree IsLogRow log_text
log_once a b r s h g e =
    let number = number_once 4 a.0 b.0 _ _ h.number g.number (sym (log_parts a r) ∙ e ∙ log_parts b s) in
    let owner = owner_once ((a.1).owner, (a.1).live) ((b.1).owner, (b.1).live) _ _ tt tt number.1 in
    let batch = number_once 8 (a.1).batch (b.1).batch _ _ h.batch g.batch owner.1 in
    let last = number_once 8 (following (a.1).last) (following (b.1).last) _ _ (last_room (a.1).last h.last) (last_room (b.1).last g.last) batch.1 in
    let mark = number_once 8 (a.1).mark (b.1).mark _ _ h.mark g.mark last.1 in
    let replies = replies_once (a.1).replies (b.1).replies r s h.replies g.replies mark.1 in
    let stripe = same_last (a.1).last (b.1).last last.0 in
    (λ i. (number.0 i, record { owner = (owner.0 i).0; live = (owner.0 i).1; batch = batch.0 i; replies = replies.0 i; last = stripe i; mark = mark.0 i }), replies.1)

-- Held stripes.

pub held_once : IsPrefixFree IsHeldRow held_text
held_once a b r s h g e =
    let log = number_once 4 a.log.0 b.log.0 _ _ h.log g.log
    (sym (four (number_text 4 a.log.0) (number_text 8 a.stripe) (number_text 4 a.end) (number_text 8 a.born) r) ∙ e
    ∙ four (number_text 4 b.log.0) (number_text 8 b.stripe) (number_text 4 b.end) (number_text 8 b.born) s) in
    let stripe = number_once 8 a.stripe b.stripe _ _ h.stripe g.stripe log.1 in
    let end = number_once 4 a.end b.end _ _ h.end g.end stripe.1 in
    let born = number_once 8 a.born b.born _ _ h.born g.born end.1 in
    (λ i. record { log = record { 0 = log.0 i }; stripe = stripe.0 i; end = end.0 i; born = born.0 i }, born.1)

-- What stands before the lists.

pub state_once : IsPrefixFree IsAny state_text
state_once Whole Whole r s h g e = (refl, (heads (heads e).1).1)
state_once (Out a) (Out b) r s h g e = let server = heads (heads e).1 in (λ i. Out (record { 0 = server.0 i }), server.1)
state_once (Mending a) (Mending b) r s h g e = let server = heads (heads e).1 in (λ i. Mending (record { 0 = server.0 i }), server.1)
state_once Whole (Out b) r s h g e = absurd (let k = (heads e).0 in omega arith)
state_once Whole (Mending b) r s h g e = absurd (let k = (heads e).0 in omega arith)
state_once (Out a) Whole r s h g e = absurd (let k = (heads e).0 in omega arith)
state_once (Out a) (Mending b) r s h g e = absurd (let k = (heads e).0 in omega arith)
state_once (Mending a) Whole r s h g e = absurd (let k = (heads e).0 in omega arith)
state_once (Mending a) (Out b) r s h g e = absurd (let k = (heads e).0 in omega arith)

-- a head part by part
pub head_parts : (a : Head) (r : List ℕ) → text_of_head a ++ r ≡ number_text 4 a.next_file ++ (number_text 4 a.numbers.next_log ++ (state_text a.numbers.members.state ++ (zeros 2
    ++ (number_text 8 a.numbers.members.generation ++ (number_text 8 a.numbers.next_entry ++ r)))))
head_parts a r = six (number_text 4 a.next_file) (number_text 4 a.numbers.next_log) (state_text a.numbers.members.state) (zeros 2) (number_text 8 a.numbers.members.generation) (number_text 8 a.numbers.next_entry) r

pub head_once : IsPrefixFree IsHead text_of_head
head_once a b r s h g e =
    let file = number_once 4 a.next_file b.next_file _ _ h.file g.file (sym (head_parts a r) ∙ e ∙ head_parts b s) in
    let log = number_once 4 a.numbers.next_log b.numbers.next_log _ _ h.log g.log file.1 in
    let state = state_once a.numbers.members.state b.numbers.members.state _ _ tt tt log.1 in
    let generation = number_once 8 a.numbers.members.generation b.numbers.members.generation _ _ h.generation g.generation (append_cancel_left (zeros 2) _ _ state.1) in
    let entry = number_once 8 a.numbers.next_entry b.numbers.next_entry r s h.entry g.entry generation.1 in
    (λ i. record { next_file = file.0 i; numbers = record { members = record { state = state.0 i; generation = generation.0 i }; next_log = log.0 i; next_entry = entry.0 i } }, entry.1)

-- The whole.

-- tables part by part
pub tables_parts : (t : Tables) (r : List ℕ) → spelling_of_tables t ++ r ≡ text_of_head (head_of t) ++ (list_text name_text t.names.entries ++ (list_text file_text t.files ++ (list_text log_text t.logs ++ (list_text held_text t.held ++ r))))
unfolding spelling_of_tables
tables_parts t r = five (text_of_head (head_of t)) (list_text name_text t.names.entries) (list_text file_text t.files) (list_text log_text t.logs) (list_text held_text t.held) r

pub tables_once : IsPrefixFree HasRoom spelling_of_tables
tables_once t u r s h g e =
    let head = head_once (head_of t) (head_of u) _ _ h.head g.head (sym (tables_parts t r) ∙ e ∙ tables_parts u s) in
    let names = list_once IsName name_text name_once t.names.entries u.names.entries _ _ h.names g.names head.1 in
    let files = list_once IsFileRow file_text file_once t.files u.files _ _ h.files g.files names.1 in
    let logs = list_once IsLogRow log_text log_once t.logs u.logs _ _ h.logs g.logs files.1 in
    let held = list_once IsHeldRow held_text held_once t.held u.held r s h.held g.held logs.1 in (
      λ i. record {
        names = record { next = (head.0 i).next_file; entries = names.0 i };
        files = files.0 i;
        logs = logs.0 i;
        held = held.0 i;
        members = (head.0 i).numbers.members;
        next_log = (head.0 i).numbers.next_log;
        next_entry = (head.0 i).numbers.next_entry;
      },
      held.1,
    )
