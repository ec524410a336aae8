-- How a node is opened.
use Rattle.std.proofs.Common.{◌≡◌, inl, inr, ℕ, ◌+◌, ◌<◌, min, if◌then◌else◌, List, [], ◌∷◌, ◌++◌, length, take, drop, Err, IsErrOf, sym, ◌∙◌, ap, subst, arith, append_assoc}
use Rattle.std.proofs.lemmas.Bool.{cases_lt, lt-ltb, le-ltb}
use Rattle.std.proofs.lemmas.List.{take_more, take-append-drop}
use Rattle.std.proofs.Math.ListN.{get_or}
use Rattle.zb_types.specs.declared.geometry.Geometry.{Geometry}
use Rattle.zb_entries.specs.declared.entry.Entry.{Entry}
use Rattle.zb_outside.specs.Meaning.{Meaning}
use Rattle.zb_outside.specs.Runs.{IsSettled}
use Rattle.zb_ckpt.specs.declared.root.Root.{Root}
use Rattle.zb_ckpt.specs.Reading.{LeftAlone}
use Rattle.zb_ckpt.specs.Says.{Says}
use Rattle.zb_journal.specs.Journal.{Says as JournalSays}
use Rattle.zb_tables.specs.Tables.{Tables, Contents, last_value, risen}
use Rattle.zb_tables.specs.Taking.{AreTaken, Sizes}
use Rattle.zb_tables.specs.Replay.{Replays}
use Rattle.zb_tables.proofs.Once.{replays_once}
use Rattle.zb_tables.proofs.Taken.{taken_replays, taken_then}
use Rattle.zb_spelling.specs.Unspelling.{sizes_of}
use Rattle.zb_spelling.proofs.Whole.{few_bytes, one_spelling}
use Rattle.zb_platter.specs.Reading.{HasBadEntry, IsReadBack}
use Rattle.zb_platter.specs.Says.{SaysTables}
use Rattle.zb_platter.specs.Standing.{SeenPlatter, Stands}
use Rattle.zb_platter.proofs.Restored.{stands_again, system_again}
use Rattle.zb_replay.specs.Nodes.{SeenNode}
use Rattle.zb_replay.specs.declared.pieces.OpenFault.{OpenFault}
use Rattle.zb_replay.specs.declared.pieces.OpenFault.TheVariants.{Foreign}
use Rattle.zb_replay.specs.Opening.{HasBadBehind, HasRefused, IsFirst, IsOpened, IsRefused, IsStart, LeavesTables, StandsOpen, Takes}

pub takes_as : (z y : Sizes) (contents other : Contents) (before entries : List Entry) (t after : Tables) (e : Entry) → z ≡ y → contents ≡ other → before ≡ entries → Takes z contents before t e after → Takes y other entries t e after
takes_as z y contents other before entries t after e a b c takes =
    subst (λ (x : Sizes). Takes x other entries t e after) a (subst (λ (x : Contents). Takes z x entries t e after) b (subst (λ (x : List Entry). Takes z contents x t e after) c takes))

pub refused_as : (z y : Sizes) (contents other : Contents) (before entries : List Entry) (t : Tables) (e : Entry) → z ≡ y → contents ≡ other → before ≡ entries → IsRefused z contents before t e → IsRefused y other entries t e
refused_as z y contents other before entries t e a b c refused =
    subst (λ (x : Sizes). IsRefused x other entries t e) a (subst (λ (x : Contents). IsRefused z x entries t e) b (subst (λ (x : List Entry). IsRefused z contents x t e) c refused))

module _ (z : Sizes) (contents : Contents) (entries : List Entry) (i : ℕ) (e : Entry) (start mid : Tables) (few : i < length entries) (is : e ≡ get_or entries i e) (taken : AreTaken z contents [] start (take i entries) mid) where
  one_more : take (i + 1) entries ≡ take i entries ++ e ∷ []
  one_more = take_more entries i e few ∙ ap (λ (x : Entry). take i entries ++ x ∷ []) (sym is)

  pub replays_on : (after : Tables) → Takes z contents (take i entries) mid e after → AreTaken z contents [] start (take (i + 1) entries) after
  replays_on after takes = subst (λ (es : List Entry). AreTaken z contents [] start es after) (sym one_more) (taken_then z contents (take i entries) start mid after e takes.batch taken takes.is takes.taken takes.folds)

  pub stops_here : IsRefused z contents (take i entries) mid e → HasRefused z contents start entries
  stops_here refused = record {
    before = take i entries;
    entry = e;
    rest = drop (i + 1) entries;
    tables = mid;
    order = sym (take-append-drop (i + 1) entries) ∙ ap (λ (es : List Entry). es ++ drop (i + 1) entries) one_more ∙ append_assoc (take i entries) (e ∷ []) (drop (i + 1) entries);
    leads = taken;
    refused = refused;
  }

pub risen_min : (n i : ℕ) → risen (min (n + i) last_value) ≡ min (n + (i + 1)) last_value
risen_min n i = elim (cases_lt (min (n + i) last_value) last_value) [
  | inl lt ↦ ap (λ b. if b then min (n + i) last_value + 1 else min (n + i) last_value) (lt-ltb (min (n + i) last_value) last_value lt) ∙ omega (arith, lt)
  | inr ge ↦ ap (λ b. if b then min (n + i) last_value + 1 else min (n + i) last_value) (le-ltb (min (n + i) last_value) last_value ge) ∙ omega (arith, ge)
]

pub leaves_then : {a b c : Meaning} → LeavesTables a b → LeavesTables b c → LeavesTables a c
leaves_then first second = record { seen = second.seen ∙ first.seen; left = λ image h. first.left image (second.left image h) }

-- Reads of platter 0.

pub leaves_left : {a b : Meaning} → LeftAlone a b → LeavesTables a b
leaves_left left = record { seen = left.seen; left = left.left }

pub first_back : {a b : Meaning} (root : Root) (p : SeenPlatter) (bytes : List ℕ) (start : Tables) → LeftAlone a b → Says (a.now.seen 0) root bytes → p.root ≡ root
    → JournalSays (b.now.seen 0) root.first p.entries p.journal.place → IsFirst root bytes start → IsStart (a.now.seen 0) p start
first_back {a} {b} root p bytes start left says same journal first = record {
  bytes = bytes;
  back = record {
    root = subst (λ (r : Root). Says (a.now.seen 0) r bytes) (sym same) says;
    journal = subst (λ (r : Root). JournalSays (a.now.seen 0) r.first p.entries p.journal.place) (sym same) (subst (λ (i : List ℕ). JournalSays i root.first p.entries p.journal.place) left.seen journal);
  };
  first = subst (λ (r : Root). IsFirst r bytes start) (sym same) first;
}

pub bad_back : {a b : Meaning} (root : Root) (bytes : List ℕ) (start : Tables) → LeftAlone a b → Says (a.now.seen 0) root bytes → IsFirst root bytes start → HasBadEntry (b.now.seen 0) root → HasBadBehind (a.now.seen 0)
bad_back {a} {b} root bytes start left says first bad = record { root = root; bytes = bytes; start = start; says = says; first = first; bad = subst (λ (i : List ℕ). HasBadEntry i root) left.seen bad }

-- the field that is told
pub told_field : {T : Type 0} (a b n : ℕ) → IsErrOf {T = T} {E = OpenFault} (Err (Foreign a)) (Foreign b) → a ≡ n → b ≡ n
told_field a b n is e = cc

-- the fault that is told, of whatever there would be
pub told_fault : {T S : Type 0} (a b : OpenFault) → IsErrOf {T = T} {E = OpenFault} (Err a) b → IsErrOf {T = S} {E = OpenFault} (Err a) b
told_fault a b is = ap Err same where
  same : a ≡ b
  same = cc

-- What stands where a node was opened.

pub has_refused_as : (z y : Sizes) (contents other : Contents) (start : Tables) (entries items : List Entry) → z ≡ y → contents ≡ other → entries ≡ items → HasRefused z contents start entries → HasRefused y other start items
has_refused_as z y contents other start entries items a b c refused =
    subst (λ (x : Sizes). HasRefused x other start items) a (subst (λ (x : Contents). HasRefused z x start items) b (subst (λ (es : List Entry). HasRefused z contents start es) c refused))

pub taken_as : (z y : Sizes) (contents other : Contents) (start after : Tables) (entries items : List Entry) → z ≡ y → contents ≡ other → entries ≡ items → AreTaken z contents [] start entries after → AreTaken y other [] start items after
taken_as z y contents other start after entries items a b c taken =
    subst (λ (x : Sizes). AreTaken x other [] start items after) a (subst (λ (x : Contents). AreTaken z x [] start items after) b (subst (λ (es : List Entry). AreTaken z contents [] start es after) c taken))

settled_still : {a c : Meaning} → IsSettled 0 a.now → LeavesTables a c → IsSettled 0 c.now
settled_still settled left = record { only = λ i h. settled.only i (left.left i h) ∙ sym left.seen }

pub stands_open : (geo : Geometry) (contents : Contents) (tables : Tables) (a c : Meaning) (n : SeenNode) → IsSettled 0 a.now → LeavesTables a c → SaysTables geo contents (a.now.seen 0) tables → IsOpened contents (a.now.seen 0) n
    → StandsOpen geo contents tables n c.now
stands_open geo contents tables a c n settled left says opened =
    let p = n.platter in
    let back : IsReadBack (c.now.seen 0) p opened.is.bytes = subst (λ (i : List ℕ). IsReadBack i p opened.is.bytes) (sym left.seen) opened.is.back in
    let again = stands_again geo contents tables c.now p opened.is.bytes (settled_still settled left) (subst (λ (i : List ℕ). SaysTables geo contents i tables) (sym left.seen) says) back in
    let st = again.stands in
    let start : st.start ≡ opened.start = one_spelling (sizes_of p.root.geo) (sizes_of p.root.geo) st.start opened.start (few_bytes p.root.geo) (few_bytes p.root.geo) st.has.is opened.is.first.is (again.text ∙ sym opened.is.first.text) in
    let mine = taken_replays (sizes_of p.root.geo) contents [] p.entries opened.start n.manager.tables opened.taken in
    let other : Replays (sizes_of p.root.geo).block contents opened.start p.entries tables =
    subst (λ (t : Tables). Replays (sizes_of p.root.geo).block contents t p.entries tables) start (taken_replays (sizes_of p.root.geo) contents [] p.entries st.start tables st.taken) in
    let same : n.manager.tables ≡ tables = replays_once (sizes_of p.root.geo).block contents p.entries opened.start n.manager.tables tables mine other in
    record {
      system = system_again geo contents tables (a.now.seen 0) p opened.is.bytes says opened.is.back;
      tables_are = same;
      stands = subst (λ (t : Tables). Stands p contents t c.now) (sym same) st;
    }
