-- Two lines of a report with one text are one line.
use Rattle.std.proofs.Common.{◌≡◌, ℕ, ◌^◌, ◌<◌, Bool, true, false, not, ◌&&◌, ◌||◌, eqb, List, [], ◌∷◌, ◌++◌, take, drop, refl, sym, ap, subst, ◌∙◌, append_assoc, arith}
use Rattle.std.specs.Prelude.{bytes_eq, codes, nat_le, nat_lt}
use Rattle.std.specs.List.{list_any}
use Rattle.std.specs.Fmt.{decimal}
use Rattle.std.proofs.lemmas.Fmt.{decimal_injective}
use Rattle.std.proofs.lemmas.Bool.Decides.{nat_tests}
use Rattle.zb_types.specs.declared.ids.LogId.{LogId}
use Rattle.zb_types.specs.declared.ids.ServerId.{ServerId}
use Rattle.zb_types.specs.declared.geometry.Geometry.{Geometry}
use Rattle.zb_types.specs.declared.nodes.Cause.{Cause}
use Rattle.zb_types.specs.declared.nodes.Cause.TheVariants.{Unreachable, Down, NoSpace}
use Rattle.zb_types.specs.declared.nodes.Node.{Node}
use Rattle.zb_types.specs.declared.nodes.Node.TheVariants.{Server, Client, Manager, Cleaner, Mender}
use Rattle.zb_types.specs.declared.nodes.EventAnswer.{EventAnswer}
use Rattle.zb_types.specs.declared.nodes.EventAnswer.TheVariants.{Done as EventDone, Down as IsDown, ManagerDown, Up as IsUp, Blank, Out, Another, Unreachable as CantReach, Stopped}
use Rattle.zb_types.specs.declared.lines.Said.{Said}
use Rattle.zb_types.specs.declared.lines.Said.TheVariants.{Reply as Replied, Buffered, Kept, Failed, Dropped, Unfinished}
use Rattle.zb_types.specs.declared.lines.Ended.{Ended}
use Rattle.zb_types.specs.declared.lines.Ended.TheVariants.{Retired, Needed, Mending}
use Rattle.zb_types.specs.declared.lines.Pass.{Pass}
use Rattle.zb_types.specs.declared.lines.Pass.TheVariants.{Nothing, Done as PassDone, Failed as PassFailed, Dropped as PassDropped}
use Rattle.zb_types.specs.declared.lines.Mended.{Mended}
use Rattle.zb_types.specs.declared.lines.Mended.TheVariants.{Copied, Another as RefusedFor, Failed as MendFailed, Server as FailedServer, Dropped as MendDropped}
use Rattle.zb_types.specs.declared.lines.Told.{Told}
use Rattle.zb_types.specs.declared.lines.Told.TheVariants.{Crash, Arm, Up, Lose, Checkpoint}
use Rattle.zb_types.specs.declared.lines.Outcome.{Outcome}
use Rattle.zb_types.specs.declared.lines.Outcome.TheVariants.{Call as OfCall, Clean as OfClean, Rebuild as OfRebuild, Event as OfEvent}
use Rattle.zb_types.specs.Limits.{within}
use Rattle.zb_claims.specs.Text.{num, node_text, server_text, cause_text, said_text, ended_text, pass_text, mended_text, answer_text, outcome_text, IsOutcome, IsSaid, is_node, is_server, is_cause, is_told, is_answer, is_answer_named, is_pass, is_mended, max_word}
use Rattle.zb_laws.proofs.Clean.{small_client, small_server, disk_is_node}
use Rattle.zb_laws.proofs.Tests.{first_true, last_true, below, equal}
use Rattle.zb_laws.proofs.Bytes.{free, cut, low, decimal_low, first_low}
use Rattle.zb_laws.proofs.Spelled.{apart, differ, strip, tail_same, server_same, number_free, AreSmall, AreSmallSaid, cause_injective, said_injective}

-- Nodes.

abbrev pub SmallNode : Node → Type 0
SmallNode (Server i) = i < 2 ^ 64
SmallNode (Client i) = i < 2 ^ 64
SmallNode node = Unit {0}

pub node_injective : (a b : Node) → SmallNode a → SmallNode b → node_text a ≡ node_text b → a ≡ b
node_injective (Server a) (Server b) p q e = ap Server (decimal_injective a b p q (tail_same e))
node_injective (Client a) (Client b) p q e = ap Client (decimal_injective a b p q (tail_same e))
node_injective Manager Manager p q e = refl
node_injective Cleaner Cleaner p q e = refl
node_injective Mender Mender p q e = refl
node_injective (Client a) Cleaner p q e = differ low (decimal a) (codes "l") (decimal_low a p) refl (tail_same e)
node_injective Cleaner (Client b) p q e = differ low (decimal b) (codes "l") (decimal_low b q) refl (sym (tail_same e))
node_injective a b p q e = apart 1 (node_text a) (node_text b) refl refl e

pub node_free : (a : Node) → SmallNode a → free 32 (node_text a) ≡ true
node_free (Server a) p = number_free a p
node_free (Client a) p = number_free a p
node_free Manager p = refl
node_free Cleaner p = refl
node_free Mender p = refl

-- Events.

abbrev SmallAnswer : EventAnswer → Type 0
SmallAnswer (IsDown node) = SmallNode node
SmallAnswer (IsUp node) = SmallNode node
SmallAnswer (Blank server) = server.0 < 2 ^ 64
SmallAnswer (Out server) = server.0 < 2 ^ 64
SmallAnswer (Another server) = server.0 < 2 ^ 64
SmallAnswer (CantReach a b) = AreSmall (Unreachable a b)
SmallAnswer (Stopped node) = SmallNode node
SmallAnswer answer = Unit {0}

pub one_server : (a b : ServerId) → a.0 < 2 ^ 64 → b.0 < 2 ^ 64 → server_text a ≡ server_text b → a ≡ b
one_server a b p q e = server_same a b (decimal_injective a.0 b.0 p q (tail_same e))

one_pair : (a b c d : ServerId) → AreSmall (Unreachable a b) → AreSmall (Unreachable c d) → server_text a ++ 32 ∷ server_text b ≡ server_text c ++ 32 ∷ server_text d → (a ≡ c) × (b ≡ d)
one_pair a b c d p q e =
    let both = cut 32 (server_text a) (server_text c) (server_text b) (server_text d) (number_free a.0 p.0) (number_free c.0 q.0) e in
    (one_server a c p.0 q.0 both.0, one_server b d p.1 q.1 both.1)

answer_injective : (a b : EventAnswer) → SmallAnswer a → SmallAnswer b → answer_text a ≡ answer_text b → a ≡ b
answer_injective EventDone EventDone p q e = refl
answer_injective (IsDown a) (IsDown b) p q e = ap IsDown (node_injective a b p q (strip 13 (answer_text (IsDown a)) (answer_text (IsDown b)) e))
answer_injective ManagerDown ManagerDown p q e = refl
answer_injective (IsUp a) (IsUp b) p q e = ap IsUp (node_injective a b p q (strip 11 (answer_text (IsUp a)) (answer_text (IsUp b)) e))
answer_injective (Blank a) (Blank b) p q e = ap Blank (one_server a b p q (strip 14 (answer_text (Blank a)) (answer_text (Blank b)) e))
answer_injective (Out a) (Out b) p q e = ap Out (one_server a b p q (strip 12 (answer_text (Out a)) (answer_text (Out b)) e))
answer_injective (Another a) (Another b) p q e = ap Another (one_server a b p q (strip 16 (answer_text (Another a)) (answer_text (Another b)) e))
answer_injective (CantReach a b) (CantReach c d) p q e =
    let both = one_pair a b c d p q (strip 19 (answer_text (CantReach a b)) (answer_text (CantReach c d)) e) in
    ap (λ (s : ServerId). CantReach s b) both.0 ∙ ap (λ (s : ServerId). CantReach c s) both.1
answer_injective (Stopped a) (Stopped b) p q e = ap Stopped (node_injective a b p q (strip 15 (answer_text (Stopped a)) (answer_text (Stopped b)) e))
answer_injective a b p q e = apart 9 (answer_text a) (answer_text b) refl refl e

abbrev SmallTold : Told → Type 0
SmallTold (Crash node) = SmallNode node
SmallTold (Arm node) = SmallNode node
SmallTold (Up node) = SmallNode node
SmallTold (Lose server) = server.0 < 2 ^ 64
SmallTold Checkpoint = Unit {0}

one_event : (f : Node → Told) (a b : Node) (x y : EventAnswer) → SmallNode a → SmallNode b → SmallAnswer x → SmallAnswer y → node_text a ++ 32 ∷ answer_text x ≡ node_text b ++ 32 ∷ answer_text y → OfEvent (f a) x ≡ OfEvent (f b) y
one_event f a b x y p q r s e =
    let both = cut 32 (node_text a) (node_text b) (answer_text x) (answer_text y) (node_free a p) (node_free b q) e in
    ap (λ (n : Node). OfEvent (f n) x) (node_injective a b p q both.0) ∙ ap (λ (z : EventAnswer). OfEvent (f b) z) (answer_injective x y r s both.1)

event_injective : (a b : Told) (x y : EventAnswer) → SmallTold a → SmallTold b → SmallAnswer x → SmallAnswer y → outcome_text (OfEvent a x) ≡ outcome_text (OfEvent b y) → OfEvent a x ≡ OfEvent b y
event_injective (Crash a) (Crash b) x y p q r s e = one_event Crash a b x y p q r s (strip 6 (outcome_text (OfEvent (Crash a) x)) (outcome_text (OfEvent (Crash b) y)) e)
event_injective (Arm a) (Arm b) x y p q r s e = one_event Arm a b x y p q r s (strip 4 (outcome_text (OfEvent (Arm a) x)) (outcome_text (OfEvent (Arm b) y)) e)
event_injective (Up a) (Up b) x y p q r s e = one_event Up a b x y p q r s (strip 3 (outcome_text (OfEvent (Up a) x)) (outcome_text (OfEvent (Up b) y)) e)
event_injective (Lose a) (Lose b) x y p q r s e =
    let both = cut 32 (server_text a) (server_text b) (answer_text x) (answer_text y) (number_free a.0 p) (number_free b.0 q) (strip 5 (outcome_text (OfEvent (Lose a) x)) (outcome_text (OfEvent (Lose b) y)) e) in
    ap (λ (n : ServerId). OfEvent (Lose n) x) (one_server a b p q both.0) ∙ ap (λ (z : EventAnswer). OfEvent (Lose b) z) (answer_injective x y r s both.1)
event_injective Checkpoint Checkpoint x y p q r s e = ap (λ (z : EventAnswer). OfEvent Checkpoint z) (answer_injective x y r s (strip 11 (outcome_text (OfEvent Checkpoint x)) (outcome_text (OfEvent Checkpoint y)) e))
event_injective a b x y p q r s e = apart 2 (outcome_text (OfEvent a x)) (outcome_text (OfEvent b y)) refl refl e

-- Jobs.

ended_injective : (a b : Ended) → ended_text a ≡ ended_text b → a ≡ b
ended_injective Retired Retired e = refl
ended_injective Needed Needed e = refl
ended_injective Mending Mending e = refl
ended_injective a b e = apart 1 (ended_text a) (ended_text b) refl refl e

abbrev SmallPass : Pass → Type 0
SmallPass (PassDone log stripe copied rejected end) = (log.0 < 2 ^ 64) × (stripe < 2 ^ 64) × (copied < 2 ^ 64) × (rejected < 2 ^ 64)
SmallPass (PassFailed cause) = AreSmall cause
SmallPass pass = Unit {0}

log_same : (a b : LogId) → a.0 ≡ b.0 → a ≡ b
log_same a b e = ap (λ (n : ℕ). let f : LogId = record { 0 = n } in f) e

seven : (a b c d e f g : List ℕ) → ((((((a ++ b) ++ c) ++ d) ++ e) ++ f) ++ g) ≡ a ++ (b ++ (c ++ (d ++ (e ++ (f ++ g)))))
seven a b c d e f g = simp append_assoc refl

pass_words : (log : LogId) (stripe copied rejected : ℕ) (end : Ended) → pass_text (PassDone log stripe copied rejected end) ≡ decimal log.0 ++ 32 ∷ (decimal stripe ++ 32 ∷ (codes "copied " ++ (decimal copied ++ 32 ∷ (codes "rejected " ++ (decimal rejected ++ 32 ∷ ended_text end)))))
pass_words log stripe copied rejected end = seven (decimal log.0) (num stripe) (codes " copied") (num copied) (codes " rejected") (num rejected) (32 ∷ ended_text end)

pass_injective : (a b : Pass) → SmallPass a → SmallPass b → pass_text a ≡ pass_text b → a ≡ b
pass_injective (PassDone l s c r end) (PassDone m t d u fin) p q e =
    let e0 = sym (pass_words l s c r end) ∙ e ∙ pass_words m t d u fin in
    let b0 = cut 32 (decimal l.0) (decimal m.0) (decimal s ++ 32 ∷ (codes "copied " ++ (decimal c ++ 32 ∷ (codes "rejected " ++ (decimal r ++ 32 ∷ ended_text end))))) (decimal t ++ 32 ∷ (codes "copied " ++ (decimal d ++ 32 ∷ (codes "rejected " ++ (decimal u ++ 32 ∷ ended_text fin))))) (number_free l.0 p.0) (number_free m.0 q.0) e0 in
    let b1 = cut 32 (decimal s) (decimal t) (codes "copied " ++ (decimal c ++ 32 ∷ (codes "rejected " ++ (decimal r ++ 32 ∷ ended_text end)))) (codes "copied " ++ (decimal d ++ 32 ∷ (codes "rejected " ++ (decimal u ++ 32 ∷ ended_text fin)))) (number_free s p.1) (number_free t q.1) b0.1 in
    let b2 = cut 32 (decimal c) (decimal d) (codes "rejected " ++ (decimal r ++ 32 ∷ ended_text end)) (codes "rejected " ++ (decimal u ++ 32 ∷ ended_text fin)) (number_free c p.2) (number_free d q.2) (strip 7 (codes "copied " ++ (decimal c ++ 32 ∷ (codes "rejected " ++ (decimal r ++ 32 ∷ ended_text end)))) (codes "copied " ++ (decimal d ++ 32 ∷ (codes "rejected " ++ (decimal u ++ 32 ∷ ended_text fin)))) b1.1) in
    let b3 = cut 32 (decimal r) (decimal u) (ended_text end) (ended_text fin) (number_free r p.3) (number_free u q.3) (strip 9 (codes "rejected " ++ (decimal r ++ 32 ∷ ended_text end)) (codes "rejected " ++ (decimal u ++ 32 ∷ ended_text fin)) b2.1) in
    ap (λ (x : LogId). PassDone x s c r end) (log_same l m (decimal_injective l.0 m.0 p.0 q.0 b0.0))
    ∙ ap (λ (x : ℕ). PassDone m x c r end) (decimal_injective s t p.1 q.1 b1.0)
    ∙ ap (λ (x : ℕ). PassDone m t x r end) (decimal_injective c d p.2 q.2 b2.0)
    ∙ ap (λ (x : ℕ). PassDone m t d x end) (decimal_injective r u p.3 q.3 b3.0)
    ∙ ap (λ (x : Ended). PassDone m t d u x) (ended_injective end fin b3.1)
pass_injective (PassDone l s c r end) b p q e = differ (λ l. low (take 1 l)) (decimal l.0 ++ 32 ∷ (decimal s ++ 32 ∷ (codes "copied " ++ (decimal c ++ 32 ∷ (codes "rejected " ++ (decimal r ++ 32 ∷ ended_text end)))))) (pass_text b) (first_low l.0 p.0 (32 ∷ (decimal s ++ 32 ∷ (codes "copied " ++ (decimal c ++ 32 ∷ (codes "rejected " ++ (decimal r ++ 32 ∷ ended_text end))))))) refl (sym (pass_words l s c r end) ∙ e)
pass_injective a (PassDone l s c r end) p q e = differ (λ l. low (take 1 l)) (decimal l.0 ++ 32 ∷ (decimal s ++ 32 ∷ (codes "copied " ++ (decimal c ++ 32 ∷ (codes "rejected " ++ (decimal r ++ 32 ∷ ended_text end)))))) (pass_text a) (first_low l.0 q.0 (32 ∷ (decimal s ++ 32 ∷ (codes "copied " ++ (decimal c ++ 32 ∷ (codes "rejected " ++ (decimal r ++ 32 ∷ ended_text end))))))) refl (sym (pass_words l s c r end) ∙ sym e)
pass_injective Nothing Nothing p q e = refl
pass_injective (PassFailed a) (PassFailed b) p q e = ap PassFailed (cause_injective a b p q (strip 7 (pass_text (PassFailed a)) (pass_text (PassFailed b)) e))
pass_injective PassDropped PassDropped p q e = refl
pass_injective a b p q e = apart 1 (pass_text a) (pass_text b) refl refl e

abbrev SmallMended : Mended → Type 0
SmallMended (Copied count) = count < 2 ^ 64
SmallMended (RefusedFor other) = other.0 < 2 ^ 64
SmallMended (MendFailed cause) = AreSmall cause
SmallMended end = Unit {0}

no_server : {C : Type 0} (c : Cause) (rest : List ℕ) → cause_text c ≡ 115 ∷ rest → C
no_server (Unreachable a b) rest e = apart 1 (cause_text (Unreachable a b)) (115 ∷ rest) refl refl e
no_server Down rest e = apart 1 (cause_text Down) (115 ∷ rest) refl refl e
no_server (NoSpace s) rest e = apart 1 (cause_text (NoSpace s)) (115 ∷ rest) refl refl e

mended_injective : (i : ServerId) (a b : Mended) → SmallMended a → SmallMended b → mended_text i a ≡ mended_text i b → a ≡ b
mended_injective i (Copied a) (Copied b) p q e = ap Copied (decimal_injective a b p q (strip 7 (mended_text i (Copied a)) (mended_text i (Copied b)) e))
mended_injective i (RefusedFor a) (RefusedFor b) p q e = ap RefusedFor (one_server a b p q (strip 16 (mended_text i (RefusedFor a)) (mended_text i (RefusedFor b)) e))
mended_injective i (MendFailed a) (MendFailed b) p q e = ap MendFailed (cause_injective a b p q (strip 7 (mended_text i (MendFailed a)) (mended_text i (MendFailed b)) e))
mended_injective i (MendFailed a) FailedServer p q e = no_server a (codes "erver " ++ server_text i) (strip 7 (mended_text i (MendFailed a)) (mended_text i FailedServer) e)
mended_injective i FailedServer (MendFailed b) p q e = no_server b (codes "erver " ++ server_text i) (sym (strip 7 (mended_text i FailedServer) (mended_text i (MendFailed b)) e))
mended_injective i FailedServer FailedServer p q e = refl
mended_injective i MendDropped MendDropped p q e = refl
mended_injective i a b p q e = apart 3 (mended_text i a) (mended_text i b) refl refl e

-- Lines.

abbrev pub SmallLine : Outcome → Type 0
SmallLine (OfCall client n said) = (client < 2 ^ 64) × (n < 2 ^ 64) × AreSmallSaid said
SmallLine (OfClean pass) = SmallPass pass
SmallLine (OfRebuild server end) = (server.0 < 2 ^ 64) × SmallMended end
SmallLine (OfEvent event answer) = SmallTold event × SmallAnswer answer

pub call_words : (c n : ℕ) (said : Said) → outcome_text (OfCall c n said) ≡ 99 ∷ (decimal c ++ 32 ∷ (decimal n ++ 32 ∷ said_text said))
call_words c n said = simp append_assoc refl

rebuild_words : (i : ServerId) (end : Mended) → outcome_text (OfRebuild i end) ≡ codes "rebuild " ++ (server_text i ++ 32 ∷ mended_text i end)
rebuild_words i end = simp append_assoc refl

abbrev pub is_call_text : List ℕ → Bool
is_call_text text = low (take 1 (drop 1 text))

call_is : (c n : ℕ) (said : Said) → c < 2 ^ 64 → is_call_text (outcome_text (OfCall c n said)) ≡ true
call_is c n said p = subst (λ (l : List ℕ). is_call_text l ≡ true) (sym (call_words c n said)) (first_low c p (32 ∷ (decimal n ++ 32 ∷ said_text said)))

abbrev is_event_text : List ℕ → Bool
is_event_text text = list_any (bytes_eq (take 2 text)) (codes "cr" ∷ codes "ar" ∷ codes "up" ∷ codes "lo" ∷ codes "ch" ∷ [])

event_is : (event : Told) (answer : EventAnswer) → is_event_text (outcome_text (OfEvent event answer)) ≡ true
event_is (Crash node) answer = refl
event_is (Arm node) answer = refl
event_is (Up node) answer = refl
event_is (Lose server) answer = refl
event_is Checkpoint answer = refl

event_no_call : (event : Told) (answer : EventAnswer) → is_call_text (outcome_text (OfEvent event answer)) ≡ false
event_no_call (Crash node) answer = refl
event_no_call (Arm node) answer = refl
event_no_call (Up node) answer = refl
event_no_call (Lose server) answer = refl
event_no_call Checkpoint answer = refl

pub outcome_injective : (a b : Outcome) → SmallLine a → SmallLine b → outcome_text a ≡ outcome_text b → a ≡ b
outcome_injective (OfCall c n s) (OfCall d m t) p q e =
    let e0 = tail_same (sym (call_words c n s) ∙ e ∙ call_words d m t) in
    let b0 = cut 32 (decimal c) (decimal d) (decimal n ++ 32 ∷ said_text s) (decimal m ++ 32 ∷ said_text t) (number_free c p.0) (number_free d q.0) e0 in
    let b1 = cut 32 (decimal n) (decimal m) (said_text s) (said_text t) (number_free n p.1) (number_free m q.1) b0.1 in
    ap (λ (x : ℕ). OfCall x n s) (decimal_injective c d p.0 q.0 b0.0) ∙ ap (λ (x : ℕ). OfCall d x s) (decimal_injective n m p.1 q.1 b1.0) ∙ ap (λ (x : Said). OfCall d m x) (said_injective s t p.2 q.2 b1.1)
outcome_injective (OfCall c n s) (OfEvent event answer) p q e = differ is_call_text (outcome_text (OfCall c n s)) (outcome_text (OfEvent event answer)) (call_is c n s p.0) (event_no_call event answer) e
outcome_injective (OfEvent event answer) (OfCall c n s) p q e = differ is_call_text (outcome_text (OfCall c n s)) (outcome_text (OfEvent event answer)) (call_is c n s q.0) (event_no_call event answer) (sym e)
outcome_injective (OfCall c n s) b p q e = differ is_call_text (outcome_text (OfCall c n s)) (outcome_text b) (call_is c n s p.0) refl e
outcome_injective a (OfCall c n s) p q e = differ is_call_text (outcome_text (OfCall c n s)) (outcome_text a) (call_is c n s q.0) refl (sym e)
outcome_injective (OfClean a) (OfClean b) p q e = ap OfClean (pass_injective a b p q (strip 6 (outcome_text (OfClean a)) (outcome_text (OfClean b)) e))
outcome_injective (OfRebuild i a) (OfRebuild j b) p q e =
    let both = cut 32 (server_text i) (server_text j) (mended_text i a) (mended_text j b) (number_free i.0 p.0) (number_free j.0 q.0) (strip 8 (codes "rebuild " ++ (server_text i ++ 32 ∷ mended_text i a)) (codes "rebuild " ++ (server_text j ++ 32 ∷ mended_text j b)) (sym (rebuild_words i a) ∙ e ∙ rebuild_words j b)) in
    let same : i ≡ j = one_server i j p.0 q.0 both.0 in
    ap (λ (x : ServerId). OfRebuild x a) same ∙ ap (λ (x : Mended). OfRebuild j x) (mended_injective j a b p.1 q.1 (subst (λ (x : ServerId). mended_text x a ≡ mended_text j b) same both.1))
outcome_injective (OfEvent a x) (OfEvent b y) p q e = event_injective a b x y p.0 q.0 p.1 q.1 e
outcome_injective (OfEvent a x) b p q e = differ is_event_text (outcome_text (OfEvent a x)) (outcome_text b) (event_is a x) refl e
outcome_injective a (OfEvent b y) p q e = differ is_event_text (outcome_text (OfEvent b y)) (outcome_text a) (event_is b y) refl (sym e)
outcome_injective a b p q e = apart 2 (outcome_text a) (outcome_text b) refl refl e

-- What lines may say is small.

pub small_node : (geo : Geometry) (node : Node) → is_node geo node ≡ true → SmallNode node
small_node geo (Server i) h = small_server geo i h
small_node geo (Client i) h = small_client geo i h
small_node geo Manager h = tt
small_node geo Cleaner h = tt
small_node geo Mender h = tt

small_pair : (geo : Geometry) (a b : ServerId) → is_cause geo (Unreachable a b) ≡ true → AreSmall (Unreachable a b)
small_pair geo a b h =
    let two : (is_server geo a && is_server geo b) ≡ true = first_true (is_server geo a && is_server geo b) (nat_lt a.0 b.0) h in
    (small_server geo a.0 (first_true (is_server geo a) (is_server geo b) two), small_server geo b.0 (last_true (is_server geo a) (is_server geo b) two))

small_cause : (geo : Geometry) (cause : Cause) → is_cause geo cause ≡ true → AreSmall cause
small_cause geo (Unreachable a b) h = small_pair geo a b h
small_cause geo Down h = tt
small_cause geo (NoSpace server) h = small_server geo server.0 h

small_said : (geo : Geometry) (said : Said) → IsSaid geo said → AreSmallSaid said
small_said geo (Replied reply) h = h
small_said geo Buffered h = tt
small_said geo (Kept cause) h = small_cause geo cause h
small_said geo (Failed cause) h = small_cause geo cause h
small_said geo Dropped h = tt
small_said geo (Unfinished cause) h = small_cause geo cause h

small_told : (geo : Geometry) (event : Told) → is_told geo event ≡ true → SmallTold event
small_told geo (Crash node) h = small_node geo node h
small_told geo (Arm node) h = small_node geo node (disk_is_node geo node h)
small_told geo (Up node) h = small_node geo node h
small_told geo (Lose server) h = small_server geo server.0 h
small_told geo Checkpoint h = tt

small_answer : (geo : Geometry) (answer : EventAnswer) → is_answer_named geo answer ≡ true → SmallAnswer answer
small_answer geo EventDone h = tt
small_answer geo (IsDown node) h = small_node geo node h
small_answer geo ManagerDown h = tt
small_answer geo (IsUp node) h = small_node geo node h
small_answer geo (Blank server) h = small_server geo server.0 h
small_answer geo (Out server) h = small_server geo server.0 h
small_answer geo (Another server) h = small_server geo server.0 h
small_answer geo (CantReach a b) h = small_pair geo a b h
small_answer geo (Stopped node) h = small_node geo node h

small_pass : (geo : Geometry) (pass : Pass) → is_pass geo pass ≡ true → SmallPass pass
small_pass geo Nothing h = tt
small_pass geo (PassDone log stripe copied rejected end) h =
    let l : (nat_le log.0 max_word && nat_lt stripe (2 ^ 64) && nat_lt copied (2 ^ 64)) ≡ true = first_true (nat_le log.0 max_word && nat_lt stripe (2 ^ 64) && nat_lt copied (2 ^ 64)) (nat_lt rejected (2 ^ 64)) h in
    let m : (nat_le log.0 max_word && nat_lt stripe (2 ^ 64)) ≡ true = first_true (nat_le log.0 max_word && nat_lt stripe (2 ^ 64)) (nat_lt copied (2 ^ 64)) l in
    let a : log.0 < 2 ^ 64 = grind (arith, nat_tests, first_true (nat_le log.0 max_word) (nat_lt stripe (2 ^ 64)) m) in
    (a, below stripe (2 ^ 64) (last_true (nat_le log.0 max_word) (nat_lt stripe (2 ^ 64)) m), below copied (2 ^ 64) (last_true (nat_le log.0 max_word && nat_lt stripe (2 ^ 64)) (nat_lt copied (2 ^ 64)) l), below rejected (2 ^ 64) (last_true (nat_le log.0 max_word && nat_lt stripe (2 ^ 64) && nat_lt copied (2 ^ 64)) (nat_lt rejected (2 ^ 64)) h))
small_pass geo (PassFailed cause) h = small_cause geo cause h
small_pass geo PassDropped h = tt

small_mended : (geo : Geometry) (server : ServerId) (end : Mended) → is_server geo server ≡ true → is_mended geo server end ≡ true → SmallMended end
small_mended geo server (Copied count) s h = below count (2 ^ 64) h
small_mended geo server (RefusedFor other) s h = small_server geo other.0 (first_true (is_server geo other) (not (eqb other.0 server.0)) h)
small_mended geo server (MendFailed (Unreachable a b)) s h = small_pair geo a b (first_true (is_cause geo (Unreachable a b)) (eqb a.0 server.0 || eqb b.0 server.0) h)
small_mended geo server (MendFailed Down) s h = tt
small_mended geo server (MendFailed (NoSpace full)) s h = small_server geo full.0 (subst (λ (i : ℕ). within 1 geo.servers i ≡ true) (sym (equal full.0 server.0 h)) s)
small_mended geo server FailedServer s h = tt
small_mended geo server MendDropped s h = tt

pub small_line : (geo : Geometry) (line : Outcome) → IsOutcome geo line → SmallLine line
small_line geo (OfCall client n said) h = (small_client geo client h.0, h.1, small_said geo said h.2)
small_line geo (OfClean pass) h = small_pass geo pass h
small_line geo (OfRebuild server end) h =
    let s = first_true (is_server geo server) (is_mended geo server end) h in
    (small_server geo server.0 s, small_mended geo server end s (last_true (is_server geo server) (is_mended geo server end) h))
small_line geo (OfEvent event answer) h = (
  small_told geo event (first_true (is_told geo event) (is_answer geo event answer) (first_true (is_told geo event && is_answer geo event answer) (is_answer_named geo answer) h)),
  small_answer geo answer (last_true (is_told geo event && is_answer geo event answer) (is_answer_named geo answer) h),
)
