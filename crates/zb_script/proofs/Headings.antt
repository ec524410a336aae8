-- A line is its plus, its first word, and what stands behind.
use Rattle.std.proofs.Common.{◌≡◌, ℕ, Bool, true, false, cond, eqb, List, [], ◌∷◌, ◌++◌, Option, Some, None, codes, refl, sym, ap, subst, ◌∙◌, append_assoc}
use Rattle.std.proofs.lemmas.List.{append_cancel_left}
use Rattle.zb_types.specs.declared.geometry.Geometry.{Geometry}
use Rattle.zb_types.specs.declared.nodes.Event.TheVariants.{Crash, Arm, Up, Lose, Checkpoint}
use Rattle.zb_types.specs.declared.lines.Job.TheVariants.{Clean, Rebuild}
use Rattle.zb_types.specs.declared.lines.Line.{Line}
use Rattle.zb_types.specs.declared.lines.Line.TheVariants.{Call as CallLine, Job as JobLine, Steps, StepTo, Event as EventLine}
use Rattle.zb_claims.specs.Reading.{Reads}
use Rattle.zb_claims.specs.Text.{node_text, kind_text, plus_text, words, IsLine}
use Rattle.zb_script.specs.Spaces.{is_word, Splits}
use Rattle.zb_script.specs.Numbers.{begins_plainly}
use Rattle.zb_script.specs.Lines.{begins_with_plus, plus_of, body_text, IsLineWith, IsHead, head_text, head_of, after_head, IsLineOf}
use Rattle.zb_script.specs.declared.head.Head.{Head}
use Rattle.zb_script.specs.declared.head.Head.TheVariants as heads
use Rattle.zb_script.proofs.Splitting.{split_same, unsplit}
use Rattle.zb_script.proofs.Decimals.{begins-decimal, is_word-decimal}
use Rattle.zb_script.proofs.Names.{byte_number, tail_same, same_byte, client_byte}

-- First words are told apart, and have no space.

abbrev tag : List ℕ → ℕ
tag [] = 7
tag (b ∷ bytes) = cond (eqb b 114) 0 (cond (eqb b 115) 1 (cond (eqb b 97) 2 (cond (eqb b 117) 3 (cond (eqb b 108) 4 (cond (begins_plainly bytes) 5 6)))))

abbrev tag_of : Head → ℕ
tag_of (heads.Client i) = 5
tag_of heads.Rebuild = 0
tag_of heads.Step = 1
tag_of heads.Crash = 6
tag_of heads.Arm = 2
tag_of heads.Up = 3
tag_of heads.Lose = 4

tag-head_text : (head : Head) → IsHead head → tag (head_text head) ≡ tag_of head
tag-head_text (heads.Client i) h = ap (λ (t : Bool). cond t 5 6) (begins-decimal i (byte_number i h))
tag-head_text heads.Rebuild h = refl
tag-head_text heads.Step h = refl
tag-head_text heads.Crash h = refl
tag-head_text heads.Arm h = refl
tag-head_text heads.Up h = refl
tag-head_text heads.Lose h = refl

same_tagged : (a b : Head) → tag_of a ≡ tag_of b → IsHead a → IsHead b → head_text a ≡ head_text b → a ≡ b
same_tagged (heads.Client i) (heads.Client j) t p q e = ap heads.Client (same_byte i j p q (tail_same e))
same_tagged heads.Rebuild heads.Rebuild t p q e = refl
same_tagged heads.Step heads.Step t p q e = refl
same_tagged heads.Crash heads.Crash t p q e = refl
same_tagged heads.Arm heads.Arm t p q e = refl
same_tagged heads.Up heads.Up t p q e = refl
same_tagged heads.Lose heads.Lose t p q e = refl
same_tagged a b t p q e = absurd cc

same_head : (a b : Head) → IsHead a → IsHead b → head_text a ≡ head_text b → a ≡ b
same_head a b p q e = same_tagged a b (sym (tag-head_text a p) ∙ ap tag e ∙ tag-head_text b q) p q e

is_word-head : (head : Head) → IsHead head → is_word (head_text head) ≡ true
is_word-head (heads.Client i) h = is_word-decimal i (byte_number i h)
is_word-head heads.Rebuild h = refl
is_word-head heads.Step h = refl
is_word-head heads.Crash h = refl
is_word-head heads.Arm h = refl
is_word-head heads.Up h = refl
is_word-head heads.Lose h = refl

-- A line behind its plus is its first word, a space, and what stands behind.

with_head : {a b : Head} → Some a ≡ Some b → (t : List ℕ) → head_text a ++ 32 ∷ t ≡ head_text b ++ 32 ∷ t
with_head {a} {b} h t = let e : a ≡ b = cc in ap (λ v. head_text v ++ 32 ∷ t) e

parts : (line : Line) (head : Head) → head_of line ≡ Some head → body_text line ≡ head_text head ++ 32 ∷ after_head line
parts (CallLine plus client call) head h = with_head h (after_head (CallLine plus client call))
parts (JobLine plus Clean) head h = absurd cc
parts (JobLine plus (Rebuild server)) head h = with_head h (after_head (JobLine plus (Rebuild server)))
parts (Steps actor count) head h = with_head h (after_head (Steps actor count))
parts (StepTo actor kind) head h = ap (λ t. codes "step" ++ 32 ∷ t) (append_assoc (node_text actor) (codes " to ") (kind_text kind)) ∙ with_head h (after_head (StepTo actor kind))
parts (EventLine (Crash node)) head h = with_head h (after_head (EventLine (Crash node)))
parts (EventLine (Arm disk count)) head h = with_head h (after_head (EventLine (Arm disk count)))
parts (EventLine (Up node)) head h = with_head h (after_head (EventLine (Up node)))
parts (EventLine (Lose server)) head h = with_head h (after_head (EventLine (Lose server)))
parts (EventLine Checkpoint) head h = absurd cc

with_valid : {a b : Head} → Some a ≡ Some b → IsHead a → IsHead b
with_valid {a} {b} h p = let e : a ≡ b = cc in subst IsHead e p

valid : (geo : Geometry) (line : Line) (head : Head) → IsLine geo line → head_of line ≡ Some head → IsHead head
valid geo (CallLine plus client call) head h k = with_valid {a = heads.Client client} k (client_byte geo client h.0)
valid geo (JobLine plus Clean) head h k = absurd cc
valid geo (JobLine plus (Rebuild server)) head h k = with_valid {a = heads.Rebuild} k tt
valid geo (Steps actor count) head h k = with_valid {a = heads.Step} k tt
valid geo (StepTo actor kind) head h k = with_valid {a = heads.Step} k tt
valid geo (EventLine (Crash node)) head h k = with_valid {a = heads.Crash} k tt
valid geo (EventLine (Arm disk count)) head h k = with_valid {a = heads.Arm} k tt
valid geo (EventLine (Up node)) head h k = with_valid {a = heads.Up} k tt
valid geo (EventLine (Lose server)) head h k = with_valid {a = heads.Lose} k tt
valid geo (EventLine Checkpoint) head h k = absurd cc

lone_word : (line : Line) → head_of line ≡ None → is_word (body_text line) ≡ true
lone_word (JobLine plus Clean) h = refl
lone_word (EventLine Checkpoint) h = refl
lone_word line h = absurd cc

-- a line whose first word and rest are these
record Headed (line : Line) (word rest : List ℕ) : Type 0 where
  head : Head
  keyword : head_of line ≡ Some head
  valid : IsHead head
  spelled : head_text head ≡ word
  behind : after_head line ≡ rest

headed_at : {bytes word rest : List ℕ} → Splits bytes word rest → (geo : Geometry) (line : Line) (o : Option Head) → head_of line ≡ o → IsLine geo line → body_text line ≡ bytes → Headed line word rest
headed_at s geo line (Some head) k h e =
    let p = valid geo line head h k in
    let same = split_same s (head_text head) (after_head line) (is_word-head head p) (sym (parts line head k) ∙ e) in
    record { head = head; keyword = k; valid = p; spelled = sym same.word; behind = sym same.rest }
headed_at {word = word} {rest = rest} s geo line None k h e = absurd (unsplit word rest (ap is_word (s.whole ∙ sym e) ∙ lone_word line k))

-- where no first word stands there is no line
pub no_head_line : {bytes word rest : List ℕ} (geo : Geometry) (plus : Bool) → Splits bytes word rest → Reads IsHead head_text word None → Reads (IsLineWith geo plus) body_text bytes None
no_head_line geo plus s none line h e = let k = headed_at s geo line (head_of line) refl h.0 e in none k.head k.valid k.spelled

-- the line is what stands behind its first word
pub behind_head : {bytes word rest : List ℕ} (geo : Geometry) (plus : Bool) (head : Head) → Splits bytes word rest → IsHead head → head_text head ≡ word → (found : Option Line) → Reads (IsLineOf geo plus head) after_head rest found → Reads (IsLineWith geo plus) body_text bytes found
behind_head {word = word} {rest = rest} geo plus head s p w (Some line) h =
    (h.0.0, parts line head h.0.1 ∙ ap (λ t. t ++ 32 ∷ after_head line) w ∙ ap (λ t. word ++ 32 ∷ t) h.1 ∙ s.whole)
behind_head geo plus head s p w None none = λ line h e.
    let k = headed_at s geo line (head_of line) refl h.0 e in
    none line (h, k.keyword ∙ ap Some (same_head k.head head k.valid p (k.spelled ∙ sym w))) k.behind

-- A line is its plus, and what stands behind it.

plus_words : (line : Line) → words line ≡ plus_text (plus_of line) ++ body_text line
plus_words (CallLine false client call) = refl
plus_words (CallLine true client call) = refl
plus_words (JobLine false job) = refl
plus_words (JobLine true Clean) = refl
plus_words (JobLine true (Rebuild server)) = refl
plus_words (Steps actor count) = refl
plus_words (StepTo actor kind) = refl
plus_words (EventLine event) = refl

plus_first : (line : Line) → begins_with_plus (words line) ≡ plus_of line
plus_first (CallLine false client call) = refl
plus_first (CallLine true client call) = refl
plus_first (JobLine false Clean) = refl
plus_first (JobLine true Clean) = refl
plus_first (JobLine false (Rebuild server)) = refl
plus_first (JobLine true (Rebuild server)) = refl
plus_first (Steps actor count) = refl
plus_first (StepTo actor kind) = refl
plus_first (EventLine (Crash node)) = refl
plus_first (EventLine (Arm disk count)) = refl
plus_first (EventLine (Up node)) = refl
plus_first (EventLine (Lose server)) = refl
plus_first (EventLine Checkpoint) = refl

pub behind_plus : {bytes : List ℕ} (rest : List ℕ) (geo : Geometry) (plus : Bool) → plus_text plus ++ rest ≡ bytes → plus ≡ begins_with_plus bytes → (found : Option Line) → Reads (IsLineWith geo plus) body_text rest found → Reads (IsLine geo) words bytes found
behind_plus rest geo plus e first (Some line) h =
    (h.0.0, plus_words line ∙ ap (λ p. plus_text p ++ body_text line) h.0.1 ∙ ap (λ t. plus_text plus ++ t) h.1 ∙ e)
behind_plus rest geo plus e first None none = λ line h same.
    let p : plus_of line ≡ plus = sym (plus_first line) ∙ ap begins_with_plus same ∙ sym first in
    none line (h, p) (append_cancel_left (plus_text plus) (body_text line) rest (ap (λ q. plus_text q ++ body_text line) (sym p) ∙ sym (plus_words line) ∙ same ∙ sym e))
