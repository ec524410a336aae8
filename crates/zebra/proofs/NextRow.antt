-- What the pending bytes begin with.
use Rattle.std.proofs.Common.{◌≡◌, ℕ, ◌+◌, ◌<◌, Bool, true, false, not, ◌&&◌, List, [], ◌∷◌, ◌++◌, length, Option, None, refl, sym, ap, subst, ◌∙◌, append_assoc, arith}
use Rattle.std.specs.Prelude.{position, nat_le, is_none, ◌≢◌}
use Rattle.std.proofs.lemmas.List.{append-nil, length-append}
use Rattle.std.proofs.lemmas.Bool.Decides.{nat_tests}
use Rattle.zb_types.specs.declared.geometry.Geometry.{Geometry}
use Rattle.zb_types.specs.declared.nodes.Node.TheVariants.{Client, Server, Manager, Cleaner, Mender}
use Rattle.zb_types.specs.declared.lines.Line.{Line}
use Rattle.zb_types.specs.declared.lines.Line.TheVariants.{Call as CallLine, Job as JobLine, Steps, StepTo, Event as EventLine}
use Rattle.zb_claims.specs.Text.{newline, spelled}
use Rattle.zb_script.specs.declared.reader.Parsed.TheVariants as parsed
use Rattle.zb_script.specs.Places.{Place, IsFront, IsBadHere, IsOpen, IsLineHere, passed}
use Rattle.zb_script.proofs.Marks.{is_end, unmarked}
use Rattle.zb_script.proofs.Short.{ended}
use Rattle.zb_script.proofs.NextBytes.{no_end_within}
use Rattle.zebra.specs.Pending.{Pending, wants_more}
use Rattle.zebra.specs.Rows.{NoRow, IsBadLine, IsAtEnd, NextIs, MovesOn, next_of}

-- Bytes that are no row.

pub bad_line : (place : Place) (p : Pending) → IsBadHere place p.rest → IsBadLine place p
bad_line place p h = record { some = h.some; none = λ text more after ends may is. h.none text more after may is }

pub has_ended : (p : Pending) → wants_more p ≡ false → IsOpen p.rest → p.ended ≡ true
has_ended p whole open_ = by_end p.ended refl
  where
    by_end : (b : Bool) → p.ended ≡ b → p.ended ≡ true
    by_end true e = e
    by_end false e =
        let long : (true && nat_le (length p.rest) 17000 && true) ≡ false = sym (ap (λ (b : Bool). b && nat_le (length p.rest) 17000 && is_none (position is_end p.rest)) (ap not e)
        ∙ ap (λ (o : Option ℕ). true && nat_le (length p.rest) 17000 && is_none o) open_.no_end) ∙ whole in
        longer (nat_le (length p.rest) 17000) refl long
      where
        longer : (b : Bool) → nat_le (length p.rest) 17000 ≡ b → (true && b && true) ≡ false → p.ended ≡ true
        longer true t h = absurd cc
        longer false t h = absurd (let past : 17000 < length p.rest = grind (arith, nat_tests) in omega (arith, past, open_.short))

pub no_row : (at : Option Geometry) (used : ℕ) (p : Pending) → wants_more p ≡ false → IsOpen p.rest → NoRow at used p
no_row at used p whole open_ text more after ends may is =
    let e = ended at text may in
    let none : more ≡ [] = ends (has_ended p whole open_) in
    let line : p.rest ++ more ≡ e.words ++ 10 ∷ after = is ∙ ap (λ (b : List ℕ). b ++ after) e.is ∙ append_assoc e.words newline after in
    let alone : p.rest ≡ e.words ++ 10 ∷ after = sym (append-nil p.rest) ∙ ap (λ (m : List ℕ). p.rest ++ m) (sym none) ∙ line in
    absurd (no_end_within p.rest more e.words after (unmarked p.rest open_.no_end) line (omega (arith, ap length alone, length-append e.words (10 ∷ after))))

pub open_bad : (place : Place) (p : Pending) → wants_more p ≡ false → IsOpen p.rest → p.rest ≢ [] → IsBadLine place p
open_bad place p whole open_ some = record { some = some; none = no_row place.geo place.used p whole open_ }

pub open_end : (p : Pending) → wants_more p ≡ false → IsOpen p.rest → p.rest ≡ [] → IsAtEnd p
open_end p whole open_ none = record { none = none; ended = has_ended p whole open_ }

pub nothing_or_some : (bytes : List ℕ) (X : Type 0) → (bytes ≡ [] → X) → (bytes ≢ [] → X) → X
nothing_or_some [] X none some = none refl
nothing_or_some (b ∷ bytes) X none some = some (λ wrong. cc)

-- Lines.

pub next_line : (place : Place) (p : Pending) (number : ℕ) (line : Line) (len : ℕ) → number ≡ place.lines + 1 → IsLineHere place.geo line → IsFront place p.rest (spelled line) len → NextIs place p (next_of number line len)
next_line place p number (CallLine plus client call) len is valid front = (valid, front)
next_line place p number (JobLine plus job) len is valid front = (is, record { line = JobLine plus job; valid = valid; later = refl; len = len; front = front })
next_line place p number (Steps (Client client) count) len is valid front = (valid, front)
next_line place p number (Steps (Server server) count) len is valid front = (is, record { line = Steps (Server server) count; valid = valid; later = refl; len = len; front = front })
next_line place p number (Steps Manager count) len is valid front = (is, record { line = Steps Manager count; valid = valid; later = refl; len = len; front = front })
next_line place p number (Steps Cleaner count) len is valid front = (is, record { line = Steps Cleaner count; valid = valid; later = refl; len = len; front = front })
next_line place p number (Steps Mender count) len is valid front = (is, record { line = Steps Mender count; valid = valid; later = refl; len = len; front = front })
next_line place p number (StepTo (Client client) kind) len is valid front = (valid, front)
next_line place p number (StepTo (Server server) kind) len is valid front = (is, record { line = StepTo (Server server) kind; valid = valid; later = refl; len = len; front = front })
next_line place p number (StepTo Manager kind) len is valid front = (is, record { line = StepTo Manager kind; valid = valid; later = refl; len = len; front = front })
next_line place p number (StepTo Cleaner kind) len is valid front = (is, record { line = StepTo Cleaner kind; valid = valid; later = refl; len = len; front = front })
next_line place p number (StepTo Mender kind) len is valid front = (is, record { line = StepTo Mender kind; valid = valid; later = refl; len = len; front = front })
next_line place p number (EventLine event) len is valid front = (is, record { line = EventLine event; valid = valid; later = refl; len = len; front = front })

pub moves_line : (place after : Place) (number : ℕ) (line : Line) (len : ℕ) → after ≡ passed place (parsed.Line line len) → MovesOn place (next_of number line len) after
moves_line place after number (CallLine plus client call) len is = is
moves_line place after number (JobLine plus job) len is = tt
moves_line place after number (Steps (Client client) count) len is = is
moves_line place after number (Steps (Server server) count) len is = tt
moves_line place after number (Steps Manager count) len is = tt
moves_line place after number (Steps Cleaner count) len is = tt
moves_line place after number (Steps Mender count) len is = tt
moves_line place after number (StepTo (Client client) kind) len is = is
moves_line place after number (StepTo (Server server) kind) len is = tt
moves_line place after number (StepTo Manager kind) len is = tt
moves_line place after number (StepTo Cleaner kind) len is = tt
moves_line place after number (StepTo Mender kind) len is = tt
moves_line place after number (EventLine event) len is = tt

-- no header was read yet
pub no_line : (at : Option Geometry) (line : Line) → at ≡ None → IsLineHere at line → ⊥
no_line at line none here = subst (λ (at : Option Geometry). IsLineHere at line) none here
