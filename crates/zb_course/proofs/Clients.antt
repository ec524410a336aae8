-- A ledger is of as many clients, whatever is told.
use Rattle.std.proofs.Common.{◌≡◌, ◌≢◌, ℕ, List, [], ◌∷◌, ◌++◌, reverse, Some, refl, ap, ◌∙◌, inl, inr}
use Rattle.std.specs.Prelude.{◌⊎◌}
use Rattle.std.proofs.lemmas.List.{reverse-append, reverse-reverse}
use Rattle.std.proofs.lemmas.Option.{same_Some}
use Rattle.zb_types.specs.declared.lines.Kind.{Kind}
use Rattle.zb_types.specs.declared.lines.Kind.TheVariants as kind
use Rattle.zb_types.specs.declared.lines.Outcome.{Outcome}
use Rattle.zb_types.specs.declared.lines.Outcome.TheVariants.{Call as OfCall, Clean as OfClean, Rebuild as OfRebuild, Event as OfEvent}
use Rattle.zb_types.specs.declared.lines.Said.{Said}
use Rattle.zb_types.specs.declared.lines.Said.TheVariants.{Reply as Replied, Buffered, Kept, Failed, Dropped, Unfinished}
use Rattle.zb_ledger.specs.Seen.{SeenLedger, looked_now, said_of, told, told_all, with_line}
use Rattle.zb_course.specs.Steps.{LooksAt, told_lines}
use Rattle.zb_course.proofs.Going.{is_fetching}

said_clients : (ledger : SeenLedger) (client n : ℕ) (said : Said) → (said_of ledger client n said).clients ≡ ledger.clients
said_clients ledger client n (Replied reply) = refl
said_clients ledger client n Buffered = refl
said_clients ledger client n (Kept cause) = refl
said_clients ledger client n (Failed cause) = refl
said_clients ledger client n Dropped = refl
said_clients ledger client n (Unfinished cause) = refl

line_clients : (ledger : SeenLedger) (line : Outcome) → (with_line ledger line).clients ≡ ledger.clients
line_clients ledger (OfCall client n said) = said_clients ledger client n said
line_clients ledger (OfClean pass) = refl
line_clients ledger (OfRebuild server end) = refl
line_clients ledger (OfEvent event answer) = refl

pub line_clients_told : (ledger : SeenLedger) (line : Outcome) → (told ledger line).clients ≡ ledger.clients
line_clients_told ledger line = line_clients ledger line

pub all_clients : (ledger : SeenLedger) (client : ℕ) (lines : List Outcome) → (told_all ledger client lines).clients ≡ ledger.clients
all_clients ledger client [] = refl
all_clients ledger client (line ∷ lines) = all_clients (looked_now (told ledger line) client) client lines ∙ line_clients ledger line

pub told_clients : (ledger : SeenLedger) (client : ℕ) (lines : List Outcome) → (told_lines ledger client lines).clients ≡ ledger.clients
told_clients ledger client lines = all_clients _ client lines

pub looked_clients : (k : Kind) (old new : SeenLedger) (client : ℕ) → LooksAt (Some k) old new client → new.clients ≡ old.clients
looked_clients k old new client at = by (is_fetching k) where
  by : (k ≡ kind.Fetch) ⊎ (k ≢ kind.Fetch) → new.clients ≡ old.clients
  by (inl e) = ap (λ (l : SeenLedger). l.clients) (at.reads (ap Some e))
  by (inr ne) = ap (λ (l : SeenLedger). l.clients) (at.looks (λ e. ne (same_Some k kind.Fetch e)))

-- Lines that are taken from the back of their reverse.

pub last_first : (lines : List Outcome) (line : Outcome) → reverse (lines ++ line ∷ []) ≡ line ∷ reverse lines
last_first lines line = reverse-append lines (line ∷ [])

pub twice : (lines : List Outcome) → reverse (reverse lines) ≡ lines
twice lines = reverse-reverse lines
