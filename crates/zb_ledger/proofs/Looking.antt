-- Reads that are looked up, and that the history is legal.
use Rattle.std.proofs.Common.{◌≡◌, ℕ, ◌+◌, List, length, Option, Some, None, sym, ap, subst, ◌∙◌, arith, inl, inr, length-set, get_or-set_same, get_or-set_other, take}
use Rattle.std.proofs.lemmas.Bool.{cases_eq}
use Rattle.std.proofs.Math.Seq.{take-length}
use Rattle.std.proofs.lemmas.Option.{same_Some}
use Rattle.zb_types.specs.declared.lines.Outcome.{Outcome}
use Rattle.zb_types.specs.History.{AreReplies}
use Rattle.zb_types.specs.Tree.{first_tree}
use Rattle.zb_claims.specs.Points.{dids}
use Rattle.zb_given.specs.Given.{Given, script_of}
use Rattle.zb_given.specs.Calls.{LookedUp}
use Rattle.zb_given.specs.Telling.{IsOfNow}
use Rattle.zb_given.proofs.RunLifting.{tells_legal_given}
use Rattle.zb_ledger.specs.Seen.{SeenLedger, looked_now}
use Rattle.zb_ledger.specs.Keeps.{IsCounted, LooksBack, KeepsHistory, KeepsLook, KeepsRead, CountsRead, KeepsLegal}

pub counts_read : CountsRead
counts_read given lines at_work ledger i read e k = (k.looked i read e).counted

-- a read that was looked up where all lines stand
looks_at_end : (given : Given) (lines : List Outcome) (ledger : SeenLedger) (client : ℕ) (read : LookedUp) → read.at ≡ length lines → IsCounted given lines ledger client None → LooksBack given lines ledger client read
looks_at_end given lines ledger client read here now = record {
  stood = omega (arith, here);
  counted = now ∙ ap (λ (l : List Outcome). length (dids (script_of given) l)) (sym (ap (λ (n : ℕ). take n lines) here ∙ take-length lines));
}

looks_now : (given : Given) (lines : List Outcome) (ledger : SeenLedger) (client : ℕ) (at : Option LookedUp) (read : LookedUp) → IsOfNow at lines → at ≡ Some read → IsCounted given lines ledger client None → LooksBack given lines ledger client read
looks_now given lines ledger client None read of_now e now = absurd cc
looks_now given lines ledger client (Some other) read of_now e now = looks_at_end given lines ledger client read (ap (λ (r : LookedUp). r.at) (sym (same_Some other read e)) ∙ of_now) now

pub keeps_read : KeepsRead
keeps_read given lines old new ledger i others of_now now k = record {
  counts = k.counts;
  waiting = k.waiting;
  updates = k.updates;
  answers = k.answers;
  seen = k.seen;
  looked = λ j read e. elim (cases_eq j i) as (λ _. LooksBack given lines ledger (j + 1) read) [
    | inl same ↦ subst (λ (n : ℕ). LooksBack given lines ledger (n + 1) read) (sym same) (looks_now given lines ledger (i + 1) (new i) read of_now (ap new (sym same) ∙ e) now)
    | inr ne ↦ k.looked j read (sym (others j ne) ∙ e)
  ];
  count_places = k.count_places;
  look_places = k.look_places;
}

pub keeps_look : KeepsLook
keeps_look given lines old new ledger i own others of_now k = (keeps_all, now)
  where
    now : IsCounted given lines (looked_now ledger (i + 1)) (i + 1) None
    now = get_or-set_same ledger.looked (i + 1) (length ledger.updates) 0 (omega (arith, own, k.look_places)) ∙ ap length k.updates

    keeps_all : KeepsHistory given lines new (looked_now ledger (i + 1))
    keeps_all = record {
      counts = k.counts;
      waiting = k.waiting;
      updates = k.updates;
      answers = k.answers;
      seen = k.seen;
      looked = λ j read e. elim (cases_eq j i) as (λ _. LooksBack given lines (looked_now ledger (i + 1)) (j + 1) read) [
        | inl same ↦ subst (λ (n : ℕ). LooksBack given lines (looked_now ledger (i + 1)) (n + 1) read) (sym same) (looks_now given lines (looked_now ledger (i + 1)) (i + 1) (new i) read of_now (ap new (sym same) ∙ e) now)
        | inr ne ↦ let l = k.looked j read (sym (others j ne) ∙ e) in
            record { stood = l.stood; counted = get_or-set_other ledger.looked (i + 1) (j + 1) (length ledger.updates) 0 (λ e. ne (omega (arith, e))) ∙ l.counted }
      ];
      count_places = k.count_places;
      look_places = length-set ledger.looked (i + 1) (length ledger.updates) ∙ k.look_places;
    }

pub keeps_legal : KeepsLegal
keeps_legal given lines at_work ledger g k = record {
  updates = subst (AreReplies first_tree) (sym k.updates) (tells_legal_given given lines g).0.legal.updates;
  reads = k.seen;
}
