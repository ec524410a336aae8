-- A client that looks files up.
use Rattle.std.proofs.Common.{◌≡◌, ℕ, ◌<◌, Bool, true, false, List, [], ◌∷◌, length, Option, Some, None, refl, sym, ap, ◌∙◌, subst, arith}
use Rattle.std.specs.Prelude.{if◌then◌else◌}
use Rattle.zb_types.specs.declared.calls.Call.{Call}
use Rattle.zb_types.specs.declared.calls.Call.TheVariants as call
use Rattle.zb_types.specs.declared.calls.Reply.{Reply}
use Rattle.zb_types.specs.declared.tables.Found.{Found}
use Rattle.zb_types.specs.Apply.{is_update, reply_to}
use Rattle.zb_tables.specs.Tables.{Contents, shown_tree}
use Rattle.zb_manager.specs.Managers.{SeenManager}
use Rattle.zb_manager.specs.Seen.{held_by}
use Rattle.zb_servers.specs.Standing.{SeenServers}
use Rattle.zb_turns.specs.Turns.{other_holder, reads_names}
use Rattle.zb_basis.specs.declared.asks.Ask.{Ask}
use Rattle.zb_basis.specs.declared.calls.Numbered.{Numbered}
use Rattle.zb_basis.specs.Looking.{room_of}
use Rattle.zb_work.specs.declared.work.Aim.{Aim}
use Rattle.zb_work.specs.declared.work.Aim.TheVariants as aim
use Rattle.zb_work.specs.declared.work.Step.TheVariants as step
use Rattle.zb_work.specs.declared.work.Task.{Task}
use Rattle.zb_work.specs.Fitting.{AimFits, BeginsRead, FoundFor}
use Rattle.zb_work.specs.Steps.{aim_of}
use Rattle.zb_client.specs.declared.steps.Answer.{Answer}
use Rattle.zb_client.specs.declared.steps.Answer.TheVariants as answer
use Rattle.zb_client.specs.declared.steps.Lookup.{Lookup}
use Rattle.zb_client.specs.declared.steps.Lookup.TheVariants.{Files, Names}
use Rattle.zb_client.specs.declared.steps.Turn.TheVariants as turn
use Rattle.zb_client.specs.declared.steps.Wish.TheVariants as wish
use Rattle.zb_client.specs.Answering.{Answers, AnswersLookup, AnswersTask}
use Rattle.zb_client.specs.Hearing.{Hears, HearsLookup, HearsTask, Wears}
use Rattle.zb_client.specs.Seen.{SeenClient}
use Rattle.zb_client.specs.Telling.{Heard}
use Rattle.zb_client.specs.Wishing.{lookup_of, queue_lookup, read_lookup}
use Rattle.zb_client_laws.specs.Around.{Around}
use Rattle.zb_client_laws.specs.Effects.{founds}
use Rattle.zb_client_laws.proofs.Looking.{may_find}
use Rattle.zb_system.specs.Nodes.{SeenNodes}
use Rattle.zb_system.specs.Steps.{Does, LooksUp}
use Rattle.zb_nodes.specs.declared.answers.Halt.{Halt}
use Rattle.zb_nodes.specs.declared.answers.Halt.TheVariants as halt
use Rattle.zb_nodes.specs.Among.{MayStep, met, nodes}
use Rattle.zb_nodes.specs.Halting.{HasHalted, LookupWears, OnWorn}
use Rattle.zb_nodes.specs.Moving.{DoesNext}
use Rattle.zb_nodes.specs.Wished.{IsAtLookup}
use Rattle.zb_nodes.proofs.Rows.{answers_at, does_at, hears_at}
use Rattle.zb_nodes.proofs.Wishes.{wish_at}

module _ (m : SeenManager) (s : SeenServers) (c : SeenClient) (may : MayStep m s c) (hold : Bool) (asks : List Ask) (at : IsAtLookup c (Files hold asks)) where
  abbrev W : Around
  W = met m s may.among.contents may.among.tree

  finds : FoundFor c.block (room_of c.servers c.fragment) c.kept c.queue (founds m.tables asks)
  finds = may_find s.slots W may.among.stands may.among.seen c may.known may.among.sound at.task at.is at.at asks hold at.looks

  module _ (found : List Found) (are : found ≡ founds m.tables asks) where
    abbrev Told : Answer
    Told = answer.Found found

    pub lookup_answers : Answers c Told
    lookup_answers =
        answers_at c at.task step.Lookup at.is at.at Told
        (subst (λ (l : Lookup). AnswersLookup c l Told) (sym at.looks)
        (subst (FoundFor c.block (room_of c.servers c.fragment) c.kept c.queue) (sym are) finds, may.among.sound.settled))

    pub lookup_does : (heard : Heard) (after : SeenManager) → Hears c Told heard → (hold ≡ true → other_holder c.client m.holder ≡ None)
        → after ≡ (if hold then held_by (Some c.client) m else m) → (n : SeenServers) → DoesNext m n c after n heard
    lookup_does heard after hears unblocked is n = λ clients others.
        does_at c at.task step.Lookup at.is at.at (nodes clients m n) (nodes others after n) heard
        (subst (λ (l : Lookup). LooksUp (nodes clients m n) (nodes others after n) c at.task l heard) (sym at.looks) (
          record { unblocked = unblocked; manager = is; servers = refl },
          subst (λ (fs : List Found). HearsLookup c (answer.Found fs) heard) are (hears_at c at.task step.Lookup at.is at.at Told heard hears),
        ))

    pub lookup_halts : (halted : Halt) → HasHalted c Told halted → OnWorn (LookupWears m c) halted
    lookup_halts halt.NoMemory why = tt
    lookup_halts (halt.Worn field) why = record {
      field_is = why.0;
      hold = hold;
      asks = asks;
      wish = wish_at c at.task step.Lookup at.is at.at ∙ ap (λ (l : Lookup). wish.Turn (turn.Lookup l)) at.looks;
      wears = subst (λ (fs : List Found). Wears c (answer.Found fs)) are why.1;
    }
