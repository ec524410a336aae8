-- A client whose log rests, and where its next flush begins.
use Rattle.std.proofs.Common.{◌≡◌, ℕ, ◌+◌, ◌-◌, ◌<◌, ◌≤◌, Bool, true, false, eqb, List, [], Option, Some, None, refl, sym, ◌∙◌, subst, arith}
use Rattle.std.specs.Prelude.{◌&&◌, if◌then◌else◌, All}
use Rattle.std.specs.Bool.{MatchBool}
use Rattle.std.proofs.lemmas.Bool.{eqb-true}
use Rattle.zb_types.specs.declared.ids.LogId.{LogId}
use Rattle.zb_stripe.specs.declared.flush.Flush.{Flush}
use Rattle.zb_stripe.specs.Writing.{StripesRise}
use Rattle.zb_log.specs.Logs.{AreGiven, SeenLog, renewed}
use Rattle.zb_log.specs.Sealing.{GoesNext}
use Rattle.zb_log.proofs.Parting.{none_given}
use Rattle.zb_tables.specs.Taking.{stripe_room}
use Rattle.zb_sound.specs.Delivering.{FlushBegins, MayGoOn, allowed}
use Rattle.zb_sound.specs.LastFlush.{LastFlush, NothingFrom, Phase, behind}
use Rattle.zb_sound.specs.LogsCurrent.{LogIsCurrent}
use Rattle.zb_sound.specs.OldStripes.{CopiesAreCurrent}
use Rattle.zb_sound.proofs.Currents.{anew_current}
use Rattle.zb_sound.proofs.Placed.{anew_begins, behind_begins}
use Rattle.zb_basis.specs.Forming.{log_from}
use Rattle.zb_forming_laws.specs.Resting.{AreShort}
use Rattle.zb_work.specs.declared.work.Flushed.{Flushed}
use Rattle.zb_client.specs.Seen.{IsLogOf, SeenClient}
use Rattle.zb_client.specs.Hearing.{behind as behind_flush}
use Rattle.zb_client_laws.specs.Around.{Around, IsAround, at_rest}
use Rattle.zb_client_laws.specs.Known.{HasSizes}
use Rattle.zb_client_laws.specs.Logging.{HasEnded, RestsAt}

-- what holds of a client whose log rests
pub record AtRest (w : Around) (c : SeenClient) : Type 0 where
  pub sizes : HasSizes w.z c
  pub settled : c.doubted ≡ 0
  pub short : AreShort c.kept
  pub short_queue : AreShort c.queue
  pub numbered : 1 ≤ c.batch
  pub log_is : IsLogOf c.servers c.fragment c.block c.log.log c.log
  pub last : Option ℕ
  pub generation : ℕ
  pub at : ℕ
  pub front : ℕ
  pub phase : Phase
  pub current : LogIsCurrent w.tables c.log.log c.client (c.batch - 1) last generation at front
  pub flush : LastFlush w.z w.contents w.st w.tables.held (allowed w.tables.members) c.log.log front phase
  pub rests : RestsAt c.log c.flushed generation at front phase
  pub cached : CopiesAreCurrent w.contents w.tables.held c.cache.entries

module _ (slots : ℕ) (w : Around) (a : IsAround slots w) (c : SeenClient) (r : AtRest w c) where
  two : 2 ≤ w.z.servers
  two = let l = a.limits.servers_low in omega arith

  some : 0 < w.z.fragment
  some = let l = a.limits.fragment_low in omega arith

  -- where the next flush goes in this log: these bytes were given of its stripe, and a flush that goes next may begin
  pub record Goes (log : SeenLog) : Type 0 where
    pub given : List ℕ
    pub are : AreGiven log given
    pub at : ℕ
    pub above : at ≤ log.next.stripe
    pub reached : r.front ≤ log.next.stripe + 1
    pub current : LogIsCurrent w.tables log.log c.client (c.batch - 1) r.last w.tables.members.generation at r.front
    pub last : LastFlush w.z w.contents w.st w.tables.held (allowed w.tables.members) log.log r.front r.phase
    pub begins : (flush : Flush) → flush.log ≡ log.log → All (GoesNext (stripe_room w.z) log.next.stripe given) flush.parts → StripesRise flush.parts
        → FlushBegins w.z w.contents w.st w.tables.held (allowed w.tables.members) None flush

  -- anew, in a stripe of which nothing was delivered
  anew_goes : (log : SeenLog) → log.log ≡ c.log.log → r.front ≤ log.next.stripe → AreGiven log [] → Goes log
  anew_goes log same le are = record {
    given = [];
    are = are;
    at = log.next.stripe;
    above = omega arith;
    reached = omega arith;
    current =
        subst (λ (l : LogId). LogIsCurrent w.tables l c.client (c.batch - 1) r.last w.tables.members.generation log.next.stripe r.front) (sym same)
        (anew_current w.tables c.log.log c.client (c.batch - 1) r.last r.generation r.at r.front r.current log.next.stripe le);
    last = subst (λ (l : LogId). LastFlush w.z w.contents w.st w.tables.held (allowed w.tables.members) l r.front r.phase) (sym same) r.flush;
    begins = λ flush is nexts rise.
        anew_begins w.z w.contents (at_rest w.tables) w.st w.tables w.tree (allowed w.tables.members) r.front flush a.stands two some
        (subst (λ (l : LogId). NothingFrom w.st.maps l r.front) (sym (is ∙ same)) r.flush.nothing) None rise (λ x may. tt) log.next.stripe le nexts;
  }

  -- behind the last part, where the generation is the same
  behind_goes : (last : Flushed) → last.generation ≡ w.tables.members.generation → HasEnded c.log last r.generation r.at r.phase → Goes c.log
  behind_goes last same e = record {
    given = e.part.bytes;
    are = e.goes_on.given;
    at = r.at;
    above = (let le = e.above in let is = e.goes_on.stripe in omega (arith, is));
    reached = (let le = flush_is.reached e.part ([], refl) in let is = e.goes_on.stripe in omega (arith, is));
    current = subst (λ (g : ℕ). LogIsCurrent w.tables c.log.log c.client (c.batch - 1) r.last g r.at r.front) (sym e.generation_is ∙ same) r.current;
    last = r.flush;
    begins = λ flush is nexts rise.
        behind_begins w.z w.contents (at_rest w.tables) w.st w.tables w.tree (allowed w.tables.members) r.front flush a.stands two some
        (subst (λ (l : LogId). NothingFrom w.st.maps l r.front) (sym is) r.flush.nothing) None rise (λ x may. tt) e.part (flush_is.reached e.part ([], refl))
        (subst (λ (l : LogId). MayGoOn w.z w.contents w.st w.tables.held (allowed w.tables.members) l e.part) (sym is) flush_is.stands)
        (subst (λ (s : ℕ). All (GoesNext (stripe_room w.z) s e.part.bytes) flush.parts) e.goes_on.stripe nexts);
  } where
    flush_is : LastFlush w.z w.contents w.st w.tables.held (allowed w.tables.members) c.log.log r.front (behind e.part)
    flush_is = subst (λ (p : Phase). LastFlush w.z w.contents w.st w.tables.held (allowed w.tables.members) c.log.log r.front p) e.phase_is r.flush

  renewed_goes : (stripe : ℕ) → r.front ≤ stripe + 1 → Goes (renewed c.log stripe)
  renewed_goes stripe le = anew_goes (renewed c.log stripe) refl le (none_given (renewed c.log stripe) (servers_two c.log.servers r.log_is.servers) refl refl) where
    servers_two : (n : ℕ) → n ≡ c.servers → 2 ≤ n
    servers_two n e = let t = two in let q = r.sizes.servers in omega (arith, e, q, t)

  goes_by : (last : Flushed) (ended same : Bool) → MatchBool ended (HasEnded c.log last r.generation r.at r.phase) (r.front ≤ last.stripe + 1)
      → eqb last.generation w.tables.members.generation ≡ same → Goes (log_from c.log (if ended && same then None else Some last.stripe))
  goes_by last true true e is = behind_goes last (eqb-true last.generation w.tables.members.generation is) e
  goes_by last true false e is = renewed_goes last.stripe (let le = flush_is.reached e.part ([], refl) in let q = e.stripe_is in omega (arith, q)) where
    flush_is : LastFlush w.z w.contents w.st w.tables.held (allowed w.tables.members) c.log.log r.front (behind e.part)
    flush_is = subst (λ (p : Phase). LastFlush w.z w.contents w.st w.tables.held (allowed w.tables.members) c.log.log r.front p) e.phase_is r.flush
  goes_by last false same e is = renewed_goes last.stripe e

  goes_of : (flushed : Option Flushed) → RestsAt c.log flushed r.generation r.at r.front r.phase → Goes (log_from c.log (behind_flush flushed w.tables.members.generation))
  goes_of None rests = anew_goes c.log refl rests.0 rests.1
  goes_of (Some last) rests = goes_by last last.ended (eqb last.generation w.tables.members.generation) rests refl

  pub goes : Goes (log_from c.log (behind_flush c.flushed w.tables.members.generation))
  goes = goes_of c.flushed r.rests
