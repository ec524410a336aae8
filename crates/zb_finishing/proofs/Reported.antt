-- Lines that may stand in a report.
use Rattle.std.proofs.Common.{◌≡◌, ℕ, zero, suc, ◌≤◌, ◌<◌, ◌^◌, List, [], ◌∷◌, ◌++◌, length, Some, sym, ◌∙◌, subst, arith}
use Rattle.std.specs.Prelude.{IsTrue}
use Rattle.std.specs.List.{AllByRecursion}
use Rattle.std.proofs.lemmas.Option.{none-some, slice_get_within}
use Rattle.zb_types.specs.Limits.{within}
use Rattle.zb_types.specs.declared.geometry.Geometry.{Geometry}
use Rattle.zb_types.specs.declared.lines.Line.{Line}
use Rattle.zb_types.specs.declared.lines.Outcome.{Outcome}
use Rattle.zb_types.specs.declared.lines.Outcome.TheVariants.{Call as OfCall, Clean as OfClean, Rebuild as OfRebuild, Event as OfEvent}
use Rattle.zb_types.specs.declared.lines.Said.{Said}
use Rattle.zb_types.specs.declared.lines.Said.TheVariants as said
use Rattle.zb_types.specs.declared.nodes.Cause.{Cause}
use Rattle.zb_types.specs.declared.nodes.Cause.TheVariants.{Unreachable, Down, NoSpace}
use Rattle.zb_claims.specs.Fits.{FitsFromBy, FitsNextBy}
use Rattle.zb_claims.specs.Points.{asked, calls}
use Rattle.zb_claims.specs.Text.{HasReply, IsOutcome, IsSaid, IsSaidReply, is_cause}
use Rattle.zb_given.specs.Given.{FitGiven, Given, calls_of, clock_of_given, script_of}
use Rattle.zb_given.specs.Gives.{about}
use Rattle.zb_given.proofs.Asking.{asked_zero, is_in_about}
use Rattle.zb_given.proofs.Staying.{counts_own}
use Rattle.zb_finishing.specs.Telling.{IsNoSpace, MaySay, MayTell, NamesGiven}

-- ---- the numbers of calls

module _ (given : Given) where
  number_within : (client number place : ℕ) (line : Line) → asked (script_of given) (calls client) number ≡ Some (place, line) → (1 ≤ number) × (number ≤ length (calls_of given client))
  number_within client zero place line is = absurd (none-some (place, line) (sym (asked_zero 0 (calls client) (script_of given)) ∙ is))
  number_within client (suc m) place line is =
      let lt = slice_get_within (about (calls client) (script_of given)) m line (is_in_about (calls client) m (script_of given) place line is) in
      let count = counts_own given client in
      (omega arith, omega (arith, lt, count))

  line_names : (before : List Outcome) (told : Outcome) → FitsNextBy (clock_of_given given) (script_of given) before told → NamesGiven given told
  line_names before (OfCall client number what) fits = number_within client number fits.place _ fits.is
  line_names before (OfClean pass) fits = tt
  line_names before (OfRebuild server end) fits = tt
  line_names before (OfEvent event answer) fits = tt

  all_name : (before lines : List Outcome) → FitsFromBy (clock_of_given given) (script_of given) before lines → AllByRecursion (NamesGiven given) lines
  all_name before [] fits = tt
  all_name before (told ∷ lines) fits = (line_names before told fits.0, all_name (before ++ told ∷ []) lines fits.1)

  last_name : (lines more : List Outcome) → AllByRecursion (NamesGiven given) (lines ++ more) → AllByRecursion (NamesGiven given) more
  last_name [] more all = all
  last_name (told ∷ lines) more all = last_name lines more all.1

  pub more_name : (lines more : List Outcome) → FitGiven given (lines ++ more) → AllByRecursion (NamesGiven given) more
  more_name lines more fit = last_name lines more (all_name [] (lines ++ more) fit.fits)

-- ---- the lines of a report

module _ (geo : Geometry) where
  cause_stands : (cause : Cause) → IsNoSpace geo.servers cause → IsTrue (is_cause geo cause)
  cause_stands (Unreachable a b) may = absurd may
  cause_stands Down may = absurd may
  cause_stands (NoSpace server) may = may

  said_stands : (what : Said) → MaySay geo.servers what → IsSaidReply what → IsSaid geo what
  said_stands (said.Reply reply) may reply_may = reply_may
  said_stands said.Buffered may reply_may = tt
  said_stands (said.Kept cause) may reply_may = cause_stands cause may
  said_stands (said.Failed cause) may reply_may = cause_stands cause may
  said_stands said.Dropped may reply_may = tt
  said_stands (said.Unfinished cause) may reply_may = cause_stands cause may

  module _ (given : Given) (client : ℕ) (own : IsTrue (within 1 geo.clients client)) (few : length (calls_of given client) < 2 ^ 64) where
    line_stands : (told : Outcome) → MayTell geo.servers client told → NamesGiven given told → HasReply told → IsOutcome geo told
    line_stands (OfCall c number what) may names reply_may =
        let high = subst (λ (k : ℕ). number ≤ length (calls_of given k)) may.0 names.1 in
        (subst (λ (k : ℕ). IsTrue (within 1 geo.clients k)) (sym may.0) own, omega (arith, high, few), said_stands what may.1 reply_may)
    line_stands (OfClean pass) may names reply_may = absurd may
    line_stands (OfRebuild server end) may names reply_may = absurd may
    line_stands (OfEvent event answer) may names reply_may = absurd may

    pub all_stand : (lines : List Outcome) → AllByRecursion (MayTell geo.servers client) lines → AllByRecursion (NamesGiven given) lines → AllByRecursion HasReply lines → AllByRecursion (IsOutcome geo) lines
    all_stand [] may names replies = tt
    all_stand (told ∷ lines) may names replies = (line_stands told may.0 names.0 replies.0, all_stand lines may.1 names.1 replies.1)
