-- The moments of a run, the span of a line, and what is seen there.
use Rattle.std.specs.Prelude.{◌≡◌, ℕ, suc, ◌+◌, ◌-◌, ◌^◌, ◌≤◌, ◌<◌, min, true, List, [], ◌∷◌, ◌++◌, take}
use Rattle.zb_types.specs.declared.lines.Line.{Line}
use Rattle.zb_types.specs.declared.lines.Said.TheVariants.{Unfinished}
use Rattle.zb_types.specs.declared.lines.Outcome.{Outcome}
use Rattle.zb_types.specs.declared.lines.Outcome.TheVariants.{Call as OfCall}
use Rattle.zb_outside.specs.Meaning.{Moment}
use Rattle.zb_claims.specs.Points.{calls, subject_of, told_of}
use Rattle.zb_claims.specs.Fits.{Clock}
use Rattle.zb_claims.specs.Text.{report_text}
use Rattle.zb_headline.specs.Sights.{Sight}
use Rattle.zb_headline.specs.Reasons.{Shown, Place, BeginsAt}

-- a run of a script with its clock: the moments that it has been through, and what images say
pub record Course : Type 1 where
  pub script : List Line
  pub clock : Clock
  pub moments : Moment → Type 0
  pub sight : Sight

-- these lines stand whole in what was printed by then
pub record Stand (front : List Outcome) (m : Moment) : Type 0 where
  pub more : List ℕ
  pub printed : m.printed ≡ report_text front ++ more

-- where the span of a line begins: with the begin of its script line, or of what follows the last; without a plus with
-- the line before it
abbrev pub SpanBegins : Course → List Outcome → Outcome → List Outcome → List Outcome → Type 0
SpanBegins c before (OfCall client n (Unfinished cause)) front rest = c.clock.over front ≡ true
SpanBegins c before (OfCall client n said) front rest = BeginsAt c.script c.clock (calls client) n front rest
SpanBegins c before line front rest = BeginsAt c.script c.clock (subject_of line) (suc (told_of (subject_of line) before)) front rest

-- a moment of the span of a line, which doesn't stand yet
pub record IsInSpan (c : Course) (before : List Outcome) (line : Outcome) (m : Moment) : Type 0 where
  pub is : c.moments m
  pub front : List Outcome
  pub rest : List Outcome
  pub split : before ≡ front ++ rest
  pub begins : SpanBegins c before line front rest
  pub stood : Stand front m
  pub still : Stand (before ++ line ∷ []) m → ⊥

-- a count rose by so much, or to its last value, from a moment at which these lines stood to one of the span
pub record HasRisen (c : Course) (count : Moment → ℕ) (front : List Outcome) (Span : Moment → Type 0) (by : ℕ) : Type 0 where
  pub first : Moment
  pub last : Moment
  pub is_first : c.moments first
  pub stood : Stand front first
  pub is_last : Span last
  pub risen : min (count first + by) (2 ^ 64 - 1) ≤ count last

-- a moment of the span has images that say this
pub record Sees (Span : Moment → Type 0) (Says : (ℕ → List ℕ) → Type 0) : Type 0 where
  pub at : Moment
  pub is : Span at
  pub says : Says at.images

-- at most so many slots of the platter are free
pub record HasFree (sight : Sight) (images : ℕ → List ℕ) (platter most : ℕ) : Type 0 where
  pub count : ℕ
  pub few : count ≤ most
  pub is : sight.free images platter count

-- some server is mending
pub record SomeMends (sight : Sight) (images : ℕ → List ℕ) : Type 0 where
  pub server : ℕ
  pub generation : ℕ
  pub mends : sight.mends images server generation

-- the server was mending at a moment of the span, and at another the members had a greater generation
pub record IsOvertaken (sight : Sight) (Span : Moment → Type 0) (server : ℕ) : Type 0 where
  pub generation : ℕ
  pub later : ℕ
  pub greater : generation < later
  pub mends : Sees Span (λ images. sight.mends images server generation)
  pub after : Sees Span (λ images. sight.generation images later)

-- What is seen at the moments of a span, behind these lines; a stripe is released where it isn't held once these others
-- are told. The write that blows a fuse is passed on to the device, whose writes a moment
-- counts; those that the blown fuse holds back aren't.
abbrev pub shown_in : Course → List Outcome → List Outcome → (Moment → Type 0) → Shown
shown_in c before told Span = record {
  rose = λ platter n. HasRisen c (λ m. m.faults platter) (take n before) Span 1;
  wrote = λ platter n k. HasRisen c (λ m. m.writes platter) (take n before) Span k;
  unfit = λ i. Sees Span (λ images. c.sight.unfit images i);
  released = λ log stripe. (m : Moment) → c.moments m → Stand told m → c.sight.holds m.images log stripe → ⊥;
  named = λ i. Sees Span (λ images. c.sight.names images i);
  mending = Sees Span (SomeMends c.sight);
  free = λ platter most. Sees Span (λ images. HasFree c.sight images platter most);
  overtaken = IsOvertaken c.sight Span;
  candidate = λ log stripe. Sees Span (λ images. c.sight.candidate images log stripe);
  none = Sees Span (λ images. (log stripe : ℕ) → c.sight.candidate images log stripe → ⊥);
  cited = λ log stripe. Sees Span (λ images. c.sight.cited images log stripe);
}

-- the place behind these lines, seen at these moments, where these lines are told in the end
abbrev pub place_in : Course → List Outcome → List Outcome → (Moment → Type 0) → Place
place_in c before told Span = record { script = c.script; clock = c.clock; before = before; shown = shown_in c before told Span }

-- the place of a line
abbrev pub place_of : Course → List Outcome → Outcome → Place
place_of c before line = place_in c before (before ++ line ∷ []) (IsInSpan c before line)

-- the place of a moment at which these lines stand
abbrev pub place_at : Course → List Outcome → Moment → Place
place_at c lines m = place_in c lines lines (λ other. other ≡ m)

-- What is seen under `threads`, from the first moment to the last: counts are taken over the whole run, and of spans
-- nothing is asked. That a platter has few free slots is as this says.
abbrev pub shown_since : Moment → Moment → (ℕ → ℕ → Type 0) → Shown
shown_since first last free = record {
  rose = λ platter n. min (first.faults platter + 1) (2 ^ 64 - 1) ≤ last.faults platter;
  wrote = λ platter n count. Unit {0};
  unfit = λ i. Unit {0};
  released = λ log stripe. Unit {0};
  named = λ i. Unit {0};
  mending = Unit {0};
  free = free;
  overtaken = λ i. Unit {0};
  candidate = λ log stripe. Unit {0};
  none = Unit {0};
  cited = λ log stripe. Unit {0};
}
