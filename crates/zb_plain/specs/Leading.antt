-- A read that goes on.
use Rattle.std.specs.Prelude.{◌≡◌, true, List, [], ◌∷◌}
use Rattle.zb_types.specs.declared.requests.Response.{Response}
use Rattle.zb_stripe.specs.Reading.{Reading, fed, is_more}

-- these answers, none of which ends the read, lead from one read to another
abbrev pub LeadOn : Reading → List Response → Reading → Type 0
LeadOn first [] last = last ≡ first
LeadOn first (t ∷ ts) last = (is_more (fed first t).1 ≡ true) × LeadOn (fed first t).0 ts last
