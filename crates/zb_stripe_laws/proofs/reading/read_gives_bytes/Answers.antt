use Rattle.std.proofs.Common.{[], subst, sym, ap, ◌∙◌, arith, ◌≡◌, ◌<◌, ℕ, true, false, Option, Some, None, get_or, take, drop}
use Rattle.std.proofs.lemmas.Bool.{false≢true}
use Rattle.zb_types.specs.declared.ids.ServerId.{ServerId}
use Rattle.zb_types.specs.declared.ids.Ptr.{Ptr}
use Rattle.zb_holding.specs.Placing.{frag_id, server_of}
use Rattle.zb_holding.specs.Holding.{is_away}
use Rattle.std.specs.Prelude.{IfSome, IsSome}
use Rattle.zb_stripe.specs.declared.read_plan.Got.TheVariants as got
use Rattle.zb_stripe.specs.Reading.{Reading, answered, first_lost}
use Rattle.zb_stripe_laws.specs.ReadAtWork.{AllAnswer, IsOutOf}
use Rattle.zb_stripe_laws.proofs.Gathering.{starts, gathers, comes_to_end}
use Rattle.zb_stripe_laws.proofs.reading.read_gives_bytes.Goals as goal

-- a server that is lost as a read starts is the one that may be down
only : (n : ℕ) (ptr : Ptr) (out z : Option ServerId) → ((k : ℕ) → k < n → get_or (first_lost n ptr out) k false ≡ true → is_away out (server_of n (frag_id ptr.log ptr.stripe k)) ≡ true) → IsOutOf out z
    → (k : ℕ) → k < n → get_or (first_lost n ptr out) k false ≡ true → is_away z (server_of n (frag_id ptr.log ptr.stripe k)) ≡ true
only n ptr None z known is k l e = absurd (false≢true (known k l e))
only n ptr (Some a) z known is k l e = ap (λ (o : Option ServerId). is_away o (server_of n (frag_id ptr.log ptr.stripe k))) is ∙ known k l e

pub returns-clause-right : goal.returns-clause-right
returns-clause-right c v z out ptr end bytes responses two some long inside is held all =
    let s = starts v.servers v.fragment v.maps v.away ptr end bytes two some inside out long in
    subst (λ (r : Reading). IfSome (answered r responses) (λ g. g ≡ got.Bytes (take ptr.len (drop ptr.offset bytes)))) (sym s.is)
    (gathers v.servers v.fragment v.maps v.away z ptr end bytes two some inside held responses (first_lost v.servers ptr out) [] s.phase s.so_far (only v.servers ptr out z s.known is) s.fits (subst (λ (r : Reading). AllAnswer v.maps v.away z r responses) s.is all))

pub returns-clause-ends : goal.returns-clause-ends
returns-clause-ends c v z out ptr end bytes responses two some long inside is held all enough =
    let s = starts v.servers v.fragment v.maps v.away ptr end bytes two some inside out long in
    let bound = s.bound in
    subst (λ (r : Reading). IsSome (answered r responses)) (sym s.is)
    (comes_to_end v.servers v.fragment v.maps v.away z ptr end bytes two some inside held responses (first_lost v.servers ptr out) [] s.phase s.so_far (only v.servers ptr out z s.known is) s.fits (subst (λ (r : Reading). AllAnswer v.maps v.away z r responses) s.is all) (omega arith))
