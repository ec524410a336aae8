use Rattle.std.proofs.Common.{[], false, subst, sym, arith}
use Rattle.std.proofs.lemmas.List.FromFn.{get_or-map-range_with_len}
use Rattle.zb_holding.specs.Placing.{frag_id, server_of}
use Rattle.zb_holding.specs.Holding.{is_away}
use Rattle.zb_stripe.specs.Reading.{first_lost}
use Rattle.zb_stripe_laws.specs.ReadAtWork.{ReadAtWork}
use Rattle.zb_stripe_laws.proofs.Gathering.{starts}
use Rattle.zb_stripe_laws.proofs.Ongoing.{at_work, starts_clear, was_looked, goes_on, gone_other, stays, beside_request}
use Rattle.zb_stripe_laws.proofs.Taking.{may_be_fed}
use Rattle.zb_stripe_laws.proofs.reading.read_goes_on.Goals as goal

pub returns-clause-begins : goal.returns-clause-begins
returns-clause-begins c v out ptr end bytes two some long inside remains =
    let s = starts v.servers v.fragment v.maps v.away ptr end bytes two some inside out long in
    subst (ReadAtWork v.maps v.maps v.away end bytes) (sym s.is)
    (at_work v.servers v.fragment ptr end two some inside v.maps v.maps v.away v.away bytes remains (first_lost v.servers ptr out) [] s.phase s.so_far s.fits
    (starts_clear v.servers v.fragment ptr end two some inside v.maps v.maps v.away v.away bytes remains out s.phase s.known s.fits))

pub returns-clause-first : goal.returns-clause-first
returns-clause-first c n f ptr out k l = get_or-map-range_with_len (λ i. is_away out (server_of n (frag_id ptr.log ptr.stripe i))) 0 n k k false l (omega arith)

pub returns-clause-stays : goal.returns-clause-stays
returns-clause-stays c now new seen y end bytes other r work two some inside same longer =
    stays r.servers r.fragment r.ptr end two some inside now new seen y bytes other same r.lost r.read r.phase work longer

pub returns-clause-beside : goal.returns-clause-beside
returns-clause-beside c now seen y end bytes r asked two some inside lets work = beside_request now asked r end bytes two some inside lets seen y work

pub returns-clause-fits : goal.returns-clause-fits
returns-clause-fits c now seen x y end bytes r one response work two some inside remains stands tells =
    may_be_fed r.servers r.fragment r.ptr end two some inside now seen x y bytes remains r.lost r.read r.phase response work one stands tells

pub returns-clause-looked : goal.returns-clause-looked
returns-clause-looked c now seen y end bytes r work two some inside gone =
    was_looked r.servers r.fragment r.ptr end two some inside now seen y bytes r.lost r.read r.phase work gone

pub returns-clause-goes_on : goal.returns-clause-goes_on
returns-clause-goes_on c now seen x y end bytes r response work two some inside remains looked tells =
    goes_on r.servers r.fragment r.ptr end two some inside now seen x y bytes remains r.lost r.read r.phase response work looked tells

pub returns-clause-gone : goal.returns-clause-gone
returns-clause-gone c now seen x y end bytes r response work two some inside held tells gone =
    gone_other r.servers r.fragment r.ptr end two some inside now seen x y bytes held r.lost r.read r.phase response work tells gone
