use Rattle.std.proofs.Common.{◌≡◌, ℕ, ◌+◌, ◌<◌, ◌≤◌, true, ◌∙◌, ◌&&◌, List, [], Option, refl, subst}
use Rattle.std.specs.Prelude.{nat_lt}
use Rattle.std.proofs.lemmas.Bool.{cond_both}
use Rattle.zb_types.specs.declared.ids.ServerId.{ServerId}
use Rattle.zb_types.specs.declared.ids.Ptr.{Ptr}
use Rattle.zb_types.specs.declared.requests.Response.{Response}
use Rattle.zb_holding.specs.Holding.{Maps, away_at, StripeRemains, view_of}
use Rattle.zb_holding.specs.Carrying.{carried}
use Rattle.zb_stripe.specs.declared.read_plan.Got.{Got}
use Rattle.zb_stripe.specs.declared.progress.Phase.{Phase}
use Rattle.zb_stripe.specs.declared.progress.Phase.TheVariants.{Direct, Lengths, Others}
use Rattle.zb_stripe.specs.Reading.{Reading, pos_of, end_of, index_of, is_lost, entered, first_lost, start, fed}
use Rattle.zb_stripe_laws.specs.ReadAtWork.{ReadAtWork, WasLooked, TellsOfFragment, as_seen, LeadsOn, LeadsTo}
use Rattle.zb_stripe_tests.proofs.growing.a_read_goes_on_through_parity.Goals as goal

-- a read that is entered asks for no other share
entered_looked : (n : ℕ) (ptr : Ptr) (y : Option ServerId) (r : Reading) → WasLooked n ptr y (entered r).phase
entered_looked n ptr y r = cond_both (nat_lt (pos_of r) (end_of r) && is_lost r (index_of r)) Lengths Direct (WasLooked n ptr y) (λ _. tt) (λ _. tt)

always : {A : Type 0} (phase : Phase) (a : A) → as_seen phase a a ≡ a
always Direct a = refl
always Lengths a = refl
always (Others lengths sum j) a = refl

-- a read that is led on over the maps in which it began is at work over these
at_work : (maps : Maps) (y : Option ServerId) (end : ℕ) (bytes : List ℕ) (before : Reading) (t : Response) (r : Reading) → LeadsOn maps maps y y end bytes before t r → ReadAtWork maps maps y end bytes r
at_work maps y end bytes before t r on =
    subst (λ seen. ReadAtWork maps seen y end bytes r) (always before.phase maps)
    (subst (λ z. ReadAtWork maps (as_seen before.phase maps maps) z end bytes r) (always before.phase y) on.work)

pub returns-clause-led : goal.returns-clause-led
returns-clause-led c v out ptr end bytes first r two some long inside remains tells leads =
    let first_read = start v.servers v.fragment ptr out in
    subst (λ (p : Reading × Got). LeadsTo v.maps v.maps v.away v.away end bytes first_read first p.0 p.1) leads
    (c.read_goes_on.ensures.goes_on v.maps v.maps v.away v.away end bytes first_read first
    (c.read_goes_on.ensures.begins v out ptr end bytes two some long inside remains) two some inside remains
    (λ _. entered_looked v.servers ptr v.away (record { servers = v.servers; fragment = v.fragment; ptr = ptr; lost = first_lost v.servers ptr out; read = []; phase = Direct })) tells)

pub returns-clause-looked : goal.returns-clause-looked
returns-clause-looked c v out x ptr end bytes first second between r two some long inside remains tells leads lets rest looked more =
    let now = carried v.maps between in
    let on = returns-clause-led c v out ptr end bytes first r two some long inside remains tells leads in
    let work = at_work v.maps v.away end bytes (start v.servers v.fragment ptr out) first r on in
    let Then = λ (n f : ℕ) (p : Ptr). 2 ≤ n → 0 < f → p.offset + p.len ≤ end → StripeRemains (view_of n f now x) p.log p.stripe end bytes
    → (TellsOfFragment second → WasLooked n p v.away r.phase) → LeadsTo now v.maps x v.away end bytes r second (fed r second).0 (fed r second).1 in
    let goes : Then r.servers r.fragment r.ptr = λ two some inside remains looked.
    c.read_goes_on.ensures.goes_on now v.maps x v.away end bytes r second
    (c.read_goes_on.ensures.beside v.maps v.maps v.away end bytes r between two some inside lets work) two some inside remains looked more in
    subst (λ n. Then n v.fragment ptr) on.servers
    (subst (λ f. Then r.servers f ptr) on.fragment
    (subst (λ p. Then r.servers r.fragment p) on.ptr goes)) two some inside rest looked

pub returns-clause-left_out : goal.returns-clause-left_out
returns-clause-left_out c v x ptr end bytes first second between r two some long inside remains tells leads lets rest more =
    let on = returns-clause-led c v v.away ptr end bytes first r two some long inside remains tells leads in
    let work = at_work v.maps v.away end bytes (start v.servers v.fragment ptr v.away) first r on in
    let Then = λ (n f : ℕ) (p : Ptr). 2 ≤ n → 0 < f → p.offset + p.len ≤ end
    → ((k : ℕ) → k < n → away_at n v.away p.log p.stripe k ≡ true → is_lost r k ≡ true) → WasLooked n p v.away r.phase in
    let goes : Then r.servers r.fragment r.ptr = λ two some inside gone. c.read_goes_on.ensures.looked v.maps v.maps v.away end bytes r work two some inside gone in
    let looked =
    subst (λ n. Then n v.fragment ptr) on.servers
    (subst (λ f. Then r.servers f ptr) on.fragment
    (subst (λ p. Then r.servers r.fragment p) on.ptr goes)) two some inside
    (λ k l away. on.keeps k (c.read_goes_on.ensures.first v.servers v.fragment ptr v.away k l ∙ away)) in
    returns-clause-looked c v v.away x ptr end bytes first second between r two some long inside remains tells leads lets rest (λ _. looked) more
