use Rattle.std.proofs.Common.{◌∷◌, ◌++◌, [], List, ℕ, refl, sym, ap, ◌∙◌, subst}
use Rattle.zb_stripe.specs.declared.flush.Fresh.{Fresh}
use Rattle.zb_stripe.specs.Fresh.{IsFresh, AreFresh}
use Rattle.zb_fetching.specs.Stores.{first_flush}
use Rattle.zb_fetching.proofs.storing.first_bytes_of.Goals as goal

pub returns-clause-fresh : goal.returns-clause-fresh
returns-clause-fresh c =
    let n = c.args.geo.now.servers in
    let f = c.args.geo.now.fragment in
    let made = c.in_ok-of.field-0 in
    record {
      log = refl;
      parts = subst (AreFresh n f (first_flush c.args.log c.args.stripe c.args.bytes.now).parts) (sym (c.in_ok-push.ensures.ok ∙ ap (λ (xs : List Fresh). xs ++ made ∷ []) c.in_ok-parts.ensures))
          (subst (λ (bytes : List ℕ). IsFresh n f (record { stripe = c.args.stripe; begin = 0; bytes = bytes }) made) c.in_ok-from_slice.ensures c.in_ok-of.ensures.fresh, tt);
    }
