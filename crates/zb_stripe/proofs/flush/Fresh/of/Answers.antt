use Rattle.std.proofs.Common.{◌≡◌, [], ◌-◌, List, ℕ, length, take, drop, length-drop, refl, ap, ◌∙◌, arith}
use Rattle.std.proofs.lemmas.List.{take_all}
use Rattle.zb_stripe.specs.Writing.{parity_upto}
use Rattle.zb_stripe.proofs.Making.{parity_none}
use Rattle.zb_stripe.proofs.flush.Fresh.of.Goals as goal

-- a slice up to the end
slice_end : (begin : ℕ) (slice bytes : List ℕ) → slice ≡ bytes → take (length slice - begin) (drop begin slice) ≡ drop begin bytes
slice_end begin slice bytes is = take_all (length slice - begin) (drop begin slice) (omega (arith, length-drop begin slice)) ∙ ap (drop begin) is

pub returns-clause-fresh : goal.returns-clause-fresh
returns-clause-fresh c =
    let n = c.args.geo.now.servers in
    let f = c.args.geo.now.fragment in
    record {
      stripe = refl;
      begin = refl;
      bytes = c.in_ok-from_slice.ensures ∙ slice_end c.args.part.now.begin c.slice-bytes.result.now c.args.part.now.bytes c.slice-bytes.ensures;
      parity = c.in_ok-grow_parity.ensures [] refl (parity_none n f (omega (arith, c.args.geo.now.limits.servers_low))) ∙ ap (parity_upto n f) c.slice-bytes.ensures;
    }
