use Rattle.std.proofs.Common.{◌≡◌, ◌-◌, ◌∙◌, ap, subst, length, arith}
use Rattle.std.proofs.lemmas.Result.{IfOk-weaker}
use Rattle.zb_stripe.specs.Reading.{read_of, with_phase, sought, PhaseIsSound, AnswersIn}
use Rattle.zb_stripe.specs.declared.progress.Phase.TheVariants.{Direct}
use Rattle.zb_holding.proofs.Exclusives.{length-xored}
use Rattle.zb_stripe.proofs.Gained.{gather_others, gather_lengths, parity_phase}
use Rattle.zb_stripe.proofs.progress.gather.Goals as goal

pub seek-requires-clause-long : goal.seek-requires-clause-long
seek-requires-clause-long c =
    let r = read_of c.args.source.now c.args.lost.now c.args.p.now in
    let s = subst (PhaseIsSound r) c.in-Others.is c.requires.sound.phase in
    ap length c.in_ok-sum-in-Others.ensures ∙ length-xored c.in-Others.sum c.in-Bytes.bytes ∙ s.long

pub returns-in_ok-sum-in-Others-clause-gathered : goal.returns-in_ok-sum-in-Others-clause-gathered
returns-in_ok-sum-in-Others-clause-gathered c =
    let r = read_of c.args.source.now c.args.lost.now c.args.p.now in
    IfOk-weaker c.seek.result _ _
    (λ new e. gather_others r (read_of c.args.source.now c.args.lost.now new) c.args.response.now c.in-Others.lengths c.in-Others.sum c.in-Bytes.bytes c.in_ok-sum-in-Others.sum c.in-Others.index c.in-Others.is c.in-Bytes.is c.in_ok-sum-in-Others.ensures e)
    c.seek.ensures.sought

pub returns-in_ok-sum-in-Parity-clause-gathered : goal.returns-in_ok-sum-in-Parity-clause-gathered
returns-in_ok-sum-in-Parity-clause-gathered c =
    let r = read_of c.args.source.now c.args.lost.now c.args.p.now in
    let all : r.servers - 1 - 0 ≡ r.servers - 1 = omega arith in
    IfOk-weaker c.seek-in-Parity.result _ _
    (λ new e. gather_lengths r (read_of c.args.source.now c.args.lost.now new) c.args.response.now c.in-Parity.lengths c.in-Parity.bytes c.in_ok-sum-in-Parity.sum
    (parity_phase r c.args.p.now.phase c.in-Parity.lengths c.in-Parity.bytes (subst (AnswersIn r c.args.p.now.phase) c.in-Parity.is c.requires.can.answers)) c.in-Parity.is c.in_ok-sum-in-Parity.ensures
    (e ∙ ap (sought (with_phase r Direct) c.in-Parity.lengths c.in_ok-sum-in-Parity.sum) all))
    c.seek-in-Parity.ensures.sought
