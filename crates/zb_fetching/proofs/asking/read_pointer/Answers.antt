use Rattle.std.proofs.Common.{◌≡◌, ◌+◌, ◌*◌, ◌≤◌, List, [], ◌∷◌, ◌++◌, length, take, drop, None, is_some, sym, ap, subst, ◌∙◌, arith}
use Rattle.std.specs.Prelude.{IfSome}
use Rattle.std.proofs.lemmas.Bool.{false≢true}
use Rattle.zb_holding.specs.Holding.{view_of}
use Rattle.zb_stripe.specs.declared.read_plan.Got.TheVariants as got
use Rattle.zb_stripe.specs.Reading.{start, is_more}
use Rattle.zb_plain.specs.Standing.{Entries, maps_of}
use Rattle.zb_plain.proofs.ReadAnswers.{not_ended}
use Rattle.zb_plain.proofs.ReadsOn.{not_more}
use Rattle.zb_fetching.specs.Feeding.{IsFedUnlessLost}
use Rattle.zb_fetching.proofs.Asked.{read_more, read_ends, all_answer}
use Rattle.zb_fetching.proofs.asking.read_pointer.Goals as goal

pub returns-in_default : goal.returns-in_default
returns-in_default c =
    let n = c.args.geo.now.servers in
    let f = c.args.geo.now.fragment in
    let ptr = c.args.ptr.now in
    let lost = c.args.lost in
    let maps = maps_of c.args.plain.now in
    let first = start n f ptr None in
    let read = c.answers.invariant.read in
    let one = subst (λ (servers : List Entries). IsFedUnlessLost (maps_of servers) lost c.answers.plan c.ask.new.plan c.in_ok-got.got) c.answers.invariant.same c.in_ok-got.ensures.fed in
    let ends = read_ends maps lost first c.answers.plan c.ask.new.plan c.in_ok-got.got c.answers.counter read one (not_more c.in_ok-got.got c.in_default.not-More) in
    let all = all_answer maps lost first c.answers.plan c.ask.new.plan c.in_ok-got.got c.answers.counter read one in
    record {
      bytes = λ end bytes le holds.
          subst (λ o. IfSome o (λ g. g ≡ got.Bytes (take ptr.len (drop ptr.offset bytes)))) ends
          (c.read_gives_bytes.ensures.right (view_of n f maps lost) lost None ptr end bytes (read.answers ++ one.answer ∷ []) (omega (arith, c.args.geo.now.limits.servers_low)) (omega (arith, c.args.geo.now.limits.fragment_low)) c.requires.some le tt holds all);
      same = c.ask.ensures.same ∙ c.answers.invariant.same;
    }

pub answers-preserved : goal.answers-preserved
answers-preserved c =
    let maps = maps_of c.args.plain.now in
    let lost = c.args.lost in
    let first = start c.args.geo.now.servers c.args.geo.now.fragment c.args.ptr.now None in
    let one = subst (λ (servers : List Entries). IsFedUnlessLost (maps_of servers) lost c.answers.plan c.ask.new.plan c.in_ok-got.got) c.answers.invariant.same c.in_ok-got.ensures.fed in
    record {
      same = c.ask.ensures.same ∙ c.answers.invariant.same;
      servers = c.ask.ensures.servers ∙ c.answers.invariant.servers;
      read = read_more maps lost first c.answers.plan c.ask.new.plan c.in_ok-got.got c.answers.counter c.answers.invariant.read one (ap is_more c.in-More.is);
    }

pub returns-clause-bytes : goal.returns-clause-bytes
returns-clause-bytes c end bytes le holds =
    let n = c.args.geo.now.servers in
    let f = c.args.geo.now.fragment in
    let ptr = c.args.ptr.now in
    let lost = c.args.lost in
    let maps = maps_of c.args.plain.now in
    let first = start n f ptr None in
    let read = c.answers.invariant.read in
    let none = not_ended first c.answers.plan read.answers read.lead in
    let many : (ptr.len + 1) * (n + 2) ≤ length read.answers = rw (read.long, ← c.from.ensures, ← c.from-2.ensures) c.answers-test.false in
    let some = c.read_gives_bytes.ensures.ends (view_of n f maps lost) lost None ptr end bytes read.answers (omega (arith, c.args.geo.now.limits.servers_low)) (omega (arith, c.args.geo.now.limits.fragment_low)) c.requires.some le tt holds read.all many in
    absurd (false≢true (sym (ap is_some none) ∙ some))
