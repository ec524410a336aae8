use Rattle.std.proofs.Common.{◌≡◌, ◌+◌, ◌*◌, ◌≤◌, List, [], ◌∷◌, ◌++◌, length, take, drop, None, is_some, sym, ap, subst, ◌∙◌, arith}
use Rattle.std.specs.Prelude.{IfSome, unwrap_or}
use Rattle.std.proofs.lemmas.Bool.{false≢true}
use Rattle.zb_holding.specs.Holding.{view_of}
use Rattle.zb_stripe.specs.declared.read_plan.Got.TheVariants as got
use Rattle.zb_stripe.specs.Reading.{start, is_more}
use Rattle.zb_plain.specs.Standing.{Entries, maps_of}
use Rattle.zb_plain.specs.Delivering.{IsFed}
use Rattle.zb_plain.proofs.ReadAnswers.{not_ended}
use Rattle.zb_plain.proofs.ReadsOn.{read_more, read_ends, all_answer, not_more}
use Rattle.zb_plain.proofs.servers.PlainServers.read.Goals as goal

pub returns-in_default : goal.returns-in_default
returns-in_default c =
    let n = c.args.geo.now.servers in
    let f = c.args.geo.now.fragment in
    let ptr = c.args.ptr.now in
    let maps = maps_of c.args.self.now in
    let first = start n f ptr None in
    let read = c.answers.invariant.read in
    let one = subst (λ (servers : List Entries). IsFed (maps_of servers) c.answers.plan c.ask.new.plan c.in_ok-got.got) c.answers.invariant.same c.in_ok-got.ensures.fed in
    let ends = read_ends maps first c.answers.plan c.ask.new.plan c.in_ok-got.got c.answers.counter read one (not_more c.in_ok-got.got c.in_default.not-More) in
    let all = all_answer maps first c.answers.plan c.ask.new.plan c.in_ok-got.got c.answers.counter read one in
    record {
      bytes = λ end bytes le holds.
          subst (λ o. IfSome o (λ g. g ≡ got.Bytes (take ptr.len (drop ptr.offset bytes)))) ends
          (c.read_gives_bytes.ensures.right (view_of n f maps None) None None ptr end bytes (read.answers ++ one.answer ∷ []) (omega (arith, c.args.geo.now.limits.servers_low)) (omega (arith, c.args.geo.now.limits.fragment_low)) c.requires.some le tt holds all);
      answers = record {
        answers = read.answers ++ one.answer ∷ [];
        all = all;
        end = ap (λ o. unwrap_or o got.More) ends;
        enough = λ more. absurd (false≢true (sym (not_more c.in_ok-got.got c.in_default.not-More) ∙ more));
      };
      same = c.ask.ensures.same ∙ c.answers.invariant.same;
    }

pub answers-preserved : goal.answers-preserved
answers-preserved c =
    let maps = maps_of c.args.self.now in
    let first = start c.args.geo.now.servers c.args.geo.now.fragment c.args.ptr.now None in
    let one = subst (λ (servers : List Entries). IsFed (maps_of servers) c.answers.plan c.ask.new.plan c.in_ok-got.got) c.answers.invariant.same c.in_ok-got.ensures.fed in
    record {
      same = c.ask.ensures.same ∙ c.answers.invariant.same;
      servers = c.ask.ensures.servers ∙ c.answers.invariant.servers;
      read = read_more maps first c.answers.plan c.ask.new.plan c.in_ok-got.got c.answers.counter c.answers.invariant.read one (ap is_more c.in-More.is);
    }

pub returns-clause-bytes : goal.returns-clause-bytes
returns-clause-bytes c end bytes le holds =
    let n = c.args.geo.now.servers in
    let f = c.args.geo.now.fragment in
    let ptr = c.args.ptr.now in
    let maps = maps_of c.args.self.now in
    let first = start n f ptr None in
    let read = c.answers.invariant.read in
    let none = not_ended first c.answers.plan read.answers read.lead in
    let many : (ptr.len + 1) * (n + 2) ≤ length read.answers = rw (read.long, ← c.from.ensures, ← c.from-2.ensures) c.answers-test.false in
    let some = c.read_gives_bytes.ensures.ends (view_of n f maps None) None None ptr end bytes read.answers (omega (arith, c.args.geo.now.limits.servers_low)) (omega (arith, c.args.geo.now.limits.fragment_low)) c.requires.some le tt holds read.all many in
    absurd (false≢true (sym (ap is_some none) ∙ some))

pub returns-clause-answers : goal.returns-clause-answers
returns-clause-answers c =
    let first = start c.args.geo.now.servers c.args.geo.now.fragment c.args.ptr.now None in
    let read = c.answers.invariant.read in
    record {
      answers = read.answers;
      all = read.all;
      end = ap (λ o. unwrap_or o got.More) (not_ended first c.answers.plan read.answers read.lead);
      enough = λ more. rw (read.long, ← c.from.ensures, ← c.from-2.ensures) c.answers-test.false;
    }
