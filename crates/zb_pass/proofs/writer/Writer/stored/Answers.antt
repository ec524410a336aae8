use Rattle.std.proofs.Common.{rules}
use Rattle.zb_stripe.specs.Fresh.{IsFreshFlush}
use Rattle.zb_log.specs.Logs.{bytes_with, last_of, flush_of}
use Rattle.zb_work.specs.Fitting.{IsNewOf}
use Rattle.zb_pass.proofs.writer.Writer.stored.Goals as goal

pub invariant_of-self : goal.invariant_of-self
invariant_of-self c =
    let k = c.self.invariant.0 in
    let old = c.self.invariant.2 in
    let flush = rw (← c.self.view_is) at c.requires.flush in
    let one : IsNewOf c.self.inside.geo.servers c.self.inside.geo.fragment c.self.inside.log c.args.sealed.placed c.args.fresh old.given = flush old.given old.are in
    let fresh : IsFreshFlush c.self.inside.log.servers c.self.inside.log.fragment (flush_of c.self.inside.log old.given c.args.sealed.placed one.new) c.args.fresh = rw (k.servers, k.fragment) one.is_fresh in (
      record { log_is = search rules; servers = search rules; fragment = search rules; room = search rules; block = search rules },
      search rules,
      record {
        given = bytes_with old.given (last_of (flush_of c.self.inside.log old.given c.args.sealed.placed one.new).parts);
        are = c.go_on.ensures.given old.given (flush_of c.self.inside.log old.given c.args.sealed.placed one.new) old.are fresh one.end;
      },
    )
