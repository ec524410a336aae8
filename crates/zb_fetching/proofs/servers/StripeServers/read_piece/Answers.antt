use Rattle.std.proofs.Common.{◌+◌, ◌≤◌, List, take, drop, ap, ◌∙◌, arith}
use Rattle.zb_types.specs.declared.tables.HeldUse.{HeldUse}
use Rattle.zb_tables.specs.Tables.{end_at}
use Rattle.zb_fetching.specs.Stores.{SeenServers, view_at, contents_of}
use Rattle.zb_fetching.proofs.Lost.{given_long}
use Rattle.zb_fetching.proofs.Pieced.{IsTold, ok_where, read_is, told_bytes, no_missing, no_unreachable}
use Rattle.zb_fetching.proofs.servers.StripeServers.read_piece.Goals as goal

-- the servers, by their fields
abbrev seen : (c : goal.After-bytes_of) → SeenServers
seen c = record { geo = c.self.inside.geo; kept = c.self.inside.plain; held = c.self.inside.held; lost = c.self.inside.lost }

within : (c : goal.After-bytes_of) → c.args.piece.now.offset + c.args.piece.now.len ≤ end_at c.self.inside.held c.args.log c.args.piece.now.stripe
within c =
    let end = c.end_in-end.ensures ∙ ap (λ (held : List HeldUse). end_at held c.args.log c.args.piece.now.stripe) c.slice.ensures in
    omega (arith, end, c.from.ensures, c.from-2.ensures, c.from-3.ensures, c.if-from.false)

told : (c : goal.After-bytes_of) → IsTold c.bytes_of.result (take c.args.piece.now.len (drop c.args.piece.now.offset (contents_of (seen c) c.args.log c.args.piece.now.stripe)))
told c =
    c.bytes_of.ensures _
    (read_is (seen c) c.self.invariant c.args.log c.args.piece.now.stripe c.args.piece.now.offset c.args.piece.now.len (within c) c.read_range-read.result c.read_range-read.ensures.bytes c.read_range-read.ensures.none)

pub returns-then-from-clause-missing : goal.returns-then-from-clause-missing
returns-then-from-clause-missing c is =
    let end = c.end_in-end.ensures ∙ ap (λ (held : List HeldUse). end_at held c.args.log c.args.piece.now.stripe) c.slice.ensures in
    let same = ap (λ (s : SeenServers). end_at s.held c.args.log c.args.piece.now.stripe) c.self.view_is in
    omega (arith, given_long (view_at c.args.self.now) c.args.log c.args.piece.now.stripe (end_at c.args.self.now.held c.args.log c.args.piece.now.stripe), end, same, c.from.ensures, c.from-2.ensures, c.from-3.ensures, c.if-from.true)

pub returns-clause-bytes : goal.returns-clause-bytes
returns-clause-bytes c = rw (← c.self.view_is) (told_bytes c.bytes_of.result _ (told c))

pub returns-clause-missing : goal.returns-clause-missing
returns-clause-missing c is = absurd (no_missing c.bytes_of.result _ (told c) is)

pub returns-clause-present : goal.returns-clause-present
returns-clause-present c =
    let same = ap (λ (s : SeenServers). end_at s.held c.args.log c.args.piece.now.stripe) c.self.view_is in
    ok_where c.bytes_of.result (omega (arith, within c, same, given_long (view_at c.args.self.now) c.args.log c.args.piece.now.stripe (end_at c.args.self.now.held c.args.log c.args.piece.now.stripe)))

pub returns-clause-served : goal.returns-clause-served
returns-clause-served c a b is = no_unreachable c.bytes_of.result _ a b (told c) is
