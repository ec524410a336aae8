use Rattle.std.proofs.Common.{ap, ◌∙◌}
use Rattle.zb_fetching.specs.Stores.{SeenServers, contents_of}
use Rattle.zb_fetching.proofs.Lost.{same_contents}
use Rattle.zb_fetching.proofs.servers.StripeServers.lose.Goals as goal

pub returns-clause-bytes : goal.returns-clause-bytes
returns-clause-bytes c =
    let seen : SeenServers = record { geo = c.self.inside.geo; kept = c.self.inside.plain; held = c.self.inside.held; lost = c.self.inside.lost } in
    same_contents seen c.args.server (ap (λ (s : SeenServers). s.lost) c.self.view_is ∙ c.requires) c.self.invariant
    ∙ ap contents_of c.self.view_is
