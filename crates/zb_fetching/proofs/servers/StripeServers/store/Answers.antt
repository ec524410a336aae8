use Rattle.std.proofs.Common.{◌≡◌, ◌-◌, ◌*◌, ◌<◌, ◌≤◌, List, length, ap, subst, sym, ◌∙◌}
use Rattle.zb_types.specs.declared.nodes.Class.TheVariants.{Client}
use Rattle.zb_types.specs.declared.tables.HeldUse.{HeldUse}
use Rattle.zb_plain.specs.Standing.{Entries}
use Rattle.zb_tables.specs.Tables.{end_at}
use Rattle.zb_fetching.specs.Stores.{SeenServers, IsSoundStore, contents_of, first_flush}
use Rattle.zb_fetching.proofs.Stored.{may_write, is_sound, has_bytes, has_others}
use Rattle.zb_fetching.proofs.servers.StripeServers.store.Goals as goal

pub write-requires-clause-may : goal.write-requires-clause-may
write-requires-clause-may c =
    let seen : SeenServers = record { geo = c.self.inside.geo; kept = c.self.inside.plain; held = c.self.inside.held; lost = c.self.inside.lost } in
    may_write seen c.self.invariant c.args.log c.args.stripe c.args.bytes.now Client
    (ap (λ (s : SeenServers). end_at s.held c.args.log c.args.stripe) c.self.view_is ∙ c.requires.new) c.requires.some
    (subst (λ (s : SeenServers). length c.args.bytes.now ≤ (s.geo.servers - 1) * s.geo.fragment) (sym c.self.view_is) c.requires.room)
    c.in_ok-fresh.fresh c.in_ok-fresh.ensures.fresh

pub invariant_of-result : goal.invariant_of-result
invariant_of-result c =
    let seen : SeenServers = record { geo = c.self.inside.geo; kept = c.self.inside.plain; held = c.self.inside.held; lost = c.self.inside.lost } in
    let sound =
    is_sound seen c.self.invariant c.args.log c.args.stripe c.args.bytes.now Client
    (ap (λ (s : SeenServers). end_at s.held c.args.log c.args.stripe) c.self.view_is ∙ c.requires.new) c.requires.some
    (subst (λ (s : SeenServers). length c.args.bytes.now ≤ (s.geo.servers - 1) * s.geo.fragment) (sym c.self.view_is) c.requires.room)
    c.write.new.self 0 (c.in_ok-write.ensures.ok (first_flush c.args.log c.args.stripe c.args.bytes.now) c.in_ok-fresh.ensures.fresh) c.in_ok-write.ensures.count in
    subst (λ (kept : List Entries). IsSoundStore (record { geo = c.self.inside.geo; kept = kept; held = c.in_ok-with_first.field-0; lost = c.self.inside.lost })) (sym c.plain-2.view_is)
    (subst (λ (held : List HeldUse). IsSoundStore (record { geo = c.self.inside.geo; kept = c.write.new.self; held = held; lost = c.self.inside.lost })) (sym c.in_ok-with_first.ensures) sound)

pub returns-clause-bytes : goal.returns-clause-bytes
returns-clause-bytes c =
    let seen : SeenServers = record { geo = c.self.inside.geo; kept = c.self.inside.plain; held = c.self.inside.held; lost = c.self.inside.lost } in
    let has =
    has_bytes seen c.self.invariant c.args.log c.args.stripe c.args.bytes.now Client
    (ap (λ (s : SeenServers). end_at s.held c.args.log c.args.stripe) c.self.view_is ∙ c.requires.new) c.requires.some
    (subst (λ (s : SeenServers). length c.args.bytes.now ≤ (s.geo.servers - 1) * s.geo.fragment) (sym c.self.view_is) c.requires.room)
    c.write.new.self 0 (c.in_ok-write.ensures.ok (first_flush c.args.log c.args.stripe c.args.bytes.now) c.in_ok-fresh.ensures.fresh) c.in_ok-write.ensures.count in
    subst (λ (kept : List Entries). contents_of (record { geo = c.self.inside.geo; kept = kept; held = c.in_ok-with_first.field-0; lost = c.self.inside.lost }) c.args.log c.args.stripe ≡ c.args.bytes.now) (sym c.plain-2.view_is)
    (subst (λ (held : List HeldUse). contents_of (record { geo = c.self.inside.geo; kept = c.write.new.self; held = held; lost = c.self.inside.lost }) c.args.log c.args.stripe ≡ c.args.bytes.now) (sym c.in_ok-with_first.ensures) has)

pub returns-clause-others : goal.returns-clause-others
returns-clause-others c other place much =
    let seen : SeenServers = record { geo = c.self.inside.geo; kept = c.self.inside.plain; held = c.self.inside.held; lost = c.self.inside.lost } in
    let has =
    has_others seen c.self.invariant c.args.log c.args.stripe c.args.bytes.now Client
    (ap (λ (s : SeenServers). end_at s.held c.args.log c.args.stripe) c.self.view_is ∙ c.requires.new) c.requires.some
    (subst (λ (s : SeenServers). length c.args.bytes.now ≤ (s.geo.servers - 1) * s.geo.fragment) (sym c.self.view_is) c.requires.room)
    c.write.new.self 0 (c.in_ok-write.ensures.ok (first_flush c.args.log c.args.stripe c.args.bytes.now) c.in_ok-fresh.ensures.fresh) c.in_ok-write.ensures.count other place (subst (λ (s : SeenServers). 0 < end_at s.held other place) (sym c.self.view_is) much) in
    subst (λ (kept : List Entries). contents_of (record { geo = c.self.inside.geo; kept = kept; held = c.in_ok-with_first.field-0; lost = c.self.inside.lost }) other place ≡ contents_of c.args.self other place) (sym c.plain-2.view_is)
    (subst (λ (held : List HeldUse). contents_of (record { geo = c.self.inside.geo; kept = c.write.new.self; held = held; lost = c.self.inside.lost }) other place ≡ contents_of c.args.self other place) (sym c.in_ok-with_first.ensures) (has ∙ ap (λ (s : SeenServers). contents_of s other place) c.self.view_is))
