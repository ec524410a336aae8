use Rattle.std.proofs.Common.{◌≡◌, ℕ, suc, ◌-◌, ◌*◌, ◌%◌, ◌^◌, ◌≤◌, leb, length, ap, ◌∙◌, arith}
use Rattle.std.proofs.Math.Pow.{pow_mono}
use Rattle.zb_servers.specs.Standing.{SeenServers}
use Rattle.zb_servers.specs.Serving.{has_bit}
use Rattle.zb_servers.proofs.Bits.{first_set}
use Rattle.zb_servers.proofs.servers.Servers.serving.Goals as goal

pub returns : goal.returns
returns c server some =
    let n = c.len.result in
    let count : n ≡ length c.self.inside.servers.items = omega (arith, c.len.ensures) in
    let few : n ≤ 16 = omega (arith, c.self.invariant.few, count) in
    let small : 2 ^ n ≤ 2 ^ 16 = pow_mono few in
    let value : (1 * 2 ^ n) % 4294967296 - 1 ≡ 2 ^ n - 1 = omega (arith, small) in
    let place : suc (server.0 - 1) ≡ server.0 = omega (arith, some) in
    ap (λ (v : ℕ). has_bit v server) value ∙ first_set n (server.0 - 1)
    ∙ (λ i. leb (place i) ((count ∙ ap (λ (s : SeenServers). length s.servers) c.self.view_is) i))
