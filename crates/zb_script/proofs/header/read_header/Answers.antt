use Rattle.zb_script.proofs.Sizing.{no_header, header_of}
use Rattle.zb_script.proofs.header.read_header.Goals as goal

pub returns-in_err-sizes : goal.returns-in_err-sizes
returns-in_err-sizes c = rw c.from_residual.ensures (no_header c.in_err-sizes.ensures)

pub returns : goal.returns
returns c =
    let made = c.new.ensures in
    rw c.ok.ensures.value (header_of c.in_ok-sizes.sizes c.in_ok-sizes.ensures.0 c.in_ok-sizes.ensures.1 c.new.result made.servers made.clients made.fragment made.block made.slots made.exact)
