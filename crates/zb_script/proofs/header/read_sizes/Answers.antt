use Rattle.std.proofs.Common.{codes}
use Rattle.zb_script.proofs.Sizing.{Named, no_servers, no_clients, no_fragment, no_block, no_slots, no_last}
use Rattle.zb_script.proofs.header.read_sizes.Goals as goal
use Rattle.zb_script.proofs.header.read_sizes.Goals.{In_ok-servers, In_ok-clients, In_ok-fragment, In_ok-block}

servers : (c : In_ok-servers) → Named (codes "zebra 1 servers ") c.args.words.now c.in_ok-servers.servers c.in_ok-servers.rest.now
servers c = record { fits = c.in_ok-servers.ensures.0; text = c.in_ok-servers.ensures.1 }

clients : (c : In_ok-clients) → Named (codes "clients ") c.in_ok-servers.rest.now c.in_ok-clients.clients c.in_ok-clients.rest.now
clients c = record { fits = c.in_ok-clients.ensures.0; text = c.in_ok-clients.ensures.1 }

fragment : (c : In_ok-fragment) → Named (codes "fragment ") c.in_ok-clients.rest.now c.in_ok-fragment.fragment c.in_ok-fragment.rest.now
fragment c = record { fits = c.in_ok-fragment.ensures.0; text = c.in_ok-fragment.ensures.1 }

block : (c : In_ok-block) → Named (codes "block ") c.in_ok-fragment.rest.now c.in_ok-block.block c.in_ok-block.rest.now
block c = record { fits = c.in_ok-block.ensures.0; text = c.in_ok-block.ensures.1 }

pub returns-in_err-servers : goal.returns-in_err-servers
returns-in_err-servers c = rw c.from_residual.ensures (no_servers c.in_err-servers.ensures)

pub returns-in_err-clients : goal.returns-in_err-clients
returns-in_err-clients c =
    let p = goal.at.returns-in_err-clients c in
    rw c.from_residual-in_err-clients.ensures (no_clients (servers p.In_ok-servers) c.in_err-clients.ensures)

pub returns-in_err-fragment : goal.returns-in_err-fragment
returns-in_err-fragment c =
    let p = goal.at.returns-in_err-fragment c in
    rw c.from_residual-in_err-fragment.ensures (no_fragment (servers p.In_ok-servers) (clients p.In_ok-clients) c.in_err-fragment.ensures)

pub returns-in_err-block : goal.returns-in_err-block
returns-in_err-block c =
    let p = goal.at.returns-in_err-block c in
    rw c.from_residual-in_err-block.ensures (no_block (servers p.In_ok-servers) (clients p.In_ok-clients) (fragment p.In_ok-fragment) c.in_err-block.ensures)

pub returns-in_err-behind : goal.returns-in_err-behind
returns-in_err-behind c =
    let p = goal.at.returns-in_err-behind c in
    rw c.from_residual-in_err-behind.ensures (no_slots (servers p.In_ok-servers) (clients p.In_ok-clients) (fragment p.In_ok-fragment) (block p.In_ok-block) c.in_err-behind.ensures)

pub returns-in_err-slots : goal.returns-in_err-slots
returns-in_err-slots c =
    let p = goal.at.returns-in_err-slots c in
    rw c.from_residual-in_err-slots.ensures (no_last (servers p.In_ok-servers) (clients p.In_ok-clients) (fragment p.In_ok-fragment) (block p.In_ok-block) c.in_ok-behind.field-0.now c.in_ok-behind.ensures.1 c.in_err-slots.ensures)
