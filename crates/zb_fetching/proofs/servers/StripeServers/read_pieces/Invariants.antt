use Rattle.std.proofs.Common.{◌≡◌, ◌++◌, drop}
use Rattle.zb_tables.specs.Replay.{joined}
use Rattle.zb_replay.specs.Opening.{HaveNotAll}
use Rattle.zb_fetching.specs.Stores.{contents_of}
use Rattle.zb_fetching.proofs.servers.StripeServers.read_pieces.Given as goal

abbrev pub invariant-loop-piece : goal.invariant-loop-piece
invariant-loop-piece l = record {
  same : l.self ≡ l.fn.self;
  bytes : joined (contents_of l.fn.self) l.log l.pieces ≡ l.all ++ joined (contents_of l.fn.self) l.log (drop l.piece-index l.pieces);
  missing : HaveNotAll (contents_of l.fn.self) l.log (drop l.piece-index l.pieces) → HaveNotAll (contents_of l.fn.self) l.log l.pieces;
  present : HaveNotAll (contents_of l.fn.self) l.log l.pieces → HaveNotAll (contents_of l.fn.self) l.log (drop l.piece-index l.pieces);
}
