-- What platters recover to is one tree.
use Rattle.std.proofs.Common.{◌≡◌, ℕ, ◌-◌, ◌<◌, ◌≤◌, List, Option, Some, None, refl, sym, ap, ◌∙◌, subst, arith}
use Rattle.zb_types.specs.declared.ids.LogId.{LogId}
use Rattle.zb_types.specs.declared.tables.HeldUse.{HeldUse}
use Rattle.zb_types.specs.Tree.{Tree}
use Rattle.zb_holding.specs.Holding.{View, standing, away_at}
use Rattle.zb_stripe_laws.proofs.Away.{away_once}
use Rattle.zb_stripe_laws.proofs.Agreeing.{stripe_agrees}
use Rattle.zb_tables.specs.Tables.{Tables, held_at, Contents, shown_tree}
use Rattle.zb_tables.specs.Replay.{Platter, Replays}
use Rattle.zb_tables.proofs.Once.{held_replayed, replays_once}
use Rattle.zb_recovery.specs.Agreeing.{AreContents}
use Rattle.zb_recovery.specs.Recovered.{Recovers}

module _ (v : View) (two : 2 ≤ v.servers) (pos : 0 < v.fragment) (held : List HeldUse) where
  pub contents_once : (one other : Contents) → AreContents v held one → AreContents v held other → one ≡ other
  contents_once one other a c = λ i log stripe. at log stripe (held_at log stripe held) refl i where
    at : (log : LogId) (stripe : ℕ) (o : Option HeldUse) → held_at log stripe held ≡ o → one log stripe ≡ other log stripe
    at log stripe None e = a.nowhere log stripe e ∙ sym (c.nowhere log stripe e)
    at log stripe (Some h) e =
        let p = a.there log stripe h e in
        let q = c.there log stripe h e in
        p.first ∙ stripe_agrees (v.servers - 1) v.fragment (standing v.servers v.maps log stripe) (away_at v.servers v.away log stripe) h.end pos p.bytes q.bytes
        (λ j k jn kn. away_once v.servers v.away log stripe j k (omega arith) (omega arith)) p.held q.held ∙ sym q.first

-- the recovered tree is one
pub recovers_once : (b : ℕ) (p : Platter) (v : View) (one other : Tree) → 2 ≤ v.servers → 0 < v.fragment
    → Recovers b p v one → Recovers b p v other → one ≡ other
recovers_once b p v one other two pos r s =
    let held = held_replayed b r.contents p.entries p.tables r.tables r.replays ∙ sym (held_replayed b s.contents p.entries p.tables s.tables s.replays) in
    let contents : r.contents ≡ s.contents = contents_once v two pos r.tables.held r.contents s.contents r.are_contents (subst (λ (h : List HeldUse). AreContents v h s.contents) (sym held) s.are_contents) in
    let tables : r.tables ≡ s.tables = replays_once b s.contents p.entries p.tables r.tables s.tables (subst (λ (c : Contents). Replays b c p.tables p.entries r.tables) contents r.replays) s.replays in
    sym r.shows ∙ ap (λ (c : Contents). shown_tree b r.tables c) contents ∙ ap (λ (t : Tables). shown_tree b t s.contents) tables ∙ s.shows
