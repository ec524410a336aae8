use Rattle.std.proofs.Common.{ℕ, ap, ◌∙◌}
use Rattle.zb_types.specs.declared.tables.Found.{Found}
use Rattle.zb_types.specs.declared.tables.Listed.TheVariants.{File}
use Rattle.zb_turns.proofs.Lengths.{found_length}
use Rattle.zb_nodes.proofs.listing.listed.Goals as goal

pub returns-in_ok-lookup-in-File : goal.returns-in_ok-lookup-in-File
returns-in_ok-lookup-in-File c contents =
    rw c.in-File.is (ap (λ (n : ℕ). File c.in-File.fid n)
    (ap (λ (f : Found). f.length) c.in_ok-lookup-in-File.ensures ∙ found_length c.args.manager.now.sizes.block c.args.manager.now.tables contents c.in-File.fid.0))
