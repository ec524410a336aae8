use Rattle.std.proofs.Common.{rules, ◌≡◌, ◌≤◌, List, length, sym, ◌∙◌, subst}
use Rattle.std.specs.List.{AllByRecursion}
use Rattle.zb_types.specs.declared.ids.Piece.{Piece}
use Rattle.zb_batch.specs.declared.batch.Op.{Op}
use Rattle.zb_tables.specs.Tables.{Tables}
use Rattle.zb_tables.specs.Fold.{shelf_of}
use Rattle.zb_manager.specs.Works.{MayWork}
use Rattle.zb_manager.specs.Plans.{IsPlan, IsWork, Plans}
use Rattle.zb_log_tables.specs.HeldStripes.{EndFits}
use Rattle.zb_log_tables.specs.Logs.{StripeFits}
use Rattle.zb_manager.specs.declared.prepared.Prepared.{Prepared}
use Rattle.zb_manager.proofs.Planned.{batch_work}
use Rattle.zb_manager.proofs.Preparing.{ends_fit, stripes_fit, regen_answers, regen_members}
use Rattle.zb_manager.proofs.Rooms.{ok_is}
use Rattle.zb_manager.proofs.manager.Manager.prepare.Goals as goal

pub returns-in-Some-clause-refused : goal.returns-in-Some-clause-refused
returns-in-Some-clause-refused c =
    regen_answers Prepared c.args.self.now.tables c.args.batch.now.log c.args.pieces.now c.args.generation _ c.in-Some.fault (sym c.regen.ensures ∙ c.in-Some.is)

pub plan-requires : goal.plan-requires
plan-requires c =
    let spelled = c.requires.spelled in
    subst (λ (ops : List Op). IsWork ops) (sym c.slice.ensures) (batch_work c.args.batch.now.ops spelled.company spelled.ops)

pub returns-clause-ready : goal.returns-clause-ready
returns-clause-ready c =
    let within = c.requires.within in
    let plan : IsPlan c.args.self.now.sizes.block (shelf_of c.args.self.now.tables) c.slice.result.now c.in-Ok-Ok.plan =
    subst (Plans c.args.self.now.sizes.block (shelf_of c.args.self.now.tables) c.slice.result.now) c.in-Ok-Ok.field-0-is c.in-Ok-Ok.ensures in
    let pieces : c.of.result ≡ c.args.pieces.now = search rules in
    let held : length c.args.pieces.now ≤ c.make_room.new.self.held_room = ok_is c.make_room.result c.if-is_err.ensures.negation c.make_room.ensures.held in
    record {
      names = subst (λ (t : Tables). MayWork c.in-Ok-Ok.plan.work t.names) (sym c.make_room.ensures.same.tables) plan.may;
      work = ok_is c.make_room.result c.if-is_err.ensures.negation c.make_room.ensures.work;
      held = subst (λ (ps : List Piece). length ps ≤ c.make_room.new.self.held_room) (sym pieces) held;
      ends = subst (λ (ps : List Piece). AllByRecursion EndFits ps) (sym pieces) (ends_fit c.args.self.now.sizes c.args.pieces.now c.make_room.ensures.small within);
      stripes = subst (λ (ps : List Piece). AllByRecursion StripeFits ps) (sym pieces) (stripes_fit c.args.self.now.sizes c.args.pieces.now within);
    }

pub returns-in-Some-clause-members : goal.returns-in-Some-clause-members
returns-in-Some-clause-members c err =
    regen_members Prepared c.args.self.now.tables c.args.batch.now.log c.args.pieces.now c.args.generation c.in-Some.fault (sym c.regen.ensures ∙ c.in-Some.is) err
