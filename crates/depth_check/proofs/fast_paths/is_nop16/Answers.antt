use Rattle.std.proofs.Common.{arith}
use Rattle.tcd_plan.specs.PlanData.{plan_data}
use Rattle.cfg_recover.proofs.RomTests.{rom_decides}
use Rattle.depth_check.proofs.NopLaws.{nop16_there}
use Rattle.depth_check.proofs.fast_paths.is_nop16.Goals as goal

pub returns : goal.returns
returns c = λ t.
    let rom = rom_decides (plan_data c.plan.inside) c.args.plan.now c.is_in_one_range.result c.args.addr 2 c.plan.view_is (cc) in
    nop16_there c.args.image.now c.args.plan.now c.args.addr (omega arith) (rom.0 c.if-not-is_in_one_range.false) c.requires (c.has_byte.ensures.0 t)
