use Rattle.cfg_recover.proofs.RomTests.{rom_decides, rom_fits}
use Rattle.tcd_plan.specs.PlanData.{plan_data}
use Rattle.cfg_recover.proofs.rom_code.are_bytes_in_rom.Goals as goal

pub returns-clause-decides : goal.returns-clause-decides
returns-clause-decides c = rom_decides (plan_data c.plan.inside) c.args.plan.now _ c.args.addr c.args.count c.plan.view_is (cc)

pub returns-clause-fits : goal.returns-clause-fits
returns-clause-fits c = rom_fits (plan_data c.plan.inside) _ c.args.addr c.args.count c.plan.invariant (cc)
