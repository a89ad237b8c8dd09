use Rattle.std.proofs.Common.{refl}
use Rattle.tc_script.proofs.AreaLaws.{told_load, told_any_store, told_plain}
use Rattle.tc_script.proofs.area_counts.area_effect_of_instruction.Goals as goal

pub returns-in-Load : goal.returns-in-Load
returns-in-Load c = told_load _ c.args.used c.args.m.now c.args.event.now c.args.shape c.access_address-addr.result c.in-Load.is c.access_address-addr.ensures c.area_effect_of_load.ensures

pub returns-in-Store : goal.returns-in-Store
returns-in-Store c = told_any_store _ c.args.used c.args.m.now c.args.event.now c.args.shape c.access_address-addr-in-Store.result c.in-Store.is c.access_address-addr-in-Store.ensures c.area_effect_of_store_or_trap.ensures

pub returns-in-Compute : goal.returns-in-Compute
returns-in-Compute c = told_plain c.args.used c.args.m.now c.args.event.now c.args.shape _ c.in-Compute.is refl c.requires.counted

pub returns-in-Scaled : goal.returns-in-Scaled
returns-in-Scaled c = told_plain c.args.used c.args.m.now c.args.event.now c.args.shape _ c.in-Scaled.is refl c.requires.counted

pub returns-in-Branch : goal.returns-in-Branch
returns-in-Branch c = told_plain c.args.used c.args.m.now c.args.event.now c.args.shape _ c.in-Branch.is refl c.requires.counted

pub returns-in-Jump : goal.returns-in-Jump
returns-in-Jump c = told_plain c.args.used c.args.m.now c.args.event.now c.args.shape _ c.in-Jump.is refl c.requires.counted

pub returns-in-Mfcr : goal.returns-in-Mfcr
returns-in-Mfcr c = told_plain c.args.used c.args.m.now c.args.event.now c.args.shape _ c.in-Mfcr.is refl c.requires.counted

pub returns-in-Enable : goal.returns-in-Enable
returns-in-Enable c = told_plain c.args.used c.args.m.now c.args.event.now c.args.shape _ c.in-Enable.is refl c.requires.counted

pub returns-in-Disable : goal.returns-in-Disable
returns-in-Disable c = told_plain c.args.used c.args.m.now c.args.event.now c.args.shape _ c.in-Disable.is refl c.requires.counted

pub returns-in-Nothing : goal.returns-in-Nothing
returns-in-Nothing c = told_plain c.args.used c.args.m.now c.args.event.now c.args.shape _ c.in-Nothing.is refl c.requires.counted
