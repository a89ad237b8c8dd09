use Rattle.std.proofs.Common.{arith}
use Rattle.tc_script.proofs.AreaLaws.{as_told}
use Rattle.tc_script.proofs.area_counts.update_areas_in_use.Goals as goal

pub returns-in-Stays : goal.returns-in-Stays
returns-in-Stays c = as_told _ _ c.args.used.now c.args.m.now c.in-Stays.is (c.requires c.in-Running.is)

pub overflow_add-used : goal.overflow_add-used
overflow_add-used c = let few = (as_told _ _ c.args.used.now c.args.m.now c.in-Saves.is (c.requires c.in-Running.is)).0 in omega arith

pub returns-in-Saves : goal.returns-in-Saves
returns-in-Saves c = (as_told _ _ c.args.used.now c.args.m.now c.in-Saves.is (c.requires c.in-Running.is)).1

pub overflow_sub-used : goal.overflow_sub-used
overflow_sub-used c = let some = (as_told _ _ c.args.used.now c.args.m.now c.in-Restores.is (c.requires c.in-Running.is)).0 in omega arith

pub returns-in-Restores : goal.returns-in-Restores
returns-in-Restores c = (as_told _ _ c.args.used.now c.args.m.now c.in-Restores.is (c.requires c.in-Running.is)).1
