use Rattle.std.proofs.Common.{arith, inl, inr}
use Rattle.tc_script.proofs.AreaLaws.{told_store}
use Rattle.tc_script.proofs.area_counts.area_effect_of_store.Goals as goal

pub returns-then-count-eq0 : goal.returns-then-count-eq0
returns-then-count-eq0 c = λ after s. told_store c.args.used c.args.m.now after c.args.addr c.args.size c.requires.counted c.requires.row (omega arith) (inl (omega arith)) s

pub address_of-low-requires : goal.address_of-low-requires
address_of-low-requires c = c.requires.counted.first

pub returns-then-end-low : goal.returns-then-end-low
returns-then-end-low c = λ after s. told_store c.args.used c.args.m.now after c.args.addr c.args.size c.requires.counted c.requires.row (omega arith) (inr (inl (let e = c.address_of-low.ensures in omega arith))) s

pub returns-then-high-addr : goal.returns-then-high-addr
returns-then-high-addr c = λ after s. told_store c.args.used c.args.m.now after c.args.addr c.args.size c.requires.counted c.requires.row (omega arith) (inr (inr (let e = c.address_of-last.ensures in omega arith))) s
