use Rattle.std.proofs.Common.{arith}
use Rattle.cfg_recover.proofs.CodeLaws.{by_four, by_two, none_there}
use Rattle.cfg_recover.proofs.rom_code.code_at.Goals as goal

pub returns-in-Some : goal.returns-in-Some
returns-in-Some c = by_four c.args.image.now c.args.plan.now c.args.addr c.in-Some.bytes _ (omega arith) c.in-Some.ensures c.code_in_bytes.ensures

pub returns-in-Some-two_bytes_in_rom : goal.returns-in-Some-two_bytes_in_rom
returns-in-Some-two_bytes_in_rom c = by_two c.args.image.now c.args.plan.now c.args.addr c.in-Some-two_bytes_in_rom.bytes _ (omega arith) c.in-None.ensures c.in-Some-two_bytes_in_rom.ensures c.code_in_bytes-in-Some-two_bytes_in_rom.ensures

pub returns-in-None-two_bytes_in_rom : goal.returns-in-None-two_bytes_in_rom
returns-in-None-two_bytes_in_rom c = none_there c.args.image.now c.args.plan.now c.args.addr c.in-None.ensures c.in-None-two_bytes_in_rom.ensures
