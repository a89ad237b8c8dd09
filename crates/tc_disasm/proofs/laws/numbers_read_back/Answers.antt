use Rattle.tc_disasm.proofs.Decimals.{number_of-decimal}
use Rattle.tc_disasm.proofs.Hexes.{number_of-hex}
use Rattle.tc_disasm.proofs.Registers.{register_of-text}
use Rattle.tc_disasm.proofs.laws.numbers_read_back.Goals as goal

pub returns-clause-decimals : goal.returns-clause-decimals
returns-clause-decimals c = number_of-decimal

pub returns-clause-addresses : goal.returns-clause-addresses
returns-clause-addresses c = number_of-hex

pub returns-clause-registers : goal.returns-clause-registers
returns-clause-registers c = register_of-text
