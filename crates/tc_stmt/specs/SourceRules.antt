-- The rules of sources, by the numbers that are printed.
use Rattle.std.specs.Prelude.{ℕ}

-- the number of the rule that a line breaks by a byte or token outside the grammar, or by a 65th
-- token
abbrev pub bad_token : ℕ
bad_token = 1

-- the number of the rule that a statement breaks if no directive and no instruction has its name
abbrev pub unknown_statement : ℕ
unknown_statement = 2

-- the number of the rule that a statement breaks if its operands have other forms than it takes
abbrev pub wrong_operands : ℕ
wrong_operands = 3

-- the number of the rule that an operand breaks if its name is no register that the row takes there
abbrev pub wrong_register : ℕ
wrong_register = 4

-- the number of the rule that an operand breaks by a number that doesn't fit its field or its data
abbrev pub wide_number : ℕ
wide_number = 5

-- the number of the rule that a jump or call over an odd number of bytes breaks
abbrev pub odd_displacement : ℕ
odd_displacement = 6

-- the number of the rule that a label breaks if it is defined twice
abbrev pub label_twice : ℕ
label_twice = 7

-- the number of the rule that a label, instruction or data before any section breaks
abbrev pub no_section : ℕ
no_section = 8

-- the number of the rule that a bad name breaks
abbrev pub bad_name : ℕ
bad_name = 9

-- the number of the rule that a symbol breaks in a place that takes none
abbrev pub misplaced_symbol : ℕ
misplaced_symbol = 10

-- the number of the rule that a jump or call of 16 bits breaks if its target is too far
abbrev pub far_target : ℕ
far_target = 11

-- the number of the rule that a post-increment with equal registers breaks
abbrev pub equal_registers : ℕ
equal_registers = 12

-- the number of the rule that a source breaks by too many sections, symbols, relocations or bytes
abbrev pub past_limits : ℕ
past_limits = 13

-- the number of the rule that a global name breaks if no label defines it
abbrev pub undefined_global : ℕ
undefined_global = 14

-- no rule is broken; the number is above those of all rules
abbrev pub no_rule : ℕ
no_rule = 15
