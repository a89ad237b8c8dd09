-- Names of sections and symbols.
use Rattle.std.specs.Prelude.{◌&&◌, not, ℕ, Bool, List, codes, is_some, ◌^◌, ◌||◌, nat_le, if◌then◌else◌}
use Rattle.std.specs.Str.{bytes_eq}
use Rattle.tc_object.specs.Names.{object_name_of}
use Rattle.tc_stmt.specs.SourceRules.{wide_number, no_rule, bad_name}
use Rattle.tc_lex.specs.Operands.{ValueData}

-- a name that a source may use: a name of objects, but not a lone `.`
unfoldable pub is_source_name : List ℕ → Bool
is_source_name bs = is_some (object_name_of bs) && not (bytes_eq bs (codes "."))

-- the least rule that a symbol in an operand breaks in every place: its name must be one for
-- sources, and the number added to it below 2^32
unfoldable pub rule_broken_by_symbol : ValueData → ℕ
rule_broken_by_symbol v = if v.wide || nat_le (2 ^ 32) v.size then wide_number else (if is_source_name v.name then no_rule else bad_name)
