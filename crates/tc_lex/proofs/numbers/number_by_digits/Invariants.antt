use Rattle.std.proofs.Common.{◌≡◌, take, fold, Some}
use Rattle.tc_lex.specs.Numbers.{append_digit}
use Rattle.tc_lex.proofs.numbers.number_by_digits.Given as goal

abbrev pub invariant-loop-c : goal.invariant-loop-c
invariant-loop-c l = l.so_far ≡ fold (append_digit l.base) (Some 0) (take l.c-index l.text)
