use Rattle.std.proofs.Common.{◌≡◌, ◌++◌, take}
use Rattle.std.specs.Prelude.{string_bytes, codes}
use Rattle.std.specs.List.{flat_map}
use Rattle.tc_disasm.specs.Texts.{operand_text}
use Rattle.tc_disasm.proofs.operands.append_further_operands.Given as goal

abbrev pub invariant-loop-want : goal.invariant-loop-want
invariant-loop-want l = string_bytes l.text ≡ string_bytes l.initial.text ++ flat_map (λ v. codes ", " ++ operand_text l.form l.f v) (take l.want-index l.wants)
