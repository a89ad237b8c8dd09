use Rattle.std.proofs.Common.{◌∙◌, sym, refl}
use Rattle.tc_encode.proofs.Finds.{none_map, none_some, same_some, stands}
use Rattle.tc_encode.proofs.word_search.instruction_of_word.Goals as goal

pub returns-in_default-clause-none : goal.returns-in_default-clause-none
returns-in_default-clause-none c = λ i m.
    let s = stands i.row c.args.w m.inst.row m.inst.at i m refl in
    none_some i.row (c.in_default.ensures.only i.row m.inst.row m.inst.at s.first (s.second ∙ sym (c.second_opcode_by_first_byte-second.ensures i.row m.inst.row m.inst.at s.first)))

pub instruction_by_opcodes-requires-clause-second : goal.instruction_by_opcodes-requires-clause-second
instruction_by_opcodes-requires-clause-second c = λ r at first. c.second_opcode_by_first_byte-second.ensures c.in-Some.place r at first

pub returns-clause-none : goal.returns-clause-none
returns-clause-none c = none_map c.instruction_by_opcodes.result c.instruction_by_opcodes.ensures.none (λ none i m.
    let s = stands i.row c.args.w m.inst.row m.inst.at i m refl in
    none i m (same_some i.row c.in-Some.place (sym (c.in-Some.ensures.only i.row m.inst.row m.inst.at s.first (s.second ∙ sym (c.second_opcode_by_first_byte-second.ensures i.row m.inst.row m.inst.at s.first))))))
