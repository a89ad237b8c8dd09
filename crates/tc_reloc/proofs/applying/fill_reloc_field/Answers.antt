use Rattle.std.proofs.Common.{◌≡◌, ◌+◌, sym, subst, arith}
use Rattle.tc_reloc.specs.Fields.{reloc_field_number, reloc_field_bits, bits_outside_reloc_field}
use Rattle.tc_reloc.proofs.FieldLaws.{written_below, content_below, whole_word}
use Rattle.tc_reloc.proofs.applying.fill_reloc_field.Goals as goal

pub reloc_field_bits-requires : goal.reloc_field_bits-requires
reloc_field_bits-requires c = content_below c.args.place c.args.value (omega arith) (omega arith) c.args.kind c.reloc_field_number.result c.reloc_field_number.ensures c.requires.some c.requires.most

pub overflow_add-result : goal.overflow_add-result
overflow_add-result c =
    let below = written_below c.args.word c.reloc_field_number.result (omega arith) c.args.kind c.requires.some c.requires.most (content_below c.args.place c.args.value (omega arith) (omega arith) c.args.kind c.reloc_field_number.result c.reloc_field_number.ensures c.requires.some c.requires.most) in
    let same : c.bits_outside_reloc_field.result + c.reloc_field_bits.result ≡ bits_outside_reloc_field c.args.kind c.args.word + reloc_field_bits c.args.kind c.reloc_field_number.result = cc in
    omega arith

pub returns-then-kind-eq-WORD32 : goal.returns-then-kind-eq-WORD32
returns-then-kind-eq-WORD32 c =
    let is : c.args.kind ≡ 7 = omega arith in
    subst (λ k. c.args.value ≡ bits_outside_reloc_field k c.args.word + reloc_field_bits k (reloc_field_number k c.args.place c.args.value)) (sym is) (whole_word c.args.word c.args.place c.args.value)
