use Rattle.std.proofs.Common.{◌≡◌, ◌+◌, refl, ap, sym, ◌∙◌, [], arith}
use Rattle.tcd_base.specs.Bytes.{word_in_bytes}
use Rattle.tcd_base.proofs.ByteWords.{word_at-bytes_of_word}
use Rattle.tc_reloc.specs.Fields.{reloc_field_number, reloc_field_bits, bits_outside_reloc_field}
use Rattle.tc_reloc.specs.ReachedAddresses.{number_in_reloc_field}
use Rattle.tc_reloc.proofs.FieldLaws.{held_of-written, rest_of-written, content_below, reached_by-content_of}
use Rattle.tc_reloc.proofs.applying.apply.Goals as goal

-- the word that was written
word_is : (c : goal.After-to_le_bytes) → word_in_bytes c.to_le_bytes.result 0 ≡ bits_outside_reloc_field c.args.kind c.from_le_bytes.result + reloc_field_bits c.args.kind (reloc_field_number c.args.kind c.args.place c.args.value)
word_is c = ap (λ b. word_in_bytes b 0) c.to_le_bytes.ensures ∙ word_at-bytes_of_word c.fill_reloc_field-word.result [] (omega arith) ∙ c.fill_reloc_field-word.ensures

pub returns-clause-held : goal.returns-clause-held
returns-clause-held c =
    ap (number_in_reloc_field c.args.kind) (word_is c)
    ∙ held_of-written c.from_le_bytes.result (reloc_field_number c.args.kind c.args.place c.args.value) (omega arith) c.args.kind c.requires.some c.requires.most (content_below c.args.place c.args.value (omega arith) (omega arith) c.args.kind (reloc_field_number c.args.kind c.args.place c.args.value) refl c.requires.some c.requires.most)

pub returns-clause-reached : goal.returns-clause-reached
returns-clause-reached c = reached_by-content_of c.args.place c.args.value (omega arith) (omega arith) c.args.kind c.requires.some c.requires.most (sym c.reloc_value_refusal.ensures ∙ c.in_default.is)

pub returns-clause-rest : goal.returns-clause-rest
returns-clause-rest c =
    ap (bits_outside_reloc_field c.args.kind) (word_is c)
    ∙ rest_of-written c.from_le_bytes.result (reloc_field_number c.args.kind c.args.place c.args.value) (omega arith) c.args.kind c.requires.some c.requires.most (content_below c.args.place c.args.value (omega arith) (omega arith) c.args.kind (reloc_field_number c.args.kind c.args.place c.args.value) refl c.requires.some c.requires.most)
    ∙ ap (bits_outside_reloc_field c.args.kind) c.from_le_bytes.ensures
