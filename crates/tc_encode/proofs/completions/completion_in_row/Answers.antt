use Rattle.std.proofs.Common.{◌∙◌, sym, ap, subst}
use Rattle.tc_isa.specs.declared.fields.Fields.{Fields}
use Rattle.tc_isa.specs.Rows.{row_of}
use Rattle.tc_isa.specs.Forms.{field_bounds}
use Rattle.tc_isa.specs.InBounds.{AreFieldsBelow}
use Rattle.tc_isa.specs.Spelling.{row_word}
use Rattle.tc_isa.proofs.TableFacts.{row_at}
use Rattle.tc_encode.proofs.Finds.{none_map}
use Rattle.tc_encode.proofs.Goes.{goes_from, goes_least, both_some}
use Rattle.tc_encode.proofs.completions.completion_in_row.Goals as goal

pub word_of_fields-rest-requires-clause-second : goal.word_of_fields-rest-requires-clause-second
word_of_fields-rest-requires-clause-second c = (row_at c.args.place _ c.requires.place).second

pub word_of_fields-rest-requires-clause-below : goal.word_of_fields-rest-requires-clause-below
word_of_fields-rest-requires-clause-below c = subst (λ (f : Fields). AreFieldsBelow f (field_bounds c.args.row.now.form)) (sym c.least_completion_fields.ensures) (row_at c.args.place _ c.requires.place).has_least.below

pub returns-clause-some : goal.returns-clause-some
returns-clause-some c = both_some c.decode_row_word.result c.decode_row_word.ensures.some c.decode_row_word.ensures.place (λ i m same. goes_from c.args.place c.args.n c.args.part c.word_of_fields-rest.result c.power_of_256-span.result (row_of c.args.row.now) i c.requires.place c.requires.longer c.requires.part c.power_of_256-span.ensures.span same m)

pub returns-clause-none : goal.returns-clause-none
returns-clause-none c = none_map c.decode_row_word.result c.decode_row_word.ensures.none (λ none i g same.
    let x = goes_least c.args.place c.args.n c.args.part c.word_of_fields-rest.result c.power_of_256-span.result (row_of c.args.row.now) i c.requires.place c.requires.low c.requires.high c.power_of_256-span.ensures.span (c.word_of_fields-rest.ensures ∙ ap (row_word (row_of c.args.row.now)) c.least_completion_fields.ensures) same g in
    none x.0 x.2 x.1)
