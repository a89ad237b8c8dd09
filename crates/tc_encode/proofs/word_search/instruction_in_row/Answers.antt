use Rattle.std.proofs.Common.{subst, ◌∙◌, sym, ap}
use Rattle.tc_isa.specs.declared.fields.Fields.{Fields}
use Rattle.std.proofs.lemmas.Bool.{both_ways}
use Rattle.tc_isa.specs.Rows.{row_of}
use Rattle.tc_isa.specs.Forms.{field_bounds}
use Rattle.tc_isa.specs.InBounds.{AreFieldsBelow}
use Rattle.tc_isa.specs.ValidRowFields.{are_unused_fields_zero, are_registers_allowed, used_fields}
use Rattle.tc_encode.proofs.Gaps.{fields_below}
use Rattle.tc_encode.proofs.Finds.{stands, makes_of}
use Rattle.tc_encode.proofs.word_search.instruction_in_row.Goals as goal

pub returns-then-not-are_unused_bits_zero-clause-none : goal.returns-then-not-are_unused_bits_zero-clause-none
returns-then-not-are_unused_bits_zero-clause-none c = λ i m same. both_ways _ (sym c.are_unused_bits_zero.ensures ∙ c.if-not-are_unused_bits_zero.true) (stands c.args.place c.args.w (row_of c.args.row.now) c.requires.place i m same).full

pub are_missing_fields_zero-requires-clause-below : goal.are_missing_fields_zero-requires-clause-below
are_missing_fields_zero-requires-clause-below c = subst (λ (f : Fields). AreFieldsBelow f (field_bounds c.args.row.now.form)) (sym c.fields_of_word-f.ensures) (fields_below c.args.row.now.form c.args.w c.ranges.w.fits)

pub returns-then-not-are_missing_fields_zero-clause-none : goal.returns-then-not-are_missing_fields_zero-clause-none
returns-then-not-are_missing_fields_zero-clause-none c = λ i m same.
    let s = stands c.args.place c.args.w (row_of c.args.row.now) c.requires.place i m same in
    both_ways _ (sym c.are_missing_fields_zero.ensures ∙ c.if-not-are_missing_fields_zero.true) (ap (are_unused_fields_zero (used_fields (row_of c.args.row.now))) c.fields_of_word-f.ensures ∙ s.fits.zero)

pub returns-then-not-are_registers_allowed-clause-none : goal.returns-then-not-are_registers_allowed-clause-none
returns-then-not-are_registers_allowed-clause-none c = λ i m same.
    let s = stands c.args.place c.args.w (row_of c.args.row.now) c.requires.place i m same in
    both_ways _ (sym c.are_registers_allowed.ensures ∙ c.if-not-are_registers_allowed.true) (ap (are_registers_allowed (row_of c.args.row.now)) c.fields_of_word-f.ensures ∙ s.fits.apart)

pub invariant_of-result : goal.invariant_of-result
invariant_of-result c = (makes_of c.args.place c.args.w (row_of c.args.row.now) c.fields_of_word-f.result c.requires.place c.fields_of_word-f.ensures c.ranges.w.fits c.requires.short c.requires.first c.requires.second (sym c.are_unused_bits_zero.ensures ∙ c.if-not-are_unused_bits_zero.false) (sym c.are_missing_fields_zero.ensures ∙ c.if-not-are_missing_fields_zero.false) (sym c.are_registers_allowed.ensures ∙ c.if-not-are_registers_allowed.false)).inst

pub returns-clause-some : goal.returns-clause-some
returns-clause-some c = makes_of c.args.place c.args.w (row_of c.args.row.now) c.fields_of_word-f.result c.requires.place c.fields_of_word-f.ensures c.ranges.w.fits c.requires.short c.requires.first c.requires.second (sym c.are_unused_bits_zero.ensures ∙ c.if-not-are_unused_bits_zero.false) (sym c.are_missing_fields_zero.ensures ∙ c.if-not-are_missing_fields_zero.false) (sym c.are_registers_allowed.ensures ∙ c.if-not-are_registers_allowed.false)
