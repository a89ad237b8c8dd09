use Rattle.std.proofs.Common.{◌<◌, ◌∙◌, sym, ap, subst, length}
use Rattle.tc_isa.specs.Rows.{RowData}
use Rattle.tc_isa.specs.Forms.{field_bounds, fields}
use Rattle.tc_isa.specs.InBounds.{AreFieldsBelow}
use Rattle.tc_isa.specs.Spelling.{row_word}
use Rattle.tc_isa.proofs.TableFacts.{row_at}
use Rattle.tc_isa.proofs.Made.{at_listed, inst_within, row_of_inst}
use Rattle.tc_encode.specs.Decoding.{instruction_length}
use Rattle.tc_encode.proofs.Encodes.{encoded, counted, padded}
use Rattle.tc_encode.proofs.encoding.encode.Goals as goal

pub bounds-rows-from : goal.bounds-rows-from
bounds-rows-from c = subst (λ n. n < length c.rows.result.now) (sym c.from.ensures) (inst_within c.rows.result.now _ c.rows.ensures.rows c.inst.invariant)

pub word_of_fields-word-requires-clause-second : goal.word_of_fields-word-requires-clause-second
word_of_fields-word-requires-clause-second c = (row_at c.from.result _ (at_listed c.rows.result.now c.from.result _ c.rows.ensures.rows (subst (λ n. n < length c.rows.result.now) (sym c.from.ensures) (inst_within c.rows.result.now _ c.rows.ensures.rows c.inst.invariant)))).second

pub word_of_fields-word-requires-clause-below : goal.word_of_fields-word-requires-clause-below
word_of_fields-word-requires-clause-below c = subst (λ (r : RowData). AreFieldsBelow (fields c.inst.inside.c c.inst.inside.s1 c.inst.inside.s2 c.inst.inside.n c.inst.inside.k) (field_bounds r.form)) (row_of_inst c.rows.result.now c.from.result _ _ c.inst.invariant c.rows.ensures.rows c.from.ensures) c.inst.invariant.fits.below

pub returns-clause-spells : goal.returns-clause-spells
returns-clause-spells c =
    let row = row_of_inst c.rows.result.now c.from.result _ _ c.inst.invariant c.rows.ensures.rows c.from.ensures in
    rw (← c.inst.view_is) (encoded _ c.inst.invariant c.word_of_fields-word.result c.instruction_length.result c.to_le_bytes.result (c.word_of_fields-word.ensures ∙ ap (λ (r : RowData). row_word r (fields c.inst.inside.c c.inst.inside.s1 c.inst.inside.s2 c.inst.inside.n c.inst.inside.k)) (sym row)) c.to_le_bytes.ensures (c.instruction_length.ensures ∙ ap (λ (r : RowData). instruction_length r.op1) (sym row)))

pub returns-clause-len : goal.returns-clause-len
returns-clause-len c =
    let row = row_of_inst c.rows.result.now c.from.result _ _ c.inst.invariant c.rows.ensures.rows c.from.ensures in
    rw (← c.inst.view_is) (counted _ c.inst.invariant c.word_of_fields-word.result c.instruction_length.result c.to_le_bytes.result (c.word_of_fields-word.ensures ∙ ap (λ (r : RowData). row_word r (fields c.inst.inside.c c.inst.inside.s1 c.inst.inside.s2 c.inst.inside.n c.inst.inside.k)) (sym row)) c.to_le_bytes.ensures (c.instruction_length.ensures ∙ ap (λ (r : RowData). instruction_length r.op1) (sym row)))

pub returns-clause-rest : goal.returns-clause-rest
returns-clause-rest c =
    let row = row_of_inst c.rows.result.now c.from.result _ _ c.inst.invariant c.rows.ensures.rows c.from.ensures in
    padded _ c.inst.invariant c.word_of_fields-word.result c.instruction_length.result c.to_le_bytes.result (c.word_of_fields-word.ensures ∙ ap (λ (r : RowData). row_word r (fields c.inst.inside.c c.inst.inside.s1 c.inst.inside.s2 c.inst.inside.n c.inst.inside.k)) (sym row)) c.to_le_bytes.ensures (c.instruction_length.ensures ∙ ap (λ (r : RowData). instruction_length r.op1) (sym row))
