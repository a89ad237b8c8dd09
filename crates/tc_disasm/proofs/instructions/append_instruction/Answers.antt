use Rattle.std.proofs.Common.{◌≡◌, ◌<◌, ◌++◌, ◌∙◌, ℕ, List, sym, ap, subst, length}
use Rattle.std.specs.Prelude.{OnOk, string_bytes}
use Rattle.tc_isa.specs.Rows.{RowData}
use Rattle.tc_isa.specs.Forms.{field_bounds, fields}
use Rattle.tc_isa.specs.InBounds.{AreFieldsBelow}
use Rattle.tc_isa.proofs.Made.{inst_within, row_of_inst}
use Rattle.tc_stmt.proofs.Places.{wants_here}
use Rattle.tc_disasm.specs.Texts.{instruction_text}
use Rattle.tc_disasm.proofs.RowLaws.{wants_listed, wants_within, text_here}
use Rattle.tc_disasm.proofs.instructions.append_instruction.Goals as goal

pub bounds-rows-place : goal.bounds-rows-place
bounds-rows-place c = subst (λ n. n < length c.rows.result.now) (sym c.from-place.ensures) (inst_within c.rows.result.now _ c.rows.ensures.rows c.inst.invariant)

pub bounds-wants-place : goal.bounds-wants-place
bounds-wants-place c =
    wants_within c.rows.result.now c.wants.result.now c.from-place.result c.rows.ensures.rows c.wants.ensures
    (subst (λ n. n < length c.rows.result.now) (sym c.from-place.ensures) (inst_within c.rows.result.now _ c.rows.ensures.rows c.inst.invariant))

pub append_row_text-requires-clause-wants : goal.append_row_text-requires-clause-wants
append_row_text-requires-clause-wants c =
    let within : c.from-place.result < length c.rows.result.now = subst (λ n. n < length c.rows.result.now) (sym c.from-place.ensures) (inst_within c.rows.result.now _ c.rows.ensures.rows c.inst.invariant) in
    wants_here c.rows.result.now c.wants.result.now c.from-place.result _ _ (wants_listed c.rows.result.now c.wants.result.now c.rows.ensures.rows c.wants.ensures) within
    (wants_within c.rows.result.now c.wants.result.now c.from-place.result c.rows.ensures.rows c.wants.ensures within)

pub append_row_text-requires-clause-fits : goal.append_row_text-requires-clause-fits
append_row_text-requires-clause-fits c = subst (λ (r : RowData). AreFieldsBelow (fields c.inst.inside.c c.inst.inside.s1 c.inst.inside.s2 c.inst.inside.n c.inst.inside.k) (field_bounds r.form)) (row_of_inst c.rows.result.now c.from-place.result _ _ c.inst.invariant c.rows.ensures.rows c.from-place.ensures) c.inst.invariant.fits.below

pub returns : goal.returns
returns c =
    subst (λ (t : List ℕ). OnOk c.append_row_text.result (string_bytes c.append_row_text.new.text ≡ string_bytes c.args.text.now ++ t))
    (text_here c.rows.result.now c.from-place.result _ _ c.inst.invariant c.rows.ensures.rows c.from-place.ensures ∙ ap instruction_text c.inst.view_is)
    c.append_row_text.ensures
