use Rattle.std.proofs.Common.{arith, refl}
use Rattle.std.proofs.lemmas.Bool.{both_ways}
use Rattle.tc_isa.proofs.Made.{made, made_fits, inst_within, uses_listed}
use Rattle.tc_isa.proofs.fitting_fields.inst.Goals as goal

pub returns-then-place-rows-clause-listed : goal.returns-then-place-rows-clause-listed
returns-then-place-rows-clause-listed c = (λ e. cc, λ is. let within = inst_within c.rows-rows.result.now _ c.rows-rows.ensures.rows is in absurd (omega arith))

pub fields_fit_row-requires : goal.fields_fit_row-requires
fields_fit_row-requires c = uses_listed c.rows-rows.result.now c.used_fields_by_row.result.now c.from-place.result _ _ c.rows-rows.ensures.rows c.used_fields_by_row.ensures (omega arith)

pub returns-then-not-fields_fit_row-clause-listed : goal.returns-then-not-fields_fit_row-clause-listed
returns-then-not-fields_fit_row-clause-listed c = (λ e. cc, λ is. absurd (both_ways _ c.if-not-fields_fit_row.true (c.fields_fit_row.ensures.1 (made_fits c.rows-rows.result.now c.from-place.result _ _ c.rows-rows.ensures.rows c.from-place.ensures (omega arith) is))))

pub invariant_of-result : goal.invariant_of-result
invariant_of-result c = made c.rows-rows.result.now c.from-place.result _ _ c.rows-rows.ensures.rows c.from-place.ensures (omega arith) (c.fields_fit_row.ensures.0 c.if-not-fields_fit_row.false)

pub returns-clause-listed : goal.returns-clause-listed
returns-clause-listed c = (λ e. made c.rows-rows.result.now c.from-place.result _ _ c.rows-rows.ensures.rows c.from-place.ensures (omega arith) (c.fields_fit_row.ensures.0 c.if-not-fields_fit_row.false), λ is. refl)
