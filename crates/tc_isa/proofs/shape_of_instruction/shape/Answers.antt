use Rattle.std.proofs.Common.{◌∙◌, sym, ap, subst}
use Rattle.tc_isa.specs.Meanings.{shape_of}
use Rattle.tc_isa.specs.InBounds.{IsShapeInBounds}
use Rattle.tc_isa.proofs.Shaped.{small, meanings_enough, shaped}
use Rattle.tc_isa.proofs.ShapeBounds.{shape_is}
use Rattle.tc_isa.proofs.shape_of_instruction.shape.Goals as goal

pub bounds-row_meanings-from : goal.bounds-row_meanings-from
bounds-row_meanings-from c = meanings_enough c.row_meanings.result.now c.from.result _ c.row_meanings.ensures c.from.ensures c.inst.invariant

pub shape_from_fields-requires : goal.shape_from_fields-requires
shape_from_fields-requires c = small _ c.inst.invariant

pub returns-clause-shape : goal.returns-clause-shape
returns-clause-shape c = c.shape_from_fields.ensures ∙ shaped c.row_meanings.result.now c.from.result _ _ c.row_meanings.ensures c.from.ensures c.inst.invariant ∙ ap shape_of c.inst.view_is

pub returns-clause-bounded : goal.returns-clause-bounded
returns-clause-bounded c = subst IsShapeInBounds (sym (c.shape_from_fields.ensures ∙ shaped c.row_meanings.result.now c.from.result _ _ c.row_meanings.ensures c.from.ensures c.inst.invariant)) (shape_is _ c.inst.invariant)
