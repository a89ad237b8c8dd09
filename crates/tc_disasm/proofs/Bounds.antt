-- The bounds of fields.
use Rattle.std.proofs.Common.{◌<◌, ◌≤◌, ◌^◌, arith}
use Rattle.tc_isa.specs.declared.table.Form.{Form}
use Rattle.tc_isa.specs.declared.table.Form.TheVariants.{Rlc}
use Rattle.tc_isa.specs.declared.fields.Fields.{Fields}
use Rattle.tc_isa.specs.Forms.{field_bounds}
use Rattle.tc_isa.specs.InBounds.{AreFieldsBelow}
use Rattle.tc_stmt.specs.declared.want.Field.{Field}
use Rattle.tc_stmt.specs.declared.want.Field.TheVariants.{C, S1, S2, N, K}
use Rattle.tc_stmt.specs.RowFields.{field_of}

-- a field is below its bound
pub field_of-below : (field : Field) (f b : Fields) → AreFieldsBelow f b → field_of field f < field_of field b
unfolding field_of
field_of-below C f b h = h.c
field_of-below S1 f b h = h.s1
field_of-below S2 f b h = h.s2
field_of-below N f b h = h.n
field_of-below K f b h = h.k

-- no field has more than 24 bits
pub bounds-k : (form : Form) → (field_bounds form).k ≤ 2 ^ 24
unfolding field_bounds
bounds-k Rlc = omega arith
bounds-k _ = omega arith
