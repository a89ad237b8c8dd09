-- Operands that a row refuses.
use Rattle.std.specs.Prelude.{◌<◌, ◌≤◌, Option, Some, None}
use Rattle.tc_stmt.specs.RowFields.{RowFieldsData}

-- a row refuses the printed operands: they have another form, or break a rule
abbrev pub AreRefusedOperands : Option RowFieldsData → Type 0
AreRefusedOperands None = Unit {0}
AreRefusedOperands (Some f) = f.rule < 15

-- the outcome after a further operand: the operands have another form, or the least rule that they
-- break is no greater than before
abbrev pub StaysRefused : RowFieldsData → Option RowFieldsData → Type 0
StaysRefused acc None = Unit {0}
StaysRefused acc (Some f) = f.rule ≤ acc.rule

-- printed operands that another row refuses stay refused after a further operand: a record of
-- StaysRefused, which stays folded
pub record StaysRefusedFolded (acc : RowFieldsData) (o : Option RowFieldsData) : Type 0 where
  pub is : StaysRefused acc o
