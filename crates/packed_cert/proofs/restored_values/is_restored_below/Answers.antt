use Rattle.std.proofs.Common.{◌∙◌, sym, subst, arith}
use Rattle.std.specs.Prelude.{IsTrue, ◌↔◌}
use Rattle.std.proofs.lemmas.List.{get_or_default}
use Rattle.value_domain.specs.declared.values.Val.{Val}
use Rattle.value_domain.specs.Values.{IsBelow, IsWellFormed, any_val}
use Rattle.packed_cert.specs.ValuesInBytes.{value_in_bytes}
use Rattle.packed_cert.proofs.ValueShapes.{stands_at}
use Rattle.packed_cert.proofs.LowerLaws.{any_above}
use Rattle.packed_cert.proofs.restored_values.is_restored_below.Goals as goal

pub bounds-high-high : goal.bounds-high-high
bounds-high-high c = (stands_at c.args.high.version c.args.high.bytes.now c.args.high.place c.cert_bytes_below_256-2.ensures c.requires.high).inside

pub returns-then-high-eq0 : goal.returns-then-high-eq0
returns-then-high-eq0 c =
    let high = stands_at c.args.high.version c.args.high.bytes.now c.args.high.place c.cert_bytes_below_256-2.ensures c.requires.high in
    any_above c.args.i c.args.regs.now c.args.low.version c.args.low.bytes.now c.args.low.place (value_in_bytes c.args.high.version c.args.high.bytes.now c.args.high.place) c.cert_bytes_below_256.ensures (omega arith) (omega arith) c.requires.well c.requires.low
    (high.shape.any (omega arith))

pub is_encoded_value_below-requires-clause-low : goal.is_encoded_value_below-requires-clause-low
is_encoded_value_below-requires-clause-low c = c.requires.low (sym c.is_lower_slot.ensures ∙ c.if-is_lower_slot.true)

pub returns-then-is_lower_slot : goal.returns-then-is_lower_slot
returns-then-is_lower_slot c = rw (sym c.is_lower_slot.ensures ∙ c.if-is_lower_slot.true) c.is_encoded_value_below.ensures

pub is_below_value_at-requires-clause-well : goal.is_below_value_at-requires-clause-well
is_below_value_at-requires-clause-well c =
    let e = get_or_default c.args.regs.now c.args.i c.index-regs-i.result any_val (omega arith) in
    subst (λ (v : Val). IsWellFormed v) (sym e) (c.requires.well c.args.i (omega arith))

pub returns : goal.returns
returns c =
    let e = get_or_default c.args.regs.now c.args.i c.index-regs-i.result any_val (omega arith) in
    let here = subst (λ (v : Val). IsTrue c.is_below_value_at.result ↔ IsBelow v (value_in_bytes c.args.high.version c.args.high.bytes.now c.args.high.place)) e c.is_below_value_at.ensures in
    rw (sym c.is_lower_slot.ensures ∙ c.if-is_lower_slot.false) here
