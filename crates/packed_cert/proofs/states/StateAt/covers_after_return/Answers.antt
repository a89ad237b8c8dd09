use Rattle.std.proofs.Common.{◌∙◌, List, sym, ap, subst}
use Rattle.std.specs.Prelude.{IsTrue, ◌↔◌}
use Rattle.value_domain.specs.declared.values.Val.{Val}
use Rattle.value_domain.specs.declared.states.State.{State}
use Rattle.value_domain.specs.State.{AreBelow}
use Rattle.depth_cert.specs.Exits.{values_after_return_from}
use Rattle.packed_cert.specs.ValuesInBytes.{values_in_bytes}
use Rattle.packed_cert.proofs.states.StateAt.covers_after_return.Goals as goal

pub returns : goal.returns
returns c =
    let regs = sym c.offset_of_register_values.ensures.values ∙ ap (λ (s : State). s.regs) c.self.view_is in
    let low = sym c.lower.ensures.values in
    let first = subst (λ (l : List Val). IsTrue c.are_restored_below.result ↔ AreBelow (values_after_return_from 0 l c.args.s.now.regs) (values_in_bytes c.self.inside.version c.self.inside.bytes.now c.offset_of_register_values.result 27)) low c.are_restored_below.ensures in
    let both = subst (λ (l : List Val). IsTrue c.are_restored_below.result ↔ AreBelow (values_after_return_from 0 c.args.exit.now.lower c.args.s.now.regs) l) regs first in
    let context = rw (c.ie_and_ccpn_after_return-ie.ensures.ie, c.ie_and_ccpn_after_return-ie.ensures.ccpn) at (c.covers_context.ensures.0 c.if-not-covers_context.false) in
    let locals = rw (c.as_slice.ensures.value, c.as_slice-2.ensures.value) at (c.flags_imply.ensures.0 c.if-not-flags_imply.false) in (
      (λ t. record { regs = both.0 t; context = context; locals = rw c.locals.ensures at locals }),
      (λ covers. both.1 covers.regs),
    )
