use Rattle.std.proofs.Common.{◌∙◌, List, ap, sym, subst}
use Rattle.std.specs.Prelude.{IsTrue, ◌↔◌}
use Rattle.value_domain.specs.declared.values.Val.{Val}
use Rattle.value_domain.specs.declared.states.State.{State}
use Rattle.value_domain.specs.State.{AreBelow}
use Rattle.packed_cert.proofs.states.StateAt.covers.Goals as goal

pub returns : goal.returns
returns c =
    let regs = sym c.offset_of_register_values-place.ensures.values ∙ ap (λ (s : State). s.regs) c.self.view_is in
    let below = subst (λ (l : List Val). IsTrue c.are_values_covered_at.result ↔ AreBelow (c.args.s.now).regs l) regs c.are_values_covered_at.ensures in
    let locals = rw (c.as_slice.ensures.value, c.as_slice-2.ensures.value) at (c.flags_imply.ensures.0 c.if-not-flags_imply.false) in (
      (λ t. record { regs = below.0 t; context = c.covers_context.ensures.0 c.if-not-covers_context.false; locals = rw c.locals.ensures at locals }),
      (λ covers. below.1 covers.regs),
    )
