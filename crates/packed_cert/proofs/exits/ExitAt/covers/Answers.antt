use Rattle.std.proofs.Common.{◌≡◌, ◌∙◌, true, false, List, sym, subst, arith}
use Rattle.std.specs.Prelude.{IsTrue, ◌↔◌}
use Rattle.value_domain.specs.declared.values.Val.{Val}
use Rattle.value_domain.specs.State.{AreBelow}
use Rattle.depth_cert.specs.Exits.{lower_values}
use Rattle.depth_cert.proofs.ExitValues.{length_lower}
use Rattle.packed_cert.proofs.LowerLaws.{lower_well}
use Rattle.packed_cert.proofs.exits.ExitAt.covers.Goals as goal
use Rattle.packed_cert.proofs.exits.ExitAt.covers.Goals.{else-s-via-then-s+else-not-ie, else-s-via-else-s}

pub are_values_covered_at-requires-clause-count : goal.are_values_covered_at-requires-clause-count
are_values_covered_at-requires-clause-count c = length_lower c.args.s.now.regs (omega arith)

pub are_values_covered_at-requires-clause-well : goal.are_values_covered_at-requires-clause-well
are_values_covered_at-requires-clause-well c r h = lower_well c.args.s.now.regs r (omega arith) (omega (arith, h, length_lower c.args.s.now.regs (omega arith))) c.requires

pub returns : goal.returns
returns c =
    let both = subst (λ (l : List Val). IsTrue c.are_values_covered_at.result ↔ AreBelow (lower_values c.args.s.now.regs) l) (sym c.lower-lower.ensures.values) c.are_values_covered_at.ensures in
    let enabled : IsTrue c.args.s.now.ie → IsTrue c.args.self.now.ie =
    elim c.else-s.branch [
      | else-s-via-then-s+else-not-ie w ↦ λ t. sym w.ie.ensures ∙ w.if-not-ie.false
      | else-s-via-else-s w ↦ λ t. absurd (let f : false ≡ true = sym w.if-s.false ∙ t in cc)
    ]
    in
    ((λ t. record { lower = both.0 t; enabled = enabled; priority = omega (arith, c.ccpn.ensures) }), (λ covers. both.1 covers.lower))
