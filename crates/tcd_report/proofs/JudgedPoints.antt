-- What holds at each point of an accepted certificate.
use Rattle.std.proofs.Common.{◌≡◌, ℕ, refl, sym, subst, Contains}
use Rattle.std.proofs.lemmas.List.Elements.{All-contains}
use Rattle.elf_image.specs.Images.{ImageData}
use Rattle.tcd_plan.specs.PlanData.{PlanData}
use Rattle.value_domain.specs.Limits.{Limits}
use Rattle.value_domain.specs.State.{AreInLattice}
use Rattle.depth_cert.specs.declared.points.Point.{Point}
use Rattle.depth_cert.specs.Nodes.{NodeData}
use Rattle.depth_cert.specs.Certs.{CertData}
use Rattle.cfg_recover.specs.LocalFaults.{IsFaultless}
use Rattle.cfg_recover.specs.RulesHoldOrFail.{limits_of_cert, RuleHolds, RulesHoldAtNode, Accepts}

module _ (image : ImageData) (plan : PlanData) (cert : CertData) (accepted : Accepts image plan cert) (node : NodeData) (stands : Contains cert.nodes node) (point : Point) (there : Contains node.points point) where
  pub all_rules : (r : ℕ) → RuleHolds image plan cert node point r
  all_rules =
      let holds : RulesHoldAtNode image plan cert node = All-contains (RulesHoldAtNode image plan cert) cert.nodes node accepted.nodes stands in
      All-contains (λ p. (r : ℕ) → RuleHolds image plan cert node p r) node.points point holds.points there

  pub point_values : (b : Limits) → b ≡ limits_of_cert plan cert → AreInLattice b (point.state).regs
  point_values b e = subst (λ x. AreInLattice x (point.state).regs) (sym e) ((all_rules 2).values refl)

  pub point_faultless : (b : Limits) → b ≡ limits_of_cert plan cert → IsFaultless b image plan node.key point.addr point.state
  point_faultless b e = subst (λ x. IsFaultless x image plan node.key point.addr point.state) (sym e) (λ r. (all_rules r).own ((all_rules 2).values refl))
