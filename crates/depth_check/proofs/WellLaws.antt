-- The values of a certificate and of the start state are well-formed.
use Rattle.std.proofs.Common.{ℕ, List, get_or, false, arith, inl, inr, ◌==◌}
use Rattle.std.specs.Prelude.{All, Contains}
use Rattle.std.proofs.lemmas.List.Elements.{All-contains}
use Rattle.std.proofs.lemmas.Bool.{cases_Bool}
use Rattle.tcd_plan.specs.PlanData.{PlanData, IsPlan}
use Rattle.value_domain.specs.declared.values.Val.{Val}
use Rattle.value_domain.specs.Values.{any_val, word_val}
use Rattle.value_domain.specs.Limits.{AreLimits}
use Rattle.value_domain.specs.VersionLimits.{limits_for}
use Rattle.value_domain.specs.State.{AreWellFormed}
use Rattle.value_domain.proofs.RangeLaws.{one_value}
use Rattle.depth_cert.specs.Points.{IsWellFormedCertValue}
use Rattle.depth_cert.specs.Nodes.{NodeData, IsNode}
use Rattle.depth_cert.specs.Certs.{CertData, IsCert}
use Rattle.packed_cert.proofs.ValueShapes.{well_of}
use Rattle.cfg_recover.specs.Entries.{start_state}
use Rattle.cfg_recover.proofs.FlowStates.{entry_values}
use Rattle.depth_check.proofs.RuleLaws.{values_well}

-- the limits of any format
pub limits_are : (plan : PlanData) (version : ℕ) → AreLimits (limits_for plan version)
limits_are plan version =
    elim (cases_Bool (version == 1)) [
      | inl one ↦ record { wide = rw one (omega arith); narrow = rw one (omega arith); few_locals = rw one (omega arith) }
      | inr other ↦ record { wide = rw other (omega arith); narrow = rw other (omega arith); few_locals = rw other (omega arith) }
    ]

pub well_start : (plan : PlanData) → IsPlan plan → AreWellFormed (start_state plan).regs
well_start plan is =
    let b = limits_for plan 1 in
    values_well b (start_state plan).regs (entry_values b (word_val plan.sp) plan.start_ie plan.start_ccpn false (limits_are plan 1) (one_value b plan.sp (limits_are plan 1) is.words.sp))

-- ---- certificates
well_values : (version : ℕ) (vs : List Val) → All (IsWellFormedCertValue version) vs → AreWellFormed vs
well_values version vs all r lt = well_of version (get_or vs r any_val) (all r any_val lt)

-- the values of a certificate's points are well-formed
pub well_points : (c : CertData) (n : NodeData) → IsCert c → Contains c.nodes n → All (λ p. AreWellFormed (p.state).regs) n.points
well_points c n h member k d lt = well_values c.version (get_or n.points k d).state.regs (((All-contains (IsNode c.version) c.nodes n h.nodes member).points k d lt).state).values
