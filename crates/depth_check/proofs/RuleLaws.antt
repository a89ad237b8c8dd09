-- The least rule that fails at a point, from its values, the fault of its instruction, its duties
-- and its need.
use Rattle.std.proofs.Common.{◌≡◌, ℕ, ◌≤◌, Bool, List, get_or, Option, Some, inl, inr, arith, refl, subst, sym, ap, ◌∙◌}
use Rattle.std.specs.Prelude.{IsTrue, ◌↔◌, All, Contains}
use Rattle.std.proofs.lemmas.Bool.{cases_lt}
use Rattle.std.proofs.lemmas.List.Elements.{All-contains, All-weaker, Contains-get_or}
use Rattle.elf_image.specs.Images.{ImageData}
use Rattle.tcd_plan.specs.PlanData.{PlanData}
use Rattle.tc_isa.specs.declared.shapes.Shape.{Shape}
use Rattle.value_domain.specs.declared.values.Val.{Val}
use Rattle.value_domain.specs.Limits.{Limits}
use Rattle.value_domain.specs.State.{AreInLattice, AreWellFormed}
use Rattle.depth_cert.specs.declared.points.Point.{Point}
use Rattle.depth_cert.specs.Nodes.{NodeData}
use Rattle.depth_cert.specs.Certs.{CertData}
use Rattle.cfg_recover.specs.Code.{IsCode}
use Rattle.cfg_recover.specs.LocalFaults.{IsLocalFault, IsFaultless}
use Rattle.cfg_recover.specs.Duties.{Owed, duties_of}
use Rattle.cfg_recover.specs.RulesHoldOrFail.{IsLocallyFaultless, limits_of_cert, RuleHolds, EntryNeedRuleHolds}
use Rattle.cfg_recover.proofs.CodeLaws.{IsCode-one}
use Rattle.depth_check.specs.LeastBroken.{FindsLeastBroken, lesser_broken_rule, broken_rule_unless}
use Rattle.depth_check.specs.DutiesHold.{DutyHolds, DutiesHold, IsNeedSufficient}
use Rattle.depth_check.proofs.LeastLaws.{found_by, found_both, found_same}

-- a property of each element that a list contains
pub All-from_contains : {X : Type 0} (P : X → Type 0) (xs : List X) → ((x : X) → Contains xs x → P x) → All P xs
All-from_contains P xs each k d lt = each (get_or xs k d) (Contains-get_or xs k d lt)

-- ---- values
pub values_well : (b : Limits) (vs : List Val) → AreInLattice b vs → AreWellFormed vs
values_well b vs values r lt = (values r lt).well

-- ---- rules
module _ (image : ImageData) (plan : PlanData) (cert : CertData) (node : NodeData) (point : Point) where
  -- what a rule asks of the instruction alone
  own_known : (b : Limits) (r : ℕ) → IsLocalFault b image plan node.key point.addr point.state r → r ≤ 14
  own_known b r fault =
      elim (cases_lt 14 r) [
        | inr small ↦ small
        | inl great ↦
            absurd (fault.fails (record {
              code = λ e. absurd (omega arith);
              own = λ shape n code. record {
                targets = λ e. absurd (omega arith);
                returns = λ e. absurd (omega arith);
                exceptions = λ e. absurd (omega arith);
                room = λ e. absurd (omega arith);
                stores = λ e. absurd (omega arith);
                accesses = λ e. absurd (omega arith);
                system = λ e. absurd (omega arith);
                writes = λ e. absurd (omega arith);
              };
            }))
      ]

  pub own_broken : (b : Limits) (r : ℕ) → b ≡ limits_of_cert plan cert → AreInLattice b (point.state).regs → IsLocalFault b image plan node.key point.addr point.state r → FindsLeastBroken (RuleHolds image plan cert node point) (Some r)
  own_broken b r limits values fault =
      let v : AreInLattice (limits_of_cert plan cert) (point.state).regs = subst (λ (c : Limits). AreInLattice c (point.state).regs) limits values in
      let f : IsLocalFault (limits_of_cert plan cert) image plan node.key point.addr point.state r = subst (λ (c : Limits). IsLocalFault c image plan node.key point.addr point.state r) limits fault in
      record {
        broken = λ h. f.fails (h.own v);
        least = λ q lt. record { values = λ e. v; own = λ w. f.least q lt; covered = λ shape n d alone. absurd (f.fails (alone.faultless r)); needs = λ shape n e alone. absurd (f.fails (alone.faultless r)) };
        known = own_known b r fault;
      }

  -- a value that isn't one of the plan
  pub values_broken : (b : Limits) → b ≡ limits_of_cert plan cert → (AreInLattice b (point.state).regs → ⊥) → FindsLeastBroken (RuleHolds image plan cert node point) (Some 2)
  values_broken b limits not =
      let none : AreInLattice (limits_of_cert plan cert) (point.state).regs → ⊥ = λ v. not (subst (λ (c : Limits). AreInLattice c (point.state).regs) (sym limits) v) in
      record {
        broken = λ h. none (h.values refl);
        least = λ q lt. record { values = λ e. absurd (omega arith); own = λ v. absurd (none v); covered = λ shape n d alone. absurd (none alone.values); needs = λ shape n e alone. absurd (none alone.values) };
        known = omega arith;
      }

  -- duties and the need
  module _ (shape : Shape) (size : ℕ) (values : AreInLattice (limits_of_cert plan cert) (point.state).regs) (faultless : IsFaultless (limits_of_cert plan cert) image plan node.key point.addr point.state) (code : IsCode image plan point.addr shape size) where
    alone : IsLocallyFaultless image plan cert node point shape size
    alone = record { values = values; faultless = faultless; code = code }

    -- for any shape and size of the code there
    told_is : (other : Shape) (n : ℕ) → IsCode image plan point.addr other n
        → duties_of (limits_of_cert plan cert) image plan node.key point.addr point.state shape size ≡ duties_of (limits_of_cert plan cert) image plan node.key point.addr point.state other n
    told_is other n found =
        let one = IsCode-one image plan point.addr shape other size n code found in
        ap (λ (x : Shape). duties_of (limits_of_cert plan cert) image plan node.key point.addr point.state x size) one.0
        ∙ ap (λ m. duties_of (limits_of_cert plan cert) image plan node.key point.addr point.state other m) one.1

    holds_to : (q : ℕ) → DutiesHold cert node point.state (duties_of (limits_of_cert plan cert) image plan node.key point.addr point.state shape size) q × (14 ≡ q → IsNeedSufficient image plan node point) → RuleHolds image plan cert node point q
    holds_to q h = record {
      values = λ e. values;
      own = λ v. faultless q;
      covered = λ other n d alone c e.
          (All-contains (DutyHolds cert node point.state q) (duties_of (limits_of_cert plan cert) image plan node.key point.addr point.state shape size) d h.0 (subst (λ (l : List Owed). Contains l d) (sym (told_is other n alone.code)) c)).met e;
      needs = λ other n e alone.
          let own = h.1 (sym e) in
          record {
            locals = own.locals;
            entered =
                subst (λ (l : List Owed). All (λ d. EntryNeedRuleHolds cert node point.state d.duty) l) (told_is other n alone.code)
                (All-weaker (DutyHolds cert node point.state q) (λ d. EntryNeedRuleHolds cert node point.state d.duty) (λ d w. w.need e) (duties_of (limits_of_cert plan cert) image plan node.key point.addr point.state shape size) h.0);
            start = own.start;
          };
    }

    pub holds_from : (q : ℕ) → RuleHolds image plan cert node point q → DutiesHold cert node point.state (duties_of (limits_of_cert plan cert) image plan node.key point.addr point.state shape size) q × (14 ≡ q → IsNeedSufficient image plan node point)
    holds_from q h = (
      All-from_contains (DutyHolds cert node point.state q) (duties_of (limits_of_cert plan cert) image plan node.key point.addr point.state shape size)
          (λ d c. record {
            met = λ e. h.covered shape size d alone c e;
            need = λ e.
                All-contains (λ d. EntryNeedRuleHolds cert node point.state d.duty) (duties_of (limits_of_cert plan cert) image plan node.key point.addr point.state shape size) d
                (h.needs shape size e alone).entered c;
          }),
      (λ e. let need = h.needs shape size (sym e) alone in record { locals = need.locals; start = need.start }),
    )

    pub duties_found : (duties : Option ℕ) (own : Bool) → FindsLeastBroken (DutiesHold cert node point.state (duties_of (limits_of_cert plan cert) image plan node.key point.addr point.state shape size)) duties → (IsTrue own ↔ IsNeedSufficient image plan node point)
        → FindsLeastBroken (RuleHolds image plan cert node point) (lesser_broken_rule duties (broken_rule_unless own 14))
    duties_found duties own f d =
        found_same (λ q. DutiesHold cert node point.state (duties_of (limits_of_cert plan cert) image plan node.key point.addr point.state shape size) q × (14 ≡ q → IsNeedSufficient image plan node point)) (RuleHolds image plan cert node point) (lesser_broken_rule duties (broken_rule_unless own 14)) holds_to holds_from
        (found_both (DutiesHold cert node point.state (duties_of (limits_of_cert plan cert) image plan node.key point.addr point.state shape size)) (λ q. 14 ≡ q → IsNeedSufficient image plan node point) duties (broken_rule_unless own 14) f
        (found_by own 14 (IsNeedSufficient image plan node point) (omega arith) d))
