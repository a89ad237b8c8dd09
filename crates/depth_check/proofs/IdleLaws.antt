-- A point whose instruction only passes the state on: it breaks no rule by itself, and its duties
-- are the next point and the interrupts.
use Rattle.std.proofs.Common.{◌≡◌, ℕ, List, [], ◌∷◌, Option, Some, None, refl, sym, subst, ap, ◌∙◌}
use Rattle.std.specs.Prelude.{IsSome, IfSome, unwrap_or}
use Rattle.elf_image.specs.Images.{ImageData}
use Rattle.tcd_plan.specs.PlanData.{PlanData}
use Rattle.tc_isa.specs.declared.shapes.Target.{Target}
use Rattle.tc_isa.specs.declared.shapes.Target.TheVariants as target
use Rattle.tc_isa.specs.declared.shapes.Shape.{Shape}
use Rattle.tc_isa.specs.declared.shapes.Shape.TheVariants.{Jump, Nothing}
use Rattle.tc_machine.specs.Instructions.{wrapping_sum}
use Rattle.value_domain.specs.declared.states.State.{State}
use Rattle.value_domain.specs.Limits.{Limits}
use Rattle.vd_transfer.specs.EffectsOnStates.{transfer_of}
use Rattle.depth_cert.specs.declared.keys.Key.{Key}
use Rattle.depth_cert.specs.Nodes.{NodeData}
use Rattle.depth_cert.specs.Certs.{CertData}
use Rattle.cfg_recover.specs.Code.{IsCode}
use Rattle.cfg_recover.specs.LocalRules.{direct_target, targets_of, LocalRuleHolds}
use Rattle.cfg_recover.specs.LocalFaults.{IsFaultless}
use Rattle.cfg_recover.specs.Duties.{owed, jump, jump_duties_to, successor_duties_of, entry_duties_of, misaligned_duties_of, interrupt_duties_of, exit_duties_of, duties_of}
use Rattle.cfg_recover.proofs.LocalLaws.{LocalHolds-found}
use Rattle.depth_check.specs.LeastBroken.{FindsLeastBroken, lesser_broken_rule}
use Rattle.depth_check.specs.DutiesHold.{DutiesHold}
use Rattle.depth_check.specs.PassingInstructions.{IsNopOrJump, HasNopOrJump}
use Rattle.depth_check.proofs.DutyLaws.{nothing_found, parts_found}
use Rattle.depth_check.proofs.CallLaws.{lesser_none}

-- the target of such an instruction is known
known_target : (plan : PlanData) (s : State) (p : ℕ) (to : Target) (next : ℕ) → direct_target p to ≡ Some next → targets_of plan s p to ≡ Some (next ∷ [])
known_target plan s p (target.Rel by) next e = let same : wrapping_sum p by ≡ next = cc in ap (λ (x : ℕ). Some (x ∷ [])) same
known_target plan s p (target.Abs x) next e = let same : x ≡ next = cc in ap (λ (y : ℕ). Some (y ∷ [])) same
known_target plan s p (target.Reg r) next e = absurd (none_some next e)
  where
    none_some : (n : ℕ) → None ≡ Some n → ⊥
    none_some n e = cc

pub nothing_passes : (image : ImageData) (plan : PlanData) (p n : ℕ) → IsCode image plan p Nothing n → HasNopOrJump image plan p (wrapping_sum p n)
nothing_passes image plan p n code = record { shape = Nothing; size = n; code = code; passes = refl }

pub jump_passes : (image : ImageData) (plan : PlanData) (p n : ℕ) (to : Target) (o : Option ℕ) → IsCode image plan p (Jump to) n → o ≡ direct_target p to → IfSome o (HasNopOrJump image plan p)
jump_passes image plan p n to None code e = tt
jump_passes image plan p n to (Some t) code e = record { shape = Jump to; size = n; code = code; passes = sym e }

local_of : (b : Limits) (plan : PlanData) (key : Key) (p : ℕ) (s : State) (shape : Shape) (n next r : ℕ) → IsNopOrJump p shape n next → LocalRuleHolds b plan key p s shape r
local_of b plan key p s Nothing n next r h =
    record { targets = λ e. tt; returns = λ e. tt; exceptions = λ e. tt; room = λ e. tt; stores = λ e. tt; accesses = λ e. tt; system = λ e. tt; writes = λ e. tt }
local_of b plan key p s (Jump to) n next r h = record {
  targets = λ e. subst (λ (o : Option (List ℕ)). IsSome o) (sym (known_target plan s p to next h)) refl;
  returns = λ e. tt;
  exceptions = λ e. tt;
  room = λ e. tt;
  stores = λ e. tt;
  accesses = λ e. tt;
  system = λ e. tt;
  writes = λ e. tt;
}
local_of b plan key p s shape n next r h = absurd h

pub idle_faultless : (b : Limits) (image : ImageData) (plan : PlanData) (key : Key) (p : ℕ) (s : State) (next : ℕ) → HasNopOrJump image plan p next → IsFaultless b image plan key p s
idle_faultless b image plan key p s next on r = LocalHolds-found b image plan key p s on.shape on.size r on.code (local_of b plan key p s on.shape on.size next r on.passes)

-- a point whose only duties are its successors and the interrupts
alone_found : (b : Limits) (image : ImageData) (plan : PlanData) (cert : CertData) (node : NodeData) (p : ℕ) (s : State) (shape : Shape) (n : ℕ) (on irqs : Option ℕ)
    → FindsLeastBroken (DutiesHold cert node s (successor_duties_of b image plan p s shape n)) on → FindsLeastBroken (DutiesHold cert node s (entry_duties_of plan node.key p s shape n)) None
    → FindsLeastBroken (DutiesHold cert node s (misaligned_duties_of b plan node.key s shape)) None → FindsLeastBroken (DutiesHold cert node s (interrupt_duties_of plan node.key s)) irqs
    → FindsLeastBroken (DutiesHold cert node s (exit_duties_of node.key s shape)) None → FindsLeastBroken (DutiesHold cert node s (duties_of b image plan node.key p s shape n)) (lesser_broken_rule on irqs)
alone_found b image plan cert node p s shape n on irqs j e m i l =
    let same : lesser_broken_rule (lesser_broken_rule (lesser_broken_rule (lesser_broken_rule on None) None) irqs) None ≡ lesser_broken_rule on irqs =
    lesser_none (lesser_broken_rule (lesser_broken_rule (lesser_broken_rule on None) None) irqs)
    ∙ ap (λ (o : Option ℕ). lesser_broken_rule o irqs) (lesser_none (lesser_broken_rule on None) ∙ lesser_none on) in
    subst (λ (o : Option ℕ). FindsLeastBroken (DutiesHold cert node s (duties_of b image plan node.key p s shape n)) o) same
    (parts_found b image plan cert node p s shape n on None None irqs None j e m i l)

found_of : (b : Limits) (image : ImageData) (plan : PlanData) (cert : CertData) (node : NodeData) (p : ℕ) (s : State) (shape : Shape) (n next : ℕ) (on irqs : Option ℕ) → IsNopOrJump p shape n next
    → FindsLeastBroken (DutiesHold cert node s (owed 4 (jump next s) ∷ [])) on → FindsLeastBroken (DutiesHold cert node s (interrupt_duties_of plan node.key s)) irqs
    → FindsLeastBroken (DutiesHold cert node s (duties_of b image plan node.key p s shape n)) (lesser_broken_rule on irqs)
unfolding transfer_of
found_of b image plan cert node p s Nothing n next on irqs h j i =
    alone_found b image plan cert node p s Nothing n on irqs (subst (λ (q : ℕ). FindsLeastBroken (DutiesHold cert node s (owed 4 (jump q s) ∷ [])) on) (sym h) j)
    (nothing_found cert node s) (nothing_found cert node s) i (nothing_found cert node s)
found_of b image plan cert node p s (Jump to) n next on irqs h j i =
    alone_found b image plan cert node p s (Jump to) n on irqs
    (subst (λ (o : Option (List ℕ)). FindsLeastBroken (DutiesHold cert node s (jump_duties_to s (unwrap_or o []))) on) (sym (known_target plan s p to next h)) j)
    (nothing_found cert node s) (nothing_found cert node s) i (nothing_found cert node s)
found_of b image plan cert node p s shape n next on irqs h j i = absurd h

pub idle_found : (b : Limits) (image : ImageData) (plan : PlanData) (cert : CertData) (node : NodeData) (p : ℕ) (s : State) (next : ℕ) (at : HasNopOrJump image plan p next) (on irqs : Option ℕ)
    → FindsLeastBroken (DutiesHold cert node s (owed 4 (jump next s) ∷ [])) on → FindsLeastBroken (DutiesHold cert node s (interrupt_duties_of plan node.key s)) irqs
    → FindsLeastBroken (DutiesHold cert node s (duties_of b image plan node.key p s at.shape at.size)) (lesser_broken_rule on irqs)
idle_found b image plan cert node p s next at on irqs j i = found_of b image plan cert node p s at.shape at.size next on irqs at.passes j i
