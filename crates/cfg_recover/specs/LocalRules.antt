-- The own parts of rules: what they ask of a point's instruction alone, whatever other points the
-- certificate has.
use Rattle.std.specs.Prelude.{◌≡◌, ◌*◌, ◌/◌, ◌⊎◌, ℕ, true, List, ◌∷◌, length, map, Option, Some, None, IsSome, []}
use Rattle.depth_cert.specs.Keys.{call_kind, irq_kind, aln_kind, sys_kind}
use Rattle.elf_image.specs.Images.{ImageData}
use Rattle.tcd_plan.specs.PlanData.{PlanData}
use Rattle.tc_isa.specs.declared.shapes.Target.{Target}
use Rattle.tc_isa.specs.declared.shapes.Target.TheVariants as target
use Rattle.tc_isa.specs.declared.shapes.Shape.{Shape}
use Rattle.tc_isa.specs.declared.shapes.Shape.TheVariants.{Load, Store, Jump, Call, Ret, Rfe, Syscall}
use Rattle.tc_machine.specs.Instructions.{wrapping_sum}
use Rattle.value_domain.specs.declared.values.Val.{Val}
use Rattle.value_domain.specs.declared.values.Val.TheVariants.{Set, Span}
use Rattle.value_domain.specs.declared.states.State.{State}
use Rattle.value_domain.specs.Limits.{Limits}
use Rattle.value_domain.specs.Sets.{sorted_set_of}
use Rattle.vd_transfer.specs.Registers.{reg_of, WritesNoFixedRegister}
use Rattle.vd_transfer.specs.EffectsOnStates.{address_of_access, LocalsFitInstruction}
use Rattle.store_ranges.specs.Accesses.{AreStoresInRange, are_aligned}
use Rattle.depth_cert.specs.declared.keys.Key.{Key}
use Rattle.cfg_recover.specs.Code.{IsCode, HasCode}

-- ---- targets
-- the targets of a jump or a call by a register with this value: a Set's words with bit 0 cleared;
-- none for a Span
abbrev pub targets_of_value : Val → Option (List ℕ)
targets_of_value (Set ws) = Some (sorted_set_of (map (λ w. w / 2 * 2) ws))
targets_of_value (Span lo last step) = None

-- the targets of a jump or a call at p; none if they are in a register whose value isn't a Set,
-- which breaks K5
abbrev pub targets_of : PlanData → State → ℕ → Target → Option (List ℕ)
targets_of plan s p (target.Rel by) = Some (wrapping_sum p by ∷ [])
targets_of plan s p (target.Abs x) = Some (x ∷ [])
targets_of plan s p (target.Reg r) = targets_of_value (reg_of plan s r)

-- the only target of a jump or a call at p, if that is known without any register; none for a
-- target in a register
abbrev pub direct_target : ℕ → Target → Option ℕ
direct_target p (target.Rel by) = Some (wrapping_sum p by)
direct_target p (target.Abs x) = Some x
direct_target p (target.Reg r) = None

-- ---- the rules' own parts, by shape; nothing is asked of other shapes
-- K5: the targets of a jump or a call are a known list of addresses
abbrev pub HasKnownTargets : PlanData → State → ℕ → Shape → Type 0
HasKnownTargets plan s p (Jump to) = IsSome (targets_of plan s p to)
HasKnownTargets plan s p (Call to) = IsSome (targets_of plan s p to)
HasKnownTargets plan s p _ = Unit {0}

-- K6: only a called function returns, and it has restored all lower contexts
abbrev pub IsReturnAllowed : Key → State → Shape → Type 0
IsReturnAllowed key s Ret = (key.kind ≡ call_kind) × (length s.locals.items ≡ 0)
IsReturnAllowed key s _ = Unit {0}

-- K7: only a handler returns from an exception, and it has restored all lower contexts. The handler
-- of an interrupt or of a misaligned access, which may come anywhere, returns with the lower
-- registers of its entry.
abbrev pub IsExceptionReturnAllowed : Key → State → Shape → Type 0
IsExceptionReturnAllowed key s Rfe =
    (length s.locals.items ≡ 0) × ((((key.kind ≡ irq_kind) ⊎ (key.kind ≡ aln_kind)) × (s.lower ≡ true)) ⊎ (key.kind ≡ sys_kind))
IsExceptionReturnAllowed key s _ = Unit {0}

-- K9's own part, for an instruction of this shape at a point: each possible store is in one ram
-- range or one peripheral range as a whole, and doesn't pass 2^32
abbrev pub StoresInRange : Limits → PlanData → State → Shape → Type 0
StoresInRange b plan s (Store src base offset size after) = AreStoresInRange plan (address_of_access b plan (Store src base offset size after) s) size
StoresInRange b plan s _ = Unit {0}

-- K10: each possible address is a multiple of the size, or the plan states the trap of misaligned
-- accesses.
abbrev pub IsAccessAllowed : Limits → PlanData → State → Shape → Type 0
IsAccessAllowed b plan s (Load dst base offset size signed after) =
    (are_aligned (address_of_access b plan (Load dst base offset size signed after) s) size ≡ true) ⊎ (plan.aln ≡ true)
IsAccessAllowed b plan s (Store src base offset size after) =
    (are_aligned (address_of_access b plan (Store src base offset size after) s) size ≡ true) ⊎ (plan.aln ≡ true)
IsAccessAllowed b plan s _ = Unit {0}

-- K12: the plan states the trap of system calls
abbrev pub IsSystemCallAllowed : PlanData → Shape → Type 0
IsSystemCallAllowed plan (Syscall tin) = plan.sys ≡ true
IsSystemCallAllowed plan _ = Unit {0}

-- The own part of rule r at an instruction of this shape. K8: a lower context is saved only if
-- there is room for a local, and restored only if there is one. K13: the instruction isn't MTCR,
-- and writes none of A0, A1, A8, A9 and A11.
pub record LocalRuleHolds (b : Limits) (plan : PlanData) (key : Key) (p : ℕ) (s : State) (shape : Shape) (r : ℕ) : Type 0 where
  pub targets : r ≡ 5 → HasKnownTargets plan s p shape
  pub returns : r ≡ 6 → IsReturnAllowed key s shape
  pub exceptions : r ≡ 7 → IsExceptionReturnAllowed key s shape
  pub room : r ≡ 8 → LocalsFitInstruction b shape s
  pub stores : r ≡ 9 → StoresInRange b plan s shape
  pub accesses : r ≡ 10 → IsAccessAllowed b plan s shape
  pub system : r ≡ 12 → IsSystemCallAllowed plan shape
  pub writes : r ≡ 13 → WritesNoFixedRegister shape

-- The own part of rule r holds at the point p of a node with this key and state. K3: there is an
-- instruction.
pub record LocalRuleHoldsAtPoint (b : Limits) (image : ImageData) (plan : PlanData) (key : Key) (p : ℕ) (s : State) (r : ℕ) : Type 0 where
  pub code : r ≡ 3 → HasCode image plan p
  pub own : (shape : Shape) (n : ℕ) → IsCode image plan p shape n → LocalRuleHolds b plan key p s shape r

-- ---- K9 and K10, by the addresses of the access

-- what K9 asks of a point's instruction alone, by the addresses of its access: each possible store
-- is in one ram range or one peripheral range as a whole, and doesn't pass 2^32
abbrev pub StoresInRangeAtValue : PlanData → Val → Shape → Type 0
StoresInRangeAtValue plan at (Store src base offset size after) = AreStoresInRange plan at size
StoresInRangeAtValue plan at _ = Unit {0}

-- the own part of K10, by the addresses of the access: each is a multiple of the size, or the plan
-- states the trap of misaligned accesses
abbrev pub IsAccessAllowedAtValue : PlanData → Val → Shape → Type 0
IsAccessAllowedAtValue plan at (Load dst base offset size signed after) = (are_aligned at size ≡ true) ⊎ (plan.aln ≡ true)
IsAccessAllowedAtValue plan at (Store src base offset size after) = (are_aligned at size ≡ true) ⊎ (plan.aln ≡ true)
IsAccessAllowedAtValue plan at _ = Unit {0}
