-- The frames that a point enters have keys.
use Rattle.std.proofs.Common.{◌≡◌, ℕ, ◌+◌, ◌*◌, ◌/◌, ◌%◌, ◌^◌, ◌<◌, inl, inr, Bool, true, false, List, [], ◌∷◌, map, arith, Contains, ltb}
use Rattle.std.specs.Prelude.{filter, unwrap_or, bit_or, ◌&&◌, if◌then◌else◌}
use Rattle.std.specs.List.{list_all}
use Rattle.std.proofs.lemmas.Bool.{ltb-true, and_parts}
use Rattle.std.proofs.lemmas.Nat.{or_of_32}
use Rattle.elf_image.specs.Images.{ImageData}
use Rattle.tcd_plan.specs.PlanData.{PlanData}
use Rattle.tc_isa.specs.declared.shapes.Target.{Target}
use Rattle.tc_isa.specs.declared.shapes.Target.TheVariants as target
use Rattle.tc_isa.specs.declared.shapes.Shape.{Shape}
use Rattle.tc_isa.specs.InBounds.{IsShapeInBounds, IsTargetInBounds}
use Rattle.tc_machine.specs.Instructions.{wrapping_sum}
use Rattle.value_domain.specs.declared.values.Val.{Val}
use Rattle.value_domain.specs.declared.values.Val.TheVariants.{Set, Span}
use Rattle.value_domain.specs.declared.states.State.{State}
use Rattle.value_domain.specs.Limits.{Limits}
use Rattle.value_domain.specs.Sets.{Among}
use Rattle.value_domain.specs.Values.{IsWellFormed}
use Rattle.value_domain.proofs.SetLaws.{among_distinct}
use Rattle.vd_transfer.specs.Registers.{reg_of}
use Rattle.vd_transfer.specs.Soundness.{MeetSoundnessPremises}
use Rattle.vd_transfer.proofs.HoldLaws.{reg_value}
use Rattle.store_ranges.proofs.Covers.{among_map}
use Rattle.depth_cert.specs.declared.keys.Key.{Key}
use Rattle.depth_cert.specs.Keys.{IsKey}
use Rattle.cfg_recover.specs.Entries.{call_key, irq_key, sys_key, aln_key}
use Rattle.cfg_recover.specs.LocalRules.{targets_of_value, targets_of}
use Rattle.cfg_recover.specs.Duties.{Duty, enter, resume, Owed, duties_of}
use Rattle.cfg_recover.proofs.DutyView.{DutyAt, called, called_back, system, system_back, misaligned, interrupt, duty_at}
use Rattle.depth_maker.proofs.OwnGrowth.{among_contained}
use Rattle.depth_maker.proofs.DutyGrowth.{contained_filter}

-- a frame that is entered, or returns, has a key
abbrev pub HasKey : Duty → Type 0
HasKey (enter k t) = IsKey k
HasKey (resume k q) = IsKey k
HasKey _ = Unit {0}

-- ---- addresses
named_small : (v : Val) → IsWellFormed v → (x : ℕ) → Among x (unwrap_or (targets_of_value v) []) → x < 2 ^ 32
named_small (Set ws) well x i =
    let m = among_map (λ w. w / 2 * 2) x ws (among_distinct x (map (λ w. w / 2 * 2) ws) i) in
    let lt = well.below m.0 m.1 in
    let e : x ≡ m.0 / 2 * 2 = m.2 in
    omega arith
named_small (Span lo last step) well x i = absurd i

irq_small : (irqs : List ℕ) (q : ℕ) → list_all (λ q. ltb 0 q && ltb q (2 ^ 8)) irqs ≡ true → Contains irqs q → q < 2 ^ 8
irq_small irqs q all c = at irqs all (among_contained irqs q c) where
  at : (irqs : List ℕ) → list_all (λ q. ltb 0 q && ltb q (2 ^ 8)) irqs ≡ true → Among q irqs → q < 2 ^ 8
  at [] all i = absurd i
  at (y ∷ ys) all (inl e) = let h = and_parts _ _ all in let g = and_parts (ltb 0 y) (ltb y (2 ^ 8)) h.0 in let lt = ltb-true y (2 ^ 8) g.1 in let f : q ≡ y = e in omega arith
  at (y ∷ ys) all (inr i) = at ys (and_parts _ _ all).1 i

irqs_among : (plan : PlanData) (s : State) (v : Bool) (q : ℕ) → Contains (if v then filter (λ p. ltb s.ccpn p) plan.irqs else []) q → Contains plan.irqs q
irqs_among plan s false q c = absurd (omega (arith, c.1))
irqs_among plan s true q c = (contained_filter (λ p. ltb s.ccpn p) plan.irqs q c).0

module _ (b : Limits) (image : ImageData) (plan : PlanData) (key : Key) (p : ℕ) (s : State) (set : MeetSoundnessPremises b plan s) (is_key : IsKey key) where
  pub target_small : (to : Target) → IsTargetInBounds to → (x : ℕ) → Contains (unwrap_or (targets_of plan s p to) []) x → x < 2 ^ 32
  target_small (target.Rel by) is x c = elim (among_contained (wrapping_sum p by ∷ []) x c) [ inl e ↦ (let f : x ≡ (p + by) % 2 ^ 32 = e in omega arith) | inr n ↦ absurd n ]
  target_small (target.Abs y) is x c = elim (among_contained (y ∷ []) x c) [ inl e ↦ (let f : x ≡ y = e in omega (arith, is)) | inr n ↦ absurd n ]
  target_small (target.Reg r) is x c = named_small (reg_of plan s r) (reg_value b plan s r set).well x (among_contained (unwrap_or (targets_of_value (reg_of plan s r)) []) x c)

  call_is : (x : ℕ) → x < 2 ^ 32 → IsKey (call_key key x)
  call_is x lt = record { kind = omega arith; entry = lt; prio = is_key.prio }

  trap_small : (n : ℕ) → n < 2 ^ 32 → bit_or plan.btv n < 2 ^ 32
  trap_small n lt = or_of_32 plan.btv n ((set.plan).words.btv) lt

  sys_is : IsKey (sys_key plan key)
  sys_is = record { kind = omega arith; entry = trap_small (6 * 2 ^ 5) (omega arith); prio = is_key.prio }

  aln_is : IsKey (aln_key plan key)
  aln_is = record { kind = omega arith; entry = trap_small (2 * 2 ^ 5) (omega arith); prio = is_key.prio }

  irq_is : (q : ℕ) → q < 2 ^ 8 → IsKey (irq_key plan q)
  irq_is q lt = record { kind = omega arith; entry = or_of_32 plan.biv (q * 2 ^ 5) ((set.plan).words.biv) (omega arith); prio = lt }

  key_by : (shape : Shape) (n : ℕ) (d : Owed) → IsShapeInBounds shape → DutyAt b image plan key p s n shape d → HasKey d.duty
  key_by _ n _ is (called to q c) = call_is q (target_small to is q c)
  key_by _ n _ is (called_back to q c) = call_is q (target_small to is q c)
  key_by _ n _ is (system tin) = sys_is
  key_by _ n _ is (system_back tin) = sys_is
  key_by _ n _ is (misaligned shape e) = aln_is
  key_by _ n _ is (interrupt shape q c) = irq_is q (irq_small plan.irqs q (set.plan).irqs.each (irqs_among plan s s.ie q c))
  key_by _ n _ is _ = tt

  pub duties_keys : (shape : Shape) (n : ℕ) → IsShapeInBounds shape → (d : Owed) → Contains (duties_of b image plan key p s shape n) d → HasKey d.duty
  duties_keys shape n is d c = key_by shape n d is (duty_at b image plan key p s n shape d c)
