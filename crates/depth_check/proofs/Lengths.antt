-- The states of a point's jumps have a value for each register.
use Rattle.std.proofs.Common.{◌≡◌, ℕ, true, false, length, ◌∙◌, subst, Contains}
use Rattle.std.specs.Prelude.{Option, IfSome}
use Rattle.elf_image.specs.Images.{ImageData}
use Rattle.tcd_plan.specs.PlanData.{PlanData}
use Rattle.tc_isa.specs.declared.shapes.Shape.{Shape}
use Rattle.tc_isa.specs.declared.shapes.Shape.TheVariants.{Branch}
use Rattle.value_domain.specs.declared.states.State.{State}
use Rattle.value_domain.specs.Limits.{Limits}
use Rattle.depth_cert.specs.declared.keys.Key.{Key}
use Rattle.cfg_recover.specs.Duties.{Duty, jump, Owed, owed, value_loaded_by_shape, duties_of}
use Rattle.cfg_recover.proofs.EntryLaws.{transfer_length, refine_length}
use Rattle.cfg_recover.proofs.DutyView.{DutyAt, next, straight, taken, target, duty_at}

abbrev IsLong : Duty → Type 0
IsLong (jump q t) = length t.regs ≡ 27
IsLong _ = Unit {0}

module _ (b : Limits) (image : ImageData) (plan : PlanData) (key : Key) (p : ℕ) (s : State) (n : ℕ) (long : length s.regs ≡ 27) where
  long_by : (shape : Shape) (d : Owed) → DutyAt b image plan key p s n shape d → IsLong d.duty
  long_by _ _ (next shape e) = transfer_length b plan shape s (value_loaded_by_shape b image plan s shape) ∙ long
  long_by _ _ (straight test x y by lowers t e) = subst (λ (o : Option State). IfSome o (λ t. length t.regs ≡ length s.regs)) e (refine_length b plan (Branch test x y by lowers) s false) ∙ long
  long_by _ _ (taken test x y by lowers t e) = subst (λ (o : Option State). IfSome o (λ t. length t.regs ≡ length s.regs)) e (refine_length b plan (Branch test x y by lowers) s true) ∙ long
  long_by _ _ (target to q c) = long
  long_by _ _ _ = tt

  -- the state of a jump that is a duty
  pub jump_long : (shape : Shape) (q : ℕ) (t : State) → Contains (duties_of b image plan key p s shape n) (owed 4 (jump q t)) → length t.regs ≡ 27
  jump_long shape q t c = long_by shape (owed 4 (jump q t)) (duty_at b image plan key p s n shape (owed 4 (jump q t)) c)
