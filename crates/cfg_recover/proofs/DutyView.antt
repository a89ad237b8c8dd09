-- The duties of a point by cases: what asks for each. Lemmas of the form "each duty is such" use
-- these cases.
use Rattle.std.proofs.Common.{◌≡◌, ℕ, inl, inr, Bool, true, false, List, [], ◌∷◌, ◌++◌, refl, subst, arith, Option, Some, None, eqb, eqb-true}
use Rattle.std.specs.Prelude.{Contains, unwrap_or}
use Rattle.std.proofs.lemmas.Bool.{cases_Bool}
use Rattle.std.proofs.lemmas.List.Elements.{Contains-append_cases, Contains-append_left, Contains-append_right}
use Rattle.elf_image.specs.Images.{ImageData}
use Rattle.tcd_plan.specs.PlanData.{PlanData}
use Rattle.tc_isa.specs.declared.shapes.Arg.{Arg}
use Rattle.tc_isa.specs.declared.shapes.Cond.{Cond}
use Rattle.tc_isa.specs.declared.shapes.Target.{Target}
use Rattle.tc_isa.specs.declared.shapes.Shape.{Shape}
use Rattle.tc_isa.specs.declared.shapes.Shape.TheVariants.{Branch, Jump, Call, Ret, Rfe, Syscall, Mtcr}
use Rattle.tc_machine.specs.Instructions.{wrapping_sum}
use Rattle.value_domain.specs.declared.states.State.{State}
use Rattle.value_domain.specs.Limits.{Limits}
use Rattle.vd_transfer.specs.EffectsOnStates.{transfer_of}
use Rattle.vd_transfer.specs.Branches.{refine_of}
use Rattle.depth_cert.specs.declared.keys.Key.{Key}
use Rattle.depth_cert.specs.Exits.{exit_of_state}
use Rattle.cfg_recover.specs.Entries.{call_key, irq_key, sys_key, aln_key, call_entry, irq_entry, sys_entry, aln_entry, possible_irqs_of}
use Rattle.cfg_recover.specs.LocalRules.{targets_of}
use Rattle.cfg_recover.specs.Duties.{Owed, owed, jump, enter, resume, leave, value_loaded_by_shape, branch_duty, next_duty_of, successor_duties_of, entry_and_return, entry_duties_of, may_be_misaligned, misaligned_duties_of, interrupt_duties_of, exit_duties_of, duties_of}
use Rattle.cfg_recover.proofs.Members.{contained_map, contained_flat, contains_first, contains_map, contains_flat, contains_jump, only_one, owes_successor, owes_entry, owes_misaligned, owes_interrupt, owes_leaving}

pub data DutyAt (b : Limits) (image : ImageData) (plan : PlanData) (key : Key) (p : ℕ) (s : State) (n : ℕ) : Shape → Owed → Type 0 where
  next : (shape : Shape) → ((t : State) → successor_duties_of b image plan p t shape n ≡ next_duty_of b image plan p t shape n) → DutyAt b image plan key p s n shape (owed 4 (jump (wrapping_sum p n) (transfer_of b plan shape s (value_loaded_by_shape b image plan s shape))))
  straight :
      (test : Cond) (x : ℕ) (y : Arg) (by : ℕ) (lowers : Bool) (t : State) → refine_of b plan (Branch test x y by lowers) s false ≡ Some t
      → DutyAt b image plan key p s n (Branch test x y by lowers) (owed 4 (jump (wrapping_sum p n) t))
  taken :
      (test : Cond) (x : ℕ) (y : Arg) (by : ℕ) (lowers : Bool) (t : State) → refine_of b plan (Branch test x y by lowers) s true ≡ Some t
      → DutyAt b image plan key p s n (Branch test x y by lowers) (owed 4 (jump (wrapping_sum p by) t))
  target : (to : Target) (q : ℕ) → Contains (unwrap_or (targets_of plan s p to) []) q → DutyAt b image plan key p s n (Jump to) (owed 4 (jump q s))
  called : (to : Target) (q : ℕ) → Contains (unwrap_or (targets_of plan s p to) []) q → DutyAt b image plan key p s n (Call to) (owed 5 (enter (call_key key q) (call_entry s)))
  called_back : (to : Target) (q : ℕ) → Contains (unwrap_or (targets_of plan s p to) []) q → DutyAt b image plan key p s n (Call to) (owed 4 (resume (call_key key q) (wrapping_sum p n)))
  system : (tin : ℕ) → DutyAt b image plan key p s n (Syscall tin) (owed 12 (enter (sys_key plan key) (sys_entry plan key s tin)))
  system_back : (tin : ℕ) → DutyAt b image plan key p s n (Syscall tin) (owed 4 (resume (sys_key plan key) (wrapping_sum p n)))
  misaligned : (shape : Shape) → may_be_misaligned b plan s shape ≡ true → DutyAt b image plan key p s n shape (owed 10 (enter (aln_key plan key) (aln_entry plan key s)))
  interrupt : (shape : Shape) (q : ℕ) → Contains (possible_irqs_of plan s) q → DutyAt b image plan key p s n shape (owed 11 (enter (irq_key plan q) (irq_entry plan key s q)))
  returns : DutyAt b image plan key p s n Ret (owed 6 (leave (exit_of_state s)))
  resumes : key.kind ≡ 3 → DutyAt b image plan key p s n Rfe (owed 7 (leave (exit_of_state s)))

module _ (b : Limits) (image : ImageData) (plan : PlanData) (key : Key) (p : ℕ) (s : State) (n : ℕ) where
  -- each duty of this list is one of the cases
  AreAt : Shape → List Owed → Type 0
  AreAt shape ds = (d : Owed) → Contains ds d → DutyAt b image plan key p s n shape d

  none_at : (shape : Shape) → AreAt shape []
  unfolding AreAt
  none_at shape d c = absurd (omega (arith, c.1))

  one_at : (shape : Shape) (e : Owed) → DutyAt b image plan key p s n shape e → AreAt shape (e ∷ [])
  unfolding AreAt
  one_at shape e h d c = subst (λ (u : Owed). DutyAt b image plan key p s n shape u) (only_one e d c.0 c.1 c.2) h

  both_at : (shape : Shape) (ds es : List Owed) → AreAt shape ds → AreAt shape es → AreAt shape (ds ++ es)
  unfolding AreAt
  both_at shape ds es h k d c = elim (Contains-append_cases ds es d c) [ inl i ↦ h d i | inr i ↦ k d i ]

  side_at : (shape : Shape) (q : ℕ) (o : Option State) → ((t : State) → o ≡ Some t → DutyAt b image plan key p s n shape (owed 4 (jump q t))) → AreAt shape (branch_duty q o)
  side_at shape q None h = none_at shape
  side_at shape q (Some t) h = one_at shape (owed 4 (jump q t)) (h t refl)

  successors_at : (shape : Shape) → AreAt shape (successor_duties_of b image plan p s shape n)
  unfolding AreAt
  successors_at (Branch test x y by lowers) =
      both_at (Branch test x y by lowers) _ _ (side_at (Branch test x y by lowers) (wrapping_sum p n) _ (straight test x y by lowers)) (side_at (Branch test x y by lowers) (wrapping_sum p by) _ (taken test x y by lowers))
  successors_at (Jump to) = λ d c.
      let r = contained_map (λ q. owed 4 (jump q s)) (unwrap_or (targets_of plan s p to) []) d c in
      subst (λ (u : Owed). DutyAt b image plan key p s n (Jump to) u) r.2 (target to r.0 r.1)
  successors_at (Call to) = none_at (Call to)
  successors_at Ret = none_at Ret
  successors_at Rfe = none_at Rfe
  successors_at (Syscall tin) = none_at (Syscall tin)
  successors_at (Mtcr src number) = none_at (Mtcr src number)
  successors_at shape = one_at shape _ (next shape (λ t. refl))

  entries_at : (shape : Shape) → AreAt shape (entry_duties_of plan key p s shape n)
  unfolding AreAt
  entries_at (Call to) = λ d c.
      let r = contained_flat (λ q. entry_and_return 5 (call_key key q) (call_entry s) (wrapping_sum p n)) (unwrap_or (targets_of plan s p to) []) d c in
      both_at (Call to) (owed 5 (enter (call_key key r.0) (call_entry s)) ∷ []) (owed 4 (resume (call_key key r.0) (wrapping_sum p n)) ∷ []) (one_at (Call to) _ (called to r.0 r.1)) (one_at (Call to) _ (called_back to r.0 r.1)) d r.2
  entries_at (Syscall tin) =
      both_at (Syscall tin) (owed 12 (enter (sys_key plan key) (sys_entry plan key s tin)) ∷ []) (owed 4 (resume (sys_key plan key) (wrapping_sum p n)) ∷ []) (one_at (Syscall tin) _ (system tin)) (one_at (Syscall tin) _ (system_back tin))
  entries_at shape = none_at shape

  accesses_at : (shape : Shape) → AreAt shape (misaligned_duties_of b plan key s shape)
  accesses_at shape = elim (cases_Bool (may_be_misaligned b plan s shape)) [ inl t ↦ rw t (one_at shape _ (misaligned shape t)) | inr f ↦ rw f (none_at shape) ]

  interrupts_at : (shape : Shape) → AreAt shape (interrupt_duties_of plan key s)
  unfolding AreAt
  interrupts_at shape d c =
      let r = contained_map (λ q. owed 11 (enter (irq_key plan q) (irq_entry plan key s q))) (possible_irqs_of plan s) d c in
      subst (λ (u : Owed). DutyAt b image plan key p s n shape u) r.2 (interrupt shape r.0 r.1)

  leavings_at : (shape : Shape) → AreAt shape (exit_duties_of key s shape)
  leavings_at Ret = one_at Ret _ returns
  leavings_at Rfe = elim (cases_Bool (eqb key.kind 3)) [ inl t ↦ rw t (one_at Rfe _ (resumes (eqb-true key.kind 3 t))) | inr f ↦ rw f (none_at Rfe) ]
  leavings_at shape = none_at shape

  -- each duty of a point is one of the cases
  pub duty_at : (shape : Shape) (d : Owed) → Contains (duties_of b image plan key p s shape n) d → DutyAt b image plan key p s n shape d
  unfolding duties_of AreAt
  duty_at shape =
      both_at shape _ (exit_duties_of key s shape)
      (both_at shape _ (interrupt_duties_of plan key s)
      (both_at shape _ (misaligned_duties_of b plan key s shape) (both_at shape (successor_duties_of b image plan p s shape n) (entry_duties_of plan key p s shape n) (successors_at shape) (entries_at shape)) (accesses_at shape))
      (interrupts_at shape)) (leavings_at shape)

  -- and each case is a duty of the point
  pub duty_listed : (shape : Shape) (d : Owed) → DutyAt b image plan key p s n shape d → Contains (duties_of b image plan key p s shape n) d
  duty_listed _ d (next shape e) = owes_successor b image plan key p s shape n d (rw (e s) (contains_first d []))
  duty_listed _ d (straight test x y by lowers t e) =
      owes_successor b image plan key p s (Branch test x y by lowers) n d
      (Contains-append_left (branch_duty (wrapping_sum p n) (refine_of b plan (Branch test x y by lowers) s false)) (branch_duty (wrapping_sum p by) (refine_of b plan (Branch test x y by lowers) s true)) d (contains_jump (wrapping_sum p n) _ t e))
  duty_listed _ d (taken test x y by lowers t e) =
      owes_successor b image plan key p s (Branch test x y by lowers) n d
      (Contains-append_right (branch_duty (wrapping_sum p n) (refine_of b plan (Branch test x y by lowers) s false)) (branch_duty (wrapping_sum p by) (refine_of b plan (Branch test x y by lowers) s true)) d (contains_jump (wrapping_sum p by) _ t e))
  duty_listed _ d (target to q c) = owes_successor b image plan key p s (Jump to) n d (contains_map (λ q. owed 4 (jump q s)) _ q c)
  duty_listed _ d (called to q c) = owes_entry b image plan key p s (Call to) n d (contains_flat (λ q. entry_and_return 5 (call_key key q) (call_entry s) (wrapping_sum p n)) d q _ c (contains_first d (owed 4 (resume (call_key key q) (wrapping_sum p n)) ∷ [])))
  duty_listed _ d (called_back to q c) =
      owes_entry b image plan key p s (Call to) n d
      (contains_flat (λ q. entry_and_return 5 (call_key key q) (call_entry s) (wrapping_sum p n)) d q _ c (Contains-append_right (owed 5 (enter (call_key key q) (call_entry s)) ∷ []) (d ∷ []) d (contains_first d [])))
  duty_listed _ d (system tin) = owes_entry b image plan key p s (Syscall tin) n d (contains_first d (owed 4 (resume (sys_key plan key) (wrapping_sum p n)) ∷ []))
  duty_listed _ d (system_back tin) = owes_entry b image plan key p s (Syscall tin) n d (Contains-append_right (owed 12 (enter (sys_key plan key) (sys_entry plan key s tin)) ∷ []) (d ∷ []) d (contains_first d []))
  duty_listed _ d (misaligned shape e) = owes_misaligned b image plan key p s shape n d (rw e (contains_first d []))
  duty_listed _ d (interrupt shape q c) = owes_interrupt b image plan key p s shape n d (contains_map (λ q. owed 11 (enter (irq_key plan q) (irq_entry plan key s q))) (possible_irqs_of plan s) q c)
  duty_listed _ d returns = owes_leaving b image plan key p s Ret n d (contains_first d [])
  duty_listed _ d (resumes e) = owes_leaving b image plan key p s Rfe n d (rw e (contains_first d []))
