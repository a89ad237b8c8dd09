-- The lists that a function gives for a point's duties, part by part.
use Rattle.std.proofs.Common.{◌≡◌, ◌==◌, ℕ, Bool, true, false, List, [], ◌∷◌, ◌++◌, map, Option, Some, None, refl, ap, ◌∙◌}
use Rattle.std.specs.Prelude.{if◌then◌else◌, unwrap_or}
use Rattle.std.specs.List.{flat_map}
use Rattle.std.proofs.lemmas.Grind.{flat_map-append}
use Rattle.elf_image.specs.Images.{ImageData}
use Rattle.tcd_plan.specs.PlanData.{PlanData}
use Rattle.tc_isa.specs.declared.shapes.Target.{Target}
use Rattle.tc_isa.specs.declared.shapes.Shape.{Shape}
use Rattle.tc_isa.specs.declared.shapes.Shape.TheVariants.{Branch, Call, Jump, Mtcr, Ret, Rfe, Syscall}
use Rattle.tc_machine.specs.Instructions.{wrapping_sum}
use Rattle.value_domain.specs.declared.states.State.{State}
use Rattle.value_domain.specs.Limits.{Limits}
use Rattle.vd_transfer.specs.Branches.{refine_of}
use Rattle.vd_transfer.specs.EffectsOnStates.{transfer_of}
use Rattle.depth_cert.specs.declared.keys.Key.{Key}
use Rattle.depth_cert.specs.declared.points.Exit.{Exit}
use Rattle.depth_cert.specs.Exits.{exit_of_state}
use Rattle.cfg_recover.specs.Entries.{aln_entry, aln_key, call_entry, call_key, irq_entry, irq_key, sys_key, possible_irqs_of}
use Rattle.cfg_recover.specs.LocalRules.{targets_of}
use Rattle.cfg_recover.specs.Duties.{Owed, owed, jump, enter, resume, leave, branch_duty, value_loaded_by_shape, next_duty_of, successor_duties_of, entry_and_return, entry_duties_of, may_be_misaligned, misaligned_entry, misaligned_duties_of, interrupt_duties_of, exit_duties_of, entered_keys}

-- ---- lists of lists
pub flat_flat : {A B X : Type 0} (f : B → List X) (h : A → List B) (g : A → List X) → ((x : A) → flat_map f (h x) ≡ g x) → (xs : List A) → flat_map f (flat_map h xs) ≡ flat_map g xs
flat_flat f h g e [] = refl
flat_flat f h g e (x ∷ xs) = flat_map-append f (h x) (flat_map h xs) ∙ ap (λ l. l ++ flat_map f (flat_map h xs)) (e x) ∙ ap (λ l. g x ++ l) (flat_flat f h g e xs)

pub flat_mapped : {A B X : Type 0} (f : B → List X) (h : A → B) (g : A → List X) → ((x : A) → f (h x) ≡ g x) → (xs : List A) → flat_map f (map h xs) ≡ flat_map g xs
flat_mapped f h g e [] = refl
flat_mapped f h g e (x ∷ xs) = ap (λ l. l ++ flat_map f (map h xs)) (e x) ∙ ap (λ l. g x ++ l) (flat_mapped f h g e xs)

pub flat_none : {A X : Type 0} (xs : List A) → flat_map (λ (x : A). let none : List X = [] in none) xs ≡ []
flat_none [] = refl
flat_none (x ∷ xs) = flat_none xs

pub flat_each : {A X : Type 0} (g : A → X) (xs : List A) → flat_map (λ x. g x ∷ []) xs ≡ map g xs
flat_each g [] = refl
flat_each g (x ∷ xs) = ap (λ l. g x ∷ l) (flat_each g xs)

pub flat_self : (xs : List ℕ) → flat_map (λ x. x ∷ []) xs ≡ xs
flat_self [] = refl
flat_self (x ∷ xs) = ap (λ l. x ∷ l) (flat_self xs)

-- ---- addresses of the parts of a list of duties
module _ {X : Type 0} (f : Owed → List X) where
  one_none : (d : Owed) → f d ≡ [] → flat_map f (d ∷ []) ≡ []
  one_none d e = ap (λ l. l ++ []) e

  two_none : (c d : Owed) → f c ≡ [] → f d ≡ [] → flat_map f (c ∷ d ∷ []) ≡ []
  two_none c d e g = ap (λ l. l ++ (f d ++ [])) e ∙ one_none d g

  side_none : ((q : ℕ) (t : State) → f (owed 4 (jump q t)) ≡ []) → (q : ℕ) (o : Option State) → flat_map f (branch_duty q o) ≡ []
  side_none e q None = refl
  side_none e q (Some t) = one_none (owed 4 (jump q t)) (e q t)

  next_none : ((q : ℕ) (t : State) → f (owed 4 (jump q t)) ≡ []) → (b : Limits) (image : ImageData) (plan : PlanData) (p : ℕ) (s : State) (shape : Shape) (n : ℕ) → flat_map f (next_duty_of b image plan p s shape n) ≡ []
  next_none e b image plan p s shape n =
      let t : State = transfer_of b plan shape s (value_loaded_by_shape b image plan s shape) in
      one_none (owed 4 (jump (wrapping_sum p n) t)) (e (wrapping_sum p n) t)

  pub successors_none : ((q : ℕ) (t : State) → f (owed 4 (jump q t)) ≡ []) → (b : Limits) (image : ImageData) (plan : PlanData) (p : ℕ) (s : State) (shape : Shape) (n : ℕ) → flat_map f (successor_duties_of b image plan p s shape n) ≡ []
  successors_none e b image plan p s (Branch cond x y by lowers) n =
      let o : Bool → Option State = refine_of b plan (Branch cond x y by lowers) s in
      flat_map-append f (branch_duty (wrapping_sum p n) (o false)) (branch_duty (wrapping_sum p by) (o true))
      ∙ ap (λ l. l ++ flat_map f (branch_duty (wrapping_sum p by) (o true))) (side_none e (wrapping_sum p n) (o false))
      ∙ side_none e (wrapping_sum p by) (o true)
  successors_none e b image plan p s (Jump to) n =
      let ts : List ℕ = unwrap_or (targets_of plan s p to) [] in
      flat_mapped f (λ t. owed 4 (jump t s)) (λ t. []) (λ t. e t s) ts ∙ flat_none ts
  successors_none e b image plan p s (Call to) n = refl
  successors_none e b image plan p s Ret n = refl
  successors_none e b image plan p s Rfe n = refl
  successors_none e b image plan p s (Syscall tin) n = refl
  successors_none e b image plan p s (Mtcr src number) n = refl
  successors_none e b image plan p s shape n = next_none e b image plan p s shape n

  -- the entries of called functions, one for each target
  pub calls_are : (g : ℕ → List X) (plan : PlanData) (key : Key) (p : ℕ) (s : State) (to : Target) (n : ℕ) → ((t : ℕ) → flat_map f (entry_and_return 5 (call_key key t) (call_entry s) (wrapping_sum p n)) ≡ g t)
      → flat_map f (entry_duties_of plan key p s (Call to) n) ≡ flat_map g (unwrap_or (targets_of plan s p to) [])
  calls_are g plan key p s to n e = flat_flat f (λ t. entry_and_return 5 (call_key key t) (call_entry s) (wrapping_sum p n)) g e (unwrap_or (targets_of plan s p to) [])

  pub entries_none : ((k : Key) (t : State) → f (owed 5 (enter k t)) ≡ []) → ((k : Key) (t : State) → f (owed 12 (enter k t)) ≡ []) → ((k : Key) (q : ℕ) → f (owed 4 (resume k q)) ≡ []) → (plan : PlanData) (key : Key) (p : ℕ) (s : State) (shape : Shape) (n : ℕ)
      → flat_map f (entry_duties_of plan key p s shape n) ≡ []
  entries_none a c back plan key p s (Call to) n =
      calls_are (λ t. []) plan key p s to n (λ t. two_none _ _ (a (call_key key t) (call_entry s)) (back (call_key key t) (wrapping_sum p n))) ∙ flat_none (unwrap_or (targets_of plan s p to) [])
  entries_none a c back plan key p s (Syscall tin) n = two_none _ _ (c (sys_key plan key) _) (back (sys_key plan key) (wrapping_sum p n))
  entries_none a c back plan key p s shape n = refl

  pub misaligned_none : ((k : Key) (t : State) → f (owed 10 (enter k t)) ≡ []) → (b : Limits) (plan : PlanData) (key : Key) (s : State) (shape : Shape) → flat_map f (misaligned_duties_of b plan key s shape) ≡ []
  misaligned_none e b plan key s shape =
      elim (may_be_misaligned b plan s shape) as (λ t. flat_map f (if t then misaligned_entry plan key s ∷ [] else []) ≡ []) [
        | true ↦ one_none (misaligned_entry plan key s) (e (aln_key plan key) (aln_entry plan key s))
        | false ↦ refl
      ]

  pub interrupts_none : ((k : Key) (t : State) → f (owed 11 (enter k t)) ≡ []) → (plan : PlanData) (key : Key) (s : State) → flat_map f (interrupt_duties_of plan key s) ≡ []
  interrupts_none e plan key s =
      flat_mapped f (λ p. owed 11 (enter (irq_key plan p) (irq_entry plan key s p))) (λ p. []) (λ p. e (irq_key plan p) (irq_entry plan key s p)) (possible_irqs_of plan s) ∙ flat_none (possible_irqs_of plan s)

  pub leavings_none : ((x : Exit) → f (owed 6 (leave x)) ≡ []) → ((x : Exit) → f (owed 7 (leave x)) ≡ []) → (key : Key) (s : State) (shape : Shape) → flat_map f (exit_duties_of key s shape) ≡ []
  leavings_none a b key s Ret = one_none (owed 6 (leave (exit_of_state s))) (a (exit_of_state s))
  leavings_none a b key s Rfe =
      elim (key.kind == 3) as (λ t. flat_map f (if t then owed 7 (leave (exit_of_state s)) ∷ [] else []) ≡ []) [
        | true ↦ one_none (owed 7 (leave (exit_of_state s))) (b (exit_of_state s))
        | false ↦ refl
      ]
  leavings_none a b key s shape = refl

  five : (a b c d e : List Owed) → flat_map f (a ++ b ++ c ++ d ++ e) ≡ flat_map f a ++ flat_map f b ++ flat_map f c ++ flat_map f d ++ flat_map f e
  five a b c d e =
      flat_map-append f (a ++ b ++ c ++ d) e
      ∙ ap (λ l. l ++ flat_map f e) (flat_map-append f (a ++ b ++ c) d ∙ ap (λ l. l ++ flat_map f d) (flat_map-append f (a ++ b) c ∙ ap (λ l. l ++ flat_map f c) (flat_map-append f a b)))

  pub parts : (a b c d e : List Owed) (v w x y z : List X) → flat_map f a ≡ v → flat_map f b ≡ w → flat_map f c ≡ x → flat_map f d ≡ y → flat_map f e ≡ z → flat_map f (a ++ b ++ c ++ d ++ e) ≡ v ++ w ++ x ++ y ++ z
  parts a b c d e v w x y z ha hb hc hd he =
      five a b c d e
      ∙ ap (λ l. l ++ flat_map f b ++ flat_map f c ++ flat_map f d ++ flat_map f e) ha
      ∙ ap (λ l. v ++ l ++ flat_map f c ++ flat_map f d ++ flat_map f e) hb
      ∙ ap (λ l. v ++ w ++ l ++ flat_map f d ++ flat_map f e) hc
      ∙ ap (λ l. v ++ w ++ x ++ l ++ flat_map f e) hd
      ∙ ap (λ l. v ++ w ++ x ++ y ++ l) he

-- only calls and system calls enter frames by themselves
pub only_calls_enter : (plan : PlanData) (key : Key) (p : ℕ) (s : State) (shape : Shape) (n : ℕ) → ((to : Target) → shape ≡ Call to → ⊥) → ((tin : ℕ) → shape ≡ Syscall tin → ⊥) → entered_keys (entry_duties_of plan key p s shape n) ≡ []
only_calls_enter plan key p s (Call to) n call sys = absurd (call to refl)
only_calls_enter plan key p s (Syscall tin) n call sys = absurd (sys tin refl)
only_calls_enter plan key p s _ n call sys = refl
