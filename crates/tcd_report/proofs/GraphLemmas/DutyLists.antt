-- The lists of addresses of a point's duties, by its instruction.
use Rattle.std.proofs.Common.{◌≡◌, ◌==◌, ℕ, Bool, true, false, List, [], ◌∷◌, ◌++◌, map, Option, Some, None, refl, sym, ◌∙◌, append-nil}
use Rattle.std.specs.Prelude.{if◌then◌else◌, is_some, unwrap_or}
use Rattle.std.specs.List.{flat_map}
use Rattle.elf_image.specs.Images.{ImageData}
use Rattle.tcd_plan.specs.PlanData.{PlanData}
use Rattle.tc_isa.specs.declared.shapes.Target.{Target}
use Rattle.tc_isa.specs.declared.shapes.Shape.{Shape}
use Rattle.tc_isa.specs.declared.shapes.Shape.TheVariants.{Call, Syscall}
use Rattle.tc_machine.specs.Instructions.{wrapping_sum}
use Rattle.value_domain.specs.declared.states.State.{State}
use Rattle.value_domain.specs.Limits.{Limits}
use Rattle.vd_transfer.specs.Branches.{state_if_possible}
use Rattle.depth_cert.specs.declared.keys.Key.{Key}
use Rattle.depth_cert.specs.Certs.{CertData}
use Rattle.cfg_recover.specs.Entries.{call_key, irq_entry, irq_key, possible_irqs_of, entered_key}
use Rattle.tcd_report.specs.Graphs.KnownHandlers.{irq_handler_entries}
use Rattle.cfg_recover.specs.LocalRules.{targets_of}
use Rattle.cfg_recover.specs.Duties.{Owed, owed, jump, enter, resume, branch_duty, jump_duties_to, successor_duties_of, entry_duties_of, may_be_misaligned, misaligned_entry, misaligned_duties_of, interrupt_duties_of, exit_duties_of, duties_of, keys_entered_by_duty, entered_keys}
use Rattle.cfg_recover.proofs.DutyLists.{flat_flat, flat_mapped, flat_each, flat_self, successors_none, calls_are, entries_none, misaligned_none, interrupts_none, leavings_none, parts}
use Rattle.tcd_report.specs.Graphs.{jump_target_of_duty, entry_of_duty, entries_by_rule, return_address_of_duty, unique_addresses, jump_targets_of, return_addresses_of, call_targets_of, entries_of_kind, return_addresses_after}
use Rattle.tcd_report.specs.Reports.Calls.{called_keys_of}

-- ---- jumps
pub possible_some : (r : Bool) (s : State) → is_some (state_if_possible r s) ≡ r
possible_some true s = refl
possible_some false s = refl

-- one side of a branch
pub side_there : (q : ℕ) (o : Option State) (r : Bool) → r ≡ is_some o → r ≡ true → jump_targets_of (branch_duty q o) ≡ q ∷ []
side_there q None r e t = absurd (let no : false ≡ true = sym e ∙ t in cc)
side_there q (Some s) r e t = refl

pub side_missing : (q : ℕ) (o : Option State) (r : Bool) → r ≡ is_some o → r ≡ false → jump_targets_of (branch_duty q o) ≡ []
side_missing q None r e t = refl
side_missing q (Some s) r e t = absurd (let no : true ≡ false = sym e ∙ t in cc)

pub jumps_are : (s : State) (ts : List ℕ) → jump_targets_of (jump_duties_to s ts) ≡ ts
jumps_are s ts = flat_mapped (λ d. jump_target_of_duty d.duty) (λ t. owed 4 (jump t s)) (λ t. t ∷ []) (λ t. refl) ts ∙ flat_self ts

-- ---- entries
entry_in : ℕ → Owed → List ℕ
entry_in rule d = if d.rule == rule then entry_of_duty d.duty else []

key_in : Owed → List Key
key_in d = if d.rule == 5 then keys_entered_by_duty d.duty else []

-- other instructions don't call
pub called_none : (plan : PlanData) (s : State) (p : ℕ) (shape : Shape) → ((to : Target) → shape ≡ Call to → ⊥) → call_targets_of plan s p shape ≡ []
called_none plan s p (Call to) call = absurd (call to refl)
called_none plan s p shape call = refl

-- the entries that K5 asks for are those of the called frames, and K12 asks for that of the handler
-- of system calls
kind_is : (kind : ℕ) (ds : List Owed) → entries_of_kind kind (entered_keys ds) ≡ flat_map (λ d. entries_of_kind kind (keys_entered_by_duty d.duty)) ds
kind_is kind ds = flat_flat (λ k. if k.kind == kind then k.entry ∷ [] else []) (λ d. keys_entered_by_duty d.duty) _ (λ d. refl) ds

calls_are_kept : (plan : PlanData) (key : Key) (p : ℕ) (s : State) (shape : Shape) (n : ℕ) → flat_map (entry_in 5) (entry_duties_of plan key p s shape n) ≡ entries_of_kind 1 (entered_keys (entry_duties_of plan key p s shape n))
unfolding entry_in
calls_are_kept plan key p s (Call to) n =
    calls_are (entry_in 5) (λ t. t ∷ []) plan key p s to n (λ t. refl)
    ∙ sym (kind_is 1 (entry_duties_of plan key p s (Call to) n) ∙ calls_are (λ d. entries_of_kind 1 (keys_entered_by_duty d.duty)) (λ t. t ∷ []) plan key p s to n (λ t. refl))
calls_are_kept plan key p s shape n = refl

systems_are_kept : (plan : PlanData) (key : Key) (p : ℕ) (s : State) (shape : Shape) (n : ℕ) → flat_map (entry_in 12) (entry_duties_of plan key p s shape n) ≡ entries_of_kind 3 (entered_keys (entry_duties_of plan key p s shape n))
unfolding entry_in
systems_are_kept plan key p s (Call to) n =
    calls_are (entry_in 12) (λ t. []) plan key p s to n (λ t. refl)
    ∙ sym (kind_is 3 (entry_duties_of plan key p s (Call to) n) ∙ calls_are (λ d. entries_of_kind 3 (keys_entered_by_duty d.duty)) (λ t. []) plan key p s to n (λ t. refl))
systems_are_kept plan key p s shape n = refl

called_keys : (plan : PlanData) (key : Key) (p : ℕ) (s : State) (shape : Shape) (n : ℕ) → flat_map key_in (entry_duties_of plan key p s shape n) ≡ map (entered_key key 1) (call_targets_of plan s p shape)
unfolding key_in
called_keys plan key p s (Call to) n = calls_are key_in (λ t. entered_key key 1 t ∷ []) plan key p s to n (λ t. refl) ∙ flat_each (entered_key key 1) (unwrap_or (targets_of plan s p to) [])
called_keys plan key p s (Syscall tin) n = refl
called_keys plan key p s shape n = refl

-- ---- returns of entered frames
returns_are : (cert : CertData) (plan : PlanData) (key : Key) (p : ℕ) (s : State) (shape : Shape) (n : ℕ)
    → return_addresses_of cert (entry_duties_of plan key p s shape n) ≡ return_addresses_after cert (wrapping_sum p n) (entered_keys (entry_duties_of plan key p s shape n))
returns_are cert plan key p s (Call to) n =
    let q = wrapping_sum p n in
    let g : ℕ → List ℕ = λ t. return_address_of_duty cert (resume (call_key key t) q) in
    calls_are (λ d. return_address_of_duty cert d.duty) g plan key p s to n (λ t. append-nil (g t))
    ∙ sym (
    flat_flat (λ k. return_address_of_duty cert (resume k q)) (λ d. keys_entered_by_duty d.duty) (λ d. return_addresses_after cert q (keys_entered_by_duty d.duty)) (λ d. refl) (entry_duties_of plan key p s (Call to) n)
    ∙ calls_are (λ d. return_addresses_after cert q (keys_entered_by_duty d.duty)) g plan key p s to n (λ t. append-nil (g t ++ []) ∙ append-nil (g t))
    )
returns_are cert plan key p s shape n = refl

-- ---- lists of one entry at most
pub misaligned_once : (b : Limits) (plan : PlanData) (key : Key) (s : State) (shape : Shape) → unique_addresses (entries_by_rule 10 (misaligned_duties_of b plan key s shape)) ≡ entries_by_rule 10 (misaligned_duties_of b plan key s shape)
misaligned_once b plan key s shape =
    elim (may_be_misaligned b plan s shape) as (λ t. unique_addresses (entries_by_rule 10 (if t then misaligned_entry plan key s ∷ [] else [])) ≡ entries_by_rule 10 (if t then misaligned_entry plan key s ∷ [] else [])) [
      | true ↦ refl
      | false ↦ refl
    ]

-- ---- all duties of a point
module _ (b : Limits) (image : ImageData) (plan : PlanData) (cert : CertData) (key : Key) (p : ℕ) (s : State) (shape : Shape) (n : ℕ) where
  succ : List Owed
  succ = successor_duties_of b image plan p s shape n

  ent : List Owed
  ent = entry_duties_of plan key p s shape n

  acc : List Owed
  acc = misaligned_duties_of b plan key s shape

  irqs : List Owed
  irqs = interrupt_duties_of plan key s

  left : List Owed
  left = exit_duties_of key s shape

  pub jumps_told : jump_targets_of (duties_of b image plan key p s shape n) ≡ jump_targets_of (successor_duties_of b image plan p s shape n)
  unfolding succ ent acc irqs left duties_of
  jumps_told =
      let g : Owed → List ℕ = λ d. jump_target_of_duty d.duty in
      let v : List ℕ = jump_targets_of succ in
      parts g succ ent acc irqs left v [] [] [] [] refl (entries_none g (λ k t. refl) (λ k t. refl) (λ k q. refl) plan key p s shape n) (misaligned_none g (λ k t. refl) b plan key s shape)
      (interrupts_none g (λ k t. refl) plan key s) (leavings_none g (λ x. refl) (λ x. refl) key s shape)
      ∙ append-nil (v ++ [] ++ [] ++ []) ∙ append-nil (v ++ [] ++ []) ∙ append-nil (v ++ []) ∙ append-nil v

  pub calls_told : entries_by_rule 5 (duties_of b image plan key p s shape n) ≡ entries_of_kind 1 (entered_keys (entry_duties_of plan key p s shape n))
  unfolding succ ent acc irqs left duties_of entry_in
  calls_told =
      let g : Owed → List ℕ = entry_in 5 in
      let w : List ℕ = entries_of_kind 1 (entered_keys ent) in
      parts g succ ent acc irqs left [] w [] [] [] (successors_none g (λ q t. refl) b image plan p s shape n) (calls_are_kept plan key p s shape n) (misaligned_none g (λ k t. refl) b plan key s shape)
      (interrupts_none g (λ k t. refl) plan key s) (leavings_none g (λ x. refl) (λ x. refl) key s shape)
      ∙ append-nil (w ++ [] ++ []) ∙ append-nil (w ++ []) ∙ append-nil w

  pub systems_told : entries_by_rule 12 (duties_of b image plan key p s shape n) ≡ entries_of_kind 3 (entered_keys (entry_duties_of plan key p s shape n))
  unfolding succ ent acc irqs left duties_of entry_in
  systems_told =
      let g : Owed → List ℕ = entry_in 12 in
      let w : List ℕ = entries_of_kind 3 (entered_keys ent) in
      parts g succ ent acc irqs left [] w [] [] [] (successors_none g (λ q t. refl) b image plan p s shape n) (systems_are_kept plan key p s shape n) (misaligned_none g (λ k t. refl) b plan key s shape)
      (interrupts_none g (λ k t. refl) plan key s) (leavings_none g (λ x. refl) (λ x. refl) key s shape)
      ∙ append-nil (w ++ [] ++ []) ∙ append-nil (w ++ []) ∙ append-nil w

  pub misaligned_told : entries_by_rule 10 (duties_of b image plan key p s shape n) ≡ entries_by_rule 10 (misaligned_duties_of b plan key s shape)
  unfolding succ ent acc irqs left duties_of entry_in
  misaligned_told =
      let g : Owed → List ℕ = entry_in 10 in
      let x : List ℕ = flat_map g acc in
      parts g succ ent acc irqs left [] [] x [] [] (successors_none g (λ q t. refl) b image plan p s shape n) (entries_none g (λ k t. refl) (λ k t. refl) (λ k q. refl) plan key p s shape n) refl
      (interrupts_none g (λ k t. refl) plan key s) (leavings_none g (λ x. refl) (λ x. refl) key s shape)
      ∙ append-nil (x ++ []) ∙ append-nil x

  pub interrupts_told : entries_by_rule 11 (duties_of b image plan key p s shape n) ≡ irq_handler_entries plan (possible_irqs_of plan s)
  unfolding succ ent acc irqs left duties_of entry_in
  interrupts_told =
      let g : Owed → List ℕ = entry_in 11 in
      let y : List ℕ = irq_handler_entries plan (possible_irqs_of plan s) in
      parts g succ ent acc irqs left [] [] [] y [] (successors_none g (λ q t. refl) b image plan p s shape n) (entries_none g (λ k t. refl) (λ k t. refl) (λ k q. refl) plan key p s shape n) (misaligned_none g (λ k t. refl) b plan key s shape)
      (flat_mapped g (λ i. owed 11 (enter (irq_key plan i) (irq_entry plan key s i))) (λ i. (irq_key plan i).entry ∷ []) (λ i. refl) (possible_irqs_of plan s) ∙ flat_each (λ i. (irq_key plan i).entry) (possible_irqs_of plan s))
      (leavings_none g (λ x. refl) (λ x. refl) key s shape)
      ∙ append-nil y

  pub returns_told : return_addresses_of cert (duties_of b image plan key p s shape n) ≡ return_addresses_after cert (wrapping_sum p n) (entered_keys (entry_duties_of plan key p s shape n))
  unfolding succ ent acc irqs left duties_of
  returns_told =
      let g : Owed → List ℕ = λ d. return_address_of_duty cert d.duty in
      let w : List ℕ = return_addresses_after cert (wrapping_sum p n) (entered_keys ent) in
      parts g succ ent acc irqs left [] w [] [] [] (successors_none g (λ q t. refl) b image plan p s shape n) (returns_are cert plan key p s shape n) (misaligned_none g (λ k t. refl) b plan key s shape)
      (interrupts_none g (λ k t. refl) plan key s) (leavings_none g (λ x. refl) (λ x. refl) key s shape)
      ∙ append-nil (w ++ [] ++ []) ∙ append-nil (w ++ []) ∙ append-nil w

  pub keys_told : called_keys_of (duties_of b image plan key p s shape n) ≡ map (entered_key key 1) (call_targets_of plan s p shape)
  unfolding succ ent acc irqs left duties_of key_in
  keys_told =
      let g : Owed → List Key = key_in in
      let w : List Key = map (entered_key key 1) (call_targets_of plan s p shape) in
      parts g succ ent acc irqs left [] w [] [] [] (successors_none g (λ q t. refl) b image plan p s shape n) (called_keys plan key p s shape n) (misaligned_none g (λ k t. refl) b plan key s shape)
      (interrupts_none g (λ k t. refl) plan key s) (leavings_none g (λ x. refl) (λ x. refl) key s shape)
      ∙ append-nil (w ++ [] ++ []) ∙ append-nil (w ++ []) ∙ append-nil w
