-- The routine's instructions 2 to 13, one after another: what registers and the block hold.
use Rattle.std.proofs.Common.{◌≡◌, ◌≢◌, ℕ, suc, ◌+◌, ◌-◌, ◌*◌, ◌%◌, ◌^◌, ◌<◌, ◌≤◌, inl, inr, Bool, true, false, not, ◌&&◌, cond, length, set, get_or-set_same, get_or-set_other, Ok, refl, sym, ap, ◌∙◌, subst, arith, nat_lt}
use Rattle.std.proofs.lemmas.Bool.{cases_eq, eq-eqb, ne_eqb, lt-ltb}
use Rattle.csa_chain.specs.MemoryBytes.{Memory, is_mapped, loaded_number, with_bytes}
use Rattle.csa_chain.proofs.SeveralLaws.{cond_same, cond_other}
use Rattle.tc_isa.specs.Arithmetic.{sign_extended, alu_of, taken_of}
use Rattle.tc_isa.specs.declared.shapes.Arg.TheVariants.{Reg, Word}
use Rattle.tc_isa.specs.declared.shapes.Op.TheVariants.{Second, Add}
use Rattle.tc_isa.specs.declared.shapes.Shape.{Shape}
use Rattle.tc_isa.specs.declared.shapes.Shape.TheVariants.{Compute, Scaled, Load, Store, Branch, Mfcr}
use Rattle.tc_isa.specs.declared.shapes.Cond.TheVariants as cond
use Rattle.tc_machine.specs.declared.events.Event.{Event}
use Rattle.tc_machine.specs.declared.events.End.TheVariants.{Running}
use Rattle.tc_machine.specs.declared.state.Machine.{Machine}
use Rattle.tc_machine.specs.Machine.{reg}
use Rattle.tc_machine.specs.Instructions.{wrapping_sum, with_pc_advanced, is_trapping_access, misaligned_access_trap, after_instruction}
use Rattle.tc_machine.specs.Fetching.{fetched_instruction}
use Rattle.tc_machine.specs.Stepping.{is_interrupt_taken, step}
use Rattle.tc_machine.proofs.Steps.{with_event, step_does}
use Rattle.task_chains.specs.Tasks.{TasksData, AreTasks, count, block_size}
use Rattle.tc_isa.specs.NamedInstructions.{adjusted_upper_half, lower_half}
use Rattle.tc_isa.proofs.WordHalves.{halves_join}
use Rattle.task_chains.specs.TaskStarts.{block_word}
use Rattle.task_chains.proofs.RoutineSteps.{block_read, block_written, block_kept}
use Rattle.task_chains.proofs.Invariant.{after, InRoutine}

module _ (tasks : TasksData) (are : AreTasks tasks) (fits : tasks.block + block_size tasks ≤ 2 ^ 32) (fits_pc : tasks.switch + 72 ≤ 2 ^ 32) (m : Machine) (e : Event) (u : ℕ) (word_of : ℕ → ℕ) (running : m.end ≡ Running) (dl : length m.d ≡ 16) (al : length m.a ≡ 16)
    (here : (i : ℕ) → i < block_size tasks → is_mapped m.mem (tasks.block + i) ≡ true) (own : u < count tasks) (pcxi_lt : m.pcxi < 2 ^ 32) where
  abbrev n : ℕ
  n = count tasks

  none_of : m.ie ≡ false → is_interrupt_taken m e ≡ false
  none_of off = ap (λ t. t && nat_lt m.ccpn e.irq) off

  pub no_trap : (x : ℕ) → x % 4 ≡ 0 → is_trapping_access e x 4 ≡ false
  no_trap x h = ap (λ t. e.aln && not t) (eq-eqb (x % 4) 0 h) ∙ never e.aln
    where
      never : (a : Bool) → (a && false) ≡ false
      never true = refl
      never false = refl

  pub four_place : (j : ℕ) → (tasks.block + 4 * j) % 4 ≡ 0
  four_place j = let w = are.whole in omega arith

  signed_small : (x : ℕ) → x < 2 ^ 15 → sign_extended 16 x ≡ x
  signed_small x lt = ap (λ t. cond t x (x + 2 ^ 32 - 2 ^ 16)) (lt-ltb x (2 ^ 15) lt)

  pub block_place : (a : ℕ) → a ≡ tasks.block → wrapping_sum a (sign_extended 16 (4 * n % 2 ^ 16)) ≡ tasks.block + 4 * n
  block_place a is =
      let few = are.few in
      let small : 4 * n % 2 ^ 16 ≡ 4 * n = omega arith in
      let offset : sign_extended 16 (4 * n % 2 ^ 16) ≡ 4 * n = ap (sign_extended 16) small ∙ signed_small (4 * n) (omega arith) in
      (λ i. wrapping_sum (is i) (offset i)) ∙ (let f : (tasks.block + 4 * n) % 2 ^ 32 ≡ tasks.block + 4 * n = omega arith in f)

  scaled_place : (a d j : ℕ) → a ≡ tasks.block → d ≡ j → j ≤ n → wrapping_sum a (d * 2 ^ 2) ≡ tasks.block + 4 * j
  scaled_place a d j is at le = omega arith

  pub zero_place : (a j : ℕ) → a ≡ tasks.block + 4 * j → j ≤ n → wrapping_sum a 0 ≡ tasks.block + 4 * j
  zero_place a j is le = omega arith

  count_small : sign_extended 4 (n % 2 ^ 4) ≡ n
  count_small =
      let small : n % 2 ^ 4 ≡ n = omega arith in
      ap (sign_extended 4) small ∙ ap (λ t. cond t n (n + 2 ^ 32 - 2 ^ 4)) (lt-ltb n (2 ^ 3) (omega (arith, are.few)))

  pub after_le : after n u ≤ n
  after_le = elim (cases_eq (suc u) n) [ inl last ↦ (let f = cond_same (suc u) n 0 (suc u) last in omega arith) | inr more ↦ (let f = cond_other (suc u) n 0 (suc u) more in omega arith) ]

  after_lt : after n u < 2 ^ 32
  after_lt = let le = after_le in let few = are.few in omega arith

  to_next : (j : ℕ) (x : Machine) → is_interrupt_taken m e ≡ false → (shape : Shape) → fetched_instruction m ≡ Ok (shape, 4) → after_instruction m e shape 4 ≡ x → x.end ≡ Running → InRoutine tasks (with_event x e) u j word_of → InRoutine tasks (step m e) u j word_of
  to_next j x none shape at is ends h =
      subst (λ (y : Machine). InRoutine tasks y u j word_of) (sym (step_does m e shape 4 running none at (ap (λ (y : Machine). y.end) is ∙ ends) ∙ ap (λ (y : Machine). with_event y e) is)) h

  pub next_4 : InRoutine tasks m u 4 word_of → fetched_instruction m ≡ Ok (Load 0 (Reg 18) (sign_extended 16 (4 * n % 2 ^ 16)) 4 false false, 4) → InRoutine tasks (step m e) u 5 word_of
  unfolding after_instruction alu_of taken_of
  next_4 r at =
      let place : wrapping_sum (reg m 18) (sign_extended 16 (4 * n % 2 ^ 16)) ≡ tasks.block + 4 * n = block_place (reg m 18) (r.block (omega arith)) in
      let x : Machine = record (with_pc_advanced 4 m) { d = set m.d 0 (loaded_number m.mem e.input (wrapping_sum (reg m 18) (sign_extended 16 (4 * n % 2 ^ 16))) 4) } in
      let done : after_instruction m e (Load 0 (Reg 18) (sign_extended 16 (4 * n % 2 ^ 16)) 4 false false) 4 ≡ x = ap (λ t. cond t (misaligned_access_trap m) (record (with_pc_advanced 4 m) { d = set m.d 0 (loaded_number m.mem e.input (wrapping_sum (reg m 18) (sign_extended 16 (4 * n % 2 ^ 16))) 4) })) (no_trap (wrapping_sum (reg m 18) (sign_extended 16 (4 * n % 2 ^ 16))) (ap (λ y. y % 4) place ∙ four_place n)) in
      to_next 5 x (none_of r.off) (Load 0 (Reg 18) (sign_extended 16 (4 * n % 2 ^ 16)) 4 false false) at done running (record { pc = (let p = r.pc in let f = fits_pc in omega arith); off = r.off; high = λ a. absurd (omega arith); block = λ a. r.block (omega arith); own = λ a b. get_or-set_same m.d 0 (loaded_number m.mem e.input (wrapping_sum (reg m 18) (sign_extended 16 (4 * n % 2 ^ 16))) 4) 0 (omega arith) ∙ ap (λ y. loaded_number m.mem e.input y 4) place ∙ block_read tasks m.mem fits here e.input n (omega arith) ∙ r.old_current (omega arith); own_word = λ a b. absurd (omega arith); pcxi = λ a. absurd (omega arith); stored = λ a. absurd (omega arith); one_on = λ a b. absurd (omega arith); at_end = λ a. absurd (omega arith); next = λ a. absurd (omega arith); old_current = λ a. r.old_current (omega arith); new_current = λ a. absurd (omega arith); next_word = λ a. absurd (omega arith); next_pcxi = λ a. absurd (omega arith) })

  pub next_5 : InRoutine tasks m u 5 word_of → fetched_instruction m ≡ Ok (Scaled 19 18 0 2, 4) → InRoutine tasks (step m e) u 6 word_of
  unfolding after_instruction alu_of taken_of
  next_5 r at =
      let x : Machine = record (with_pc_advanced 4 m) { a = set m.a 3 (wrapping_sum (reg m 18) (reg m 0 * 2 ^ 2)) } in
      let done : after_instruction m e (Scaled 19 18 0 2) 4 ≡ x = refl in
      to_next 6 x (none_of r.off) (Scaled 19 18 0 2) at done running (record { pc = (let p = r.pc in let f = fits_pc in omega arith); off = r.off; high = λ a. absurd (omega arith); block = λ a. get_or-set_other m.a 3 2 (wrapping_sum (reg m 18) (reg m 0 * 2 ^ 2)) 0 (λ e. omega arith) ∙ r.block (omega arith); own = λ a b. r.own (omega arith) (omega arith); own_word = λ a b. get_or-set_same m.a 3 (wrapping_sum (reg m 18) (reg m 0 * 2 ^ 2)) 0 (omega arith) ∙ scaled_place (reg m 18) (reg m 0) u (r.block (omega arith)) (r.own (omega arith) (omega arith)) (omega arith); pcxi = λ a. absurd (omega arith); stored = λ a. absurd (omega arith); one_on = λ a b. absurd (omega arith); at_end = λ a. absurd (omega arith); next = λ a. absurd (omega arith); old_current = λ a. r.old_current (omega arith); new_current = λ a. absurd (omega arith); next_word = λ a. absurd (omega arith); next_pcxi = λ a. absurd (omega arith) })

  pub next_6 : InRoutine tasks m u 6 word_of → fetched_instruction m ≡ Ok (Mfcr 1 0xfe00, 4) → InRoutine tasks (step m e) u 7 word_of
  unfolding after_instruction alu_of taken_of
  next_6 r at =
      let x : Machine = record (with_pc_advanced 4 m) { d = set m.d 1 (m.pcxi) } in
      let done : after_instruction m e (Mfcr 1 0xfe00) 4 ≡ x = refl in
      to_next 7 x (none_of r.off) (Mfcr 1 0xfe00) at done running (record { pc = (let p = r.pc in let f = fits_pc in omega arith); off = r.off; high = λ a. absurd (omega arith); block = λ a. r.block (omega arith); own = λ a b. get_or-set_other m.d 1 0 (m.pcxi) 0 (λ e. omega arith) ∙ r.own (omega arith) (omega arith); own_word = λ a b. r.own_word (omega arith) (omega arith); pcxi = λ a. get_or-set_same m.d 1 m.pcxi 0 (omega arith); stored = λ a. absurd (omega arith); one_on = λ a b. absurd (omega arith); at_end = λ a. absurd (omega arith); next = λ a. absurd (omega arith); old_current = λ a. r.old_current (omega arith); new_current = λ a. absurd (omega arith); next_word = λ a. absurd (omega arith); next_pcxi = λ a. absurd (omega arith) })

  pub next_7 : InRoutine tasks m u 7 word_of → fetched_instruction m ≡ Ok (Store 1 (Reg 19) 0 4 false, 4) → InRoutine tasks (step m e) u 8 word_of
  unfolding after_instruction alu_of taken_of
  next_7 r at =
      let is = r.pcxi refl in
      let place : wrapping_sum (reg m 19) 0 ≡ tasks.block + 4 * u = zero_place (reg m 19) u (r.own_word (omega arith) (omega arith)) (omega arith) in
      let put : with_bytes m.mem (wrapping_sum (reg m 19) 0) (reg m 1) 4 ≡ with_bytes m.mem (tasks.block + 4 * u) (reg m 1) 4 = ap (λ y. with_bytes m.mem y (reg m 1) 4) place in
      let x : Machine = record (with_pc_advanced 4 m) { mem = with_bytes m.mem (wrapping_sum (reg m 19) 0) (reg m 1) 4 } in
      let done : after_instruction m e (Store 1 (Reg 19) 0 4 false) 4 ≡ x = ap (λ t. cond t (misaligned_access_trap m) (record (with_pc_advanced 4 m) { mem = with_bytes m.mem (wrapping_sum (reg m 19) 0) (reg m 1) 4 })) (no_trap (wrapping_sum (reg m 19) 0) (ap (λ y. y % 4) place ∙ four_place u)) in
      to_next 8 x (none_of r.off) (Store 1 (Reg 19) 0 4 false) at done running (record { pc = (let p = r.pc in let f = fits_pc in omega arith); off = r.off; high = λ a. absurd (omega arith); block = λ a. r.block (omega arith); own = λ a b. r.own (omega arith) (omega arith); own_word = λ a b. absurd (omega arith); pcxi = λ a. absurd (omega arith); stored = λ a. ap (λ (y : Memory). block_word tasks y u) put ∙ block_written tasks m.mem fits here u (reg m 1) (omega arith) (subst (λ y. y < 2 ^ 32) (sym is) pcxi_lt) ∙ is; one_on = λ a b. absurd (omega arith); at_end = λ a. absurd (omega arith); next = λ a. absurd (omega arith); old_current = λ a. ap (λ (y : Memory). block_word tasks y n) put ∙ block_kept tasks m.mem fits here u (reg m 1) n (omega arith) (λ e. omega arith) ∙ r.old_current (omega arith); new_current = λ a. absurd (omega arith); next_word = λ a. absurd (omega arith); next_pcxi = λ a. absurd (omega arith) })

  pub next_8 : InRoutine tasks m u 8 word_of → fetched_instruction m ≡ Ok (Compute Add 0 (Reg 0) (Word 1), 4) → InRoutine tasks (step m e) u 9 word_of
  unfolding after_instruction alu_of taken_of
  next_8 r at =
      let x : Machine = record (with_pc_advanced 4 m) { d = set m.d 0 ((reg m 0 + 1) % 2 ^ 32) } in
      let done : after_instruction m e (Compute Add 0 (Reg 0) (Word 1)) 4 ≡ x = refl in
      to_next 9 x (none_of r.off) (Compute Add 0 (Reg 0) (Word 1)) at done running (record { pc = (let p = r.pc in let f = fits_pc in omega arith); off = r.off; high = λ a. absurd (omega arith); block = λ a. r.block (omega arith); own = λ a b. absurd (omega arith); own_word = λ a b. absurd (omega arith); pcxi = λ a. absurd (omega arith); stored = λ a. r.stored (omega arith); one_on = λ a b. get_or-set_same m.d 0 ((reg m 0 + 1) % 2 ^ 32) 0 (omega arith) ∙ (let o = r.own (omega arith) (omega arith) in omega arith); at_end = λ a. absurd (omega arith); next = λ a. absurd (omega arith); old_current = λ a. r.old_current (omega arith); new_current = λ a. absurd (omega arith); next_word = λ a. absurd (omega arith); next_pcxi = λ a. absurd (omega arith) })

  pub next_10 : InRoutine tasks m u 10 word_of → fetched_instruction m ≡ Ok (Compute Second 0 (Word 0) (Word 0), 4) → InRoutine tasks (step m e) u 11 word_of
  unfolding after_instruction alu_of taken_of
  next_10 r at =
      let x : Machine = record (with_pc_advanced 4 m) { d = set m.d 0 (0) } in
      let done : after_instruction m e (Compute Second 0 (Word 0) (Word 0)) 4 ≡ x = refl in
      to_next 11 x (none_of r.off) (Compute Second 0 (Word 0) (Word 0)) at done running (record { pc = (let p = r.pc in let f = fits_pc in omega arith); off = r.off; high = λ a. absurd (omega arith); block = λ a. r.block (omega arith); own = λ a b. absurd (omega arith); own_word = λ a b. absurd (omega arith); pcxi = λ a. absurd (omega arith); stored = λ a. r.stored (omega arith); one_on = λ a b. absurd (omega arith); at_end = λ a. absurd (omega arith); next = λ a. get_or-set_same m.d 0 0 0 (omega arith) ∙ sym (cond_same (suc u) n 0 (suc u) (r.at_end refl)); old_current = λ a. r.old_current (omega arith); new_current = λ a. absurd (omega arith); next_word = λ a. absurd (omega arith); next_pcxi = λ a. absurd (omega arith) })

  pub next_11 : InRoutine tasks m u 11 word_of → fetched_instruction m ≡ Ok (Store 0 (Reg 18) (sign_extended 16 (4 * n % 2 ^ 16)) 4 false, 4) → InRoutine tasks (step m e) u 12 word_of
  unfolding after_instruction alu_of taken_of
  next_11 r at =
      let place : wrapping_sum (reg m 18) (sign_extended 16 (4 * n % 2 ^ 16)) ≡ tasks.block + 4 * n = block_place (reg m 18) (r.block (omega arith)) in
      let put : with_bytes m.mem (wrapping_sum (reg m 18) (sign_extended 16 (4 * n % 2 ^ 16))) (reg m 0) 4 ≡ with_bytes m.mem (tasks.block + 4 * n) (reg m 0) 4 = ap (λ y. with_bytes m.mem y (reg m 0) 4) place in
      let x : Machine = record (with_pc_advanced 4 m) { mem = with_bytes m.mem (wrapping_sum (reg m 18) (sign_extended 16 (4 * n % 2 ^ 16))) (reg m 0) 4 } in
      let done : after_instruction m e (Store 0 (Reg 18) (sign_extended 16 (4 * n % 2 ^ 16)) 4 false) 4 ≡ x = ap (λ t. cond t (misaligned_access_trap m) (record (with_pc_advanced 4 m) { mem = with_bytes m.mem (wrapping_sum (reg m 18) (sign_extended 16 (4 * n % 2 ^ 16))) (reg m 0) 4 })) (no_trap (wrapping_sum (reg m 18) (sign_extended 16 (4 * n % 2 ^ 16))) (ap (λ y. y % 4) place ∙ four_place n)) in
      to_next 12 x (none_of r.off) (Store 0 (Reg 18) (sign_extended 16 (4 * n % 2 ^ 16)) 4 false) at done running (record { pc = (let p = r.pc in let f = fits_pc in omega arith); off = r.off; high = λ a. absurd (omega arith); block = λ a. r.block (omega arith); own = λ a b. absurd (omega arith); own_word = λ a b. absurd (omega arith); pcxi = λ a. absurd (omega arith); stored = λ a. ap (λ (y : Memory). block_word tasks y u) put ∙ block_kept tasks m.mem fits here n (reg m 0) u (omega arith) (λ e. omega arith) ∙ r.stored (omega arith); one_on = λ a b. absurd (omega arith); at_end = λ a. absurd (omega arith); next = λ a. r.next (omega arith); old_current = λ a. absurd (omega arith); new_current = λ a. ap (λ (y : Memory). block_word tasks y n) put ∙ block_written tasks m.mem fits here n (reg m 0) (omega arith) (subst (λ y. y < 2 ^ 32) (sym (r.next (omega arith))) after_lt) ∙ r.next (omega arith); next_word = λ a. absurd (omega arith); next_pcxi = λ a. absurd (omega arith) })

  pub next_12 : InRoutine tasks m u 12 word_of → fetched_instruction m ≡ Ok (Scaled 19 18 0 2, 4) → InRoutine tasks (step m e) u 13 word_of
  unfolding after_instruction alu_of taken_of
  next_12 r at =
      let x : Machine = record (with_pc_advanced 4 m) { a = set m.a 3 (wrapping_sum (reg m 18) (reg m 0 * 2 ^ 2)) } in
      let done : after_instruction m e (Scaled 19 18 0 2) 4 ≡ x = refl in
      to_next 13 x (none_of r.off) (Scaled 19 18 0 2) at done running (record { pc = (let p = r.pc in let f = fits_pc in omega arith); off = r.off; high = λ a. absurd (omega arith); block = λ a. get_or-set_other m.a 3 2 (wrapping_sum (reg m 18) (reg m 0 * 2 ^ 2)) 0 (λ e. omega arith) ∙ r.block (omega arith); own = λ a b. absurd (omega arith); own_word = λ a b. absurd (omega arith); pcxi = λ a. absurd (omega arith); stored = λ a. r.stored (omega arith); one_on = λ a b. absurd (omega arith); at_end = λ a. absurd (omega arith); next = λ a. r.next (omega arith); old_current = λ a. absurd (omega arith); new_current = λ a. r.new_current (omega arith); next_word = λ a. get_or-set_same m.a 3 (wrapping_sum (reg m 18) (reg m 0 * 2 ^ 2)) 0 (omega arith) ∙ scaled_place (reg m 18) (reg m 0) (after n u) (r.block (omega arith)) (r.next (omega arith)) after_le; next_pcxi = λ a. absurd (omega arith) })

  pub next_13 : block_word tasks m.mem (after n u) ≡ word_of (after n u) → InRoutine tasks m u 13 word_of → fetched_instruction m ≡ Ok (Load 1 (Reg 19) 0 4 false false, 4) → InRoutine tasks (step m e) u 14 word_of
  unfolding after_instruction alu_of taken_of
  next_13 more r at =
      let place : wrapping_sum (reg m 19) 0 ≡ tasks.block + 4 * after n u = zero_place (reg m 19) (after n u) (r.next_word refl) after_le in
      let x : Machine = record (with_pc_advanced 4 m) { d = set m.d 1 (loaded_number m.mem e.input (wrapping_sum (reg m 19) 0) 4) } in
      let done : after_instruction m e (Load 1 (Reg 19) 0 4 false false) 4 ≡ x = ap (λ t. cond t (misaligned_access_trap m) (record (with_pc_advanced 4 m) { d = set m.d 1 (loaded_number m.mem e.input (wrapping_sum (reg m 19) 0) 4) })) (no_trap (wrapping_sum (reg m 19) 0) (ap (λ y. y % 4) place ∙ four_place (after n u))) in
      to_next 14 x (none_of r.off) (Load 1 (Reg 19) 0 4 false false) at done running (record { pc = (let p = r.pc in let f = fits_pc in omega arith); off = r.off; high = λ a. absurd (omega arith); block = λ a. r.block (omega arith); own = λ a b. absurd (omega arith); own_word = λ a b. absurd (omega arith); pcxi = λ a. absurd (omega arith); stored = λ a. r.stored (omega arith); one_on = λ a b. absurd (omega arith); at_end = λ a. absurd (omega arith); next = λ a. get_or-set_other m.d 1 0 (loaded_number m.mem e.input (wrapping_sum (reg m 19) 0) 4) 0 (λ e. omega arith) ∙ r.next (omega arith); old_current = λ a. absurd (omega arith); new_current = λ a. r.new_current (omega arith); next_word = λ a. absurd (omega arith); next_pcxi = λ a. get_or-set_same m.d 1 (loaded_number m.mem e.input (wrapping_sum (reg m 19) 0) 4) 0 (omega arith) ∙ ap (λ y. loaded_number m.mem e.input y 4) place ∙ block_read tasks m.mem fits here e.input (after n u) after_le ∙ more })

  pub next_2 : InRoutine tasks m u 2 word_of → fetched_instruction m ≡ Ok (Compute Second 18 (Word 0) (Word (adjusted_upper_half tasks.block * 2 ^ 16 % 2 ^ 32)), 4) → InRoutine tasks (step m e) u 3 word_of
  unfolding after_instruction alu_of taken_of
  next_2 r at =
      let x : Machine = record (with_pc_advanced 4 m) { a = set m.a 2 (adjusted_upper_half tasks.block * 2 ^ 16 % 2 ^ 32) } in
      let done : after_instruction m e (Compute Second 18 (Word 0) (Word (adjusted_upper_half tasks.block * 2 ^ 16 % 2 ^ 32))) 4 ≡ x = refl in
      to_next 3 x (none_of r.off) (Compute Second 18 (Word 0) (Word (adjusted_upper_half tasks.block * 2 ^ 16 % 2 ^ 32))) at done running (record { pc = (let p = r.pc in let f = fits_pc in omega arith); off = r.off; high = λ a. get_or-set_same m.a 2 (adjusted_upper_half tasks.block * 2 ^ 16 % 2 ^ 32) 0 (omega arith); block = λ a. absurd (omega arith); own = λ a b. absurd (omega arith); own_word = λ a b. absurd (omega arith); pcxi = λ a. absurd (omega arith); stored = λ a. absurd (omega arith); one_on = λ a b. absurd (omega arith); at_end = λ a. absurd (omega arith); next = λ a. absurd (omega arith); old_current = λ a. r.old_current (omega arith); new_current = λ a. absurd (omega arith); next_word = λ a. absurd (omega arith); next_pcxi = λ a. absurd (omega arith) })

  pub next_3 : InRoutine tasks m u 3 word_of → fetched_instruction m ≡ Ok (Compute Add 18 (Reg 18) (Word (sign_extended 16 (lower_half tasks.block % 2 ^ 16))), 4) → InRoutine tasks (step m e) u 4 word_of
  unfolding after_instruction alu_of taken_of
  next_3 r at =
      let x : Machine = record (with_pc_advanced 4 m) { a = set m.a 2 ((reg m 18 + sign_extended 16 (lower_half tasks.block % 2 ^ 16)) % 2 ^ 32) } in
      let done : after_instruction m e (Compute Add 18 (Reg 18) (Word (sign_extended 16 (lower_half tasks.block % 2 ^ 16)))) 4 ≡ x = refl in
      to_next 4 x (none_of r.off) (Compute Add 18 (Reg 18) (Word (sign_extended 16 (lower_half tasks.block % 2 ^ 16)))) at done running (record { pc = (let p = r.pc in let f = fits_pc in omega arith); off = r.off; high = λ a. absurd (omega arith); block = λ a. get_or-set_same m.a 2 ((reg m 18 + sign_extended 16 (lower_half tasks.block % 2 ^ 16)) % 2 ^ 32) 0 (omega arith) ∙ ap (λ y. (y + sign_extended 16 (lower_half tasks.block % 2 ^ 16)) % 2 ^ 32) (r.high refl) ∙ halves_join tasks.block (omega arith); own = λ a b. absurd (omega arith); own_word = λ a b. absurd (omega arith); pcxi = λ a. absurd (omega arith); stored = λ a. absurd (omega arith); one_on = λ a b. absurd (omega arith); at_end = λ a. absurd (omega arith); next = λ a. absurd (omega arith); old_current = λ a. r.old_current (omega arith); new_current = λ a. absurd (omega arith); next_word = λ a. absurd (omega arith); next_pcxi = λ a. absurd (omega arith) })

  pub next_9_last : suc u ≡ n → InRoutine tasks m u 9 word_of → fetched_instruction m ≡ Ok (Branch cond.Ne 0 (Word (sign_extended 4 (n % 2 ^ 4))) 8 false, 4) → InRoutine tasks (step m e) u 10 word_of
  unfolding after_instruction alu_of taken_of
  next_9_last more r at =
      let x : Machine = record m { pc = wrapping_sum m.pc 4 } in
      let done : after_instruction m e (Branch cond.Ne 0 (Word (sign_extended 4 (n % 2 ^ 4))) 8 false) 4 ≡ x = ap (λ t. record m { pc = cond (not t) (wrapping_sum m.pc 8) (wrapping_sum m.pc 4) }) (eq-eqb (reg m 0) (sign_extended 4 (n % 2 ^ 4)) (r.one_on (omega arith) (omega arith) ∙ more ∙ sym count_small)) in
      to_next 10 x (none_of r.off) (Branch cond.Ne 0 (Word (sign_extended 4 (n % 2 ^ 4))) 8 false) at done running (record { pc = (let p = r.pc in let f = fits_pc in omega arith); off = r.off; high = λ a. absurd (omega arith); block = λ a. r.block (omega arith); own = λ a b. absurd (omega arith); own_word = λ a b. absurd (omega arith); pcxi = λ a. absurd (omega arith); stored = λ a. r.stored (omega arith); one_on = λ a b. r.one_on (omega arith) (omega arith); at_end = λ a. more; next = λ a. absurd (omega arith); old_current = λ a. r.old_current (omega arith); new_current = λ a. absurd (omega arith); next_word = λ a. absurd (omega arith); next_pcxi = λ a. absurd (omega arith) })

  pub next_9_more : suc u ≢ n → InRoutine tasks m u 9 word_of → fetched_instruction m ≡ Ok (Branch cond.Ne 0 (Word (sign_extended 4 (n % 2 ^ 4))) 8 false, 4) → InRoutine tasks (step m e) u 11 word_of
  unfolding after_instruction alu_of taken_of
  next_9_more more r at =
      let x : Machine = record m { pc = wrapping_sum m.pc 8 } in
      let done : after_instruction m e (Branch cond.Ne 0 (Word (sign_extended 4 (n % 2 ^ 4))) 8 false) 4 ≡ x = ap (λ t. record m { pc = cond (not t) (wrapping_sum m.pc 8) (wrapping_sum m.pc 4) }) (ne_eqb (reg m 0) (sign_extended 4 (n % 2 ^ 4)) (λ e. more (sym (r.one_on (omega arith) (omega arith)) ∙ e ∙ count_small))) in
      to_next 11 x (none_of r.off) (Branch cond.Ne 0 (Word (sign_extended 4 (n % 2 ^ 4))) 8 false) at done running (record { pc = (let p = r.pc in let f = fits_pc in omega arith); off = r.off; high = λ a. absurd (omega arith); block = λ a. r.block (omega arith); own = λ a b. absurd (omega arith); own_word = λ a b. absurd (omega arith); pcxi = λ a. absurd (omega arith); stored = λ a. r.stored (omega arith); one_on = λ a b. absurd (omega arith); at_end = λ a. absurd (omega arith); next = λ a. r.one_on (omega arith) (omega arith) ∙ sym (cond_other (suc u) n 0 (suc u) more); old_current = λ a. r.old_current (omega arith); new_current = λ a. absurd (omega arith); next_word = λ a. absurd (omega arith); next_pcxi = λ a. absurd (omega arith) })
