-- The routine's instructions up to the one that gives PCXI to the next task: the view follows the
-- machine.
use Rattle.std.proofs.Common.{◌≡◌, ◌≢◌, ℕ, zero, suc, ◌+◌, ◌*◌, ◌%◌, ◌^◌, ◌<◌, ◌≤◌, inl, inr, true, false, cond, List, [], ◌∷◌, ◌++◌, length, map, Some, None, Ok, Result, refl, sym, ap, ◌∙◌, subst, arith}
use Rattle.std.proofs.lemmas.Bool.{cases_lt, cases_eq}
use Rattle.std.specs.FinMap as finite
use Rattle.csa_chain.specs.MemoryBytes.{Memory, is_mapped, loaded_number, with_bytes}
use Rattle.csa_chain.proofs.MemoryLaws.{get-with_bytes_other, is_mapped-with_bytes}
use Rattle.csa_chain.proofs.SeveralLaws.{cond_same, cond_other}
use Rattle.elf_image.specs.Images.{ImageData}
use Rattle.tcd_base.specs.declared.range.Range.{Range}
use Rattle.tcd_base.specs.Ranges.{IsInOneRange}
use Rattle.tcd_base.proofs.RangeLaws.{IsInOne-front}
use Rattle.tcd_plan.specs.PlanData.{PlanData, areas_range}
use Rattle.tcd_plan.specs.MappedAddresses.{IsInAreas, IsStoreInRange, MayAnswerLoad}
use Rattle.tcd_plan.proofs.ApartLaws.{IsInOne-fits, all_apart-before, rom_fits}
use Rattle.tc_isa.specs.Arithmetic.{sign_extended}
use Rattle.tc_isa.specs.declared.shapes.Arg.TheVariants.{Reg, Word}
use Rattle.tc_isa.specs.declared.shapes.Op.TheVariants.{Second, Add}
use Rattle.tc_isa.specs.declared.shapes.Cond.TheVariants as cond
use Rattle.tc_isa.specs.declared.shapes.Shape.{Shape}
use Rattle.tc_isa.specs.declared.shapes.Shape.TheVariants.{Compute, Scaled, Load, Store, Branch, Mfcr, Nothing}
use Rattle.tc_machine.specs.declared.events.Cause.{Cause}
use Rattle.tc_machine.specs.declared.events.Event.{Event}
use Rattle.tc_machine.specs.declared.state.Machine.{Machine}
use Rattle.tc_machine.specs.Machine.{reg}
use Rattle.tc_machine.specs.Instructions.{wrapping_sum, is_trapping_access, after_instruction}
use Rattle.tc_machine.specs.Fetching.{fetched_instruction}
use Rattle.std.specs.Prelude.{IfSome}
use Rattle.tc_machine.specs.Stepping.{is_interrupt_taken, load_of_fetched, store_of_fetched, stored, step}
use Rattle.tc_machine.specs.Safe.{Fits}
use Rattle.tc_machine.proofs.Kept.{none_when_off}
use Rattle.tc_machine.proofs.Steps.{step_does, stored-is}
use Rattle.task_chains.specs.SafeTasks.{IsAllowedTaskStore}
use Rattle.task_chains.specs.SwitchRoutine.{IsInRoutine}
use Rattle.tc_machine.proofs.Words.{load_lt}
use Rattle.depth_cert.specs.Certs.{CertData}
use Rattle.cfg_recover.specs.Code.{IsCode}
use Rattle.cfg_recover.specs.StepEdges.{to, edge_way_by_trap}
use Rattle.cfg_recover.proofs.Writes.{store_keeps_areas}
use Rattle.task_chains.specs.Tasks.{TasksData, count, block_size}
use Rattle.tc_isa.specs.NamedInstructions.{adjusted_upper_half, lower_half}
use Rattle.task_chains.specs.Views.{view_image_of, view_plan_of}
use Rattle.task_chains.specs.TaskStarts.{block_word}
use Rattle.task_chains.proofs.Alike.{seen_as, Alike}
use Rattle.task_chains.proofs.Going.{Goes, code_to, first_stays}
use Rattle.task_chains.proofs.Invariant.{after, ViewOf, switches, InRoutine, AllKept}
use Rattle.task_chains.proofs.Joined.{World, block_in_ram, view_few, view_ok, twins, view_after, paused_after, all_after}
use Rattle.task_chains.proofs.Outside.{fetched_code}
use Rattle.task_chains.proofs.Plain.{Plainly, plain-compute, plain-scaled, plain-branch, Alike-plain}
use Rattle.task_chains.proofs.RoutineCode.{code_1, code_14, code_2, code_3, code_4, code_5, code_6, code_7, code_8, code_9, code_10, code_11, code_12, code_13, view_code_2, view_code_3, view_code_4, view_code_5, view_code_6, view_code_7, view_code_8, view_code_9, view_code_10, view_code_11, view_code_12, view_code_13}
use Rattle.task_chains.proofs.RoutineRun.{no_trap, four_place, block_place, zero_place, next_2, next_3, next_4, next_5, next_6, next_7, next_8, next_9_last, next_9_more, next_10, next_11, next_12, next_13}
use Rattle.task_chains.proofs.RoutineSteps.{block_kept, plain-taken, plain-pcxi, plain-put}
use Rattle.task_chains.proofs.Switch.{Paused}
use Rattle.task_chains.proofs.ViewPlan.{rest_apart}
use Rattle.task_chains.proofs.ViewRun.{NextRun, view_run_step}

-- the next task in the round is a task, and another one
pub after_below : (n u : ℕ) → 2 ≤ n → u < n → (after n u < n) × (after n u ≢ u)
after_below n u some lt =
    elim (cases_eq (suc u) n) [
      | inl last ↦ let is : after n u ≡ 0 = cond_same (suc u) n 0 (suc u) last in (omega arith, λ e. omega arith)
      | inr more ↦ let is : after n u ≡ suc u = cond_other (suc u) n 0 (suc u) more in (omega arith, λ e. omega arith)
    ]

-- a part of a range
part_of : (rs : List Range) (x n y k : ℕ) → x ≤ y → y + k ≤ x + n → IsInOneRange x n rs → IsInOneRange y k rs
part_of [] x n y k low high none = absurd none
part_of (r ∷ rs) x n y k low high (inl w) = inl (let a = w.0 in omega arith, let c = w.1 in omega arith)
part_of (r ∷ rs) x n y k low high (inr rest) = inr (part_of rs x n y k low high rest)

-- what the store of a word of the block doesn't change
record BlockStored (plan : PlanData) (tasks : TasksData) (m n : Memory) (j : ℕ) : Type 0 where
  pub areas : (x : ℕ) → IsInAreas plan x → finite.get n x ≡ finite.get m x
  pub mapped : (x : ℕ) → is_mapped n x ≡ is_mapped m x
  pub rom : (x : ℕ) → IsInOneRange x 1 plan.rom → finite.get n x ≡ finite.get m x
  pub blocks : (w : ℕ) → w ≢ j → block_word tasks n w ≡ block_word tasks m w

module _ {image : ImageData} {plan : PlanData} {tasks : TasksData} {certs : ℕ → CertData} {needs : ℕ → ℕ} (wd : World image plan tasks certs needs) where
  pub block_fits : tasks.block + block_size tasks ≤ 2 ^ 32
  block_fits = IsInOne-fits tasks.block (block_size tasks) plan.ram (wd.ok.ranges).ram (wd.fit).in_ram

  pub routine_fits : tasks.switch + 72 ≤ 2 ^ 32
  routine_fits = rom_fits wd.ok tasks.switch 72 (wd.has 71 (omega arith)).in_rom

  -- a word of the block is a store in range
  pub block_range : (j : ℕ) → j ≤ count tasks → IsStoreInRange plan (tasks.block + 4 * j, 4)
  block_range j le = let f = block_fits in (omega arith, inl (part_of plan.ram tasks.block (block_size tasks) (tasks.block + 4 * j) 4 (omega arith) (omega arith) (wd.fit).in_ram))

  block_stored : (m : Memory) (here : (i : ℕ) → i < block_size tasks → is_mapped m (tasks.block + i) ≡ true) (x j w : ℕ) → x ≡ tasks.block + 4 * j → j ≤ count tasks → BlockStored plan tasks m (with_bytes m x w 4) j
  block_stored m here x j w is le =
      subst (λ y. BlockStored plan tasks m (with_bytes m y w 4) j) (sym is)
      (record {
        areas = λ y at. store_keeps_areas plan wd.ok image m (tasks.block + 4 * j) w 4 (block_range j le) y at;
        mapped = λ y. is_mapped-with_bytes m (tasks.block + 4 * j) w 4 y;
        rom = λ y in_rom.
            get-with_bytes_other m (tasks.block + 4 * j) w 4 y (block_range j le).0
            (elim (cases_lt y (tasks.block + 4 * j)) [
              | inl low ↦ inl low
              | inr from ↦ elim (cases_lt y (tasks.block + 4 * j + 4)) [
                | inr high ↦ inr high
                | inl within ↦
                    absurd (all_apart-before y plan.rom (plan.ram ++ (map (λ d. d.range) plan.devices ++ areas_range plan ∷ [])) (rest_apart wd.ok tasks wd.are wd.fit) in_rom
                    (IsInOne-front y 1 plan.ram (map (λ d. d.range) plan.devices ++ areas_range plan ∷ []) (block_in_ram wd.ok wd.fit y (omega arith) (omega arith))))
              ]
            ]);
        blocks = λ v apart. block_kept tasks m block_fits here j w v le apart;
      })

  -- an instruction of the routine that is no store
  pub no_store : (m : Machine) {u : ℕ} {word_of : ℕ → ℕ} {chain_of : ℕ → List ℕ} → AllKept image plan tasks needs m u word_of chain_of → (e : Event) (i : ℕ) → m.pc ≡ tasks.switch + 4 * i → m.ie ≡ false → (shape : Shape) → IsCode image plan (tasks.switch + 4 * i) shape 4
      → store_of_fetched m e (Ok (shape, 4)) ≡ None → IfSome (stored m e) (IsAllowedTaskStore plan tasks m.pc)
  no_store m k e i pc off shape c none =
      let at : fetched_instruction m ≡ Ok (shape, 4) = fetched_code image plan m shape 4 wd.ok k.rom (subst (λ x. IsCode image plan x shape 4) (sym pc) c) in
      subst (λ o. IfSome o (IsAllowedTaskStore plan tasks m.pc)) (sym (stored-is m e (Ok (shape, 4)) k.running (none_when_off m e off) at ∙ none)) tt

  module _ (m : Machine) {u : ℕ} {word_of : ℕ → ℕ} {chain_of : ℕ → List ℕ} (k : AllKept image plan tasks needs m u word_of chain_of) (mem : Memory) (pcxi fcx : ℕ) (seen : List ℕ)
      (of : ViewOf image plan tasks u m.mem (seen_as m mem pcxi fcx)) (paused : Paused plan m.mem m.pcxi (chain_of u) seen m.lcx mem pcxi fcx) (e : Event) (fits : Fits plan m e) where
    abbrev v : Machine
    v = seen_as m mem pcxi fcx

    abbrev n : ℕ
    n = count tasks

    abbrev own : u < count tasks
    own = (k.shared).own

    pub block_here : (i : ℕ) → i < block_size tasks → is_mapped m.mem (tasks.block + i) ≡ true
    block_here i lt = (k.memory (tasks.block + i)).1 (inr (inl (block_in_ram wd.ok wd.fit (tasks.block + i) (omega arith) (omega arith))))

    -- ---- an instruction of the routine, and what the view has in its place
    module _ (off : m.ie ≡ false) (shape shape2 : Shape) (input : ℕ) (small : input < 2 ^ 32) (code : IsCode image plan m.pc shape 4) (code2 : IsCode (view_image_of image tasks u) plan m.pc shape2 4) where
      abbrev e2 : Event
      e2 = record e { input = input }

      here : fetched_instruction m ≡ Ok (shape, 4)
      here = fetched_code image plan m shape 4 wd.ok k.rom code

      there : fetched_instruction (seen_as m mem pcxi fcx) ≡ Ok (shape2, 4)
      there = fetched_code (view_image_of image tasks u) (view_plan_of plan tasks u) v shape2 4 (view_ok wd u own) of.rom (code_to (view_image_of image tasks u) plan tasks u m.pc shape2 4 code2)

      -- both are alike again, and the machine is at the routine's next instruction
      turns : (j : ℕ) → 1 ≤ j → j ≤ 14 → MayAnswerLoad (view_plan_of plan tasks u) input (load_of_fetched (seen_as m mem pcxi fcx) (Ok (shape2, 4))) → ((q : ℕ) → edge_way_by_trap (seen_as m mem pcxi fcx) (record e { input = input }) shape2 q ≡ to q)
          → (mem2 : Memory) → Plainly m (seen_as m mem pcxi fcx) (after_instruction m e shape 4) (after_instruction (seen_as m mem pcxi fcx) (record e { input = input }) shape2 4) mem2 mem
          → ((x : ℕ) → IsInAreas plan x → finite.get mem2 x ≡ finite.get m.mem x) → ((x : ℕ) → is_mapped mem2 x ≡ is_mapped m.mem x) → ((x : ℕ) → IsInOneRange x 1 plan.rom → finite.get mem2 x ≡ finite.get m.mem x)
          → ((w : ℕ) → w < count tasks → w ≢ u → block_word tasks mem2 w ≡ block_word tasks m.mem w)
          → InRoutine tasks (step m e) u j word_of → Goes image plan tasks needs (step m e)
      turns j some most answers way mem2 p areas maps roms blocks r =
          let none : is_interrupt_taken m e ≡ false = none_when_off m e off in
          let fits2 : Fits (view_plan_of plan tasks u) v e2 =
          record {
            irq = fits.irq;
            input = small;
            status = fits.status;
            answers = λ _. subst (λ (r : Result (Shape × ℕ) Cause). MayAnswerLoad (view_plan_of plan tasks u) input (load_of_fetched v r)) (sym there) answers;
          }
          in
          let a : Alike plan (count tasks) u word_of chain_of (λ x. IsInOneRange x 1 plan.rom) mem m (step m e) (step v e2) =
          Alike-plain wd.ok (λ x. IsInOneRange x 1 plan.rom) m mem pcxi fcx k.running (twins wd m k mem pcxi fcx seen of paused e) mem2 areas maps e e2 shape shape2 4 p roms none refl refl here there
          in
          let first = first_stays tasks v e2 (of.run).frame (of.run).behind shape2 4 none there (way (step v e2).pc) (of.run).first in
          let next : NextRun image plan tasks u (step v e2) _ =
          view_run_step wd.ok wd.are wd.fit own (certs u) (wd.judged u own) (view_few wd u own) v of.run k.running of.rom seen paused.view_free paused.view_links paused.view_areas e2 fits2 of.memory none first
          in
          let step_at : (step m e).mem ≡ mem2 = ap (λ (x : Machine). x.mem) (step_does m e shape 4 k.running none here (ap (λ (x : Machine). x.end) p.is ∙ k.running)) ∙ ap (λ (x : Machine). x.mem) p.is in
          let beyond = after_below n u (wd.are).some own in
          record {
            owner = u;
            words = a.words;
            chains = a.chains;
            kept = all_after wd m k mem pcxi fcx seen of paused e e2 fits2 (λ x. IsInOneRange x 1 plan.rom) (λ x in_rom. in_rom) a next.run fits
                (λ w lt apart. ap (λ y. block_word tasks y w) step_at ∙ blocks w lt apart)
                (switches a.view a.view_pcxi a.view_fcx a.seen j some most (view_after wd m k mem pcxi fcx seen of paused e e2 fits2 (λ x. IsInOneRange x 1 plan.rom) (λ x in_rom. in_rom) a next.run)
                (paused_after wd m k mem pcxi fcx seen of paused e e2 fits2 (λ x. IsInOneRange x 1 plan.rom) (λ x in_rom. in_rom) a next.run)
                (record {
                  pc = r.pc;
                  off = r.off;
                  high = r.high;
                  block = r.block;
                  own = r.own;
                  own_word = r.own_word;
                  pcxi = r.pcxi;
                  stored = r.stored;
                  one_on = r.one_on;
                  at_end = r.at_end;
                  next = r.next;
                  old_current = r.old_current;
                  new_current = r.new_current;
                  next_word = r.next_word;
                  next_pcxi = λ is. r.next_pcxi is ∙ sym (a.others (after n u) beyond.0 beyond.1).0;
                }));
          }

    -- ---- each of them
    module _ (i : ℕ) (r : InRoutine tasks m u i word_of) where
      at_here : (shape : Shape) → IsCode image plan (tasks.switch + 4 * i) shape 4 → IsCode image plan m.pc shape 4
      at_here shape c = subst (λ x. IsCode image plan x shape 4) (sym r.pc) c

      view_here : (shape : Shape) → IsCode (view_image_of image tasks u) plan (tasks.switch + 4 * i) shape 4 → IsCode (view_image_of image tasks u) plan m.pc shape 4
      view_here shape c = subst (λ x. IsCode (view_image_of image tasks u) plan x shape 4) (sym r.pc) c

      fetched_here : (shape : Shape) → IsCode image plan (tasks.switch + 4 * i) shape 4 → fetched_instruction m ≡ Ok (shape, 4)
      fetched_here shape c = fetched_code image plan m shape 4 wd.ok k.rom (at_here shape c)

      -- an instruction that both have, and that doesn't change memory
      same_turn : (j : ℕ) → 1 ≤ j → j ≤ 14 → (shape : Shape) → IsCode image plan (tasks.switch + 4 * i) shape 4 → IsCode (view_image_of image tasks u) plan (tasks.switch + 4 * i) shape 4
          → MayAnswerLoad (view_plan_of plan tasks u) e.input (load_of_fetched (seen_as m mem pcxi fcx) (Ok (shape, 4))) → ((q : ℕ) → edge_way_by_trap (seen_as m mem pcxi fcx) e shape q ≡ to q)
          → Plainly m (seen_as m mem pcxi fcx) (after_instruction m e shape 4) (after_instruction (seen_as m mem pcxi fcx) e shape 4) m.mem mem → InRoutine tasks (step m e) u j word_of → Goes image plan tasks needs (step m e)
      same_turn j some most shape c c2 answers way p next =
          turns r.off shape shape e.input fits.input (at_here shape c) (view_here shape c2) j some most answers way m.mem p (λ x at. refl) (λ x. refl) (λ x at. refl) (λ w lt apart. refl) next

      -- an instruction that stores to the block; the view does nothing
      put_turn : (j : ℕ) → 1 ≤ j → j ≤ 14 → (src base offset at : ℕ) → IsCode image plan (tasks.switch + 4 * i) (Store src (Reg base) offset 4 false) 4 → IsCode (view_image_of image tasks u) plan (tasks.switch + 4 * i) Nothing 4
          → wrapping_sum (reg m base) offset ≡ tasks.block + 4 * at → at ≤ count tasks → ((w : ℕ) → w < count tasks → w ≢ u → w ≢ at) → is_trapping_access e (wrapping_sum (reg m base) offset) 4 ≡ false → InRoutine tasks (step m e) u j word_of → Goes image plan tasks needs (step m e)
      put_turn j some most src base offset at c c2 place le others no_trap_here next =
          let s = block_stored m.mem block_here (wrapping_sum (reg m base) offset) at (reg m src) place le in
          turns r.off (Store src (Reg base) offset 4 false) Nothing e.input fits.input (at_here (Store src (Reg base) offset 4 false) c) (view_here Nothing c2) j some most tt (λ q. refl) (with_bytes m.mem (wrapping_sum (reg m base) offset) (reg m src) 4)
          (plain-put m mem pcxi fcx e e src base offset 4 no_trap_here) s.areas s.mapped s.rom (λ w lt apart. s.blocks w (others w lt apart)) next

      -- an instruction that reads what is an input in the view
      get_turn : (j : ℕ) → 1 ≤ j → j ≤ 14 → (dst base offset : ℕ) → IsCode image plan (tasks.switch + 4 * i) (Load dst (Reg base) offset 4 false false) 4 → IsCode (view_image_of image tasks u) plan (tasks.switch + 4 * i) (Mfcr dst 0) 4
          → is_trapping_access e (wrapping_sum (reg m base) offset) 4 ≡ false → InRoutine tasks (step m e) u j word_of → Goes image plan tasks needs (step m e)
      get_turn j some most dst base offset c c2 no_trap_here next =
          let x = wrapping_sum (reg m base) offset in
          let w = loaded_number m.mem e.input x 4 in
          turns r.off (Load dst (Reg base) offset 4 false false) (Mfcr dst 0) w (load_lt m.mem (k.words).bytes false e.input x 4 (inr (inr refl))) (at_here (Load dst (Reg base) offset 4 false false) c) (view_here (Mfcr dst 0) c2) j some most tt (λ q. refl) m.mem
          (plain-taken m mem pcxi fcx e (record e { input = w }) dst base offset 0 4 no_trap_here refl) (λ x at. refl) (λ x. refl) (λ x at. refl) (λ w lt apart. refl) next

    -- ---- what each needs
    abbrev dl : length m.d ≡ 16
    dl = ((k.words).d).count

    abbrev al : length m.a ≡ 16
    al = ((k.words).a).count

    turn_2 : InRoutine tasks m u 2 word_of → Goes image plan tasks needs (step m e)
    turn_2 r =
        let shape = Compute Second 18 (Word 0) (Word (adjusted_upper_half tasks.block * 2 ^ 16 % 2 ^ 32)) in
        let c = code_2 image plan tasks wd.are wd.has in
        same_turn 2 r 3 (omega arith) (omega arith) shape c (view_code_2 image plan tasks wd.are wd.has u) tt (λ q. refl) (plain-compute m mem pcxi fcx e e Second 18 (Word 0) (Word (adjusted_upper_half tasks.block * 2 ^ 16 % 2 ^ 32)) 4)
        (next_2 tasks wd.are block_fits routine_fits m e u word_of k.running dl al block_here own (k.words).pcxi r (fetched_here 2 r shape c))

    turn_3 : InRoutine tasks m u 3 word_of → Goes image plan tasks needs (step m e)
    turn_3 r =
        let shape = Compute Add 18 (Reg 18) (Word (sign_extended 16 (lower_half tasks.block % 2 ^ 16))) in
        let c = code_3 image plan tasks wd.are wd.has in
        same_turn 3 r 4 (omega arith) (omega arith) shape c (view_code_3 image plan tasks wd.are wd.has u) tt (λ q. refl) (plain-compute m mem pcxi fcx e e Add 18 (Reg 18) (Word (sign_extended 16 (lower_half tasks.block % 2 ^ 16))) 4)
        (next_3 tasks wd.are block_fits routine_fits m e u word_of k.running dl al block_here own (k.words).pcxi r (fetched_here 3 r shape c))

    no_trap_at : (x j : ℕ) → x ≡ tasks.block + 4 * j → is_trapping_access e x 4 ≡ false
    no_trap_at x j is = no_trap tasks wd.are block_fits routine_fits m e u word_of k.running dl al block_here own (k.words).pcxi x (ap (λ y. y % 4) is ∙ four_place tasks wd.are block_fits routine_fits m e u word_of k.running dl al block_here own (k.words).pcxi j)

    turn_4 : InRoutine tasks m u 4 word_of → Goes image plan tasks needs (step m e)
    turn_4 r =
        let offset = sign_extended 16 (4 * n % 2 ^ 16) in
        let shape = Load 0 (Reg 18) offset 4 false false in
        let c = code_4 image plan tasks wd.are wd.has in
        let place = block_place tasks wd.are block_fits routine_fits m e u word_of k.running dl al block_here own (k.words).pcxi (reg m 18) (r.block (omega arith)) in
        get_turn 4 r 5 (omega arith) (omega arith) 0 18 offset c (view_code_4 image plan tasks wd.are wd.has u) (no_trap_at (wrapping_sum (reg m 18) offset) n place)
        (next_4 tasks wd.are block_fits routine_fits m e u word_of k.running dl al block_here own (k.words).pcxi r (fetched_here 4 r shape c))

    turn_5 : InRoutine tasks m u 5 word_of → Goes image plan tasks needs (step m e)
    turn_5 r =
        let c = code_5 image plan tasks wd.are wd.has in
        same_turn 5 r 6 (omega arith) (omega arith) (Scaled 19 18 0 2) c (view_code_5 image plan tasks wd.are wd.has u) tt (λ q. refl) (plain-scaled m mem pcxi fcx e e 19 18 0 2 4)
        (next_5 tasks wd.are block_fits routine_fits m e u word_of k.running dl al block_here own (k.words).pcxi r (fetched_here 5 r (Scaled 19 18 0 2) c))

    turn_6 : InRoutine tasks m u 6 word_of → Goes image plan tasks needs (step m e)
    turn_6 r =
        let c = code_6 image plan tasks wd.are wd.has in
        turns r.off (Mfcr 1 0xfe00) (Mfcr 1 0) m.pcxi (k.words).pcxi (at_here 6 r (Mfcr 1 0xfe00) c) (view_here 6 r (Mfcr 1 0) (view_code_6 image plan tasks wd.are wd.has u)) 7 (omega arith) (omega arith) tt (λ q. refl) m.mem
        (plain-pcxi m mem pcxi fcx e (record e { input = m.pcxi }) 1 0 4 refl) (λ x at. refl) (λ x. refl) (λ x at. refl) (λ w lt apart. refl)
        (next_6 tasks wd.are block_fits routine_fits m e u word_of k.running dl al block_here own (k.words).pcxi r (fetched_here 6 r (Mfcr 1 0xfe00) c))

    turn_7 : InRoutine tasks m u 7 word_of → Goes image plan tasks needs (step m e)
    turn_7 r =
        let c = code_7 image plan tasks wd.are wd.has in
        let place = zero_place tasks wd.are block_fits routine_fits m e u word_of k.running dl al block_here own (k.words).pcxi (reg m 19) u (r.own_word (omega arith) (omega arith)) (omega arith) in
        put_turn 7 r 8 (omega arith) (omega arith) 1 19 0 u c (view_code_7 image plan tasks wd.are wd.has u) place (omega arith) (λ w lt apart. apart) (no_trap_at (wrapping_sum (reg m 19) 0) u place)
        (next_7 tasks wd.are block_fits routine_fits m e u word_of k.running dl al block_here own (k.words).pcxi r (fetched_here 7 r (Store 1 (Reg 19) 0 4 false) c))

    turn_8 : InRoutine tasks m u 8 word_of → Goes image plan tasks needs (step m e)
    turn_8 r =
        let c = code_8 image plan tasks wd.are wd.has in
        same_turn 8 r 9 (omega arith) (omega arith) (Compute Add 0 (Reg 0) (Word 1)) c (view_code_8 image plan tasks wd.are wd.has u) tt (λ q. refl) (plain-compute m mem pcxi fcx e e Add 0 (Reg 0) (Word 1) 4)
        (next_8 tasks wd.are block_fits routine_fits m e u word_of k.running dl al block_here own (k.words).pcxi r (fetched_here 8 r (Compute Add 0 (Reg 0) (Word 1)) c))

    turn_9 : InRoutine tasks m u 9 word_of → Goes image plan tasks needs (step m e)
    turn_9 r =
        let shape = Branch cond.Ne 0 (Word (sign_extended 4 (n % 2 ^ 4))) 8 false in
        let c = code_9 image plan tasks wd.are wd.has in
        let p = plain-branch m mem pcxi fcx e e cond.Ne 0 (Word (sign_extended 4 (n % 2 ^ 4))) 8 false 4 in
        elim (cases_eq (suc u) n) [
          | inl last ↦
              same_turn 9 r 10 (omega arith) (omega arith) shape c (view_code_9 image plan tasks wd.are wd.has u) tt (λ q. refl) p
              (next_9_last tasks wd.are block_fits routine_fits m e u word_of k.running dl al block_here own (k.words).pcxi last r (fetched_here 9 r shape c))
          | inr more ↦
              same_turn 9 r 11 (omega arith) (omega arith) shape c (view_code_9 image plan tasks wd.are wd.has u) tt (λ q. refl) p
              (next_9_more tasks wd.are block_fits routine_fits m e u word_of k.running dl al block_here own (k.words).pcxi more r (fetched_here 9 r shape c))
        ]

    turn_10 : InRoutine tasks m u 10 word_of → Goes image plan tasks needs (step m e)
    turn_10 r =
        let c = code_10 image plan tasks wd.are wd.has in
        same_turn 10 r 11 (omega arith) (omega arith) (Compute Second 0 (Word 0) (Word 0)) c (view_code_10 image plan tasks wd.are wd.has u) tt (λ q. refl) (plain-compute m mem pcxi fcx e e Second 0 (Word 0) (Word 0) 4)
        (next_10 tasks wd.are block_fits routine_fits m e u word_of k.running dl al block_here own (k.words).pcxi r (fetched_here 10 r (Compute Second 0 (Word 0) (Word 0)) c))

    turn_11 : InRoutine tasks m u 11 word_of → Goes image plan tasks needs (step m e)
    turn_11 r =
        let offset = sign_extended 16 (4 * n % 2 ^ 16) in
        let c = code_11 image plan tasks wd.are wd.has in
        let place = block_place tasks wd.are block_fits routine_fits m e u word_of k.running dl al block_here own (k.words).pcxi (reg m 18) (r.block (omega arith)) in
        put_turn 11 r 12 (omega arith) (omega arith) 0 18 offset n c (view_code_11 image plan tasks wd.are wd.has u) place (omega arith) (λ w lt apart is. omega arith) (no_trap_at (wrapping_sum (reg m 18) offset) n place)
        (next_11 tasks wd.are block_fits routine_fits m e u word_of k.running dl al block_here own (k.words).pcxi r (fetched_here 11 r (Store 0 (Reg 18) offset 4 false) c))

    turn_12 : InRoutine tasks m u 12 word_of → Goes image plan tasks needs (step m e)
    turn_12 r =
        let c = code_12 image plan tasks wd.are wd.has in
        same_turn 12 r 13 (omega arith) (omega arith) (Scaled 19 18 0 2) c (view_code_12 image plan tasks wd.are wd.has u) tt (λ q. refl) (plain-scaled m mem pcxi fcx e e 19 18 0 2 4)
        (next_12 tasks wd.are block_fits routine_fits m e u word_of k.running dl al block_here own (k.words).pcxi r (fetched_here 12 r (Scaled 19 18 0 2) c))

    turn_13 : InRoutine tasks m u 13 word_of → Goes image plan tasks needs (step m e)
    turn_13 r =
        let c = code_13 image plan tasks wd.are wd.has in
        let beyond = after_below n u (wd.are).some own in
        let place = zero_place tasks wd.are block_fits routine_fits m e u word_of k.running dl al block_here own (k.words).pcxi (reg m 19) (after n u) (r.next_word refl) (let lt = beyond.0 in omega arith) in
        let waits = k.waits (after n u) beyond.0 beyond.1 in
        get_turn 13 r 14 (omega arith) (omega arith) 1 19 0 c (view_code_13 image plan tasks wd.are wd.has u) (no_trap_at (wrapping_sum (reg m 19) 0) (after n u) place)
        (next_13 tasks wd.are block_fits routine_fits m e u word_of k.running dl al block_here own (k.words).pcxi waits.0 r (fetched_here 13 r (Load 1 (Reg 19) 0 4 false false) c))

    -- all of them
    pub goes_turning : (i : ℕ) → 2 ≤ i → i ≤ 13 → InRoutine tasks m u i word_of → Goes image plan tasks needs (step m e)
    goes_turning zero some most r = absurd (omega arith)
    goes_turning (suc zero) some most r = absurd (omega arith)
    goes_turning (suc (suc zero)) some most r = turn_2 r
    goes_turning (suc (suc (suc zero))) some most r = turn_3 r
    goes_turning (suc (suc (suc (suc zero)))) some most r = turn_4 r
    goes_turning (suc (suc (suc (suc (suc zero))))) some most r = turn_5 r
    goes_turning (suc (suc (suc (suc (suc (suc zero)))))) some most r = turn_6 r
    goes_turning (suc (suc (suc (suc (suc (suc (suc zero))))))) some most r = turn_7 r
    goes_turning (suc (suc (suc (suc (suc (suc (suc (suc zero)))))))) some most r = turn_8 r
    goes_turning (suc (suc (suc (suc (suc (suc (suc (suc (suc zero))))))))) some most r = turn_9 r
    goes_turning (suc (suc (suc (suc (suc (suc (suc (suc (suc (suc zero)))))))))) some most r = turn_10 r
    goes_turning (suc (suc (suc (suc (suc (suc (suc (suc (suc (suc (suc zero))))))))))) some most r = turn_11 r
    goes_turning (suc (suc (suc (suc (suc (suc (suc (suc (suc (suc (suc (suc zero)))))))))))) some most r = turn_12 r
    goes_turning (suc (suc (suc (suc (suc (suc (suc (suc (suc (suc (suc (suc (suc zero))))))))))))) some most r = turn_13 r
    goes_turning (suc (suc (suc (suc (suc (suc (suc (suc (suc (suc (suc (suc (suc (suc i)))))))))))))) some most r = absurd (omega arith)

    -- ---- stores: two instructions store in the block
    not_out : (i : ℕ) → i < 18 → m.pc ≡ tasks.switch + 4 * i → IsInRoutine tasks m.pc
    not_out i lt pc = (omega arith, omega arith)

    block_store : (i : ℕ) → i < 18 → m.pc ≡ tasks.switch + 4 * i → m.ie ≡ false → (src base offset j : ℕ) → IsCode image plan (tasks.switch + 4 * i) (Store src (Reg base) offset 4 false) 4 → wrapping_sum (reg m base) offset ≡ tasks.block + 4 * j → j ≤ count tasks
        → IfSome (stored m e) (IsAllowedTaskStore plan tasks m.pc)
    block_store i lt pc off src base offset j c place le =
        let shape = Store src (Reg base) offset 4 false in
        let at : fetched_instruction m ≡ Ok (Store src (Reg base) offset 4 false, 4) = fetched_code image plan m shape 4 wd.ok k.rom (subst (λ x. IsCode image plan x shape 4) (sym pc) c) in
        let free : is_trapping_access e (wrapping_sum (reg m base) offset) 4 ≡ false = no_trap_at (wrapping_sum (reg m base) offset) j place in
        let range : IsStoreInRange plan (wrapping_sum (reg m base) offset, 4) = subst (λ y. IsStoreInRange plan (y, 4)) (sym place) (block_range j le) in
        let inside = not_out i lt pc in
        subst (λ o. IfSome o (IsAllowedTaskStore plan tasks m.pc)) (sym (stored-is m e (Ok (shape, 4)) k.running (none_when_off m e off) at))
        (subst (λ t. IfSome (cond t None (Some (wrapping_sum (reg m base) offset, 4))) (IsAllowedTaskStore plan tasks m.pc)) (sym free) (range, λ out. absurd (out inside)))

    pub turning_store : (i : ℕ) → 1 ≤ i → i ≤ 14 → InRoutine tasks m u i word_of → IfSome (stored m e) (IsAllowedTaskStore plan tasks m.pc)
    turning_store zero some most r = absurd (omega arith)
    turning_store (suc zero) some most r = no_store m k e 1 r.pc r.off _ (code_1 image plan tasks wd.are wd.has) refl
    turning_store (suc (suc zero)) some most r = no_store m k e 2 r.pc r.off _ (code_2 image plan tasks wd.are wd.has) refl
    turning_store (suc (suc (suc zero))) some most r = no_store m k e 3 r.pc r.off _ (code_3 image plan tasks wd.are wd.has) refl
    turning_store (suc (suc (suc (suc zero)))) some most r = no_store m k e 4 r.pc r.off _ (code_4 image plan tasks wd.are wd.has) refl
    turning_store (suc (suc (suc (suc (suc zero))))) some most r = no_store m k e 5 r.pc r.off _ (code_5 image plan tasks wd.are wd.has) refl
    turning_store (suc (suc (suc (suc (suc (suc zero)))))) some most r = no_store m k e 6 r.pc r.off _ (code_6 image plan tasks wd.are wd.has) refl
    turning_store (suc (suc (suc (suc (suc (suc (suc zero))))))) some most r =
        block_store 7 (omega arith) r.pc r.off 1 19 0 u (code_7 image plan tasks wd.are wd.has)
        (zero_place tasks wd.are block_fits routine_fits m e u word_of k.running dl al block_here own (k.words).pcxi (reg m 19) u (r.own_word (omega arith) (omega arith)) (omega arith)) (omega arith)
    turning_store (suc (suc (suc (suc (suc (suc (suc (suc zero)))))))) some most r = no_store m k e 8 r.pc r.off _ (code_8 image plan tasks wd.are wd.has) refl
    turning_store (suc (suc (suc (suc (suc (suc (suc (suc (suc zero))))))))) some most r = no_store m k e 9 r.pc r.off _ (code_9 image plan tasks wd.are wd.has) refl
    turning_store (suc (suc (suc (suc (suc (suc (suc (suc (suc (suc zero)))))))))) some most r = no_store m k e 10 r.pc r.off _ (code_10 image plan tasks wd.are wd.has) refl
    turning_store (suc (suc (suc (suc (suc (suc (suc (suc (suc (suc (suc zero))))))))))) some most r =
        block_store 11 (omega arith) r.pc r.off 0 18 (sign_extended 16 (4 * n % 2 ^ 16)) n (code_11 image plan tasks wd.are wd.has)
        (block_place tasks wd.are block_fits routine_fits m e u word_of k.running dl al block_here own (k.words).pcxi (reg m 18) (r.block (omega arith))) (omega arith)
    turning_store (suc (suc (suc (suc (suc (suc (suc (suc (suc (suc (suc (suc zero)))))))))))) some most r = no_store m k e 12 r.pc r.off _ (code_12 image plan tasks wd.are wd.has) refl
    turning_store (suc (suc (suc (suc (suc (suc (suc (suc (suc (suc (suc (suc (suc zero))))))))))))) some most r = no_store m k e 13 r.pc r.off _ (code_13 image plan tasks wd.are wd.has) refl
    turning_store (suc (suc (suc (suc (suc (suc (suc (suc (suc (suc (suc (suc (suc (suc zero)))))))))))))) some most r = no_store m k e 14 r.pc r.off _ (code_14 image plan tasks wd.are wd.has) refl
    turning_store (suc (suc (suc (suc (suc (suc (suc (suc (suc (suc (suc (suc (suc (suc (suc i))))))))))))))) some most r = absurd (omega arith)
