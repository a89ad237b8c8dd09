-- A step of the machine, compared with the same step of its view: instructions that change no
-- context.
use Rattle.std.proofs.Common.{◌≡◌, ℕ, ◌+◌, ◌-◌, ◌*◌, ◌^◌, ◌<◌, ◌≤◌, Bool, true, false, cond, List, [], ◌∷◌, set, Ok, refl, sym, ap, ◌∙◌, subst, arith, ltb}
use Rattle.std.specs.FinMap as map
use Rattle.csa_chain.specs.MemoryBytes.{Memory, is_mapped, loaded_number, load_result, with_bytes}
use Rattle.csa_chain.specs.Chain.{link_address}
use Rattle.csa_chain.proofs.ChainLaws.{SameAreas, Links-same}
use Rattle.tcd_plan.specs.PlanData.{PlanData, IsPlan}
use Rattle.tc_isa.specs.declared.shapes.Arg.{Arg}
use Rattle.tc_isa.specs.declared.shapes.Arg.TheVariants.{Reg, Word}
use Rattle.tc_isa.specs.declared.shapes.Cond.{Cond}
use Rattle.tc_isa.specs.declared.shapes.Op.{Op}
use Rattle.tc_isa.specs.declared.shapes.Target.{Target}
use Rattle.tc_isa.specs.declared.shapes.Target.TheVariants as target
use Rattle.tc_isa.specs.declared.shapes.Shape.{Shape}
use Rattle.tc_isa.specs.declared.shapes.Shape.TheVariants.{Compute, Scaled, Load, Store, Branch, Jump, Enable, Disable, Mfcr, Nothing}
use Rattle.tc_isa.specs.Arithmetic.{alu_of, taken_of}
use Rattle.tc_machine.specs.declared.events.Event.{Event}
use Rattle.tc_machine.specs.declared.events.End.TheVariants.{Running}
use Rattle.tc_machine.specs.declared.state.Machine.{Machine}
use Rattle.tc_machine.specs.Machine.{reg, with_reg, core_register}
use Rattle.tc_machine.specs.Instructions.{wrapping_sum, operand_value, with_pc_advanced, access_address, with_base_incremented, is_trapping_access, misaligned_access_trap, target_address, after_instruction}
use Rattle.tc_machine.specs.Fetching.{fetched_instruction}
use Rattle.tc_machine.specs.Stepping.{is_interrupt_taken, step}
use Rattle.tcd_plan.specs.MappedAddresses.{IsInAreas}
use Rattle.tc_machine.specs.PlanAreas.{first_link, plan_areas}
use Rattle.tc_machine.proofs.Steps.{with_event, step_does}
use Rattle.tc_machine.proofs.PlanLaws.{link_address-area}
use Rattle.cfg_recover.proofs.Went.{changed}
use Rattle.csa_chain.specs.SeveralChains.{occurrences_of}
use Rattle.csa_chain.proofs.SeveralLaws.{times-first, sum_below-at}
use Rattle.task_chains.proofs.Twins.{Twins, SameContexts-kept}
use Rattle.task_chains.proofs.Alike.{seen_as, Alike, area_at}

-- ---- two machines with the same registers
abbrev pub d_with : List ℕ → ℕ → ℕ → List ℕ
d_with d r w = cond (ltb r 16) (set d r w) d

abbrev pub a_with : List ℕ → ℕ → ℕ → List ℕ
a_with a r w = cond (ltb r 16) a (set a (r - 16) w)

with_reg-is : (m : Machine) (r w : ℕ) → with_reg m r w ≡ record m { d = d_with m.d r w; a = a_with m.a r w }
with_reg-is m r w = either m r w (ltb r 16)
  where
    either : (m : Machine) (r w : ℕ) (t : Bool) → cond t (record m { d = set m.d r w }) (record m { a = set m.a (r - 16) w }) ≡ record m { d = cond t (set m.d r w) m.d; a = cond t m.a (set m.a (r - 16) w) }
    either m r w true = refl
    either m r w false = refl

-- after an instruction both have the same registers, pc and IE, and these memories
pub record Plainly (m v n n2 : Machine) (mem view : Memory) : Type 0 where
  pub d : List ℕ
  pub a : List ℕ
  pub pc : ℕ
  pub ie : Bool
  pub is : n ≡ changed m d a pc ie mem
  pub view_is : n2 ≡ changed v d a pc ie view

module _ (m : Machine) (view : Memory) (pcxi fcx : ℕ) (e e2 : Event) where
  abbrev v : Machine
  v = seen_as m view pcxi fcx

  arg-same : (x : Arg) → operand_value v x ≡ operand_value m x
  arg-same (Reg r) = refl
  arg-same (Word w) = refl

  pub address-same : (base : Arg) (offset : ℕ) (after : Bool) → access_address v base offset after ≡ access_address m base offset after
  address-same base offset after = ap (λ x. cond after x (wrapping_sum x offset)) (arg-same base)

  -- registers of m with one set
  pub set_one : (k r w w2 : ℕ) → w2 ≡ w → Plainly m v (with_pc_advanced k (with_reg m r w)) (with_pc_advanced k (with_reg v r w2)) m.mem view
  set_one k r w w2 same = record {
    d = d_with m.d r w;
    a = a_with m.a r w;
    pc = wrapping_sum m.pc k;
    ie = m.ie;
    is = ap (with_pc_advanced k) (with_reg-is m r w);
    view_is = ap (with_pc_advanced k) (ap (with_reg v r) same ∙ with_reg-is v r w);
  }

  pub plain-compute : (op : Op) (dst : ℕ) (x y : Arg) (k : ℕ) → Plainly m v (after_instruction m e (Compute op dst x y) k) (after_instruction v e2 (Compute op dst x y) k) m.mem view
  unfolding after_instruction
  plain-compute op dst x y k = set_one k dst (alu_of op (operand_value m x) (operand_value m y)) (alu_of op (operand_value v x) (operand_value v y)) (λ i. alu_of op (arg-same x i) (arg-same y i))

  pub plain-scaled : (dst base index j k : ℕ) → Plainly m v (after_instruction m e (Scaled dst base index j) k) (after_instruction v e2 (Scaled dst base index j) k) m.mem view
  unfolding after_instruction
  plain-scaled dst base index j k = set_one k dst (wrapping_sum (reg m base) (reg m index * 2 ^ j)) _ refl

  pub plain-mfcr : (dst number k : ℕ) → core_register v e2 number ≡ core_register m e number → Plainly m v (after_instruction m e (Mfcr dst number) k) (after_instruction v e2 (Mfcr dst number) k) m.mem view
  unfolding after_instruction
  plain-mfcr dst number k same = set_one k dst (core_register m e number) (core_register v e2 number) same

  pub plain-enable : (k : ℕ) → Plainly m v (after_instruction m e Enable k) (after_instruction v e2 Enable k) m.mem view
  unfolding after_instruction
  plain-enable k = record { d = m.d; a = m.a; pc = wrapping_sum m.pc k; ie = true; is = refl; view_is = refl }

  pub plain-disable : (k : ℕ) → Plainly m v (after_instruction m e Disable k) (after_instruction v e2 Disable k) m.mem view
  unfolding after_instruction
  plain-disable k = record { d = m.d; a = m.a; pc = wrapping_sum m.pc k; ie = false; is = refl; view_is = refl }

  pub plain-nothing : (k : ℕ) → Plainly m v (after_instruction m e Nothing k) (after_instruction v e2 Nothing k) m.mem view
  unfolding after_instruction
  plain-nothing k = record { d = m.d; a = m.a; pc = wrapping_sum m.pc k; ie = m.ie; is = refl; view_is = refl }

  target_same : (to : Target) → target_address v to ≡ target_address m to
  target_same (target.Rel by) = refl
  target_same (target.Abs x) = refl
  target_same (target.Reg r) = refl

  pub plain-jump : (to : Target) (k : ℕ) → Plainly m v (after_instruction m e (Jump to) k) (after_instruction v e2 (Jump to) k) m.mem view
  unfolding after_instruction
  plain-jump to k = record { d = m.d; a = m.a; pc = target_address m to; ie = m.ie; is = refl; view_is = λ i. record v { pc = target_same to i } }

  pub plain-branch : (test : Cond) (x : ℕ) (y : Arg) (by : ℕ) (lowers : Bool) (k : ℕ) → Plainly m v (after_instruction m e (Branch test x y by lowers) k) (after_instruction v e2 (Branch test x y by lowers) k) m.mem view
  unfolding after_instruction
  plain-branch test x y by false k = record {
    d = m.d;
    a = m.a;
    pc = cond (taken_of test (reg m x) (operand_value m y)) (wrapping_sum m.pc by) (wrapping_sum m.pc k);
    ie = m.ie;
    is = refl;
    view_is = λ i. record v { pc = cond (taken_of test (reg m x) (arg-same y i)) (wrapping_sum m.pc by) (wrapping_sum m.pc k) };
  }
  plain-branch test x y by true k = record {
    d = d_with m.d x (wrapping_sum (reg m x) (2 ^ 32 - 1));
    a = a_with m.a x (wrapping_sum (reg m x) (2 ^ 32 - 1));
    pc = cond (taken_of test (reg m x) (operand_value m y)) (wrapping_sum m.pc by) (wrapping_sum m.pc k);
    ie = m.ie;
    is = ap (λ (b : Machine). record b { pc = cond (taken_of test (reg m x) (operand_value m y)) (wrapping_sum m.pc by) (wrapping_sum m.pc k) }) (with_reg-is m x (wrapping_sum (reg m x) (2 ^ 32 - 1)));
    view_is = (λ i. record (with_reg v x (wrapping_sum (reg v x) (2 ^ 32 - 1))) { pc = cond (taken_of test (reg m x) (arg-same y i)) (wrapping_sum m.pc by) (wrapping_sum m.pc k) })
        ∙ ap (λ (b : Machine). record b { pc = cond (taken_of test (reg m x) (operand_value m y)) (wrapping_sum m.pc by) (wrapping_sum m.pc k) }) (with_reg-is v x (wrapping_sum (reg m x) (2 ^ 32 - 1)));
  }

  -- ---- accesses
  -- a base that an access increases
  record Based (b b2 : Machine) : Type 0 where
    pub d : List ℕ
    pub a : List ℕ
    pub is : b ≡ record m { d = d; a = a }
    pub view_is : b2 ≡ record v { d = d; a = a }

  based : (base : Arg) (offset : ℕ) (after : Bool) → Based (with_base_incremented m base offset after) (with_base_incremented v base offset after)
  based (Word w) offset after = record { d = m.d; a = m.a; is = refl; view_is = refl }
  based (Reg r) offset false = record { d = m.d; a = m.a; is = refl; view_is = refl }
  based (Reg r) offset true = record { d = d_with m.d r (wrapping_sum (reg m r) offset); a = a_with m.a r (wrapping_sum (reg m r) offset); is = with_reg-is m r _; view_is = with_reg-is v r _ }

  pub plain-load : (dst : ℕ) (base : Arg) (offset size : ℕ) (signed after : Bool) (k : ℕ) → is_trapping_access e (access_address m base offset after) size ≡ false → e2.aln ≡ e.aln
      → loaded_number view e2.input (access_address m base offset after) size ≡ loaded_number m.mem e.input (access_address m base offset after) size
      → Plainly m v (after_instruction m e (Load dst base offset size signed after) k) (after_instruction v e2 (Load dst base offset size signed after) k) m.mem view
  unfolding after_instruction
  plain-load dst base offset size signed after k none same_aln same =
      let w = load_result signed size (loaded_number m.mem e.input (access_address m base offset after) size) in
      let b = based base offset after in
      let view_none : is_trapping_access e2 (access_address v base offset after) size ≡ false = (λ i. is_trapping_access (record e { aln = same_aln i }) (address-same base offset after i) size) ∙ none in
      let value : load_result signed size (loaded_number view e2.input (access_address v base offset after) size) ≡ w = ap (λ y. load_result signed size (loaded_number view e2.input y size)) (address-same base offset after) ∙ ap (load_result signed size) same in
      record {
        d = d_with b.d dst w;
        a = a_with b.a dst w;
        pc = wrapping_sum m.pc k;
        ie = m.ie;
        is = ap (λ t. cond t (misaligned_access_trap m) (with_pc_advanced k (with_reg (with_base_incremented m base offset after) dst w))) none ∙ ap (λ (y : Machine). with_pc_advanced k (with_reg y dst w)) b.is ∙ ap (with_pc_advanced k) (with_reg-is (record m { d = b.d; a = b.a }) dst w);
        view_is = ap (λ t. cond t (misaligned_access_trap v) (with_pc_advanced k (with_reg (with_base_incremented v base offset after) dst (load_result signed size (loaded_number view e2.input (access_address v base offset after) size))))) view_none
            ∙ ap (λ (y : ℕ). with_pc_advanced k (with_reg (with_base_incremented v base offset after) dst y)) value ∙ ap (λ (y : Machine). with_pc_advanced k (with_reg y dst w)) b.view_is ∙ ap (with_pc_advanced k) (with_reg-is (record v { d = b.d; a = b.a }) dst w);
      }

  pub plain-store : (src : ℕ) (base : Arg) (offset size : ℕ) (after : Bool) (k : ℕ) → is_trapping_access e (access_address m base offset after) size ≡ false → e2.aln ≡ e.aln
      → with_bytes view (access_address m base offset after) (reg m src) size ≡ view
      → Plainly m v (after_instruction m e (Store src base offset size after) k) (after_instruction v e2 (Store src base offset size after) k) (with_bytes m.mem (access_address m base offset after) (reg m src) size) view
  unfolding after_instruction
  plain-store src base offset size after k none same_aln same =
      let x = access_address m base offset after in
      let b = based base offset after in
      let view_none : is_trapping_access e2 (access_address v base offset after) size ≡ false = (λ i. is_trapping_access (record e { aln = same_aln i }) (address-same base offset after i) size) ∙ none in
      let stays : with_bytes view (access_address v base offset after) (reg v src) size ≡ view = ap (λ y. with_bytes view y (reg m src) size) (address-same base offset after) ∙ same in
      record {
        d = b.d;
        a = b.a;
        pc = wrapping_sum m.pc k;
        ie = m.ie;
        is = ap (λ t. cond t (misaligned_access_trap m) (with_pc_advanced k (record (with_base_incremented m base offset after) { mem = with_bytes m.mem x (reg m src) size }))) none
            ∙ ap (λ (y : Machine). with_pc_advanced k (record y { mem = with_bytes m.mem x (reg m src) size })) b.is;
        view_is = ap (λ t. cond t (misaligned_access_trap v) (with_pc_advanced k (record (with_base_incremented v base offset after) { mem = with_bytes view (access_address v base offset after) (reg v src) size }))) view_none
            ∙ ap (λ (y : Memory). with_pc_advanced k (record (with_base_incremented v base offset after) { mem = y })) stays ∙ ap (λ (y : Machine). with_pc_advanced k (record y { mem = view })) b.view_is;
      }

-- ---- what they share stays
-- links of the plan's areas keep their bytes if the areas' bytes are unchanged
pub SameAreas-inside : {plan : PlanData} → IsPlan plan → (old new : Memory) → ((x : ℕ) → IsInAreas plan x → map.get new x ≡ map.get old x) → (ls : List ℕ) → ((l : ℕ) → occurrences_of l ls ≤ occurrences_of l (plan_areas plan)) → SameAreas old new ls
SameAreas-inside ok old new same [] few = tt
SameAreas-inside {plan = plan} ok old new same (l ∷ ls) few =
    let first = times-first l ls in
    let most = few l in
    let at = area_at (first_link plan) plan.areas l (λ none. omega arith) in
    let place : link_address l ≡ plan.csa_at + 64 * at.0 = ap link_address at.2 ∙ link_address-area ok at.0 at.1 in
    let lt = at.1 in (
      record { bytes = λ i less. same (link_address l + i) (omega arith, omega arith) },
      SameAreas-inside ok old new same ls (λ k. let rest = few k in omega arith),
    )

module _ {plan : PlanData} (ok : IsPlan plan) (Kept : ℕ → Type 0) {n u : ℕ} {word_of : ℕ → ℕ} {chain_of : ℕ → List ℕ} {seen : List ℕ} (m : Machine) (view : Memory) (pcxi fcx : ℕ) (running : m.end ≡ Running)
    (t : Twins plan n u word_of chain_of seen m.mem m.pcxi m.fcx m.lcx view pcxi fcx) where
  -- each chain's links are areas
  pub chain_in_areas : (w : ℕ) → w < n → (l : ℕ) → occurrences_of l (chain_of w) ≤ occurrences_of l (plan_areas plan)
  chain_in_areas w lt l = omega (arith, (t.share).each l, sum_below-at n (λ u. occurrences_of l (chain_of u)) w lt)

  free_in_areas : (l : ℕ) → occurrences_of l t.free ≤ occurrences_of l (plan_areas plan)
  free_in_areas l = let all = (t.share).each l in omega arith

  SameAreas-refl : (mem : Memory) (ls : List ℕ) → SameAreas mem mem ls
  SameAreas-refl mem [] = tt
  SameAreas-refl mem (l ∷ ls) = (record { bytes = λ i lt. refl }, SameAreas-refl mem ls)

  -- a memory with the same bytes in the areas
  module _ (mem : Memory) (same : (x : ℕ) → IsInAreas plan x → map.get mem x ≡ map.get m.mem x) (same_mapped : (x : ℕ) → is_mapped mem x ≡ is_mapped m.mem x) where
    chain_same : (w : ℕ) → w < n → SameAreas m.mem mem (chain_of w)
    chain_same w lt = SameAreas-inside ok m.mem mem same (chain_of w) (chain_in_areas w lt)

    pub Twins-kept : Twins plan n u word_of chain_of seen mem m.pcxi m.fcx m.lcx view pcxi fcx
    Twins-kept = record {
      own = t.own;
      first = t.first;
      links = λ w lt. Links-same m.mem mem (word_of w) (chain_of w) (chain_same w lt) (t.links w lt);
      free = t.free;
      free_links = Links-same m.mem mem m.fcx t.free (SameAreas-inside ok m.mem mem same t.free free_in_areas) t.free_links;
      share = t.share;
      front = t.front;
      reserved = t.reserved;
      lcx_is = t.lcx_is;
      pcxi_word = t.pcxi_word;
      fcx_word = t.fcx_word;
      same = SameContexts-kept m.mem mem view view m.pcxi pcxi (chain_of u) seen (chain_same u t.own) (SameAreas-refl view seen) t.same;
      view_word = t.view_word;
      view_links = t.view_links;
      view_free = t.view_free;
      view_areas = t.view_areas;
    }

    pub Alike-plain : (e e2 : Event) (shape shape2 : Shape) (size : ℕ) → Plainly m (seen_as m view pcxi fcx) (after_instruction m e shape size) (after_instruction (seen_as m view pcxi fcx) e2 shape2 size) mem view → ((x : ℕ) → Kept x → map.get mem x ≡ map.get m.mem x)
        → is_interrupt_taken m e ≡ false → e2.irq ≡ e.irq → e2.status ≡ e.status → fetched_instruction m ≡ Ok (shape, size) → fetched_instruction (seen_as m view pcxi fcx) ≡ Ok (shape2, size)
        → Alike plan n u word_of chain_of Kept view m (step m e) (step (seen_as m view pcxi fcx) e2)
    Alike-plain e e2 shape shape2 size p keeps none same_irq same_status at view_at =
        let v = seen_as m view pcxi fcx in
        let view_none : is_interrupt_taken v e2 ≡ false = ap (λ q. is_interrupt_taken m (record e { irq = q })) same_irq ∙ none in
        let n1 = changed m p.d p.a p.pc p.ie mem in
        let m_is : step m e ≡ with_event n1 e = step_does m e shape size running none at (ap (λ (x : Machine). x.end) p.is ∙ running) ∙ ap (λ (x : Machine). with_event x e) p.is in
        let v_is : step v e2 ≡ seen_as (with_event n1 e) view pcxi fcx =
        step_does v e2 shape2 size running view_none view_at (ap (λ (x : Machine). x.end) p.view_is ∙ running) ∙ ap (λ (x : Machine). with_event x e2) p.view_is
        ∙ ap (λ s. seen_as (with_event n1 (record e { status = s })) view pcxi fcx) same_status
        in
        subst (λ (x : Machine). Alike plan n u word_of chain_of Kept view m x (step v e2)) (sym m_is)
        (subst (λ (y : Machine). Alike plan n u word_of chain_of Kept view m (with_event n1 e) y) (sym v_is)
        (record {
          words = word_of;
          chains = chain_of;
          seen = seen;
          view = view;
          view_pcxi = pcxi;
          view_fcx = fcx;
          is = refl;
          twins = Twins-kept;
          others = λ w lt apart. (refl, refl, chain_same w lt);
          outside = keeps;
          view_outside = λ x k. refl;
          mapped = λ x. (same_mapped x, refl);
        }))
