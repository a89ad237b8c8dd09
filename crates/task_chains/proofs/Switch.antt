-- The switch: the chain of PCXI becomes the next task's, and its contexts are restored, so that the
-- machine and that task's view are alike again.
use Rattle.std.proofs.Common.{◌≡◌, ℕ, zero, suc, ◌+◌, ◌-◌, ◌*◌, ◌/◌, ◌^◌, ◌<◌, Bool, true, false, not, List, [], ◌∷◌, ◌++◌, get_or, Ok, refl, sym, ap, ◌∙◌, arith}
use Rattle.csa_chain.specs.MemoryBytes.{Memory}
use Rattle.csa_chain.specs.Chain.{link_in, is_area_mapped, area_word}
use Rattle.csa_chain.specs.ContextWords.{ul_of}
use Rattle.csa_chain.proofs.ChainLaws.{Links}
use Rattle.tcd_plan.specs.PlanData.{PlanData, IsPlan}
use Rattle.tc_isa.specs.declared.shapes.Shape.TheVariants.{Mtcr, Ret}
use Rattle.tc_machine.specs.declared.events.Event.{Event}
use Rattle.tc_machine.specs.declared.events.End.TheVariants.{Running}
use Rattle.tc_machine.specs.declared.state.Machine.{Machine}
use Rattle.tc_machine.specs.Machine.{reg, a11, if_running, IsMachine}
use Rattle.tc_machine.specs.Instructions.{with_pc_advanced, after_instruction}
use Rattle.tc_machine.specs.SavesAndRestores.{is_last_context_of_kind, last_context, with_area_released, with_context_restored, restore}
use Rattle.tc_machine.specs.Fetching.{fetched_instruction}
use Rattle.tc_machine.specs.Stepping.{is_interrupt_taken, step}
use Rattle.tc_machine.proofs.Saves.{restore-is, then_-running}
use Rattle.tc_machine.proofs.Steps.{with_event, step_does, does-ret}
use Rattle.tc_machine.proofs.Areas.{Areas}
use Rattle.tc_machine.specs.PlanAreas.{first_link, plan_areas}
use Rattle.csa_chain.specs.SeveralChains.{ChainsPartitionAreas}
use Rattle.csa_chain.proofs.SeveralLaws.{AllLinks}
use Rattle.task_chains.proofs.Twins.{SameContexts, SameBehindFirst, reserve_of, Twins, same_before, links_before, named}
use Rattle.task_chains.proofs.Alike.{seen_as}
use Rattle.task_chains.proofs.Backs.{same_ul, same_area_words, restored_end}

-- ---- the word of the next task becomes PCXI
-- A task that waits: the view's contexts are those of its chain.
pub record Paused (plan : PlanData) (mem : Memory) (word : ℕ) (links seen : List ℕ) (lcx : ℕ) (view : Memory) (view_pcxi view_fcx : ℕ) : Type 0 where
  pub same : SameContexts mem word links view view_pcxi seen
  pub view_word : view_pcxi < 2 ^ 32
  pub view_links : Links view view_pcxi seen
  pub view_free : List ℕ
  pub view_areas : Areas plan view view_fcx lcx seen view_free

-- What n tasks share, the one that owns PCXI among them.
pub record Shared (plan : PlanData) (n u : ℕ) (word_of : ℕ → ℕ) (chain_of : ℕ → List ℕ) (mem : Memory) (pcxi fcx lcx : ℕ) : Type 0 where
  pub own : u < n
  pub first : word_of u ≡ pcxi
  pub links : AllLinks n mem word_of chain_of
  pub free : List ℕ
  pub free_links : Links mem fcx free
  pub share : ChainsPartitionAreas n chain_of free (plan_areas plan)
  pub front : List ℕ
  pub reserved : free ≡ front ++ reserve_of plan
  pub lcx_is : link_in lcx ≡ first_link plan + (plan.areas - plan.reserve)
  pub pcxi_word : pcxi < 2 ^ 32
  pub fcx_word : fcx < 2 ^ 32

pub Twins-from : {plan : PlanData} {n u : ℕ} {word_of : ℕ → ℕ} {chain_of : ℕ → List ℕ} {seen : List ℕ} {mem : Memory} {pcxi fcx lcx : ℕ} {view : Memory} {view_pcxi view_fcx : ℕ}
    → Shared plan n u word_of chain_of mem pcxi fcx lcx → Paused plan mem pcxi (chain_of u) seen lcx view view_pcxi view_fcx → Twins plan n u word_of chain_of seen mem pcxi fcx lcx view view_pcxi view_fcx
Twins-from s p = record {
  own = s.own;
  first = s.first;
  links = s.links;
  free = s.free;
  free_links = s.free_links;
  share = s.share;
  front = s.front;
  reserved = s.reserved;
  lcx_is = s.lcx_is;
  pcxi_word = s.pcxi_word;
  fcx_word = s.fcx_word;
  same = p.same;
  view_word = p.view_word;
  view_links = p.view_links;
  view_free = p.view_free;
  view_areas = p.view_areas;
}

pub Shared-from : {plan : PlanData} {n u : ℕ} {word_of : ℕ → ℕ} {chain_of : ℕ → List ℕ} {seen : List ℕ} {mem : Memory} {pcxi fcx lcx : ℕ} {view : Memory} {view_pcxi view_fcx : ℕ}
    → Twins plan n u word_of chain_of seen mem pcxi fcx lcx view view_pcxi view_fcx → Shared plan n u word_of chain_of mem pcxi fcx lcx
Shared-from t = record {
  own = t.own;
  first = t.first;
  links = t.links;
  free = t.free;
  free_links = t.free_links;
  share = t.share;
  front = t.front;
  reserved = t.reserved;
  lcx_is = t.lcx_is;
  pcxi_word = t.pcxi_word;
  fcx_word = t.fcx_word;
}

pub does-mtcr_pcxi : (m : Machine) (e : Event) (src k : ℕ) → after_instruction m e (Mtcr src 0xfe00) k ≡ record (with_pc_advanced k m) { pcxi = reg m src }
unfolding after_instruction
does-mtcr_pcxi m e src k = refl

-- ---- until its contexts are back
-- The view follows the machine: all is the same except the general registers, PSW, the memory and
-- the first words of the chains.
pub record Beside (m v : Machine) : Type 0 where
  pub pc : v.pc ≡ m.pc
  pub lcx : v.lcx ≡ m.lcx
  pub ccpn : v.ccpn ≡ m.ccpn
  pub ie : v.ie ≡ m.ie
  pub biv : v.biv ≡ m.biv
  pub btv : v.btv ≡ m.btv
  pub isp : v.isp ≡ m.isp
  pub core : v.core ≡ m.core
  pub end : v.end ≡ m.end

-- the lower registers, the return address and the globals are the same
pub record SameLower (m v : Machine) : Type 0 where
  pub d : (i : ℕ) → i < 8 → get_or v.d i 0 ≡ get_or m.d i 0
  pub a : (i : ℕ) → i < 10 → get_or v.a i 0 ≡ get_or m.a i 0
  pub back : a11 v ≡ a11 m

-- the plan's globals
pub record SameGlobals (m v : Machine) : Type 0 where
  pub a0 : get_or v.a 0 0 ≡ get_or m.a 0 0
  pub a1 : get_or v.a 1 0 ≡ get_or m.a 1 0
  pub a8 : get_or v.a 8 0 ≡ get_or m.a 8 0
  pub a9 : get_or v.a 9 0 ≡ get_or m.a 9 0

below_8 : (P : ℕ → Type 0) → P 0 → P 1 → P 2 → P 3 → P 4 → P 5 → P 6 → P 7 → (i : ℕ) → i < 8 → P i
below_8 P p0 p1 p2 p3 p4 p5 p6 p7 zero lt = p0
below_8 P p0 p1 p2 p3 p4 p5 p6 p7 (suc zero) lt = p1
below_8 P p0 p1 p2 p3 p4 p5 p6 p7 (suc (suc zero)) lt = p2
below_8 P p0 p1 p2 p3 p4 p5 p6 p7 (suc (suc (suc zero))) lt = p3
below_8 P p0 p1 p2 p3 p4 p5 p6 p7 (suc (suc (suc (suc zero)))) lt = p4
below_8 P p0 p1 p2 p3 p4 p5 p6 p7 (suc (suc (suc (suc (suc zero))))) lt = p5
below_8 P p0 p1 p2 p3 p4 p5 p6 p7 (suc (suc (suc (suc (suc (suc zero)))))) lt = p6
below_8 P p0 p1 p2 p3 p4 p5 p6 p7 (suc (suc (suc (suc (suc (suc (suc zero))))))) lt = p7
below_8 P p0 p1 p2 p3 p4 p5 p6 p7 (suc (suc (suc (suc (suc (suc (suc (suc i)))))))) lt = absurd (omega arith)

below_10 : (P : ℕ → Type 0) → P 0 → P 1 → P 2 → P 3 → P 4 → P 5 → P 6 → P 7 → P 8 → P 9 → (i : ℕ) → i < 10 → P i
below_10 P p0 p1 p2 p3 p4 p5 p6 p7 p8 p9 zero lt = p0
below_10 P p0 p1 p2 p3 p4 p5 p6 p7 p8 p9 (suc zero) lt = p1
below_10 P p0 p1 p2 p3 p4 p5 p6 p7 p8 p9 (suc (suc i)) lt = below_8 (λ i. P (suc (suc i))) p2 p3 p4 p5 p6 p7 p8 p9 i (omega arith)

module _ {plan : PlanData} (ok : IsPlan plan) {n u : ℕ} {word_of : ℕ → ℕ} {chain_of : ℕ → List ℕ} (m v : Machine) (words : IsMachine m) (view_words : IsMachine v) (running : m.end ≡ Running) (beside : Beside m v)
    (l : ℕ) (used : List ℕ) (is : chain_of u ≡ l ∷ used) (k : ℕ) (seen : List ℕ) (t : Twins plan n u word_of chain_of (k ∷ seen) m.mem m.pcxi m.fcx m.lcx v.mem v.pcxi v.fcx) where
  own : SameContexts m.mem m.pcxi (l ∷ used) v.mem v.pcxi (k ∷ seen)
  own = same_before ok l used is words.bytes view_words.bytes t

  here : link_in m.pcxi ≡ l
  here = named ok l used is words.bytes view_words.bytes t

  there : link_in v.pcxi ≡ k
  there = (t.view_links).1

  kind_from : (upper : Bool) → is_last_context_of_kind v upper ≡ true → is_last_context_of_kind m upper ≡ true
  kind_from true kind = same_ul m.core m.pcxi v.pcxi own.0 ∙ ap (λ c. ul_of c v.pcxi) (sym beside.core) ∙ kind
  kind_from false kind = ap not (same_ul m.core m.pcxi v.pcxi own.0 ∙ ap (λ c. ul_of c v.pcxi) (sym beside.core)) ∙ kind

  pub comes_back : (upper : Bool) → is_last_context_of_kind v upper ≡ true → restore m upper ≡ with_context_restored m upper
  comes_back upper kind =
      let ls = links_before ok l used is words.bytes view_words.bytes t in
      restore-is m upper (λ e. ls.0 (sym here ∙ e)) (kind_from upper kind) (ap (is_area_mapped m.mem) here ∙ ls.2)

  pub view_comes_back : (upper : Bool) → is_last_context_of_kind v upper ≡ true → restore v upper ≡ with_context_restored v upper
  view_comes_back upper kind = restore-is v upper (λ e. (t.view_links).0 (sym there ∙ e)) kind (ap (is_area_mapped v.mem) there ∙ (t.view_links).2)

  behind : SameBehindFirst (last_context m) (last_context v)
  behind = same_area_words m.mem v.mem (link_in m.pcxi) (link_in v.pcxi) (λ i lt. ap (λ x. area_word m.mem x (suc i)) here ∙ own.1 i lt ∙ ap (λ x. area_word v.mem x (suc i)) (sym there))

  -- after the lower context is restored, the lower registers are the same
  pub lower_back : SameGlobals m v → SameLower (with_context_restored m false) (with_context_restored v false)
  lower_back g = record {
    d = λ i lt. below_8 (λ i. get_or (with_context_restored v false).d i 0 ≡ get_or (with_context_restored m false).d i 0) (sym (behind 3 (omega arith))) (sym (behind 4 (omega arith))) (sym (behind 5 (omega arith))) (sym (behind 6 (omega arith)))
        (sym (behind 11 (omega arith))) (sym (behind 12 (omega arith))) (sym (behind 13 (omega arith))) (sym (behind 14 (omega arith))) i lt;
    a = λ i lt. below_10 (λ i. get_or (with_context_restored v false).a i 0 ≡ get_or (with_context_restored m false).a i 0) g.a0 g.a1 (sym (behind 1 (omega arith))) (sym (behind 2 (omega arith))) (sym (behind 7 (omega arith))) (sym (behind 8 (omega arith)))
        (sym (behind 9 (omega arith))) (sym (behind 10 (omega arith))) g.a8 g.a9 i lt;
    back = sym (behind 0 (omega arith));
  }

  -- after the upper context is restored too, the view and the machine are alike
  pub upper_back : SameLower m v → with_context_restored v true ≡ seen_as (record (with_context_restored m true) { pc = v.pc; ie = v.ie; ccpn = v.ccpn; biv = v.biv; btv = v.btv; isp = v.isp; core = v.core; end = v.end; lcx = v.lcx }) (with_area_released v).mem (with_area_released v).pcxi (with_area_released v).fcx
  upper_back s = λ i. record (with_area_released v) {
    psw = (ap (λ x. area_word v.mem x 1) there ∙ sym (own.1 0 (omega arith)) ∙ ap (λ x. area_word m.mem x 1) (sym here)) i;
    d = s.d 0 (omega arith) i ∷ s.d 1 (omega arith) i ∷ s.d 2 (omega arith) i ∷ s.d 3 (omega arith) i ∷ s.d 4 (omega arith) i ∷ s.d 5 (omega arith) i ∷ s.d 6 (omega arith) i ∷ s.d 7 (omega arith) i
        ∷ sym (behind 3 (omega arith)) i ∷ sym (behind 4 (omega arith)) i ∷ sym (behind 5 (omega arith)) i ∷ sym (behind 6 (omega arith)) i
        ∷ sym (behind 11 (omega arith)) i ∷ sym (behind 12 (omega arith)) i ∷ sym (behind 13 (omega arith)) i ∷ sym (behind 14 (omega arith)) i ∷ [];
    a = s.a 0 (omega arith) i ∷ s.a 1 (omega arith) i ∷ s.a 2 (omega arith) i ∷ s.a 3 (omega arith) i ∷ s.a 4 (omega arith) i ∷ s.a 5 (omega arith) i ∷ s.a 6 (omega arith) i ∷ s.a 7 (omega arith) i ∷ s.a 8 (omega arith) i ∷ s.a 9 (omega arith) i
        ∷ sym (behind 1 (omega arith)) i ∷ sym (behind 2 (omega arith)) i ∷ sym (behind 7 (omega arith)) i ∷ sym (behind 8 (omega arith)) i ∷ sym (behind 9 (omega arith)) i ∷ sym (behind 10 (omega arith)) i ∷ [];
  }

  -- the return: both go to the same address, and the view and the machine are alike
  pub switched_back : SameLower m v → is_last_context_of_kind v true ≡ true → (e e2 : Event) → is_interrupt_taken m e ≡ false → e2.irq ≡ e.irq → e2.status ≡ e.status → (size : ℕ) → fetched_instruction m ≡ Ok (Ret, size) → fetched_instruction v ≡ Ok (Ret, size)
      → step v e2 ≡ seen_as (step m e) (with_area_released v).mem (with_area_released v).pcxi (with_area_released v).fcx
  switched_back s kind e e2 none same_irq same_status size at view_at =
      let view_none : is_interrupt_taken v e2 ≡ false = (λ i. is_interrupt_taken (record m { ie = beside.ie i; ccpn = beside.ccpn i }) (record e { irq = same_irq i })) ∙ none in
      let view_running : v.end ≡ Running = beside.end ∙ running in
      let m_after : after_instruction m e Ret size ≡ record (with_context_restored m true) { pc = a11 m / 2 * 2 } =
      does-ret m e size ∙ ap (λ r. if_running r (λ r. record r { pc = a11 m / 2 * 2 })) (comes_back true kind) ∙ then_-running (with_context_restored m true) (λ r. record r { pc = a11 m / 2 * 2 }) (restored_end m true ∙ running)
      in
      let v_after : after_instruction v e2 Ret size ≡ seen_as (record (with_context_restored m true) { pc = a11 m / 2 * 2 }) (with_area_released v).mem (with_area_released v).pcxi (with_area_released v).fcx =
      does-ret v e2 size ∙ ap (λ r. if_running r (λ r. record r { pc = a11 v / 2 * 2 })) (view_comes_back true kind) ∙ then_-running (with_context_restored v true) (λ r. record r { pc = a11 v / 2 * 2 }) (restored_end v true ∙ view_running)
      ∙ ap (λ (r : Machine). record r { pc = a11 v / 2 * 2 }) (upper_back s)
      ∙ (λ i. seen_as (record (with_context_restored m true) { pc = s.back i / 2 * 2; ie = beside.ie i; ccpn = beside.ccpn i; biv = beside.biv i; btv = beside.btv i; isp = beside.isp i; core = beside.core i; end = beside.end i; lcx = beside.lcx i }) (with_area_released v).mem (with_area_released v).pcxi (with_area_released v).fcx)
      in
      let m_is : step m e ≡ with_event (record (with_context_restored m true) { pc = a11 m / 2 * 2 }) e = step_does m e Ret size running none at (ap (λ (x : Machine). x.end) m_after ∙ running) ∙ ap (λ (x : Machine). with_event x e) m_after in
      let v_is : step v e2 ≡ seen_as (with_event (record (with_context_restored m true) { pc = a11 m / 2 * 2 }) e) (with_area_released v).mem (with_area_released v).pcxi (with_area_released v).fcx =
      step_does v e2 Ret size view_running view_none view_at (ap (λ (x : Machine). x.end) v_after ∙ running) ∙ ap (λ (x : Machine). with_event x e2) v_after
      ∙ ap (λ q. seen_as (with_event (record (with_context_restored m true) { pc = a11 m / 2 * 2 }) (record e { status = q })) (with_area_released v).mem (with_area_released v).pcxi (with_area_released v).fcx) same_status
      in
      v_is ∙ ap (λ (x : Machine). seen_as x (with_area_released v).mem (with_area_released v).pcxi (with_area_released v).fcx) (sym m_is)
