-- A step of the machine, compared with the same step of its view: interrupts and calls.
use Rattle.std.proofs.Common.{◌≡◌, ◌≢◌, ℕ, zero, suc, ◌+◌, ◌-◌, ◌*◌, ◌^◌, ◌<◌, ◌≤◌, ◌⊎◌, inl, inr, Bool, true, false, cond, List, ◌∷◌, ◌++◌, length, get_or, set, Ok, refl, sym, ap, ◌∙◌, subst, arith, bit_or}
use Rattle.std.proofs.lemmas.Bool.{cases_lt, cases_eq}
use Rattle.std.specs.FinMap as map
use Rattle.csa_chain.specs.MemoryBytes.{Memory, is_mapped, with_words}
use Rattle.csa_chain.specs.Chain.{link_in, link_address}
use Rattle.csa_chain.specs.ContextWordLaws.{IsListOfWords}
use Rattle.csa_chain.proofs.MemoryLaws.{get-with_words_other, is_mapped-with_words}
use Rattle.csa_chain.proofs.ChainLaws.{SameAreas, SameAreas-written}
use Rattle.csa_chain.proofs.WordLaws.{upper_words-HasWords, lower_words-HasWords}
use Rattle.tcd_plan.specs.PlanData.{PlanData, IsPlan}
use Rattle.tc_isa.specs.declared.shapes.Target.{Target}
use Rattle.tc_isa.specs.declared.shapes.Target.TheVariants as target
use Rattle.tc_isa.specs.declared.shapes.Shape.TheVariants.{Call}
use Rattle.tc_machine.specs.declared.events.Event.{Event}
use Rattle.tc_machine.specs.declared.events.End.TheVariants.{Running}
use Rattle.tc_machine.specs.declared.state.Machine.{Machine}
use Rattle.tc_machine.specs.Machine.{if_running, IsMachine}
use Rattle.tc_machine.specs.Instructions.{wrapping_sum, target_address, after_instruction}
use Rattle.tc_machine.specs.SavesAndRestores.{context_of, with_context_saved, save}
use Rattle.tc_machine.specs.Fetching.{fetched_instruction}
use Rattle.tc_machine.specs.Handlers.{at_handler_entry, after_interrupt}
use Rattle.tc_machine.specs.Stepping.{is_interrupt_taken, after_fetch_result, machine_after_event, step}
use Rattle.tcd_plan.specs.MappedAddresses.{IsInAreas}
use Rattle.tc_machine.specs.PlanAreas.{consecutive_links, first_link, plan_areas}
use Rattle.tc_machine.proofs.Saves.{save-is, then_-running}
use Rattle.tc_machine.proofs.Steps.{with_event, step-is, step_does, does-call}
use Rattle.tc_machine.proofs.PlanLaws.{link_address-area}
use Rattle.tc_machine.proofs.Areas.{HasFree, has_free}
use Rattle.csa_chain.specs.SeveralChains.{occurrences_of, sum_of_first, with_chain, with_chain_word}
use Rattle.csa_chain.proofs.SeveralLaws.{cond_other, first_avoids, times-first, times-other}
use Rattle.task_chains.proofs.Twins.{SameBehindFirst, areas_once, reserve_of, Twins, has_shared, Twins-saved}

-- the machine with another memory, and other first words of its chains
abbrev pub seen_as : Machine → Memory → ℕ → ℕ → Machine
seen_as m mem pcxi fcx = record m { mem = mem; pcxi = pcxi; fcx = fcx }

-- After a step of both, the view is the machine except for its memory and those words. What the
-- tasks share holds again, and the chains of the other tasks and the bytes to keep are unchanged.
pub record Alike (plan : PlanData) (n u : ℕ) (word_of : ℕ → ℕ) (chain_of : ℕ → List ℕ) (Kept : ℕ → Type 0) (old_view : Memory) (m m2 v2 : Machine) : Type 0 where
  pub words : ℕ → ℕ
  pub chains : ℕ → List ℕ
  pub seen : List ℕ
  pub view : Memory
  pub view_pcxi : ℕ
  pub view_fcx : ℕ
  pub is : v2 ≡ seen_as m2 view view_pcxi view_fcx
  pub twins : Twins plan n u words chains seen m2.mem m2.pcxi m2.fcx m2.lcx view view_pcxi view_fcx
  pub others : (w : ℕ) → w < n → w ≢ u → (words w ≡ word_of w) × (chains w ≡ chain_of w) × SameAreas m.mem m2.mem (chain_of w)
  pub outside : (x : ℕ) → Kept x → map.get m2.mem x ≡ map.get m.mem x
  pub view_outside : (x : ℕ) → Kept x → map.get view x ≡ map.get old_view x
  pub mapped : (x : ℕ) → (is_mapped m2.mem x ≡ is_mapped m.mem x) × (is_mapped view x ≡ is_mapped old_view x)

-- ---- where areas lie
-- a link in the list of areas is that of an area
pub area_at : (l n f : ℕ) → occurrences_of f (consecutive_links l n) ≢ 0 → (i : ℕ) × (i < n) × (f ≡ l + i)
area_at l zero f some = absurd (some refl)
area_at l (suc n) f some =
    elim (cases_eq l f) [
      | inl same ↦ (0, omega arith, omega arith)
      | inr apart ↦
          let rest = area_at (l + 1) n f (λ none. some (times-other f l (consecutive_links (l + 1) n) apart ∙ none)) in
          let at = rest.2 in
          (suc rest.0, (let lt = rest.1 in omega arith), omega arith)
    ]

out_of : (x at from size i k : ℕ) → at ≡ from + 64 * i → i < size → k ≤ 16 → (x < from) ⊎ (from + 64 * size ≤ x) → (x < at) ⊎ (at + 4 * k ≤ x)
out_of x at from size i k e lt few out = grind arith

in_areas_or_not : (plan : PlanData) (x : ℕ) → (IsInAreas plan x → ⊥) → (x < plan.csa_at) ⊎ (plan.csa_at + 64 * plan.areas ≤ x)
in_areas_or_not plan x not_in =
    elim (cases_lt x plan.csa_at) [
      | inl low ↦ inl low
      | inr from ↦ elim (cases_lt x (plan.csa_at + 64 * plan.areas)) [ inl within ↦ absurd (not_in (from, within)) | inr high ↦ inr high ]
    ]

-- writing 16 words to an area changes no byte outside of the areas
pub outside_area : {plan : PlanData} → IsPlan plan → (mem : Memory) (l i : ℕ) → l ≡ first_link plan + i → i < plan.areas → (ws : List ℕ) → length ws ≤ 16 → (x : ℕ) → (IsInAreas plan x → ⊥) → map.get (with_words mem (link_address l) ws) x ≡ map.get mem x
outside_area {plan = plan} ok mem l i at lt ws few x not_in =
    let place : link_address l ≡ plan.csa_at + 64 * i = ap link_address at ∙ link_address-area ok i lt in
    get-with_words_other mem (link_address l) ws x (out_of x (link_address l) plan.csa_at plan.areas i (length ws) place lt few (in_areas_or_not plan x not_in))

-- ---- contexts
context_words : (m : Machine) → IsMachine m → (upper : Bool) → IsListOfWords 16 (context_of m upper)
context_words m k true = upper_words-HasWords m.pcxi m.psw m.d m.d m.a k.pcxi k.psw ((k.d).count, (k.d).words) ((k.d).count, (k.d).words) ((k.a).count, (k.a).words)
context_words m k false = lower_words-HasWords m.pcxi m.psw m.d m.d m.a k.pcxi k.psw ((k.d).count, (k.d).words) ((k.d).count, (k.d).words) ((k.a).count, (k.a).words)

context_first : (m : Machine) (upper : Bool) → get_or (context_of m upper) 0 0 ≡ m.pcxi
context_first m true = refl
context_first m false = refl

context_alike : (m : Machine) (mem : Memory) (pcxi fcx : ℕ) (upper : Bool) → SameBehindFirst (context_of m upper) (context_of (seen_as m mem pcxi fcx) upper)
context_alike m mem pcxi fcx true i lt = refl
context_alike m mem pcxi fcx false i lt = refl

module _ {plan : PlanData} (ok : IsPlan plan) (Kept : ℕ → Type 0) (kept : (x : ℕ) → Kept x → IsInAreas plan x → ⊥) {n u : ℕ} {word_of : ℕ → ℕ} {chain_of : ℕ → List ℕ} {seen : List ℕ} (m : Machine) (view : Memory) (pcxi fcx : ℕ)
    (words : IsMachine m) (view_words : IsMachine (seen_as m view pcxi fcx)) (running : m.end ≡ Running)
    (t : Twins plan n u word_of chain_of seen m.mem m.pcxi m.fcx m.lcx view pcxi fcx)
    (room : sum_of_first n (λ w. length (chain_of w)) < plan.areas - plan.reserve) (view_room : length seen < plan.areas - plan.reserve) where
  abbrev v : Machine
  v = seen_as m view pcxi fcx

  free : HasFree plan view fcx m.lcx seen
  free = has_free ok (plan.areas - plan.reserve) (omega arith) view fcx m.lcx seen t.view_free t.view_areas view_room

  -- both save
  pub saves : (upper : Bool) → save m upper ≡ with_context_saved m upper
  saves upper = let h = has_shared ok t room in save-is m upper h.some h.area h.not_last

  pub view_saves : (upper : Bool) → save v upper ≡ with_context_saved v upper
  view_saves upper = let h = free in save-is v upper h.some h.area h.not_last

  -- the steps are alike for whatever else they do to the registers
  pub Alike-saved : (upper : Bool) (m2 : Machine) → m2.mem ≡ (with_context_saved m upper).mem → m2.pcxi ≡ (with_context_saved m upper).pcxi → m2.fcx ≡ (with_context_saved m upper).fcx → m2.lcx ≡ m.lcx
      → Alike plan n u word_of chain_of Kept view m m2 (seen_as m2 (with_context_saved v upper).mem (with_context_saved v upper).pcxi (with_context_saved v upper).fcx)
  Alike-saved upper m2 mem_is pcxi_is fcx_is lcx_is =
      let h = has_shared ok t room in
      let vf = free in
      let long = context_words m words upper in
      let view_long = context_words v view_words upper in
      let once = areas_once plan in
      let rest = h.front ++ reserve_of plan in
      let own = (h.share).each (link_in m.fcx) in
      let first = times-first (link_in m.fcx) rest in
      let at = area_at (first_link plan) plan.areas (link_in m.fcx) (λ none. omega arith) in
      record {
        words = with_chain_word word_of u (with_context_saved m upper).pcxi;
        chains = with_chain chain_of u (link_in m.fcx ∷ chain_of u);
        seen = link_in fcx ∷ seen;
        view = (with_context_saved v upper).mem;
        view_pcxi = (with_context_saved v upper).pcxi;
        view_fcx = (with_context_saved v upper).fcx;
        is = refl;
        twins = rw (mem_is, pcxi_is, fcx_is, lcx_is)
            (Twins-saved ok t room view_room (context_of m upper) (context_of v upper) long view_long (context_first m upper) (context_first v upper) (context_alike m view pcxi fcx upper) m.core m.ccpn m.ie upper words.ccpn);
        others = λ w lt apart. (
          cond_other w u (with_context_saved m upper).pcxi (word_of w) apart,
          cond_other w u (link_in m.fcx ∷ chain_of u) (chain_of w) apart,
          subst (λ x. SameAreas m.mem x (chain_of w)) (sym mem_is)
              (SameAreas-written m.mem (link_in m.fcx) (chain_of w) (context_of m upper) (let l = long.0 in omega arith) (first_avoids n chain_of (link_in m.fcx) rest (plan_areas plan) h.share once w lt)),
        );
        outside = λ x is_kept. let not_in = kept x is_kept in ap (λ y. map.get y x) mem_is ∙ outside_area ok m.mem (link_in m.fcx) at.0 at.2 at.1 (context_of m upper) (let k = long.0 in omega arith) x not_in;
        view_outside = λ x is_kept. let not_in = kept x is_kept in outside_area ok view (link_in fcx) (length seen) vf.place vf.within (context_of v upper) (let k = view_long.0 in omega arith) x not_in;
        mapped = λ x. (
          ap (λ y. is_mapped y x) mem_is ∙ is_mapped-with_words m.mem (link_address (link_in m.fcx)) (context_of m upper) x,
          is_mapped-with_words view (link_address (link_in fcx)) (context_of v upper) x,
        );
      }

  -- ---- an interrupt
  abbrev interrupted : ℕ → Machine
  interrupted irq = record (at_handler_entry m (with_context_saved m true) m.pc (bit_or m.biv (irq * 2 ^ 5))) { ccpn = irq }

  interrupt-is : (irq : ℕ) → after_interrupt m irq ≡ interrupted irq
  interrupt-is irq =
      ap (λ s. if_running s (λ s. record (at_handler_entry m s m.pc (bit_or m.biv (irq * 2 ^ 5))) { ccpn = irq })) (saves true)
      ∙ then_-running (with_context_saved m true) (λ s. record (at_handler_entry m s m.pc (bit_or m.biv (irq * 2 ^ 5))) { ccpn = irq }) running

  view_interrupt-is : (irq : ℕ) → after_interrupt v irq ≡ seen_as (interrupted irq) (with_context_saved v true).mem (with_context_saved v true).pcxi (with_context_saved v true).fcx
  view_interrupt-is irq =
      ap (λ s. if_running s (λ s. record (at_handler_entry v s v.pc (bit_or v.biv (irq * 2 ^ 5))) { ccpn = irq })) (view_saves true)
      ∙ then_-running (with_context_saved v true) (λ s. record (at_handler_entry v s v.pc (bit_or v.biv (irq * 2 ^ 5))) { ccpn = irq }) running

  pub Alike-interrupt : (e e2 : Event) → is_interrupt_taken m e ≡ true → e2.irq ≡ e.irq → e2.status ≡ e.status → Alike plan n u word_of chain_of Kept view m (step m e) (step v e2)
  Alike-interrupt e e2 taken same_irq same_status =
      let here : machine_after_event m e ≡ interrupted e.irq = ap (λ b. cond b (after_interrupt m e.irq) (after_fetch_result m e (fetched_instruction m))) taken ∙ interrupt-is e.irq in
      let there : machine_after_event v e2 ≡ seen_as (interrupted e.irq) (with_context_saved v true).mem (with_context_saved v true).pcxi (with_context_saved v true).fcx =
      ap (λ b. cond b (after_interrupt v e2.irq) (after_fetch_result v e2 (fetched_instruction v))) (ap (λ q. is_interrupt_taken m (record e { irq = q })) same_irq ∙ taken) ∙ view_interrupt-is e2.irq
      ∙ ap (λ q. seen_as (interrupted q) (with_context_saved v true).mem (with_context_saved v true).pcxi (with_context_saved v true).fcx) same_irq
      in
      let m_is : step m e ≡ with_event (interrupted e.irq) e = step-is m e running (ap (λ x. x.end) here ∙ running) ∙ ap (λ x. with_event x e) here in
      let v_is : step v e2 ≡ seen_as (with_event (interrupted e.irq) e) (with_context_saved v true).mem (with_context_saved v true).pcxi (with_context_saved v true).fcx =
      step-is v e2 running (ap (λ x. x.end) there ∙ running) ∙ ap (λ x. with_event x e2) there
      ∙ ap (λ s. seen_as (with_event (interrupted e.irq) (record e { status = s })) (with_context_saved v true).mem (with_context_saved v true).pcxi (with_context_saved v true).fcx) same_status
      in
      subst (λ x. Alike plan n u word_of chain_of Kept view m x (step v e2)) (sym m_is)
      (subst (λ y. Alike plan n u word_of chain_of Kept view m (with_event (interrupted e.irq) e) y) (sym v_is) (Alike-saved true (with_event (interrupted e.irq) e) refl refl refl refl))

  -- ---- a call
  abbrev entered : Target → ℕ → Machine
  entered to k = record (with_context_saved m true) { a = set m.a 11 (wrapping_sum m.pc k); pc = target_address m to }

  target_same : (to : Target) → target_address v to ≡ target_address m to
  target_same (target.Rel by) = refl
  target_same (target.Abs x) = refl
  target_same (target.Reg r) = refl

  call-is : (e : Event) (to : Target) (k : ℕ) → after_instruction m e (Call to) k ≡ entered to k
  call-is e to k =
      does-call m e to k ∙ ap (λ s. if_running s (λ s. record s { a = set s.a 11 (wrapping_sum m.pc k); pc = target_address m to })) (saves true)
      ∙ then_-running (with_context_saved m true) (λ s. record s { a = set s.a 11 (wrapping_sum m.pc k); pc = target_address m to }) running

  view_call-is : (e : Event) (to : Target) (k : ℕ) → after_instruction v e (Call to) k ≡ seen_as (entered to k) (with_context_saved v true).mem (with_context_saved v true).pcxi (with_context_saved v true).fcx
  view_call-is e to k =
      does-call v e to k ∙ ap (λ s. if_running s (λ s. record s { a = set s.a 11 (wrapping_sum v.pc k); pc = target_address v to })) (view_saves true)
      ∙ then_-running (with_context_saved v true) (λ s. record s { a = set s.a 11 (wrapping_sum v.pc k); pc = target_address v to }) running
      ∙ ap (λ q. record (seen_as (entered to k) (with_context_saved v true).mem (with_context_saved v true).pcxi (with_context_saved v true).fcx) { pc = q }) (target_same to)

  pub Alike-call : (e e2 : Event) (to : Target) (k : ℕ) → is_interrupt_taken m e ≡ false → e2.irq ≡ e.irq → e2.status ≡ e.status → fetched_instruction m ≡ Ok (Call to, k) → fetched_instruction v ≡ Ok (Call to, k) → Alike plan n u word_of chain_of Kept view m (step m e) (step v e2)
  Alike-call e e2 to k none same_irq same_status at view_at =
      let view_none : is_interrupt_taken v e2 ≡ false = ap (λ q. is_interrupt_taken m (record e { irq = q })) same_irq ∙ none in
      let here = call-is e to k in
      let there = view_call-is e2 to k in
      let m_is : step m e ≡ with_event (entered to k) e = step_does m e (Call to) k running none at (ap (λ x. x.end) here ∙ running) ∙ ap (λ x. with_event x e) here in
      let v_is : step v e2 ≡ seen_as (with_event (entered to k) e) (with_context_saved v true).mem (with_context_saved v true).pcxi (with_context_saved v true).fcx =
      step_does v e2 (Call to) k running view_none view_at (ap (λ x. x.end) there ∙ running) ∙ ap (λ x. with_event x e2) there
      ∙ ap (λ s. seen_as (with_event (entered to k) (record e { status = s })) (with_context_saved v true).mem (with_context_saved v true).pcxi (with_context_saved v true).fcx) same_status
      in
      subst (λ x. Alike plan n u word_of chain_of Kept view m x (step v e2)) (sym m_is)
      (subst (λ y. Alike plan n u word_of chain_of Kept view m (with_event (entered to k) e) y) (sym v_is) (Alike-saved true (with_event (entered to k) e) refl refl refl refl))
