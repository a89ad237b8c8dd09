-- A step of the machine, compared with the same step of its view: returns, and lower contexts that
-- are restored.
use Rattle.std.proofs.Common.{◌≡◌, ◌≢◌, ℕ, suc, ◌*◌, ◌/◌, ◌%◌, ◌^◌, ◌<◌, inl, inr, Bool, true, false, not, cond, List, [], ◌∷◌, length, get_or, Ok, refl, sym, ap, ◌∙◌, subst, arith, ◌==◌}
use Rattle.std.proofs.lemmas.Bool.{cases_Bool, eqb-false}
use Rattle.std.specs.FinMap as map
use Rattle.csa_chain.specs.MemoryBytes.{Memory, is_mapped}
use Rattle.csa_chain.specs.Chain.{link_in, link_address, is_area_mapped, area_word}
use Rattle.csa_chain.specs.ContextWords.{ul_of, pie_of, pcpn_of, d_after_upper_restore, a_after_upper_restore, d_after_lower_restore, a_after_lower_restore}
use Rattle.csa_chain.proofs.MemoryLaws.{is_mapped-with_words}
use Rattle.csa_chain.proofs.ChainLaws.{SameAreas, SameAreas-written}
use Rattle.csa_chain.proofs.ContextLaws.{below_16}
use Rattle.tcd_base.specs.declared.core_version.Core.{Core}
use Rattle.tcd_base.specs.declared.core_version.Core.TheVariants.{V13, V16}
use Rattle.tcd_plan.specs.PlanData.{PlanData, IsPlan}
use Rattle.tc_isa.specs.declared.shapes.Shape.{Shape}
use Rattle.tc_isa.specs.declared.shapes.Shape.TheVariants.{Ret, Rfe, Rslcx}
use Rattle.tc_machine.specs.declared.events.Event.{Event}
use Rattle.tc_machine.specs.declared.events.Cause.{Cause}
use Rattle.tc_machine.specs.declared.events.Cause.TheVariants.{Csu, Ctyp, NoArea}
use Rattle.tc_machine.specs.declared.events.End.TheVariants.{Running, Dead}
use Rattle.tc_machine.specs.declared.state.Machine.{Machine}
use Rattle.tc_machine.specs.Machine.{a11, dead_machine, if_running, IsMachine}
use Rattle.tc_machine.specs.Instructions.{with_pc_advanced, after_instruction}
use Rattle.tc_machine.specs.SavesAndRestores.{is_last_context_of_kind, saved_area_words, last_context, with_area_released, with_context_restored, restore}
use Rattle.tc_machine.specs.Fetching.{fetched_instruction}
use Rattle.tc_machine.specs.Stepping.{is_interrupt_taken, step}
use Rattle.tcd_plan.specs.MappedAddresses.{IsInAreas}
use Rattle.tc_machine.specs.PlanAreas.{first_link, plan_areas}
use Rattle.tc_machine.proofs.Saves.{restore-is, then_-running}
use Rattle.tc_machine.proofs.Steps.{with_event, step_does, does-ret}
use Rattle.tc_machine.proofs.Areas.{is_freed}
use Rattle.cfg_recover.proofs.Points.{does-rfe, does-rslcx}
use Rattle.csa_chain.specs.SeveralChains.{occurrences_of, with_chain, with_chain_word}
use Rattle.csa_chain.proofs.SeveralLaws.{cond_other, owned_avoids, times-first, sum_below-at}
use Rattle.task_chains.proofs.Twins.{SameContexts, SameBehindFirst, areas_once, Twins, same_before, links_before, named, Twins-restored}
use Rattle.task_chains.proofs.Alike.{seen_as, Alike, area_at, outside_area}

-- ---- a restore that leaves the machine running
running≢dead : (cause : Cause) → Dead cause ≡ Running → ⊥
running≢dead cause e = cc

pub record Restores (m : Machine) (upper : Bool) : Type 0 where
  pub some : link_in m.pcxi ≢ 0
  pub kind : is_last_context_of_kind m upper ≡ true
  pub area : is_area_mapped m.mem (link_in m.pcxi) ≡ true

pub restores_from : (m : Machine) (upper : Bool) → (restore m upper).end ≡ Running → Restores m upper
unfolding restore
restores_from m upper e =
    elim (cases_Bool (link_in m.pcxi == 0)) [
      | inl none ↦ absurd (running≢dead Csu (sym (ap (λ t. (cond t (dead_machine Csu m) (cond (is_last_context_of_kind m upper) (cond (is_area_mapped m.mem (link_in m.pcxi)) (with_context_restored m upper) (dead_machine NoArea m)) (dead_machine Ctyp m))).end) none) ∙ e))
      | inr some ↦
          let e1 = sym (ap (λ t. (cond t (dead_machine Csu m) (cond (is_last_context_of_kind m upper) (cond (is_area_mapped m.mem (link_in m.pcxi)) (with_context_restored m upper) (dead_machine NoArea m)) (dead_machine Ctyp m))).end) some) ∙ e in
          elim (cases_Bool (is_last_context_of_kind m upper)) [
            | inr other ↦ absurd (running≢dead Ctyp (sym (ap (λ t. (cond t (cond (is_area_mapped m.mem (link_in m.pcxi)) (with_context_restored m upper) (dead_machine NoArea m)) (dead_machine Ctyp m)).end) other) ∙ e1))
            | inl kind ↦
                let e2 = sym (ap (λ t. (cond t (cond (is_area_mapped m.mem (link_in m.pcxi)) (with_context_restored m upper) (dead_machine NoArea m)) (dead_machine Ctyp m)).end) kind) ∙ e1 in
                elim (cases_Bool (is_area_mapped m.mem (link_in m.pcxi))) [
                  | inr gone ↦ absurd (running≢dead NoArea (sym (ap (λ t. (cond t (with_context_restored m upper) (dead_machine NoArea m)).end) gone) ∙ e2))
                  | inl here ↦ record { some = eqb-false _ _ some; kind = kind; area = here }
                ]
          ]
    ]

-- ---- fields of words that differ at most in their links
upper_bits : (w x : ℕ) → w / 2 ^ 20 ≡ x / 2 ^ 20 → w / 2 ^ 22 % 2 ≡ x / 2 ^ 22 % 2
upper_bits w x e = omega arith

pub same_ul : (core : Core) (w x : ℕ) → w / 2 ^ 20 ≡ x / 2 ^ 20 → ul_of core w ≡ ul_of core x
same_ul V13 w x e = ap (λ b. b == 1) (upper_bits w x e)
same_ul V16 w x e = ap (λ b. b % 2 == 1) e

pie_bits13 : (w x : ℕ) → w / 2 ^ 20 ≡ x / 2 ^ 20 → w / 2 ^ 23 % 2 ≡ x / 2 ^ 23 % 2
pie_bits13 w x e = omega arith

pie_bits16 : (w x : ℕ) → w / 2 ^ 20 ≡ x / 2 ^ 20 → w / 2 ^ 21 % 2 ≡ x / 2 ^ 21 % 2
pie_bits16 w x e = omega arith

pub same_pie : (core : Core) (w x : ℕ) → w / 2 ^ 20 ≡ x / 2 ^ 20 → pie_of core w ≡ pie_of core x
same_pie V13 w x e = ap (λ b. b == 1) (pie_bits13 w x e)
same_pie V16 w x e = ap (λ b. b == 1) (pie_bits16 w x e)

pub same_pcpn : (core : Core) (w x : ℕ) → w / 2 ^ 20 ≡ x / 2 ^ 20 → pcpn_of core w ≡ pcpn_of core x
same_pcpn V13 w x e = omega arith
same_pcpn V16 w x e = omega arith

-- ---- registers that come back from words that differ at most in the first
module _ (ws ws2 rs : List ℕ) (alike : SameBehindFirst ws ws2) where
  at : (i : ℕ) → i < 15 → get_or ws (suc i) 0 ≡ get_or ws2 (suc i) 0
  at i lt = alike i lt

  pub same_d_upper : d_after_upper_restore ws rs ≡ d_after_upper_restore ws2 rs
  same_d_upper = λ i.
      get_or rs 0 0 ∷ get_or rs 1 0 ∷ get_or rs 2 0 ∷ get_or rs 3 0 ∷ get_or rs 4 0 ∷ get_or rs 5 0 ∷ get_or rs 6 0 ∷ get_or rs 7 0
      ∷ alike 3 (omega arith) i ∷ alike 4 (omega arith) i ∷ alike 5 (omega arith) i ∷ alike 6 (omega arith) i
      ∷ alike 11 (omega arith) i ∷ alike 12 (omega arith) i ∷ alike 13 (omega arith) i ∷ alike 14 (omega arith) i ∷ []

  pub same_a_upper : a_after_upper_restore ws rs ≡ a_after_upper_restore ws2 rs
  same_a_upper = λ i.
      get_or rs 0 0 ∷ get_or rs 1 0 ∷ get_or rs 2 0 ∷ get_or rs 3 0 ∷ get_or rs 4 0 ∷ get_or rs 5 0 ∷ get_or rs 6 0 ∷ get_or rs 7 0
      ∷ get_or rs 8 0 ∷ get_or rs 9 0 ∷ alike 1 (omega arith) i ∷ alike 2 (omega arith) i
      ∷ alike 7 (omega arith) i ∷ alike 8 (omega arith) i ∷ alike 9 (omega arith) i ∷ alike 10 (omega arith) i ∷ []

  pub same_d_lower : d_after_lower_restore ws rs ≡ d_after_lower_restore ws2 rs
  same_d_lower = λ i.
      alike 3 (omega arith) i ∷ alike 4 (omega arith) i ∷ alike 5 (omega arith) i ∷ alike 6 (omega arith) i
      ∷ alike 11 (omega arith) i ∷ alike 12 (omega arith) i ∷ alike 13 (omega arith) i ∷ alike 14 (omega arith) i
      ∷ get_or rs 8 0 ∷ get_or rs 9 0 ∷ get_or rs 10 0 ∷ get_or rs 11 0 ∷ get_or rs 12 0 ∷ get_or rs 13 0 ∷ get_or rs 14 0 ∷ get_or rs 15 0 ∷ []

  pub same_a_lower : a_after_lower_restore ws rs ≡ a_after_lower_restore ws2 rs
  same_a_lower = λ i.
      get_or rs 0 0 ∷ get_or rs 1 0 ∷ alike 1 (omega arith) i ∷ alike 2 (omega arith) i
      ∷ alike 7 (omega arith) i ∷ alike 8 (omega arith) i ∷ alike 9 (omega arith) i ∷ alike 10 (omega arith) i
      ∷ get_or rs 8 0 ∷ get_or rs 9 0 ∷ get_or rs 10 0 ∷ alike 0 (omega arith) i ∷ get_or rs 12 0 ∷ get_or rs 13 0 ∷ get_or rs 14 0 ∷ get_or rs 15 0 ∷ []

-- word i of an area
area_words-at : (mem : Memory) (l i : ℕ) → i < 16 → get_or (saved_area_words mem l) i 0 ≡ area_word mem l i
area_words-at mem l i lt = below_16 (λ i. get_or (saved_area_words mem l) i 0 ≡ area_word mem l i) refl refl refl refl refl refl refl refl refl refl refl refl refl refl refl refl i lt

pub same_area_words : (mem view : Memory) (l k : ℕ) → ((i : ℕ) → i < 15 → area_word mem l (suc i) ≡ area_word view k (suc i)) → SameBehindFirst (saved_area_words mem l) (saved_area_words view k)
same_area_words mem view l k same i lt = area_words-at mem l (suc i) (omega arith) ∙ same i lt ∙ sym (area_words-at view k (suc i) (omega arith))

-- ---- both restore
pub restored_end : (m : Machine) (upper : Bool) → (with_context_restored m upper).end ≡ m.end
restored_end m true = refl
restored_end m false = refl

module _ {plan : PlanData} (ok : IsPlan plan) (Kept : ℕ → Type 0) (kept : (x : ℕ) → Kept x → IsInAreas plan x → ⊥) {n u : ℕ} {word_of : ℕ → ℕ} {chain_of : ℕ → List ℕ} (m : Machine) (view : Memory) (pcxi fcx : ℕ)
    (words : IsMachine m) (view_words : IsMachine (seen_as m view pcxi fcx)) (running : m.end ≡ Running) (l : ℕ) (used : List ℕ) (is : chain_of u ≡ l ∷ used) (k : ℕ) (seen : List ℕ)
    (t : Twins plan n u word_of chain_of (k ∷ seen) m.mem m.pcxi m.fcx m.lcx view pcxi fcx) where
  abbrev v : Machine
  v = seen_as m view pcxi fcx

  own : SameContexts m.mem m.pcxi (l ∷ used) view pcxi (k ∷ seen)
  own = same_before ok l used is words.bytes view_words.bytes t

  pub high : m.pcxi / 2 ^ 20 ≡ pcxi / 2 ^ 20
  high = own.0

  here : link_in m.pcxi ≡ l
  here = named ok l used is words.bytes view_words.bytes t

  there : link_in pcxi ≡ k
  there = (t.view_links).1

  kind_from : (upper : Bool) → ul_of m.core m.pcxi ≡ ul_of m.core pcxi → is_last_context_of_kind v upper ≡ true → is_last_context_of_kind m upper ≡ true
  kind_from true same kind = same ∙ kind
  kind_from false same kind = ap not same ∙ kind

  -- if the view restores a context, so does the machine
  pub restores : (upper : Bool) → is_last_context_of_kind v upper ≡ true → restore m upper ≡ with_context_restored m upper
  restores upper kind =
      let ls = links_before ok l used is words.bytes view_words.bytes t in
      restore-is m upper (λ e. ls.0 (sym here ∙ e)) (kind_from upper (same_ul m.core m.pcxi pcxi high) kind) (ap (is_area_mapped m.mem) here ∙ ls.2)

  pub view_restores : (upper : Bool) → is_last_context_of_kind v upper ≡ true → restore v upper ≡ with_context_restored v upper
  view_restores upper kind = restore-is v upper (λ e. (t.view_links).0 (sym there ∙ e)) kind (ap (is_area_mapped view) there ∙ (t.view_links).2)

  behind : SameBehindFirst (last_context m) (last_context v)
  behind = same_area_words m.mem view (link_in m.pcxi) (link_in pcxi) (λ i lt. ap (λ x. area_word m.mem x (suc i)) here ∙ own.1 i lt ∙ ap (λ x. area_word view x (suc i)) (sym there))

  -- the view and the machine are alike again
  pub restored_same : (upper : Bool) → with_context_restored v upper ≡ seen_as (with_context_restored m upper) (with_area_released v).mem (with_area_released v).pcxi (with_area_released v).fcx
  restored_same true = λ i. record (with_area_released v) {
    psw = (ap (λ x. area_word view x 1) there ∙ sym (own.1 0 (omega arith)) ∙ ap (λ x. area_word m.mem x 1) (sym here)) i;
    d = sym (same_d_upper (last_context m) (last_context v) m.d behind) i;
    a = sym (same_a_upper (last_context m) (last_context v) m.a behind) i;
  }
  restored_same false = λ i. record (with_area_released v) {
    d = sym (same_d_lower (last_context m) (last_context v) m.d behind) i;
    a = sym (same_a_lower (last_context m) (last_context v) m.a behind) i;
  }

  pub Alike-restored : (m2 : Machine) → m2.mem ≡ (with_area_released m).mem → m2.pcxi ≡ (with_area_released m).pcxi → m2.fcx ≡ (with_area_released m).fcx → m2.lcx ≡ m.lcx
      → Alike plan n u word_of chain_of Kept view m m2 (seen_as m2 (with_area_released v).mem (with_area_released v).pcxi (with_area_released v).fcx)
  Alike-restored m2 mem_is pcxi_is fcx_is lcx_is =
      let once = areas_once plan in
      let all = (t.share).each l in
      let owned = sum_below-at n (λ w. occurrences_of l (chain_of w)) u t.own in
      let first = times-first l used in
      let first_is : occurrences_of l (chain_of u) ≡ occurrences_of l (l ∷ used) = ap (occurrences_of l) is in
      let at = area_at (first_link plan) plan.areas l (λ none. omega arith) in
      let freed = is_freed view fcx m.lcx k seen t.view_free t.view_areas in
      record {
        words = with_chain_word word_of u (area_word m.mem l 0);
        chains = with_chain chain_of u used;
        seen = seen;
        view = (with_area_released v).mem;
        view_pcxi = (with_area_released v).pcxi;
        view_fcx = (with_area_released v).fcx;
        is = refl;
        twins = rw (mem_is, pcxi_is, fcx_is, lcx_is, here, there) (Twins-restored ok l used is words.bytes view_words.bytes t);
        others = λ w lt apart. (
          cond_other w u (area_word m.mem l 0) (word_of w) apart,
          cond_other w u used (chain_of w) apart,
          subst (λ x. SameAreas m.mem x (chain_of w)) (sym mem_is)
              (rw here (SameAreas-written m.mem l (chain_of w) (m.fcx ∷ []) (omega arith) (owned_avoids n chain_of u l used t.free (plan_areas plan) t.share once t.own is w lt apart))),
        );
        outside = λ x is_kept. let not_in = kept x is_kept in ap (λ y. map.get y x) mem_is ∙ rw here (outside_area ok m.mem l at.0 at.2 at.1 (m.fcx ∷ []) (omega arith) x not_in);
        view_outside = λ x is_kept. let not_in = kept x is_kept in rw there (outside_area ok view k (length seen) freed.place freed.within (fcx ∷ []) (omega arith) x not_in);
        mapped = λ x. (
          ap (λ y. is_mapped y x) mem_is ∙ is_mapped-with_words m.mem (link_address (link_in m.pcxi)) (m.fcx ∷ []) x,
          is_mapped-with_words view (link_address (link_in pcxi)) (fcx ∷ []) x,
        );
      }

  -- ---- steps
  abbrev back_to : Machine → Machine
  back_to r = record r { pc = a11 m / 2 * 2 }

  -- if both do the same with the restored context, and end alike, the steps are alike
  pub Alike-back : (upper : Bool) (shape : Shape) (size : ℕ) (after : Machine → Machine) (e e2 : Event) → is_last_context_of_kind v upper ≡ true
      → after_instruction m e shape size ≡ if_running (restore m upper) after → after_instruction v e2 shape size ≡ if_running (restore v upper) after
      → ((r : Machine) → (after r).end ≡ r.end) → ((r : Machine) (mem : Memory) (p f : ℕ) → after (seen_as r mem p f) ≡ seen_as (after r) mem p f)
      → (after (with_context_restored m upper)).mem ≡ (with_area_released m).mem → (after (with_context_restored m upper)).pcxi ≡ (with_area_released m).pcxi → (after (with_context_restored m upper)).fcx ≡ (with_area_released m).fcx → (after (with_context_restored m upper)).lcx ≡ m.lcx
      → is_interrupt_taken m e ≡ false → e2.irq ≡ e.irq → e2.status ≡ e.status → fetched_instruction m ≡ Ok (shape, size) → fetched_instruction v ≡ Ok (shape, size)
      → Alike plan n u word_of chain_of Kept view m (step m e) (step v e2)
  Alike-back upper shape size after e e2 kind m_does v_does ends commutes mem_is pcxi_is fcx_is lcx_is none same_irq same_status at view_at =
      let end_is : (with_context_restored m upper).end ≡ Running = restored_end m upper ∙ running in
      let view_end : (with_context_restored v upper).end ≡ Running = restored_end v upper ∙ running in
      let view_none : is_interrupt_taken v e2 ≡ false = ap (λ q. is_interrupt_taken m (record e { irq = q })) same_irq ∙ none in
      let m_after : after_instruction m e shape size ≡ after (with_context_restored m upper) = m_does ∙ ap (λ r. if_running r after) (restores upper kind) ∙ then_-running (with_context_restored m upper) after end_is in
      let v_after : after_instruction v e2 shape size ≡ seen_as (after (with_context_restored m upper)) (with_area_released v).mem (with_area_released v).pcxi (with_area_released v).fcx =
      v_does ∙ ap (λ r. if_running r after) (view_restores upper kind) ∙ then_-running (with_context_restored v upper) after view_end ∙ ap after (restored_same upper) ∙ commutes (with_context_restored m upper) (with_area_released v).mem (with_area_released v).pcxi (with_area_released v).fcx
      in
      let after_end : (after (with_context_restored m upper)).end ≡ Running = ends (with_context_restored m upper) ∙ end_is in
      let m_is : step m e ≡ with_event (after (with_context_restored m upper)) e = step_does m e shape size running none at (ap (λ x. x.end) m_after ∙ after_end) ∙ ap (λ x. with_event x e) m_after in
      let v_is : step v e2 ≡ seen_as (with_event (after (with_context_restored m upper)) e) (with_area_released v).mem (with_area_released v).pcxi (with_area_released v).fcx =
      step_does v e2 shape size running view_none view_at (ap (λ x. x.end) v_after ∙ after_end) ∙ ap (λ x. with_event x e2) v_after
      ∙ ap (λ s. seen_as (with_event (after (with_context_restored m upper)) (record e { status = s })) (with_area_released v).mem (with_area_released v).pcxi (with_area_released v).fcx) same_status
      in
      subst (λ x. Alike plan n u word_of chain_of Kept view m x (step v e2)) (sym m_is)
      (subst (λ y. Alike plan n u word_of chain_of Kept view m (with_event (after (with_context_restored m upper)) e) y) (sym v_is) (Alike-restored (with_event (after (with_context_restored m upper)) e) mem_is pcxi_is fcx_is lcx_is))

  module _ (e e2 : Event) (size : ℕ) (none : is_interrupt_taken m e ≡ false) (same_irq : e2.irq ≡ e.irq) (same_status : e2.status ≡ e.status) where
    pub Alike-ret : is_last_context_of_kind v true ≡ true → fetched_instruction m ≡ Ok (Ret, size) → fetched_instruction v ≡ Ok (Ret, size) → Alike plan n u word_of chain_of Kept view m (step m e) (step v e2)
    Alike-ret kind at view_at =
        Alike-back true Ret size back_to e e2 kind (does-ret m e size) (does-ret v e2 size) (λ r. refl) (λ r mem p f. refl) refl refl refl refl none same_irq same_status at view_at

    pub Alike-rslcx : is_last_context_of_kind v false ≡ true → fetched_instruction m ≡ Ok (Rslcx, size) → fetched_instruction v ≡ Ok (Rslcx, size) → Alike plan n u word_of chain_of Kept view m (step m e) (step v e2)
    Alike-rslcx kind at view_at =
        Alike-back false Rslcx size (with_pc_advanced size) e e2 kind (does-rslcx m e size) (does-rslcx v e2 size) (λ r. refl) (λ r mem p f. refl) refl refl refl refl none same_irq same_status at view_at

    pub Alike-rfe : is_last_context_of_kind v true ≡ true → fetched_instruction m ≡ Ok (Rfe, size) → fetched_instruction v ≡ Ok (Rfe, size) → Alike plan n u word_of chain_of Kept view m (step m e) (step v e2)
    Alike-rfe kind at view_at =
        Alike-back true Rfe size (λ r. record (back_to r) { ie = pie_of m.core m.pcxi; ccpn = pcpn_of m.core m.pcxi }) e e2 kind (does-rfe m e size)
        (does-rfe v e2 size ∙ (λ i. if_running (restore v true) (λ r. record (back_to r) { ie = sym (same_pie m.core m.pcxi pcxi high) i; ccpn = sym (same_pcpn m.core m.pcxi pcxi high) i })))
        (λ r. refl) (λ r mem p f. refl) refl refl refl refl none same_irq same_status at view_at
