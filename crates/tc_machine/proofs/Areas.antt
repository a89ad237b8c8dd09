-- The save areas of a plan in a state, after saves, restores and at the start.
use Rattle.std.proofs.Common.{◌≡◌, ◌≢◌, ℕ, zero, suc, ◌+◌, ◌-◌, ◌^◌, ◌<◌, ◌≤◌, inr, Bool, true, false, cond, List, [], ◌∷◌, length, refl, sym, ap, ◌∙◌, subst, arith}
use Rattle.std.proofs.lemmas.Bool.{le-ltb, lt-ltb, ltb-true}
use Rattle.std.specs.Prelude.{nat_lt}
use Rattle.csa_chain.specs.MemoryBytes.{Memory, with_words}
use Rattle.csa_chain.specs.Chain.{link_in, link_address, is_area_mapped, area_word, word_with_link}
use Rattle.csa_chain.proofs.ChainLaws.{Links, Avoids, Avoids-before, Distinct, Distinct-after, reverse_onto, reverse-append_onto, free_after_save, free_after_restore, chain_within-Links, are_mapped_from}
use Rattle.csa_chain.proofs.ContextLaws.{link_in-with_link, with_link-lt, link_in-lt}
use Rattle.elf_image.specs.Images.{ImageData}
use Rattle.tcd_plan.specs.PlanData.{PlanData, IsPlan}
use Rattle.tc_machine.specs.declared.state.Machine.{Machine}
use Rattle.tc_machine.specs.PlanAreas.{consecutive_links, first_link, plan_areas}
use Rattle.tc_machine.specs.Safe.{ChainsAreWhole}
use Rattle.tc_machine.specs.Starting.{Starts}
use Rattle.tc_machine.proofs.PlanLaws.{length-links_up, Distinct-links_up, length-reverse_onto, place_of, link_address-area, some_link, link_lt}

-- the free areas are a chain, with the used ones they are the plan's, and the limit of the list is
-- before the reserve
pub record Areas (plan : PlanData) (mem : Memory) (fcx lcx : ℕ) (used free : List ℕ) : Type 0 where
  pub links : Links mem fcx free
  pub whole : reverse_onto used free ≡ plan_areas plan
  pub fcx_word : fcx < 2 ^ 32
  pub lcx_is : link_in lcx ≡ first_link plan + (plan.areas - plan.reserve)

-- the first free area, if one more may be used
pub record HasFree (plan : PlanData) (mem : Memory) (fcx lcx : ℕ) (used : List ℕ) : Type 0 where
  pub rest : List ℕ
  pub some : link_in fcx ≢ 0
  pub area : is_area_mapped mem (link_in fcx) ≡ true
  pub links : Links mem (area_word mem (link_in fcx) 0) rest
  pub whole : reverse_onto used (link_in fcx ∷ rest) ≡ plan_areas plan
  pub place : link_in fcx ≡ first_link plan + length used
  pub within : length used < plan.areas
  pub not_last : link_in fcx ≢ link_in lcx
  pub avoids_used : Avoids (link_in fcx) used
  pub avoids_rest : Avoids (link_in fcx) rest

-- the number of all areas
count : (plan : PlanData) (used free : List ℕ) → reverse_onto used free ≡ plan_areas plan → length used + length free ≡ plan.areas
count plan used free whole = sym (length-reverse_onto used free) ∙ ap length whole ∙ length-links_up (first_link plan) plan.areas

distinct : (plan : PlanData) (used free : List ℕ) → reverse_onto used free ≡ plan_areas plan → Distinct (reverse_onto used free)
distinct plan used free whole = subst Distinct (sym whole) (Distinct-links_up (first_link plan) plan.areas)

pub has_free : {plan : PlanData} → IsPlan plan → (most : ℕ) → most ≤ plan.areas - plan.reserve → (mem : Memory) (fcx lcx : ℕ) (used free : List ℕ) → Areas plan mem fcx lcx used free → length used < most → HasFree plan mem fcx lcx used
has_free {plan = plan} ok most few mem fcx lcx used [] h lt =
    let all = count plan used [] h.whole in
    absurd (omega arith)
has_free {plan = plan} ok most few mem fcx lcx used (f ∷ rest) h lt =
    let at = place_of used rest f (first_link plan) plan.areas h.whole in
    let place = at.1 in
    let last = h.lcx_is in
    let l = h.links in
    let all = distinct plan used (f ∷ rest) h.whole in
    record {
      rest = rest;
      some = rw l.1 l.0;
      area = rw l.1 l.2;
      links = rw l.1 l.3;
      whole = rw l.1 h.whole;
      place = rw l.1 place;
      within = at.0;
      not_last = rw (l.1, last) (omega arith);
      avoids_used = rw l.1 (Avoids-before f used rest all);
      avoids_rest = rw l.1 (Distinct-after used (f ∷ rest) all).0;
    }

-- after a save of any context
pub Areas-saved : {plan : PlanData} (mem : Memory) (fcx lcx : ℕ) (used free : List ℕ) (h : HasFree plan mem fcx lcx used) → Areas plan mem fcx lcx used free → (context : List ℕ) → length context ≡ 16 →
    Areas plan (with_words mem (link_address (link_in fcx)) context) (word_with_link fcx (link_in (area_word mem (link_in fcx) 0))) lcx (link_in fcx ∷ used) (h.rest)
Areas-saved mem fcx lcx used free h old context long =
    let f = link_in fcx in
    let next = link_in (area_word mem f 0) in
    record {
      links = free_after_save mem fcx f h.rest context (word_with_link fcx next) (h.some, refl, h.area, h.links) h.avoids_rest long (link_in-with_link fcx next (link_in-lt _));
      whole = h.whole;
      fcx_word = with_link-lt fcx next old.fcx_word (link_in-lt _);
      lcx_is = old.lcx_is;
    }

-- after a restore
pub Areas-restored : {plan : PlanData} (mem : Memory) (pcxi fcx lcx l : ℕ) (used free : List ℕ) → Links mem pcxi (l ∷ used) → Areas plan mem fcx lcx (l ∷ used) free → l < 2 ^ 20 →
    Areas plan (with_words mem (link_address l) (fcx ∷ [])) (word_with_link fcx l) lcx used (l ∷ free)
Areas-restored {plan = plan} mem pcxi fcx lcx l used free links old small = record {
  links = free_after_restore mem pcxi fcx l used free (word_with_link fcx l) links old.links (Distinct-after used (l ∷ free) (distinct plan used (l ∷ free) old.whole)).0 old.fcx_word (link_in-with_link fcx l small);
  whole = old.whole;
  fcx_word = with_link-lt fcx l old.fcx_word small;
  lcx_is = old.lcx_is;
}

-- the area that a restore frees: its place, and that it isn't one of the used ones
pub record IsFreed (plan : PlanData) (l : ℕ) (used : List ℕ) : Type 0 where
  pub place : l ≡ first_link plan + length used
  pub within : length used < plan.areas
  pub avoids_used : Avoids l used

pub is_freed : {plan : PlanData} (mem : Memory) (fcx lcx l : ℕ) (used free : List ℕ) → Areas plan mem fcx lcx (l ∷ used) free → IsFreed plan l used
is_freed {plan = plan} mem fcx lcx l used free h =
    let at = place_of used free l (first_link plan) plan.areas h.whole in
    record { place = at.1; within = at.0; avoids_used = Avoids-before l used free (distinct plan used (l ∷ free) h.whole) }

-- the chains of the state are whole
pub ChainsAreWhole-from : {plan : PlanData} → IsPlan plan → (most : ℕ) (m : Machine) (used free : List ℕ) → Links m.mem m.pcxi used → Areas plan m.mem m.fcx m.lcx used free → length used ≤ most → ChainsAreWhole plan most m
ChainsAreWhole-from {plan = plan} ok most m used free links areas within =
    let all = count plan used free areas.whole in
    let few = (ok.areas).few in
    record {
      used = used;
      free = free;
      used_chain = chain_within-Links m.mem 4096 m.pcxi used links (omega arith);
      free_chain = chain_within-Links m.mem 4096 m.fcx free areas.links (omega arith);
      areas_partition = reverse-append_onto used free ∙ areas.whole;
      within_need = within;
    }

-- ---- the start
link_mod : (x : ℕ) → x < 2 ^ 20 → link_in x ≡ x
link_mod x h = omega arith

small_link : (b : Bool) (x : ℕ) → (b ≡ true → x < 2 ^ 20) → link_in (cond b x 0) ≡ cond b x 0
small_link true x h = let lt = h refl in omega arith
small_link false x h = refl

add_one_more : (l i : ℕ) → l + (i + 1) ≡ l + i + 1
add_one_more l i = omega arith

zero_plus : (n : ℕ) → 0 + n ≡ n
zero_plus n = omega arith

plus_zero : (n : ℕ) → n + 0 ≡ n
plus_zero n = omega arith

module _ (image : ImageData) (plan : PlanData) (ok : IsPlan plan) (m : Machine) (start : Starts image plan m) where
  area_mapped : (i : ℕ) → i < plan.areas → is_area_mapped m.mem (first_link plan + i) ≡ true
  area_mapped i lt =
      are_mapped_from m.mem _ 64 (λ j h. (start.memory _).1 (let at = link_address-area ok i lt in inr (inr (omega arith, omega arith))))

  -- the areas from area i on are a chain
  links_from : (i n : ℕ) (word : ℕ) → i + n ≡ plan.areas → link_in word ≡ cond (nat_lt i plan.areas) (first_link plan + i) 0 → Links m.mem word (consecutive_links (first_link plan + i) n)
  links_from i zero word e w = w ∙ ap (λ t. cond t (first_link plan + i) 0) (le-ltb i plan.areas (omega arith))
  links_from i (suc n) word e w =
      let lt : i < plan.areas = omega arith in
      let here : link_in word ≡ first_link plan + i = w ∙ ap (λ t. cond t (first_link plan + i) 0) (lt-ltb i plan.areas lt) in (
        some_link ok i,
        here,
        area_mapped i lt,
        subst (λ l. Links m.mem (area_word m.mem (first_link plan + i) 0) (consecutive_links l n)) (add_one_more (first_link plan) i)
            (links_from (i + 1) n (area_word m.mem (first_link plan + i) 0) (omega arith)
            (ap link_in (start.linked i lt) ∙ small_link (nat_lt (i + 1) plan.areas) (first_link plan + (i + 1)) (λ b. link_lt ok (i + 1) (ltb-true (i + 1) plan.areas b)))),
      )

  free_links : Links m.mem m.fcx (plan_areas plan)
  free_links =
      let some = (ok.areas).some in
      subst (λ l. Links m.mem m.fcx (consecutive_links l plan.areas)) (plus_zero (first_link plan))
      (links_from 0 plan.areas m.fcx (zero_plus plan.areas)
      (ap link_in (start.fcx ∙ sym (plus_zero (first_link plan))) ∙ link_mod (first_link plan + 0) (link_lt ok 0 (omega arith)) ∙ sym (ap (λ t. cond t (first_link plan + 0) 0) (lt-ltb 0 plan.areas (omega arith)))))

  limit_lt : plan.areas - plan.reserve < plan.areas
  limit_lt = let r = (ok.areas).reserved in let w = (ok.areas).reserve_within in omega arith

  -- at the start no area is used
  pub Areas-start : Areas plan m.mem m.fcx m.lcx [] (plan_areas plan)
  Areas-start = record {
    links = free_links;
    whole = refl;
    fcx_word = (start.machine).fcx;
    lcx_is = ap link_in start.lcx ∙ link_mod (first_link plan + (plan.areas - plan.reserve)) (link_lt ok (plan.areas - plan.reserve) limit_lt);
  }

pub whole_at_start : (image : ImageData) (plan : PlanData) (m : Machine) → IsPlan plan → Starts image plan m → ChainsAreWhole plan 0 m
whole_at_start image plan m ok start =
    ChainsAreWhole-from ok 0 m [] (plan_areas plan) (ap link_in start.pcxi) (Areas-start image plan ok m start) (omega arith)
