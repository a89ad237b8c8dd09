-- What the tasks share gives what SafeTasks asks of the areas.
use Rattle.std.proofs.Common.{◌≡◌, ◌≢◌, ℕ, zero, suc, ◌+◌, ◌-◌, ◌<◌, ◌≤◌, List, [], ◌∷◌, ◌++◌, length, sym, ap, ◌∙◌, subst, arith, length-append}
use Rattle.csa_chain.specs.Chain.{link_in}
use Rattle.csa_chain.proofs.ChainLaws.{Links, Avoids, chain_within-Links}
use Rattle.tcd_plan.specs.PlanData.{PlanData, IsPlan}
use Rattle.tc_machine.specs.declared.state.Machine.{Machine}
use Rattle.tc_machine.specs.PlanAreas.{consecutive_links, first_link, plan_areas}
use Rattle.tc_machine.proofs.PlanLaws.{length-links_up}
use Rattle.csa_chain.specs.SeveralChains.{sum_of_first, ChainsPartitionAreas}
use Rattle.task_chains.specs.Tasks.{TasksData, count}
use Rattle.task_chains.specs.SafeTasks.{chain_head, AreAreasPartitioned}
use Rattle.csa_chain.proofs.SeveralLaws.{sum_below-at, first_avoids_rest}
use Rattle.task_chains.proofs.Twins.{areas_once, reserve_of}
use Rattle.task_chains.proofs.Switch.{Shared}

module _ {plan : PlanData} (ok : IsPlan plan) (tasks : TasksData) (m : Machine) (u : ℕ) (word_of : ℕ → ℕ) (chain_of : ℕ → List ℕ) (needs : ℕ → ℕ) (s : Shared plan (count tasks) u word_of chain_of m.mem m.pcxi m.fcx m.lcx) where
  abbrev n : ℕ
  n = count tasks

  all : sum_of_first n (λ w. length (chain_of w)) + length (s.free) ≡ plan.areas
  all = (s.share).count ∙ length-links_up (first_link plan) plan.areas

  -- the first links of a list are at no later place
  behind : (f : ℕ) (xs ys : List ℕ) → Avoids f (xs ++ ys) → Avoids f ys
  behind f [] ys h = h
  behind f (x ∷ xs) ys h = behind f xs ys h.1

  head_of : (k x f : ℕ) → 1 ≤ k → Avoids f (consecutive_links x k) → f ≢ x
  head_of zero x f some h = absurd (omega arith)
  head_of (suc k) x f some h = λ e. h.0 (sym e)

  limit : ℕ
  limit = first_link plan + (plan.areas - plan.reserve)

  -- if all areas except the reserve are in use, FCX is at the limit
  to_limit : (front : List ℕ) → s.free ≡ front ++ reserve_of plan → sum_of_first n (λ w. length (chain_of w)) ≡ plan.areas - plan.reserve → link_in m.fcx ≡ link_in m.lcx
  to_limit [] is full =
      by_reserve plan.reserve (first_link plan + (plan.areas - plan.reserve)) ((ok.areas).reserved) (subst (Links m.mem m.fcx) is s.free_links) ∙ sym s.lcx_is
    where
      by_reserve : (k x : ℕ) → 1 ≤ k → Links m.mem m.fcx (consecutive_links x k) → link_in m.fcx ≡ x
      by_reserve zero x some l = absurd (omega arith)
      by_reserve (suc k) x some l = l.1
  to_limit (f ∷ front) is full =
      let long : length (s.free) ≡ length (f ∷ front) + length (reserve_of plan) = ap length is ∙ length-append (f ∷ front) (reserve_of plan) in
      absurd (omega (arith, all, length-links_up (first_link plan + (plan.areas - plan.reserve)) plan.reserve, (ok.areas).reserve_within))

  -- FCX is at the limit only then
  from_limit : (front : List ℕ) → s.free ≡ front ++ reserve_of plan → link_in m.fcx ≡ link_in m.lcx → sum_of_first n (λ w. length (chain_of w)) ≡ plan.areas - plan.reserve
  from_limit [] is at =
      omega (arith, all, ap length is ∙ length-links_up (first_link plan + (plan.areas - plan.reserve)) plan.reserve, (ok.areas).reserve_within)
  from_limit (f ∷ front) is at =
      let l : Links m.mem m.fcx (f ∷ front ++ reserve_of plan) = subst (Links m.mem m.fcx) is s.free_links in
      let share : ChainsPartitionAreas n chain_of (f ∷ front ++ reserve_of plan) (plan_areas plan) = subst (λ ls. ChainsPartitionAreas n chain_of ls (plan_areas plan)) is s.share in
      let avoids = first_avoids_rest n chain_of f (front ++ reserve_of plan) (plan_areas plan) share (areas_once plan) in
      absurd (head_of plan.reserve (first_link plan + (plan.areas - plan.reserve)) f ((ok.areas).reserved) (behind f front (reserve_of plan) avoids) (sym l.1 ∙ at ∙ s.lcx_is))

  pub areas_shared : ((w : ℕ) → w < n → chain_head tasks m w ≡ word_of w) → ((w : ℕ) → w < n → length (chain_of w) ≤ needs w) → AreAreasPartitioned plan tasks needs m
  areas_shared words within = record {
    chain_of = chain_of;
    free = s.free;
    chains = λ w lt.
        let here = sum_below-at n (λ w. length (chain_of w)) w lt in
        let a = all in
        let few = (ok.areas).few in
        chain_within-Links m.mem 4096 (chain_head tasks m w) (chain_of w) (subst (λ x. Links m.mem x (chain_of w)) (sym (words w lt)) (s.links w lt)) (omega arith);
    free_chain = (let a = all in let few = (ok.areas).few in chain_within-Links m.mem 4096 m.fcx s.free s.free_links (omega arith));
    share = s.share;
    within_need = within;
    limit = (from_limit s.front s.reserved, to_limit s.front s.reserved);
  }
