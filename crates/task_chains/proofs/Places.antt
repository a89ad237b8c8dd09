-- Each area once, by counts and by places: the places of links in several lists.
use Rattle.std.proofs.Common.{◌≡◌, ◌≢◌, ℕ, zero, suc, ◌+◌, ◌<◌, ◌≤◌, inl, inr, List, [], ◌∷◌, slice_get, Some, refl, sym, ap, ◌∙◌, subst, arith}
use Rattle.std.proofs.lemmas.Bool.{cases_lt, cases_eq}
use Rattle.std.proofs.lemmas.Option.{slice_get-get_or}
use Rattle.csa_chain.specs.SeveralChains.{occurrences_of, sum_of_first, ChainsPartitionAreas, AreLinksDistinct}
use Rattle.csa_chain.proofs.SeveralLaws.{sum_below-at, times-there, times-other}
use Rattle.tcd_plan.specs.PlanData.{PlanData}
use Rattle.tc_machine.specs.PlanAreas.{first_link, plan_areas}
use Rattle.tc_machine.proofs.PlanLaws.{length-links_up, get_or-links_up}
use Rattle.task_chains.specs.SafeTasksInWords.{IsLinkAtPlaceOfList}
use Rattle.task_chains.proofs.Alike.{area_at}
use Rattle.task_chains.proofs.Twins.{areas_once}

-- ---- one list
times-more : (l x : ℕ) (xs : List ℕ) → occurrences_of l xs ≤ occurrences_of l (x ∷ xs)
times-more l x xs =
    elim (cases_eq x l) [
      | inl same ↦ let e = times-there l x xs same in omega arith
      | inr apart ↦ let e = times-other l x xs apart in omega arith
    ]

-- what is in a list is there at least once
times-at : (l : ℕ) (ls : List ℕ) (k : ℕ) → slice_get ls k ≡ Some l → 1 ≤ occurrences_of l ls
times-at l [] k e = cc
times-at l (x ∷ xs) zero e = let same : x ≡ l = cc in let one = times-there l x xs same in omega arith
times-at l (x ∷ xs) (suc k) e = let rest = times-at l xs k e in let more = times-more l x xs in omega arith

-- what is in a list has a place
place_in : (l : ℕ) (ls : List ℕ) → 1 ≤ occurrences_of l ls → (k : ℕ) × (slice_get ls k ≡ Some l)
place_in l [] some = absurd (omega arith)
place_in l (x ∷ xs) some =
    elim (cases_eq x l) [
      | inl same ↦ (0, ap Some same)
      | inr apart ↦ let other = times-other l x xs apart in let rest = place_in l xs (omega arith) in (suc rest.0, rest.1)
    ]

-- what is there at most once has at most one place
one_in : (l : ℕ) (ls : List ℕ) (k j : ℕ) → occurrences_of l ls ≤ 1 → slice_get ls k ≡ Some l → slice_get ls j ≡ Some l → k ≡ j
one_in l [] k j few a b = cc
one_in l (x ∷ xs) zero zero few a b = refl
one_in l (x ∷ xs) zero (suc j) few a b = let same : x ≡ l = cc in let one = times-there l x xs same in let more = times-at l xs j b in absurd (omega arith)
one_in l (x ∷ xs) (suc k) zero few a b = let same : x ≡ l = cc in let one = times-there l x xs same in let more = times-at l xs k a in absurd (omega arith)
one_in l (x ∷ xs) (suc k) (suc j) few a b = let more = times-more l x xs in ap suc (one_in l xs k j (omega arith) a b)

-- what has at most one place is there at most once
few_in : (l : ℕ) (ls : List ℕ) → ((k j : ℕ) → slice_get ls k ≡ Some l → slice_get ls j ≡ Some l → k ≡ j) → occurrences_of l ls ≤ 1
few_in l [] one = omega arith
few_in l (x ∷ xs) one =
    elim (cases_eq x l) [
      | inl same ↦
          let here = times-there l x xs same in
          elim (cases_lt 0 (occurrences_of l xs)) [
            | inl more ↦ let p = place_in l xs (omega arith) in let e = one 0 (suc p.0) (ap Some same) p.1 in absurd (omega arith)
            | inr none ↦ omega arith
          ]
      | inr apart ↦
          let rest = few_in l xs (λ k j a b. let e = one (suc k) (suc j) a b in omega arith) in
          omega (arith, times-other l x xs apart)
    ]

-- ---- sums
term_of : (n : ℕ) (f : ℕ → ℕ) → 1 ≤ sum_of_first n f → (u : ℕ) × (u < n) × (1 ≤ f u)
term_of zero f some = absurd (omega arith)
term_of (suc n) f some =
    elim (cases_lt 0 (f n)) [
      | inl here ↦ (n, omega arith, omega arith)
      | inr none ↦ let rest = term_of n f (omega arith) in (rest.0, (let lt = rest.1 in omega arith), rest.2)
    ]

two_terms : (n : ℕ) (f : ℕ → ℕ) (u v : ℕ) → u < n → v < n → u ≢ v → f u + f v ≤ sum_of_first n f
two_terms zero f u v a b apart = absurd (omega arith)
two_terms (suc n) f u v a b apart =
    elim (cases_eq u n) [
      | inl same ↦ let e : f u ≡ f n = ap f same in let rest = sum_below-at n f v (omega arith) in omega arith
      | inr off ↦ elim (cases_eq v n) [
        | inl same ↦ let e : f v ≡ f n = ap f same in let rest = sum_below-at n f u (omega arith) in omega arith
        | inr away ↦ let rest = two_terms n f u v (omega arith) (omega arith) apart in omega arith
      ]
    ]

few_terms : (n : ℕ) (f : ℕ → ℕ) → ((u : ℕ) → u < n → f u ≤ 1) → ((u v : ℕ) → u < n → v < n → 1 ≤ f u → 1 ≤ f v → u ≡ v) → sum_of_first n f ≤ 1
few_terms zero f few one = omega arith
few_terms (suc n) f few one =
    let last = few n (omega arith) in
    let rest = few_terms n f (λ u lt. few u (omega arith)) (λ u v a b. one u v (omega arith) (omega arith)) in
    elim (cases_lt 0 (f n)) [
      | inl here ↦ elim (cases_lt 0 (sum_of_first n f)) [
        | inl some ↦
            let t = term_of n f (omega arith) in
            let e = one t.0 n (omega arith) (omega arith) t.2 (omega arith) in
            absurd (omega (arith, t.1))
        | inr none ↦ omega arith
      ]
      | inr none ↦ omega arith
    ]

-- the sum of lesser numbers is lesser
pub sum_below-less : (n : ℕ) (f g : ℕ → ℕ) → ((u : ℕ) → u < n → f u ≤ g u) → sum_of_first n f ≤ sum_of_first n g
sum_below-less zero f g less = omega arith
sum_below-less (suc n) f g less =
    let last = less n (omega arith) in
    let rest = sum_below-less n f g (λ u lt. less u (omega arith)) in
    omega arith

-- ---- from counts to places
module _ (n : ℕ) (used : ℕ → List ℕ) (free areas : List ℕ) (share : ChainsPartitionAreas n used free areas) where
  pub place_of : (l : ℕ) → 1 ≤ occurrences_of l areas → (u : ℕ) × (place : ℕ) × IsLinkAtPlaceOfList n used free l u place
  place_of l some =
      let all = share.each l in
      elim (cases_lt 0 (occurrences_of l free)) [
        | inl here ↦ let p = place_in l free (omega arith) in (n, p.0, inr (refl, p.1))
        | inr none ↦ let t = term_of n (λ u. occurrences_of l (used u)) (omega arith) in let p = place_in l (used t.0) t.2 in (t.0, p.0, inl (t.1, p.1))
      ]

  pub among : (l u place : ℕ) → IsLinkAtPlaceOfList n used free l u place → 1 ≤ occurrences_of l areas
  among l u place (inl h) = omega (arith, share.each l, times-at l (used u) place h.1, sum_below-at n (λ w. occurrences_of l (used w)) u h.0)
  among l u place (inr h) = let all = share.each l in let one = times-at l free place h.1 in omega arith

  pub one_place : AreLinksDistinct areas → (l u v i j : ℕ) → IsLinkAtPlaceOfList n used free l u i → IsLinkAtPlaceOfList n used free l v j → (u ≡ v) × (i ≡ j)
  one_place once l u v i j (inl a) (inl b) =
      let all = share.each l in
      let most = once l in
      elim (cases_eq u v) [
        | inl same ↦
            let here = sum_below-at n (λ w. occurrences_of l (used w)) u a.0 in
            (same, one_in l (used u) i j (omega arith) a.1 (subst (λ w. slice_get (used w) j ≡ Some l) (sym same) b.1))
        | inr apart ↦
            absurd (omega (arith, times-at l (used u) i a.1, times-at l (used v) j b.1, two_terms n (λ w. occurrences_of l (used w)) u v a.0 b.0 apart))
      ]
  one_place once l u v i j (inl a) (inr b) =
      absurd (omega (arith, share.each l, once l, times-at l (used u) i a.1, sum_below-at n (λ w. occurrences_of l (used w)) u a.0, times-at l free j b.1))
  one_place once l u v i j (inr a) (inl b) =
      absurd (omega (arith, share.each l, once l, times-at l (used v) j b.1, sum_below-at n (λ w. occurrences_of l (used w)) v b.0, times-at l free i a.1))
  one_place once l u v i j (inr a) (inr b) = let all = share.each l in let most = once l in (a.0 ∙ sym b.0, one_in l free i j (omega arith) a.1 b.1)

-- ---- the areas of a plan
-- each is there at least once
pub area_times : (plan : PlanData) (i : ℕ) → i < plan.areas → 1 ≤ occurrences_of (first_link plan + i) (plan_areas plan)
area_times plan i lt =
    let long = length-links_up (first_link plan) plan.areas in
    times-at (first_link plan + i) (plan_areas plan) i
    (slice_get-get_or (plan_areas plan) i 0 (subst (λ k. i < k) (sym long) lt) ∙ ap Some (get_or-links_up (first_link plan) plan.areas i lt))

pub area_of : (plan : PlanData) (l : ℕ) → 1 ≤ occurrences_of l (plan_areas plan) → (i : ℕ) × (i < plan.areas) × (l ≡ first_link plan + i)
area_of plan l some = area_at (first_link plan) plan.areas l (λ none. absurd (omega arith))

-- ---- from places to counts
module _ (plan : PlanData) (n : ℕ) (used : ℕ → List ℕ) (free : List ℕ) (places : (i : ℕ) → i < plan.areas → (u : ℕ) × (place : ℕ) × IsLinkAtPlaceOfList n used free (first_link plan + i) u place)
    (once : (l u v i j : ℕ) → IsLinkAtPlaceOfList n used free l u i → IsLinkAtPlaceOfList n used free l v j → (u ≡ v) × (i ≡ j))
    (areas : (l u place : ℕ) → IsLinkAtPlaceOfList n used free l u place → (i : ℕ) × (i < plan.areas) × (l ≡ first_link plan + i)) where
  few_all : (l : ℕ) → sum_of_first n (λ u. occurrences_of l (used u)) + occurrences_of l free ≤ 1
  few_all l =
      let few_used =
      few_terms n (λ u. occurrences_of l (used u)) (λ u lt. few_in l (used u) (λ k j a b. (once l u u k j (inl (lt, a)) (inl (lt, b))).1))
      (λ u v a b here there.
      let p = place_in l (used u) here in
      let q = place_in l (used v) there in
      (once l u v p.0 q.0 (inl (a, p.1)) (inl (b, q.1))).0)
      in
      let few_free = few_in l free (λ k j a b. (once l n n k j (inr (refl, a)) (inr (refl, b))).1) in
      elim (cases_lt 0 (occurrences_of l free)) [
        | inl here ↦ elim (cases_lt 0 (sum_of_first n (λ u. occurrences_of l (used u)))) [
          | inl some ↦
              let t = term_of n (λ u. occurrences_of l (used u)) (omega arith) in
              let p = place_in l (used t.0) t.2 in
              let q = place_in l free (omega arith) in
              absurd (omega (arith, (once l t.0 n p.0 q.0 (inl (t.1, p.1)) (inr (refl, q.1))).0, t.1))
          | inr none ↦ omega arith
        ]
        | inr none ↦ omega arith
      ]

  -- what has a place is counted
  counted : (l u place : ℕ) → IsLinkAtPlaceOfList n used free l u place → 1 ≤ sum_of_first n (λ u. occurrences_of l (used u)) + occurrences_of l free
  counted l u place (inl h) = omega (arith, times-at l (used u) place h.1, sum_below-at n (λ w. occurrences_of l (used w)) u h.0)
  counted l u place (inr h) = let one = times-at l free place h.1 in omega arith

  -- what is counted has a place, so it is an area
  count_of : (l : ℕ) → 1 ≤ sum_of_first n (λ u. occurrences_of l (used u)) + occurrences_of l free → (i : ℕ) × (i < plan.areas) × (l ≡ first_link plan + i)
  count_of l some =
      elim (cases_lt 0 (occurrences_of l free)) [
        | inl here ↦ let p = place_in l free (omega arith) in areas l n p.0 (inr (refl, p.1))
        | inr none ↦ let t = term_of n (λ u. occurrences_of l (used u)) (omega arith) in let p = place_in l (used t.0) t.2 in areas l t.0 p.0 (inl (t.1, p.1))
      ]

  pub each_of : (l : ℕ) → sum_of_first n (λ u. occurrences_of l (used u)) + occurrences_of l free ≡ occurrences_of l (plan_areas plan)
  each_of l =
      let few = few_all l in
      let most = areas_once plan l in
      elim (cases_lt 0 (occurrences_of l (plan_areas plan))) [
        | inl some ↦
            let a = area_of plan l (omega arith) in
            let p = places a.0 a.1 in
            let one = counted (first_link plan + a.0) p.0 p.1 p.2 in
            omega (arith, subst (λ k. 1 ≤ sum_of_first n (λ u. occurrences_of k (used u)) + occurrences_of k free) (sym a.2) one)
        | inr none ↦ elim (cases_lt 0 (sum_of_first n (λ u. occurrences_of l (used u)) + occurrences_of l free)) [
          | inl some ↦
              let a = count_of l (omega arith) in
              absurd (omega (arith, subst (λ k. 1 ≤ occurrences_of k (plan_areas plan)) (sym a.2) (area_times plan a.0 a.1)))
          | inr neither ↦ omega arith
        ]
      ]
