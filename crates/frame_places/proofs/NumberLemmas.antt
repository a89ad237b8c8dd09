-- Numbers of frames.
use Rattle.std.proofs.Common.{◌≡◌, inl, inr, ℕ, zero, suc, ◌+◌, ◌<◌, Bool, true, false, List, [], ◌∷◌, length, get_or, take, Some, refl, sym, ap, ◌∙◌, subst, arith, Contains}
use Rattle.std.specs.Prelude.{if◌then◌else◌}
use Rattle.std.specs.List.{AllByRecursion, IsDistinct}
use Rattle.std.proofs.lemmas.List.{take_more}
use Rattle.std.proofs.lemmas.List.Elements.{Contains-push_cases}
use Rattle.indexmap.specs.IndexMap.{IndexMap, get}
use Rattle.depth_cert.specs.declared.keys.Key.{Key}
use Rattle.depth_cert.specs.Keys.{is_same_key}
use Rattle.frame_places.proofs.KeyLaws.{key_tells, key_same}
use Rattle.frame_places.proofs.SpotLemmas.{equal_keys_are_same, keys_same}
use Rattle.frame_places.proofs.MarkLemmas.{sides}
use Rattle.frame_places.specs.Numbers.{frame_key_eq, frame_number_in, AreFrameNumbers}

pub eq_tells : (k j : Key) → frame_key_eq k j ≡ true → k ≡ j
eq_tells k j e = equal_keys_are_same k j e

pub eq_same : (k : Key) → frame_key_eq k k ≡ true
eq_same k = keys_same k

-- the number of a frame of the list
number_step : (t : Bool) (n : ℕ) → t ≡ false → (if t then 0 else n + 1) ≡ n + 1
number_step true n e = cc
number_step false n e = refl

number_here : (t : Bool) (n : ℕ) → t ≡ true → (if t then 0 else n + 1) ≡ 0
number_here true n e = refl
number_here false n e = cc

-- a frame of the list is at its number
pub numbered_at : (frames : List Key) (k d : Key) → Contains frames k → (frame_number_in frames k < length frames) × (get_or frames (frame_number_in frames k) d ≡ k)
numbered_at [] k d c = absurd (omega (arith, c.1))
numbered_at (j ∷ js) k d c = at (λ h. numbered_at js k d h) (is_same_key j k) refl where
  tail : is_same_key j k ≡ false → (i : ℕ) → i < length (j ∷ js) → get_or (j ∷ js) i k ≡ k → Contains js k
  tail apart zero lt e = absurd (let f : true ≡ false = sym (key_same k) ∙ ap (λ (z : Key). is_same_key z k) (sym e) ∙ apart in cc)
  tail apart (suc i) lt e = (i, omega arith, e)

  at : (Contains js k → (frame_number_in js k < length js) × (get_or js (frame_number_in js k) d ≡ k)) → (t : Bool) → is_same_key j k ≡ t
      → (frame_number_in (j ∷ js) k < length (j ∷ js)) × (get_or (j ∷ js) (frame_number_in (j ∷ js) k) d ≡ k)
  at more true e = let n = number_here (is_same_key j k) (frame_number_in js k) e in (omega (arith, n), ap (λ i. get_or (j ∷ js) i d) n ∙ key_tells j k e)
  at more false e =
      let r = more (tail e c.0 c.1 c.2) in
      let n : frame_number_in (j ∷ js) k ≡ suc (frame_number_in js k) = number_step (is_same_key j k) (frame_number_in js k) e ∙ omega arith in
      (omega (arith, n, r.0), ap (λ i. get_or (j ∷ js) i d) n ∙ r.1)

-- a frame with a number below the length is in the list
pub number_below : (frames : List Key) (k d : Key) → frame_number_in frames k < length frames → get_or frames (frame_number_in frames k) d ≡ k
number_below [] k d lt = absurd (omega arith)
number_below (j ∷ js) k d lt = at (λ h. number_below js k d h) (is_same_key j k) refl where
  at : (frame_number_in js k < length js → get_or js (frame_number_in js k) d ≡ k) → (t : Bool) → is_same_key j k ≡ t → get_or (j ∷ js) (frame_number_in (j ∷ js) k) d ≡ k
  at more true e = ap (λ i. get_or (j ∷ js) i d) (number_here (is_same_key j k) (frame_number_in js k) e) ∙ key_tells j k e
  at more false e =
      let n : frame_number_in (j ∷ js) k ≡ suc (frame_number_in js k) = number_step (is_same_key j k) (frame_number_in js k) e ∙ omega arith in
      ap (λ i. get_or (j ∷ js) i d) n ∙ more (omega (arith, n))

-- each is there once
each_of : (P : Key → Type 0) (js : List Key) (i : ℕ) (d : Key) → AllByRecursion P js → i < length js → P (get_or js i d)
each_of P [] i d all lt = absurd (omega arith)
each_of P (j ∷ js) zero d all lt = all.0
each_of P (j ∷ js) (suc i) d all lt = each_of P js i d all.1 (omega arith)

apart_at : (j : Key) (js : List Key) (i : ℕ) (d : Key) → IsDistinct is_same_key (j ∷ js) → i < length js → is_same_key j (get_or js i d) ≡ false
unfolding IsDistinct
apart_at j js i d h lt = each_of (λ y. is_same_key j y ≡ false) js i d h.0 lt

distinct_tail : (j : Key) (js : List Key) → IsDistinct is_same_key (j ∷ js) → IsDistinct is_same_key js
unfolding IsDistinct
distinct_tail j js h = h.1

pub number_at : (frames : List Key) (i : ℕ) (d : Key) → IsDistinct is_same_key frames → i < length frames → frame_number_in frames (get_or frames i d) ≡ i
number_at [] i d once lt = absurd (omega arith)
number_at (j ∷ js) zero d once lt = number_here (is_same_key j j) (frame_number_in js j) (key_same j)
number_at (j ∷ js) (suc i) d once lt =
    let r = number_at js i d (distinct_tail j js once) (omega arith) in
    let n = number_step (is_same_key j (get_or js i d)) (frame_number_in js (get_or js i d)) (apart_at j js i d once (omega arith)) in
    omega (arith, r, n)

-- ---- one more
pub numbers_none : {S : Type 0} (numbers : IndexMap Key ℕ S) (frames : List Key) → AreFrameNumbers numbers frames []
numbers_none numbers frames = record { each = λ k c. absurd (omega (arith, c.1)) }

pub numbers_more : {S T : Type 0} (old : IndexMap Key ℕ S) (new : IndexMap Key ℕ T) (frames : List Key) (i : ℕ) (x d : Key) → i < length frames → IsDistinct is_same_key frames → x ≡ get_or frames i d
    → ((q : Key) → get frame_key_eq new q ≡ (if frame_key_eq x q then Some i else get frame_key_eq old q)) → AreFrameNumbers old frames (take i frames) → AreFrameNumbers new frames (take (i + 1) frames)
numbers_more old new frames i x d lt once is after before = record {
  each = λ k c.
      elim (sides (frame_key_eq x k) (Some i) (get frame_key_eq old k) (get frame_key_eq new k) (after k)) [
        | inl l ↦ l.1 ∙ ap (λ (n : ℕ). Some n) (sym (number_at frames i d once lt) ∙ ap (frame_number_in frames) (sym is ∙ eq_tells x k l.0))
        | inr r ↦ r.1 ∙ before.each k (elim (Contains-push_cases (take i frames) (get_or frames i d) k (subst (λ (l : List Key). Contains l k) (take_more frames i d lt) c)) [
          | inl old_one ↦ old_one
          | inr e ↦ absurd (let f : true ≡ false = sym (eq_same k) ∙ ap (λ (z : Key). frame_key_eq z k) (sym (is ∙ e)) ∙ r.0 in cc)
        ])
      ];
}
