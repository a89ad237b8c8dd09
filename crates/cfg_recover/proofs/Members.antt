-- Members of lists that are made of other lists, and of what a point owes.
use Rattle.std.proofs.Common.{◌≡◌, ℕ, zero, suc, ◌<◌, Bool, true, List, [], ◌∷◌, ◌++◌, map, length, get_or, Option, Some, inl, inr, refl, sym, ap, ◌∙◌, subst, arith}
use Rattle.std.specs.Prelude.{filter, Contains}
use Rattle.std.specs.List.{flat_map, list_all}
use Rattle.std.proofs.lemmas.Bool.{cases_Bool, and_parts}
use Rattle.std.proofs.lemmas.List.{length-map, get_or-map, get_or_default}
use Rattle.std.proofs.lemmas.List.Elements.{Contains-append_cases, Contains-append_left, Contains-append_right}
use Rattle.elf_image.specs.Images.{ImageData}
use Rattle.tcd_plan.specs.PlanData.{PlanData}
use Rattle.tc_isa.specs.declared.shapes.Shape.{Shape}
use Rattle.value_domain.specs.declared.states.State.{State}
use Rattle.value_domain.specs.Limits.{Limits}
use Rattle.value_domain.specs.Sets.{Among}
use Rattle.value_domain.proofs.WordLaws.{among_place}
use Rattle.depth_cert.specs.declared.keys.Key.{Key}
use Rattle.cfg_recover.specs.Duties.{Owed, owed, jump, branch_duty, successor_duties_of, entry_duties_of, misaligned_duties_of, interrupt_duties_of, exit_duties_of, duties_of}

pub contains_first : {X : Type 0} (x : X) (xs : List X) → Contains (x ∷ xs) x
contains_first x xs = (0, omega arith, refl)

pub contains_among : (xs : List ℕ) (x : ℕ) → Among x xs → Contains xs x
contains_among xs x i = let at = among_place xs x i in (at.0, at.1, get_or_default xs at.0 x 0 at.1 ∙ at.2)

pub contains_map : {X Y : Type 0} (f : X → Y) (xs : List X) (x : X) → Contains xs x → Contains (map f xs) (f x)
contains_map f xs x c = (c.0, omega (arith, length-map xs f, c.1), get_or-map f xs c.0 x (f x) c.1 ∙ ap f c.2)

contains_flat_at : {X A : Type 0} (f : X → List A) (z : A) (x : X) (xs : List X) (k : ℕ) → k < length xs → get_or xs k x ≡ x → Contains (f x) z → Contains (flat_map f xs) z
contains_flat_at f z x [] k lt e c = absurd (omega arith)
contains_flat_at f z x (y ∷ ys) zero lt e c = Contains-append_left (f y) (flat_map f ys) z (subst (λ u. Contains (f u) z) (sym e) c)
contains_flat_at f z x (y ∷ ys) (suc k) lt e c = Contains-append_right (f y) (flat_map f ys) z (contains_flat_at f z x ys k (omega arith) e c)

pub contains_flat : {X A : Type 0} (f : X → List A) (z : A) (x : X) (xs : List X) → Contains xs x → Contains (f x) z → Contains (flat_map f xs) z
contains_flat f z x xs at c = contains_flat_at f z x xs at.0 at.1 at.2 c

contains_filter_at : (p : ℕ → Bool) (x : ℕ) (xs : List ℕ) (k : ℕ) → k < length xs → get_or xs k x ≡ x → p x ≡ true → Contains (filter p xs) x
contains_filter_at p x [] k lt e t = absurd (omega arith)
contains_filter_at p x (y ∷ ys) zero lt e t = let passes : p y ≡ true = ap p e ∙ t in rw passes (0, omega arith, e)
contains_filter_at p x (y ∷ ys) (suc k) lt e t =
    let rest = contains_filter_at p x ys k (omega arith) e t in
    elim (cases_Bool (p y)) [
      | inl passes ↦ rw passes (Contains-append_right (y ∷ []) (filter p ys) x rest)
      | inr fails ↦ rw fails rest
    ]

pub contains_filter : (p : ℕ → Bool) (x : ℕ) (xs : List ℕ) → Contains xs x → p x ≡ true → Contains (filter p xs) x
contains_filter p x xs at t = contains_filter_at p x xs at.0 at.1 at.2 t

pub only_one : {X : Type 0} (x y : X) (k : ℕ) → k < 1 → get_or (x ∷ []) k y ≡ y → x ≡ y
only_one x y zero lt e = e
only_one x y (suc k) lt e = absurd (omega arith)

mapped_at : {X Y : Type 0} (f : X → Y) (xs : List X) (y : Y) (k : ℕ) → k < length (map f xs) → get_or (map f xs) k y ≡ y → (x : X) × Contains xs x × (f x ≡ y)
mapped_at f [] y k lt e = absurd (omega arith)
mapped_at f (x ∷ xs) y zero lt e = (x, contains_first x xs, e)
mapped_at f (x ∷ xs) y (suc k) lt e = let r = mapped_at f xs y k (omega arith) e in (r.0, Contains-append_right (x ∷ []) xs r.0 r.1, r.2)

pub contained_map : {X Y : Type 0} (f : X → Y) (xs : List X) (y : Y) → Contains (map f xs) y → (x : X) × Contains xs x × (f x ≡ y)
contained_map f xs y c = mapped_at f xs y c.0 c.1 c.2

pub contained_flat : {X Y : Type 0} (f : X → List Y) (xs : List X) (y : Y) → Contains (flat_map f xs) y → (x : X) × Contains xs x × Contains (f x) y
contained_flat f [] y c = absurd (omega (arith, c.1))
contained_flat f (x ∷ xs) y c =
    elim (Contains-append_cases (f x) (flat_map f xs) y c) [
      | inl i ↦ (x, contains_first x xs, i)
      | inr i ↦ let r = contained_flat f xs y i in (r.0, Contains-append_right (x ∷ []) xs r.0 r.1, r.2)
    ]

pub contained_filter : (p : ℕ → Bool) (xs : List ℕ) (x : ℕ) → Contains (filter p xs) x → Contains xs x × (p x ≡ true)
contained_filter p [] x c = absurd (omega (arith, c.1))
contained_filter p (y ∷ ys) x c =
    elim (cases_Bool (p y)) [
      | inl t ↦ elim (Contains-append_cases (y ∷ []) (filter p ys) x (rw t at c)) [
        | inl i ↦ let e = only_one y x i.0 i.1 i.2 in (subst (λ (u : ℕ). Contains (y ∷ ys) u) e (contains_first y ys), subst (λ (u : ℕ). p u ≡ true) e t)
        | inr i ↦ let r = contained_filter p ys x i in (Contains-append_right (y ∷ []) ys x r.0, r.1)
      ]
      | inr f ↦ let r = contained_filter p ys x (rw f at c) in (Contains-append_right (y ∷ []) ys x r.0, r.1)
    ]

-- a test that all elements pass is passed by each
pub passes_each : (p : ℕ → Bool) (x : ℕ) (xs : List ℕ) → list_all p xs ≡ true → Among x xs → p x ≡ true
passes_each p x [] all i = absurd i
passes_each p x (y ∷ ys) all (inl e) = ap p e ∙ (and_parts _ _ all).0
passes_each p x (y ∷ ys) all (inr i) = passes_each p x ys (and_parts _ _ all).1 i

-- a side of a branch that is possible is owed
pub contains_jump : (q : ℕ) (o : Option State) (t : State) → o ≡ Some t → Contains (branch_duty q o) (owed 4 (jump q t))
contains_jump q o t e = subst (λ u. Contains (branch_duty q u) (owed 4 (jump q t))) (sym e) (contains_first (owed 4 (jump q t)) [])

module _ (b : Limits) (image : ImageData) (plan : PlanData) (key : Key) (p : ℕ) (s : State) (shape : Shape) (n : ℕ) (d : Owed) where
  -- each part of what a point owes is owed
  pub owes_successor : Contains (successor_duties_of b image plan p s shape n) d → Contains (duties_of b image plan key p s shape n) d
  unfolding duties_of
  owes_successor c = Contains-append_left _ (exit_duties_of key s shape) d (Contains-append_left _ (interrupt_duties_of plan key s) d (Contains-append_left _ (misaligned_duties_of b plan key s shape) d (Contains-append_left _ (entry_duties_of plan key p s shape n) d c)))

  pub owes_entry : Contains (entry_duties_of plan key p s shape n) d → Contains (duties_of b image plan key p s shape n) d
  unfolding duties_of
  owes_entry c =
      Contains-append_left _ (exit_duties_of key s shape) d (Contains-append_left _ (interrupt_duties_of plan key s) d (Contains-append_left _ (misaligned_duties_of b plan key s shape) d (Contains-append_right (successor_duties_of b image plan p s shape n) _ d c)))

  pub owes_misaligned : Contains (misaligned_duties_of b plan key s shape) d → Contains (duties_of b image plan key p s shape n) d
  unfolding duties_of
  owes_misaligned c = Contains-append_left _ (exit_duties_of key s shape) d (Contains-append_left _ (interrupt_duties_of plan key s) d (Contains-append_right (successor_duties_of b image plan p s shape n ++ entry_duties_of plan key p s shape n) _ d c))

  pub owes_interrupt : Contains (interrupt_duties_of plan key s) d → Contains (duties_of b image plan key p s shape n) d
  unfolding duties_of
  owes_interrupt c =
      Contains-append_left _ (exit_duties_of key s shape) d (Contains-append_right (successor_duties_of b image plan p s shape n ++ entry_duties_of plan key p s shape n ++ misaligned_duties_of b plan key s shape) _ d c)

  pub owes_leaving : Contains (exit_duties_of key s shape) d → Contains (duties_of b image plan key p s shape n) d
  unfolding duties_of
  owes_leaving c =
      Contains-append_right (successor_duties_of b image plan p s shape n ++ entry_duties_of plan key p s shape n ++ misaligned_duties_of b plan key s shape ++ interrupt_duties_of plan key s) _ d c
