-- Ascending words that are among others, up to the first that isn't.
use Rattle.std.proofs.Common.{◌≡◌, ◌∙◌, ◌↔◌, ◌≤◌, ◌<◌, ◌+◌, ◌-◌, ◌++◌, ◌⊎◌, ℕ, zero, suc, List, [], ◌∷◌, Some, length, drop, take, get_or, nat_eq, IsTrue, inl, inr, ap, subst, sym, arith}
use Rattle.std.proofs.lemmas.Bool.{cases_lt, cases_eq, eqb-true, eq-eqb}
use Rattle.std.proofs.lemmas.List.{length-drop, take_all}
use Rattle.value_domain.specs.declared.values.Val.{Val}
use Rattle.value_domain.specs.declared.values.Val.TheVariants.{Set, Span}
use Rattle.value_domain.specs.Limits.{Limits}
use Rattle.value_domain.specs.Sets.{Among, IsAscending, AreAmong}
use Rattle.value_domain.specs.Values.{IsMember, IsInLattice, cover, members, words_of, join_of}
use Rattle.value_domain.proofs.CoverLaws.{cover-same}
use Rattle.value_domain.proofs.ExtentLaws.{among_append, append_left, append_right}
use Rattle.value_domain.proofs.Loops.{among_get}
use Rattle.value_domain.proofs.Places.{Below, among_here, not_among, rising_places}
use Rattle.value_domain.proofs.WordLaws.{among_place}
use Rattle.small_states.proofs.SameValues.{join_below}

-- the first n words are among the others; those of the others that were passed are below the next
-- word
pub record IsWalked (own words : List ℕ) (n k : ℕ) : Type 0 where
  pub end : n ≤ length words
  pub within : k ≤ length own
  pub held : (j : ℕ) → j < n → Among (get_or words j 0) own
  pub below : n < length words → Below own k (get_or words n 0)

pub walk_both : (own words : List ℕ) (n k : ℕ) → IsAscending words → n < length words → k < length own → get_or own k 0 ≡ get_or words n 0 → IsWalked own words n k
    → IsWalked own words (n + 1) (k + 1)
walk_both own words n k rising ln lk e w = record {
  end = omega arith;
  within = omega arith;
  held = λ j h. elim (cases_lt j n) [
    | inl lt ↦ w.held j lt
    | inr ge ↦ let same : n ≡ j = omega arith in subst (λ (i : ℕ). Among (get_or words i 0) own) same (among_here own k (get_or words n 0) lk e)
  ];
  below = λ h j l.
      let next = rising_places words rising n (n + 1) (omega arith) h in
      elim (cases_lt j k) [
        | inl lt ↦ let low = w.below ln j lt in omega (arith, low, next)
        | inr ge ↦ let same : j ≡ k = omega arith in let here : get_or own j 0 ≡ get_or own k 0 = ap (λ (i : ℕ). get_or own i 0) same in omega (arith, here, e, next)
      ];
}

pub walk_own : (own words : List ℕ) (n k : ℕ) → k < length own → get_or own k 0 ≤ get_or words n 0 → (get_or own k 0 ≡ get_or words n 0 → ⊥) → IsWalked own words n k
    → IsWalked own words n (k + 1)
walk_own own words n k lk le other w = record {
  end = w.end;
  within = omega arith;
  held = w.held;
  below = λ h j l.
      elim (cases_lt j k) [
        | inl lt ↦ w.below h j lt
        | inr ge ↦
            let same : j ≡ k = omega arith in
            let here : get_or own j 0 ≡ get_or own k 0 = ap (λ (i : ℕ). get_or own i 0) same in
            elim (cases_eq (get_or own k 0) (get_or words n 0)) [ inl e ↦ absurd (other e) | inr ne ↦ omega (arith, here, le, ne) ]
      ];
}

-- the next of the others is above the word, so the word isn't among them
pub walk_past : (own words : List ℕ) (n k : ℕ) → IsAscending own → (k < length own → get_or words n 0 < get_or own k 0) → IsWalked own words n k → n < length words
    → Among (get_or words n 0) own → ⊥
walk_past own words n k rising above w h i =
    not_among own k (get_or words n 0) rising (w.below h) (λ lt. let up = above lt in omega (arith, up)) (λ lt e. let up = above lt in omega (arith, up, e)) i

-- the value with these words is their set
pub set_of : (v : Val) (words : List ℕ) → Some words ≡ words_of v → v ≡ Set words
set_of (Set own) words e = let same : words ≡ own = cc in ap Set (sym same)
set_of (Span lo last step) words e = absurd cc

-- words with a greater one than all of the others aren't among them
pub past_greatest : (held words : List ℕ) → IsAscending held → 1 ≤ length words → get_or held (length held - 1) 0 < get_or words (length words - 1) 0 → AreAmong words held → ⊥
past_greatest held words rising some over within =
    let p = among_place held (get_or words (length words - 1) 0) (within (get_or words (length words - 1) 0) (among_get words (length words - 1) (omega arith))) in
    elim (cases_lt p.0 (length held - 1)) [
      | inl lt ↦ let low = rising_places held rising p.0 (length held - 1) lt (omega (arith, p.1)) in omega (arith, low, over, p.2)
      | inr ge ↦
          let same : p.0 ≡ length held - 1 = omega (arith, p.1) in
          let here : get_or held p.0 0 ≡ get_or held (length held - 1) 0 = ap (λ (i : ℕ). get_or held i 0) same in
          omega (arith, here, over, p.2)
    ]

pub all_held : (held words : List ℕ) (n : ℕ) → n ≤ length words → ((j : ℕ) → j < n → Among (get_or words j 0) held) → length words ≤ n → AreAmong words held
all_held held words n end have all z i =
    let p = among_place words z i in
    subst (λ (y : ℕ). Among y held) p.2 (have p.0 (omega (arith, p.1)))

-- all of the words are held exactly if none is missing
pub held_all : (held words : List ℕ) (n : ℕ) → n ≤ length words → ((j : ℕ) → j < n → Among (get_or words j 0) held) → (n < length words → Among (get_or words n 0) held → ⊥)
    → IsTrue (nat_eq n (length words)) ↔ AreAmong words held
held_all held words n end have missing = (
  (λ t. all_held held words n end have (let e = eqb-true n (length words) t in omega (arith, e))),
  (λ within. elim (cases_lt n (length words)) [
    | inl lt ↦ absurd (missing lt (within (get_or words n 0) (among_get words n lt)))
    | inr ge ↦ eq-eqb n (length words) (omega arith)
  ]),
)

-- a set joined with some of its own words
pub join_words : (b : Limits) (v w : Val) (held words : List ℕ) → v ≡ Set held → w ≡ Set words → AreAmong words held → IsInLattice b v → v ≡ join_of b v w
join_words b v w held words ve we within value =
    sym
    (join_below b v w value
    (λ z i. subst (λ (u : Val). IsMember z u) (sym ve) (within z (subst (λ (u : Val). Among z (members u)) we i))))

-- words that aren't held come after those that are
pub rest_has : (held words : List ℕ) (n : ℕ) → ((j : ℕ) → j < n → Among (get_or words j 0) held) → (z : ℕ) → Among z words → Among z held ⊎ Among z (drop n words)
rest_has held [] n have z i = absurd i
rest_has held (w ∷ ws) zero have z i = inr i
rest_has held (w ∷ ws) (suc n) have z i =
    elim i [
      | inl e ↦ inl (subst (λ (y : ℕ). Among y held) (sym e) (have 0 (omega arith)))
      | inr j ↦ rest_has held ws n (λ k lt. have (suc k) (omega arith)) z j
    ]

pub drop_among : (words : List ℕ) (n z : ℕ) → Among z (drop n words) → Among z words
drop_among words zero z i = i
drop_among [] (suc n) z i = absurd i
drop_among (w ∷ ws) (suc n) z i = inr (drop_among ws n z i)

-- a set joined with words, by only those that it lacks
pub join_rest : (b : Limits) (v w : Val) (held words : List ℕ) (n : ℕ) → v ≡ Set held → w ≡ Set words → ((j : ℕ) → j < n → Among (get_or words j 0) held)
    → cover b (members v ++ take (length words - n) (drop n words)) ≡ join_of b v w
join_rest b v w held words n ve we have =
    ap (λ (l : List ℕ). cover b (members v ++ l)) (take_all (length words - n) (drop n words) (omega (arith, length-drop n words)))
    ∙ cover-same b (members v ++ drop n words) (members v ++ members w)
    (λ z i. elim (among_append z (members v) (drop n words) i) [
      | inl j ↦ append_left z (members v) (members w) j
      | inr j ↦ append_right z (members v) (members w) (subst (λ (u : Val). Among z (members u)) (sym we) (drop_among words n z j))
    ])
    (λ z i. elim (among_append z (members v) (members w) i) [
      | inl j ↦ append_left z (members v) (drop n words) j
      | inr j ↦ elim (rest_has held words n have z (subst (λ (u : Val). Among z (members u)) we j)) [
        | inl own ↦ append_left z (members v) (drop n words) (subst (λ (u : Val). Among z (members u)) (sym ve) own)
        | inr rest ↦ append_right z (members v) (drop n words) rest
      ]
    ])

-- a set joined with another, by adding the other's words
pub join_others : (b : Limits) (v w : Val) (words held : List ℕ) → v ≡ Set held → w ≡ Set words → cover b (words ++ held) ≡ join_of b v w
join_others b v w words held ve we =
    cover-same b (words ++ held) (members v ++ members w)
    (λ z i. elim (among_append z words held i) [
      | inl j ↦ append_right z (members v) (members w) (subst (λ (u : Val). Among z (members u)) (sym we) j)
      | inr j ↦ append_left z (members v) (members w) (subst (λ (u : Val). Among z (members u)) (sym ve) j)
    ])
    (λ z i. elim (among_append z (members v) (members w) i) [
      | inl j ↦ append_right z words held (subst (λ (u : Val). Among z (members u)) ve j)
      | inr j ↦ append_left z words held (subst (λ (u : Val). Among z (members u)) we j)
    ])
