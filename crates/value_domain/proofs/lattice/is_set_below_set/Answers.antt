use Rattle.std.proofs.Common.{◌≡◌, ℕ, ◌+◌, true, false, get_or, refl, subst, arith, inl, inr}
use Rattle.std.proofs.lemmas.Bool.{cases_lt}
use Rattle.value_domain.specs.Sets.{Among}
use Rattle.value_domain.proofs.Loops.{among_get}
use Rattle.value_domain.proofs.WordLaws.{among_place}
use Rattle.value_domain.proofs.Places.{passed_more, not_among, among_here, rising_places}
use Rattle.value_domain.proofs.lattice.is_set_below_set.Goals as goal
use Rattle.value_domain.proofs.lattice.is_set_below_set.Goals.{then-k-words-via-then-k-words, then-k-words-via-else-k-words+then-words-k}

pub returns-then-k-words : goal.returns-then-k-words
returns-then-k-words c = (
  (λ t. absurd (let g : false ≡ true = t in cc)),
  (λ within. absurd (not_among c.args.words.now c.lower_bound_from-k.result (get_or c.args.own.now c.loop-x.x-index 0) c.requires.words
      (passed_more c.args.words.now c.loop-x.k c.lower_bound_from-k.result _ (c.loop-x.invariant.below c.loop-x-test.true) c.lower_bound_from-k.ensures.below)
      c.lower_bound_from-k.ensures.reached
      (λ h e.
      elim c.then-k-words.branch [
        | then-k-words-via-then-k-words w ↦ omega (arith, w.if-k-words.true)
        | then-k-words-via-else-k-words+then-words-k w ↦ w.if-words-k.true e
      ])
      (within (get_or c.args.own.now c.loop-x.x-index 0) (among_get c.args.own.now c.loop-x.x-index c.loop-x-test.true)))),
)

pub loop-x-preserved : goal.loop-x-preserved
loop-x-preserved c =
    let x = get_or c.args.own.now c.loop-x.x-index 0 in
    let here = among_here c.args.words.now c.lower_bound_from-k.result x (omega (arith, c.lower_bound_from-k.ensures.end, c.if-k-words.false)) c.if-words-k.false in
    record {
      end = c.lower_bound_from-k.ensures.end;
      among = λ i h. elim (cases_lt i c.loop-x.x-index) [
        | inl lt ↦ c.loop-x.invariant.among i lt
        | inr ge ↦ let e : c.loop-x.x-index ≡ i = omega arith in subst (λ (k : ℕ). Among (get_or c.args.own.now k 0) c.args.words.now) e here
      ];
      below = λ h j l. let low = passed_more c.args.words.now c.loop-x.k c.lower_bound_from-k.result _ (c.loop-x.invariant.below c.loop-x-test.true) c.lower_bound_from-k.ensures.below j l in let next = rising_places c.args.own.now c.requires.own c.loop-x.x-index (c.loop-x.x-index + 1) (omega arith) h in omega arith;
    }

pub returns : goal.returns
returns c = (
  (λ t x i. let p = among_place c.args.own.now x i in subst (λ (y : ℕ). Among y c.args.words.now) p.2 (c.loop-x.invariant.among p.0 (omega (arith, p.1)))),
  (λ within. refl),
)
