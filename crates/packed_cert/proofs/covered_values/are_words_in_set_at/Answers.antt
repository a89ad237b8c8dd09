use Rattle.std.proofs.Common.{◌≡◌, ℕ, ◌+◌, ◌*◌, true, false, get_or, refl, sym, ap, ◌∙◌, subst, arith, inl, inr}
use Rattle.std.proofs.lemmas.Bool.{cases_lt}
use Rattle.tcd_base.specs.Bytes.{word_in_bytes}
use Rattle.value_domain.specs.Sets.{Among}
use Rattle.value_domain.proofs.Loops.{among_get}
use Rattle.value_domain.proofs.WordLaws.{among_place}
use Rattle.packed_cert.specs.ValuesInBytes.{words_in_bytes}
use Rattle.packed_cert.proofs.BelowLaws.{passed_more, not_among, among_here, rising_places}
use Rattle.packed_cert.proofs.covered_values.are_words_in_set_at.Goals as goal
use Rattle.packed_cert.proofs.covered_values.are_words_in_set_at.Goals.{then-k-n-via-then-k-n, then-k-n-via-else-k-n+then-word_at_offset-x}

pub returns-then-k-n : goal.returns-then-k-n
returns-then-k-n c = (
  (λ t. absurd (let g : false ≡ true = t in cc)),
  (λ within. absurd (not_among c.args.bytes.now c.args.place c.args.n c.first_word_at_least-k.result (get_or c.args.own.now c.loop-x.x-index 0) c.requires.words (passed_more c.args.bytes.now c.args.place c.loop-x.k c.first_word_at_least-k.result _ (c.loop-x.invariant.below c.loop-x-test.true) c.first_word_at_least-k.ensures.below) c.first_word_at_least-k.ensures.end c.first_word_at_least-k.ensures.reached
      (λ h e.
      elim c.then-k-n.branch [
        | then-k-n-via-then-k-n w ↦ omega (arith, w.if-k-n.true)
        | then-k-n-via-else-k-n+then-word_at_offset-x w ↦ w.if-word_at_offset-x.true (w.word_at_offset.ensures ∙ e)
      ])
      (within (get_or c.args.own.now c.loop-x.x-index 0) (among_get c.args.own.now c.loop-x.x-index c.loop-x-test.true)))),
)

pub loop-x-preserved : goal.loop-x-preserved
loop-x-preserved c =
    let x = get_or c.args.own.now c.loop-x.x-index 0 in
    let here = among_here c.args.bytes.now c.args.place c.args.n c.first_word_at_least-k.result x (omega (arith, c.first_word_at_least-k.ensures.end, c.if-k-n.false)) (sym c.word_at_offset.ensures ∙ c.if-word_at_offset-x.false) in
    record {
      end = omega (arith, c.first_word_at_least-k.ensures.end, c.if-k-n.false);
      among = λ i h. elim (cases_lt i c.loop-x.x-index) [
        | inl lt ↦ c.loop-x.invariant.among i lt
        | inr ge ↦ let e : c.loop-x.x-index ≡ i = omega arith in subst (λ (k : ℕ). Among (get_or c.args.own.now k 0) (words_in_bytes c.args.bytes.now c.args.place c.args.n)) e here
      ];
      below = λ h j l.
          let next = rising_places c.args.own.now c.requires.own c.loop-x.x-index (c.loop-x.x-index + 1) (omega arith) h in
          elim (cases_lt j c.first_word_at_least-k.result) [
            | inl lt ↦
                let low = passed_more c.args.bytes.now c.args.place c.loop-x.k c.first_word_at_least-k.result _ (c.loop-x.invariant.below (c.loop-x-test.true)) c.first_word_at_least-k.ensures.below j lt in
                omega arith
            | inr ge ↦
                let same : c.first_word_at_least-k.result ≡ j = omega arith in
                let is : word_in_bytes c.args.bytes.now (c.args.place + 4 * j) ≡ x = ap (λ (k : ℕ). word_in_bytes c.args.bytes.now (c.args.place + 4 * k)) (sym same) ∙ sym c.word_at_offset.ensures ∙ c.if-word_at_offset-x.false in
                omega arith
          ];
    }

pub returns : goal.returns
returns c = (
  (λ t x i. let p = among_place c.args.own.now x i in subst (λ (y : ℕ). Among y (words_in_bytes c.args.bytes.now c.args.place c.args.n)) p.2 (c.loop-x.invariant.among p.0 (omega (arith, p.1)))),
  (λ within. refl),
)
