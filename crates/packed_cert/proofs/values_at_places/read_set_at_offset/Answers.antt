use Rattle.std.proofs.Common.{◌≡◌, ◌+◌, ◌*◌, ◌∙◌, ℕ, List, inl, inr, get_or, set, sym, ap, subst, arith}
use Rattle.std.proofs.lemmas.Bool.{cases_lt}
use Rattle.std.proofs.lemmas.List.{length-set, get_or-set_same, get_or-set_other}
use Rattle.tcd_base.specs.Bytes.{word_in_bytes}
use Rattle.value_domain.specs.Sets.{AreSetWords}
use Rattle.value_domain.specs.declared.values.Val.TheVariants.{Set}
use Rattle.packed_cert.proofs.BelowLaws.{front_words}
use Rattle.packed_cert.proofs.values_at_places.read_set_at_offset.Goals as goal

pub loop-i-preserved : goal.loop-i-preserved
loop-i-preserved g c =
    let i = c.loop-i.i in
    let ws : List ℕ = c.loop-i.words in
    record {
      count = length-set ws i c.word_at_offset.result ∙ c.loop-i.invariant.count;
      each = λ j lt.
          elim (cases_lt j i) [
            | inl low ↦ get_or-set_other ws i j c.word_at_offset.result 0 (λ e. let same : j ≡ i = e in omega arith) ∙ c.loop-i.invariant.each j low
            | inr from ↦
                let same : j ≡ i = omega arith in
                ap (λ (n : ℕ). get_or (set ws i c.word_at_offset.result) n 0) same
                ∙ get_or-set_same ws i c.word_at_offset.result 0 (omega (arith, c.loop-i.invariant.count))
                ∙ c.word_at_offset.ensures
                ∙ ap (λ (n : ℕ). word_in_bytes c.args.bytes.now (c.args.place + 4 * n)) (sym same)
          ];
    }

pub shared_whole_as_front-set_words : goal.shared_whole_as_front-set_words
shared_whole_as_front-set_words g c = (c.requires.few, omega (arith, c.requires.small))

pub set_words-requires : goal.set_words-requires
set_words-requires g c =
    subst AreSetWords
    (sym
    (front_words c.loop-i.words c.args.bytes.now c.args.place c.args.n (omega (arith, c.requires.few, c.loop-i.invariant.count))
    (λ j lt. c.loop-i.invariant.each j (omega (arith, c.loop-i-test.false)))))
    c.requires.words

pub returns : goal.returns
returns g c =
    c.set_words.ensures
    ∙ ap (λ (l : List ℕ). Set l)
    (front_words c.loop-i.words c.args.bytes.now c.args.place c.args.n (omega (arith, c.requires.few, c.loop-i.invariant.count))
    (λ j lt. c.loop-i.invariant.each j (omega (arith, c.loop-i-test.false))))
