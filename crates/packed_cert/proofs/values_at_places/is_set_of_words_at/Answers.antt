use Rattle.std.proofs.Common.{◌≡◌, ◌∙◌, ℕ, List, sym, ap, arith}
use Rattle.std.proofs.lemmas.List.{ext_get_or}
use Rattle.value_domain.specs.declared.values.Val.TheVariants.{Set}
use Rattle.packed_cert.specs.ValuesInBytes.{words_in_bytes}
use Rattle.packed_cert.proofs.BelowLaws.{length-words_at, get-words_at}
use Rattle.packed_cert.proofs.values_at_places.is_set_of_words_at.Goals as goal

pub returns : goal.returns
returns c = λ t.
    let own : List ℕ = c.as_slice-own.result.now in
    let n = c.args.n in
    let there : List ℕ = words_in_bytes c.args.bytes.now c.args.place n in
    let size = length-words_at c.args.bytes.now c.args.place n in
    let same : own ≡ there =
    ext_get_or 0 own there (omega (arith, size, c.if-own-n.false))
    (λ k lt. c.loop-i.invariant k (omega (arith, c.if-own-n.false, c.loop-i-test.false)) ∙ sym (get-words_at c.args.bytes.now c.args.place n k (omega (arith, c.if-own-n.false))))
    in
    c.in-Set.is ∙ ap (λ (l : List ℕ). Set l) (sym c.as_slice-own.ensures.items ∙ same)
