use Rattle.std.proofs.Common.{◌∙◌, ◌∷◌, [], ℕ, get_or, sym, ap, subst, arith}
use Rattle.value_domain.specs.declared.values.Val.TheVariants.{Set}
use Rattle.depth_cert.specs.Points.{IsWellFormedCertValue}
use Rattle.packed_cert.proofs.ValueShapes.{stands_at, one_inside, one_value, long_set, long_span, set_good}
use Rattle.packed_cert.proofs.values_at_places.read_value_at_offset.Goals as goal

pub bounds-bytes-place : goal.bounds-bytes-place
bounds-bytes-place c = (stands_at c.args.version c.args.bytes.now c.args.place (λ k. (c.type_inv.bytes k).fits) c.requires).inside

pub returns-then-tag-eq0 : goal.returns-then-tag-eq0
returns-then-tag-eq0 c =
    let s = stands_at c.args.version c.args.bytes.now c.args.place (λ k. (c.type_inv.bytes k).fits) c.requires in
    c.write_any.ensures ∙ sym (s.shape.any (omega (arith, c.if-tag-eq0.true)))

pub word_at_offset-requires : goal.word_at_offset-requires
word_at_offset-requires c =
    let s = stands_at c.args.version c.args.bytes.now c.args.place (λ k. (c.type_inv.bytes k).fits) c.requires in
    one_inside c.args.bytes.now c.args.place (omega (arith, c.if-tag-eq1.true)) s.within

pub returns-then-tag-eq1 : goal.returns-then-tag-eq1
returns-then-tag-eq1 c =
    let s = stands_at c.args.version c.args.bytes.now c.args.place (λ k. (c.type_inv.bytes k).fits) c.requires in
    c.set_words.ensures ∙ ap (λ (x : ℕ). Set (x ∷ [])) c.word_at_offset.ensures ∙ sym (one_value c.args.version c.args.bytes.now c.args.place (omega (arith, c.if-tag-eq1.true)) s)

pub word_at_offset-lo-requires : goal.word_at_offset-lo-requires
word_at_offset-lo-requires c =
    let s = stands_at c.args.version c.args.bytes.now c.args.place (λ k. (c.type_inv.bytes k).fits) c.requires in
    omega (arith, s.within, long_span (get_or c.args.bytes.now c.args.place 0) (omega (arith, c.if-tag-gt-MOST_WORDS.true)))

pub word_at_offset-last-requires : goal.word_at_offset-last-requires
word_at_offset-last-requires c =
    let s = stands_at c.args.version c.args.bytes.now c.args.place (λ k. (c.type_inv.bytes k).fits) c.requires in
    omega (arith, s.within, long_span (get_or c.args.bytes.now c.args.place 0) (omega (arith, c.if-tag-gt-MOST_WORDS.true)))

pub overflow_sub-tag : goal.overflow_sub-tag
overflow_sub-tag c = ((stands_at c.args.version c.args.bytes.now c.args.place (λ k. (c.type_inv.bytes k).fits) c.requires).shape.span (omega (arith, c.if-tag-gt-MOST_WORDS.true))).0

pub returns-then-tag-gt-MOST_WORDS : goal.returns-then-tag-gt-MOST_WORDS
returns-then-tag-gt-MOST_WORDS c =
    let s = stands_at c.args.version c.args.bytes.now c.args.place (λ k. (c.type_inv.bytes k).fits) c.requires in
    (rw (c.word_at_offset-lo.ensures, c.word_at_offset-last.ensures) at c.set_span.ensures) ∙ sym (s.shape.span (omega (arith, c.if-tag-gt-MOST_WORDS.true))).1

pub is_set_of_words_at-requires : goal.is_set_of_words_at-requires
is_set_of_words_at-requires c =
    let s = stands_at c.args.version c.args.bytes.now c.args.place (λ k. (c.type_inv.bytes k).fits) c.requires in
    omega (arith, s.within, long_set (get_or c.args.bytes.now c.args.place 0) (omega (arith, c.if-tag-eq0.false)) (omega (arith, c.if-tag-gt-MOST_WORDS.false)))

pub returns-then-is_set_of_words_at : goal.returns-then-is_set_of_words_at
returns-then-is_set_of_words_at c =
    let s = stands_at c.args.version c.args.bytes.now c.args.place (λ k. (c.type_inv.bytes k).fits) c.requires in
    c.is_set_of_words_at.ensures c.if-is_set_of_words_at.true ∙ sym (s.shape.set (omega (arith, c.if-tag-eq0.false)) (omega (arith, c.if-tag-gt-MOST_WORDS.false)))

pub read_set_at_offset-requires-clause-within : goal.read_set_at_offset-requires-clause-within
read_set_at_offset-requires-clause-within c =
    let s = stands_at c.args.version c.args.bytes.now c.args.place (λ k. (c.type_inv.bytes k).fits) c.requires in
    omega (arith, s.within, long_set (get_or c.args.bytes.now c.args.place 0) (omega (arith, c.if-tag-eq0.false)) (omega (arith, c.if-tag-gt-MOST_WORDS.false)))

pub read_set_at_offset-requires-clause-words : goal.read_set_at_offset-requires-clause-words
read_set_at_offset-requires-clause-words c =
    let s = stands_at c.args.version c.args.bytes.now c.args.place (λ k. (c.type_inv.bytes k).fits) c.requires in
    set_good c.args.version _ (subst (IsWellFormedCertValue c.args.version) (s.shape.set (omega (arith, c.if-tag-eq0.false)) (omega (arith, c.if-tag-gt-MOST_WORDS.false))) s.well)

pub read_set_at_offset-requires-else-tag-le8-clause-within : goal.read_set_at_offset-requires-else-tag-le8-clause-within
read_set_at_offset-requires-else-tag-le8-clause-within c =
    let s = stands_at c.args.version c.args.bytes.now c.args.place (λ k. (c.type_inv.bytes k).fits) c.requires in
    omega (arith, s.within, long_set (get_or c.args.bytes.now c.args.place 0) (omega (arith, c.if-tag-eq0.false)) (omega (arith, c.if-tag-gt-MOST_WORDS.false)))

pub read_set_at_offset-requires-else-tag-le8-clause-words : goal.read_set_at_offset-requires-else-tag-le8-clause-words
read_set_at_offset-requires-else-tag-le8-clause-words c =
    let s = stands_at c.args.version c.args.bytes.now c.args.place (λ k. (c.type_inv.bytes k).fits) c.requires in
    set_good c.args.version _ (subst (IsWellFormedCertValue c.args.version) (s.shape.set (omega (arith, c.if-tag-eq0.false)) (omega (arith, c.if-tag-gt-MOST_WORDS.false))) s.well)

pub returns-then-tag-le8 : goal.returns-then-tag-le8
returns-then-tag-le8 c =
    let s = stands_at c.args.version c.args.bytes.now c.args.place (λ k. (c.type_inv.bytes k).fits) c.requires in
    c.read_set_at_offset.ensures ∙ sym (s.shape.set (omega (arith, c.if-tag-eq0.false)) (omega (arith, c.if-tag-gt-MOST_WORDS.false)))

pub returns-else-tag-le8 : goal.returns-else-tag-le8
returns-else-tag-le8 c =
    let s = stands_at c.args.version c.args.bytes.now c.args.place (λ k. (c.type_inv.bytes k).fits) c.requires in
    c.read_set_at_offset-else-tag-le8.ensures ∙ sym (s.shape.set (omega (arith, c.if-tag-eq0.false)) (omega (arith, c.if-tag-gt-MOST_WORDS.false)))
