use Rattle.std.proofs.Common.{◌+◌, ◌∙◌, refl, sym, subst, arith, get_or}
use Rattle.std.specs.Prelude.{IsTrue, ◌↔◌}
use Rattle.value_domain.specs.declared.values.Val.{Val}
use Rattle.value_domain.specs.declared.values.Val.TheVariants.{Set}
use Rattle.value_domain.specs.Values.{IsBelow, IsMember}
use Rattle.value_domain.proofs.RangeLaws.{below_any}
use Rattle.depth_cert.specs.Points.{IsWellFormedCertValue}
use Rattle.packed_cert.specs.ValuesInBytes.{words_in_bytes}
use Rattle.packed_cert.proofs.ValueShapes.{stands_at, long_set, set_rising}
use Rattle.packed_cert.proofs.values_at_places.is_below_value_at.Goals as goal

pub bounds-bytes-place : goal.bounds-bytes-place
bounds-bytes-place c = (stands_at c.args.version c.args.bytes.now c.args.place (λ k. (c.type_inv.bytes k).fits) c.requires.stands).inside

pub returns-then-tag-eq0 : goal.returns-then-tag-eq0
returns-then-tag-eq0 c =
    let s = stands_at c.args.version c.args.bytes.now c.args.place (λ k. (c.type_inv.bytes k).fits) c.requires.stands in
    ((λ t. subst (λ (w : Val). IsBelow c.args.v.now w) (sym (s.shape.any (omega (arith, c.if-tag-eq0.true)))) (below_any c.args.v.now c.requires.well)), (λ below. refl))

pub is_set_of_words_at-requires : goal.is_set_of_words_at-requires
is_set_of_words_at-requires c =
    let s = stands_at c.args.version c.args.bytes.now c.args.place (λ k. (c.type_inv.bytes k).fits) c.requires.stands in
    omega (arith, s.within, long_set (get_or c.args.bytes.now c.args.place 0) (omega (arith, c.if-tag-eq0.false)) (omega (arith, c.if-tag-gt-MOST_WORDS.false)))

pub returns-then-is_set_of_words_at : goal.returns-then-is_set_of_words_at
returns-then-is_set_of_words_at c =
    let s = stands_at c.args.version c.args.bytes.now c.args.place (λ k. (c.type_inv.bytes k).fits) c.requires.stands in
    let is = s.shape.set (omega (arith, c.if-tag-eq0.false)) (omega (arith, c.if-tag-gt-MOST_WORDS.false)) in
    ((λ t x m. subst (λ (w : Val). IsMember x w) (c.is_set_of_words_at.ensures c.if-is_set_of_words_at.true ∙ sym is) m), (λ below. refl))

pub are_words_in_set_at-requires-clause-within : goal.are_words_in_set_at-requires-clause-within
are_words_in_set_at-requires-clause-within c =
    let s = stands_at c.args.version c.args.bytes.now c.args.place (λ k. (c.type_inv.bytes k).fits) c.requires.stands in
    omega (arith, s.within, long_set (get_or c.args.bytes.now c.args.place 0) (omega (arith, c.if-tag-eq0.false)) (omega (arith, c.if-tag-gt-MOST_WORDS.false)))

pub are_words_in_set_at-requires-clause-words : goal.are_words_in_set_at-requires-clause-words
are_words_in_set_at-requires-clause-words c =
    let s = stands_at c.args.version c.args.bytes.now c.args.place (λ k. (c.type_inv.bytes k).fits) c.requires.stands in
    set_rising c.args.version _ (subst (IsWellFormedCertValue c.args.version) (s.shape.set (omega (arith, c.if-tag-eq0.false)) (omega (arith, c.if-tag-gt-MOST_WORDS.false))) s.well)

pub returns-in-Set : goal.returns-in-Set
returns-in-Set c =
    let s = stands_at c.args.version c.args.bytes.now c.args.place (λ k. (c.type_inv.bytes k).fits) c.requires.stands in
    let is = s.shape.set (omega (arith, c.if-tag-eq0.false)) (omega (arith, c.if-tag-gt-MOST_WORDS.false)) in
    let words = words_in_bytes c.args.bytes.now (c.args.place + 1) (get_or c.args.bytes.now c.args.place 0) in
    subst (λ (w : Val). IsTrue c.are_words_in_set_at.result ↔ IsBelow c.args.v.now w) (sym is)
    (subst (λ (v : Val). IsTrue c.are_words_in_set_at.result ↔ IsBelow v (Set words)) (sym c.in-Set.is) (rw c.as_slice.ensures.items at c.are_words_in_set_at.ensures))
