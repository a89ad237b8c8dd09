use Rattle.std.proofs.Common.{◌≡◌, ◌∙◌, ◌+◌, ◌-◌, ◌++◌, ◌∷◌, [], ℕ, List, drop, length, take, ap, sym, arith}
use Rattle.std.proofs.lemmas.List.{append_assoc, take_all}
use Rattle.std.specs.List.{flat_map}
use Rattle.tcd_base.specs.Bytes.{bytes_of_word}
use Rattle.depth_cert.specs.Spelling.{bytes_of_value}
use Rattle.small_states.proofs.ZeroLemmas.{words_further}
use Rattle.small_states.proofs.gathered.Gathered.push_set.Goals as goal

pub loop-n-init : goal.loop-n-init
loop-n-init c =
    let count : List ℕ = length c.args.words.now ∷ [] in (
      omega arith,
      ap (λ (l : List ℕ). c.make_room.new.out.items ++ l) c.push.ensures
          ∙ sym (append_assoc c.make_room.new.out.items c.make_room.new.self count)
          ∙ ap (λ (l : List ℕ). l ++ count) c.in_ok-make_room.ensures.same,
    )

pub loop-n-preserved : goal.loop-n-preserved
loop-n-preserved c =
    let words = c.args.words.now in
    let n = c.loop-n.n in
    let count = c.min-count.result in
    let out = c.make_room-in-loop-n.new.out.items in
    let self = c.make_room-in-loop-n.new.self in
    let more = flat_map bytes_of_word (take count (drop n words)) in
    let old = c.args.out.now.items ++ c.args.self.now in
    let e : n + count - n ≡ count = omega arith in (
      omega (arith, c.min-count.ensures),
      ap (λ (l : List ℕ). out ++ l) (c.push_words.ensures ∙ ap (λ (m : ℕ). self ++ flat_map bytes_of_word (take m (drop n words))) e)
          ∙ sym (append_assoc out self more)
          ∙ ap (λ (l : List ℕ). l ++ more) (c.in_ok-make_room-2.ensures.same ∙ c.loop-n.invariant.1)
          ∙ append_assoc old (length words ∷ flat_map bytes_of_word (take n words)) more
          ∙ ap (λ (l : List ℕ). old ++ length words ∷ l) (words_further words n count),
    )

pub returns : goal.returns
unfolding bytes_of_value
returns c =
    c.loop-n.invariant.1
    ∙ ap (λ (l : List ℕ). (c.args.out.now.items ++ c.args.self.now) ++ length c.args.words.now ∷ flat_map bytes_of_word l) (take_all c.loop-n.n c.args.words.now (let end = c.loop-n-test.false in omega (arith, end)))
