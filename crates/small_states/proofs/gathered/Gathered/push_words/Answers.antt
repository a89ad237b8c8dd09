use Rattle.std.proofs.Common.{◌≤◌, ◌∙◌, ◌+◌, ◌++◌, ℕ, List, get_or, length, take, ap, sym, arith}
use Rattle.std.proofs.lemmas.List.{append-nil, append_assoc, take_all}
use Rattle.std.specs.List.{flat_map}
use Rattle.tcd_base.specs.Bytes.{bytes_of_word}
use Rattle.small_states.proofs.ZeroLemmas.{word_behind, word_taken, words_more}
use Rattle.small_states.proofs.gathered.Gathered.push_words.Goals as goal

pub loop-n-init : goal.loop-n-init
loop-n-init c = (
  c.self.invariant,
  c.self.view_is ∙ sym (append-nil c.args.self.now),
  omega (arith, ap (λ (l : List ℕ). length l) c.self.view_is, c.self.invariant.long),
)

pub loop-n-preserved : goal.loop-n-preserved
loop-n-preserved c =
    let words = c.args.words.now in
    let n = c.loop-n.n in
    let at = c.loop-n.at in
    let bytes = c.loop-n.self-inside.bytes in
    let x : ℕ = get_or words n 0 in
    let lt = c.loop-n-test.true in
    let room : at + 4 ≤ 192 = omega (arith, c.requires, c.loop-n.invariant.2, lt) in
    rw c.to_le_bytes-word.ensures (
      word_behind bytes at c.loop-n.invariant.0 x room,
      word_taken bytes at c.loop-n.invariant.0 x room
          ∙ ap (λ (l : List ℕ). l ++ bytes_of_word x) c.loop-n.invariant.1
          ∙ append_assoc c.args.self.now (flat_map bytes_of_word (take n words)) (bytes_of_word x)
          ∙ ap (λ (l : List ℕ). c.args.self.now ++ l) (words_more words n lt),
      omega (arith, c.loop-n.invariant.2),
    )

pub invariant_of-self : goal.invariant_of-self
invariant_of-self c = c.loop-n.invariant.0

pub returns : goal.returns
returns c =
    c.loop-n.invariant.1
    ∙ ap (λ (l : List ℕ). c.args.self.now ++ flat_map bytes_of_word l) (take_all c.loop-n.n c.args.words.now (let end = c.loop-n-test.false in omega (arith, end)))
