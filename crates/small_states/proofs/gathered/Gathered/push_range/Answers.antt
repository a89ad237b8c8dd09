use Rattle.std.proofs.Common.{◌∙◌, ◌+◌, ◌++◌, ◌∷◌, [], ℕ, List, length, ap, sym, arith}
use Rattle.std.proofs.lemmas.List.{append_assoc, length-append}
use Rattle.std.proofs.lemmas.Result.{on_ok_weaker}
use Rattle.tcd_base.specs.Bytes.{bytes_of_word}
use Rattle.small_states.proofs.ZeroLemmas.{all_bytes, range_bytes}
use Rattle.small_states.proofs.gathered.Gathered.push_range.Goals as goal

pub push_words-requires : goal.push_words-requires
push_words-requires c =
    let tag : List ℕ = (240 + c.args.step) ∷ [] in
    omega (arith, c.in_ok-make_room.ensures.room, ap (λ (l : List ℕ). length l) c.push.ensures, length-append c.make_room.new.self tag)

pub returns-then-is_span_of_all_words : goal.returns-then-is_span_of_all_words
returns-then-is_span_of_all_words c =
    let old = c.args.out.now.items ++ c.args.self.now in
    on_ok_weaker c.push_unknowns.result
    (λ e. e ∙ ap (λ (l : List ℕ). old ++ l) (sym (all_bytes c.args.lo c.args.last c.args.step (sym c.is_span_of_all_words.ensures ∙ c.if-is_span_of_all_words.true)))) c.push_unknowns.ensures

pub returns : goal.returns
returns c =
    let out = c.make_room.new.out.items in
    let self = c.make_room.new.self in
    let old = c.args.out.now.items ++ c.args.self.now in
    let tag : List ℕ = (240 + c.args.step) ∷ [] in
    let ends : List ℕ = bytes_of_word c.args.lo ++ (bytes_of_word c.args.last ++ []) in
    let all : List ℕ = (240 + c.args.step) ∷ ends in
    ap (λ (l : List ℕ). out ++ l) (c.push_words.ensures ∙ ap (λ (l : List ℕ). l ++ ends) c.push.ensures ∙ append_assoc self tag ends)
    ∙ sym (append_assoc out self all)
    ∙ ap (λ (l : List ℕ). l ++ all) c.in_ok-make_room.ensures.same
    ∙ ap (λ (l : List ℕ). old ++ l) (sym (range_bytes c.args.lo c.args.last c.args.step (sym c.is_span_of_all_words.ensures ∙ c.if-is_span_of_all_words.false)))
