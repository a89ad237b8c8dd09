use Rattle.std.proofs.Common.{ℕ, List, length, sym, ◌∙◌, ap, arith, subst, map, take, get_or, ◌<◌}
use Rattle.value_domain.specs.Sets.{Among, IsAscending, sorted_set_insert}
use Rattle.value_domain.proofs.SetLaws.{rising_distinct}
use Rattle.cfg_recover.proofs.FlowTargets.{length_evens, evens_before, evens-more, evens-none, even_of}
use Rattle.cfg_recover.proofs.flow_targets.even_targets.Goals as goal

pub loop-word-init : goal.loop-word-init
loop-word-init c = c.new-evened.ensures ∙ sym (evens-none c.args.words.now)

pub add_target_once-requires-clause-room : goal.add_target_once-requires-clause-room
add_target_once-requires-clause-room c =
    let within : c.loop-word.word-index < length c.args.words.now = omega arith in
    omega (arith, ap (λ (l : List ℕ). length l) c.loop-word.invariant, length_evens c.args.words.now c.loop-word.word-index within)

pub add_target_once-requires-clause-rising : goal.add_target_once-requires-clause-rising
add_target_once-requires-clause-rising c = subst IsAscending (sym c.loop-word.invariant) (rising_distinct (map even_of (take c.loop-word.word-index c.args.words.now)))

pub add_target_once-requires-clause-greatest : goal.add_target_once-requires-clause-greatest
add_target_once-requires-clause-greatest c =
    λ y a. evens_before c.args.words.now c.loop-word.word-index c.requires.rising (omega arith) y (subst (λ (l : List ℕ). Among y l) c.loop-word.invariant a)

pub loop-word-preserved : goal.loop-word-preserved
loop-word-preserved c =
    let x = even_of (get_or c.args.words.now c.loop-word.word-index 0) in
    c.add_target_once.ensures ∙ ap (λ (l : List ℕ). sorted_set_insert x l) c.loop-word.invariant ∙ sym (evens-more c.args.words.now c.loop-word.word-index (omega arith))
