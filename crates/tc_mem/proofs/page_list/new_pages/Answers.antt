use Rattle.std.proofs.Common.{ℕ, List, subst, ◌∙◌}
use Rattle.std.proofs.lemmas.List.{take_all}
use Rattle.tc_mem.proofs.Made.{AreMade, made_mem, made_zeros}
use Rattle.tc_mem.proofs.Small.{HasBytes-mem}
use Rattle.tc_mem.proofs.page_list.new_pages.Goals as goal

made : (c : goal.After-drop-numbers-2) → AreMade c.args.ranges.now c.in_ok-numbers.numbers.items c.loop-number.pages.items
made c =
    let all = take_all c.loop-number.number-index c.deref-number-items.result.now c.loop-number-test.false ∙ c.deref-number-items.ensures.value in
    subst (λ (ns : List ℕ). AreMade c.args.ranges.now ns c.loop-number.pages.items) all c.loop-number.invariant.made

pub returns-clause-zeros : goal.returns-clause-zeros
returns-clause-zeros c = made_zeros _ _ _ (made c) c.in_ok-numbers.ensures.rising c.in_ok-numbers.ensures.all

pub returns-clause-bytes : goal.returns-clause-bytes
returns-clause-bytes c = HasBytes-mem _ (made_mem _ _ _ (made c) c.in_ok-numbers.ensures.rising)
