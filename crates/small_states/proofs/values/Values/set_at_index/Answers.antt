use Rattle.std.proofs.Common.{◌∙◌, ◌+◌, ℕ, List, length, set, sym, ap, arith}
use Rattle.std.proofs.lemmas.List.{take_all}
use Rattle.std.proofs.lemmas.Result.{on_ok_weaker}
use Rattle.small_states.specs.declared.values.SpacedValue.{SpacedValue}
use Rattle.small_states.specs.CompactForms.{all_values, values_to_last_known}
use Rattle.small_states.proofs.values.Values.set_at_index.Goals as goal

pub set_in_entry-requires-clause-before : goal.set_in_entry-requires-clause-before
set_in_entry-requires-clause-before c = c.locate_index-n.ensures.before (omega (arith, c.if-n-len.true))

pub returns-then-n-len : goal.returns-then-n-len
returns-then-n-len c =
    on_ok_weaker c.set_in_entry.result (λ e. e ∙ ap (λ (i : ℕ). set (all_values c.args.self.now) i c.args.value) (sym c.locate_index-n.ensures.at)) c.set_in_entry.ensures

pub returns : goal.returns
returns c =
    let known = c.args.self.now.known.items in
    let at = c.locate_index-n.result in
    let whole = ap (λ (l : List SpacedValue). length (values_to_last_known l) + at.1) (take_all at.0 known (omega (arith, c.if-n-len.false))) in
    on_ok_weaker c.set_after_known.result (λ e. e ∙ ap (λ (i : ℕ). set (all_values c.args.self.now) i c.args.value) (sym (c.locate_index-n.ensures.at ∙ whole))) c.set_after_known.ensures
