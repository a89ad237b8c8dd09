use Rattle.std.proofs.Common.{◌∙◌, ◌<◌, List, length, sym, ap, arith}
use Rattle.std.proofs.lemmas.List.{take_all}
use Rattle.small_states.specs.declared.values.SpacedValue.{SpacedValue}
use Rattle.small_states.specs.CompactForms.{values_to_last_known}
use Rattle.small_states.proofs.SparseLemmas.{any_behind, found_any, found_value}
use Rattle.small_states.proofs.values.Values.value_or_any.Goals as goal
use Rattle.small_states.proofs.values.Values.value_or_any.Goals.{then-n-len+else-here-anys, else-n-len}

pub returns-then-here-anys : goal.returns-then-here-anys
returns-then-here-anys c =
    let at = c.locate_index-n.result in
    found_value c.args.self.now.known.items c.args.self.now.rest at.0 c.index-here.result.now (omega (arith, c.if-n-len.true)) c.index-here.ensures c.args.i at.1 c.locate_index-n.ensures.at
    (omega (arith, c.if-here-anys.true))

pub returns : goal.returns
returns c =
    let known = c.args.self.now.known.items in
    let rest = c.args.self.now.rest in
    let at = c.locate_index-n.result in
    c.requires
    ∙ sym
    (elim c.if-n-len.branch [
      | then-n-len+else-here-anys w ↦
          let here = w.index-here.result.now in
          let lt : at.0 < length known = omega (arith, w.if-n-len.true) in
          found_any known rest at.0 here lt w.index-here.ensures c.args.i at.1 c.locate_index-n.ensures.at
          (omega (arith, w.if-here-anys.false, c.locate_index-n.ensures.before lt here, ap (λ (s : SpacedValue). s.anys) w.index-here.ensures))
      | else-n-len w ↦
          any_behind known rest c.args.i
          (omega (arith, c.locate_index-n.ensures.at, ap (λ (l : List SpacedValue). length (values_to_last_known l)) (take_all at.0 known (omega (arith, w.if-n-len.false)))))
    ])
