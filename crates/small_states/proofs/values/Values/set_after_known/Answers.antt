use Rattle.std.proofs.Common.{◌∙◌, ◌-◌, List, sym, refl, ap, arith}
use Rattle.small_states.specs.declared.values.SpacedValue.{SpacedValue}
use Rattle.small_states.proofs.SparseLemmas.{all, put_any_last, put_last, put_past}
use Rattle.small_states.proofs.values.Values.set_after_known.Goals as goal
use Rattle.small_states.proofs.values.Values.set_after_known.Goals.{then-rest-anys-via-then-rest-anys, then-rest-anys-via-else-rest-anys+then-is_any}

pub returns-then-rest-anys : goal.returns-then-rest-anys
returns-then-rest-anys c =
    let known = c.args.self.now.known.items in
    let rest = c.args.self.now.rest in
    elim c.then-rest-anys.branch [
      | then-rest-anys-via-then-rest-anys w ↦ sym (put_past known rest c.args.anys c.args.value (omega (arith, w.if-rest-anys.true)))
      | then-rest-anys-via-else-rest-anys+then-is_any w ↦ sym (put_any_last known rest c.args.anys c.args.value (w.is_any.ensures.0 w.if-is_any.true))
    ]

pub returns : goal.returns
returns c =
    let known = c.args.self.now.known.items in
    let rest = c.args.self.now.rest in
    let s : SpacedValue = record { anys = c.args.anys; value = c.args.value } in
    ap (λ (l : List SpacedValue). all l (rest - c.args.anys - 1)) c.in_ok-push.ensures.items
    ∙ put_last known rest c.args.anys (rest - c.args.anys - 1) s refl (omega (arith, c.if-rest-anys.false))
