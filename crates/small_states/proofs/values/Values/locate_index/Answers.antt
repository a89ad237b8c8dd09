use Rattle.std.proofs.Common.{◌∙◌, ◌≤◌, ◌<◌, ◌+◌, ◌-◌, ℕ, List, length, take, sym, ap, subst, arith}
use Rattle.std.proofs.lemmas.List.{get_or_default, take_all}
use Rattle.small_states.specs.declared.values.SpacedValue.{SpacedValue}
use Rattle.small_states.specs.CompactForms.{values_to_last_known}
use Rattle.small_states.proofs.SparseLemmas.{found_further}
use Rattle.small_states.proofs.values.Values.locate_index.Goals as goal

abbrev anys : SpacedValue → ℕ
anys s = s.anys

pub returns-then-left-anys : goal.returns-then-left-anys
returns-then-left-anys c =
    let v = c.as_slice-known.ensures.value in
    let known = c.args.self.now.known.items in
    let here = c.index-known-n.result in
    let lt = rw v at c.loop-n-test.true in
    let is = rw v at c.index-known-n.is in record {
      within = omega (arith, lt);
      at = c.loop-n.invariant;
      before = λ h d. subst (λ (s : SpacedValue). c.loop-n.left ≤ s.anys) (is ∙ get_or_default known c.loop-n.n here d lt) (omega (arith, c.if-left-anys.true, ap anys c.index-known-n.is));
    }

pub loop-n-preserved : goal.loop-n-preserved
loop-n-preserved c =
    let v = c.as_slice-known.ensures.value in
    let known = c.args.self.now.known.items in
    let here = c.index-known-n.result in
    found_further known c.args.self.now.rest c.loop-n.n here (rw v at c.loop-n-test.true) (rw v at c.index-known-n.is) c.args.i c.loop-n.left c.loop-n.invariant
    (omega (arith, c.if-left-anys.false, ap anys c.index-known-n.is))
    ∙ ap (λ (m : ℕ). length (values_to_last_known (take (c.loop-n.n + 1) known)) + (c.loop-n.left - m - 1)) (ap anys c.index-known-n.is)

pub returns : goal.returns
returns c =
    let v = c.as_slice-known.ensures.value in
    let known = c.args.self.now.known.items in
    let whole = ap (λ (l : List SpacedValue). length (values_to_last_known l) + c.loop-n.left) (take_all c.loop-n.n known (rw v at c.loop-n-test.false)) in
    let same = ap (λ (l : List SpacedValue). length l) v in
    record {
      within = omega (arith, same);
      at = c.loop-n.invariant ∙ whole ∙ sym (ap (λ (l : List SpacedValue). length (values_to_last_known l) + c.loop-n.left) (take_all (length c.as_slice-known.result.now) known (omega (arith, same))));
      before = λ h d. absurd (let bad : length known < length known = subst (λ (m : ℕ). m < length known) same h in omega (arith, bad));
    }
