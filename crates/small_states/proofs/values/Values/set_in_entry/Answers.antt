use Rattle.std.proofs.Common.{◌≡◌, ◌<◌, ◌∙◌, ◌-◌, ℕ, List, length, sym, refl, ap, arith}
use Rattle.std.specs.Prelude.{slice_index_or}
use Rattle.std.proofs.lemmas.List.{get_or_default}
use Rattle.small_states.specs.declared.values.SpacedValue.{SpacedValue}
use Rattle.small_states.proofs.SparseLemmas.{all, put_any_gap, put_gap, put_known}
use Rattle.small_states.proofs.values.Values.set_in_entry.Goals as goal

abbrev anys : SpacedValue → ℕ
anys s = s.anys

-- two reads give the same value
same : (known : List SpacedValue) (n : ℕ) (s t : SpacedValue) → s ≡ slice_index_or known n s → t ≡ slice_index_or known n t → n < length known → s.anys ≡ t.anys
same known n s t is is2 lt = ap anys (is ∙ get_or_default known n s t lt ∙ sym is2)

pub returns-then-past-eq0 : goal.returns-then-past-eq0
returns-then-past-eq0 c =
    let known = c.args.self.now.known.items in
    let here = c.index_mut.result.now in
    let s : SpacedValue = record { anys = here.anys; value = c.args.value } in
    put_known known c.args.self.now.rest c.args.n here c.requires.within c.index_mut.ensures.value c.args.anys s refl
    (omega (
      arith,
      c.if-past-eq0.true,
      c.requires.before c.index.result.now,
      ap anys c.index.ensures,
      same known c.args.n c.index.result.now here c.index.ensures c.index_mut.ensures.value c.requires.within,
    ))

pub returns-then-is_any : goal.returns-then-is_any
returns-then-is_any c =
    sym
    (put_any_gap c.args.self.now.known.items c.args.self.now.rest c.args.n c.index.result.now c.requires.within c.index.ensures c.args.anys c.args.value (c.is_any.ensures.0 c.if-is_any.true)
    (omega (arith, c.if-past-eq0.false, c.requires.before c.index.result.now, ap anys c.index.ensures)))

pub returns : goal.returns
returns c =
    let known = c.args.self.now.known.items in
    let here = c.index_mut-2.result.now in
    let more = c.index.result.now.anys - c.args.anys - 1 in
    let s : SpacedValue = record { anys = c.args.anys; value = c.args.value } in
    let t : SpacedValue = record { anys = more; value = here.value } in
    ap (λ (l : List SpacedValue). all l c.args.self.now.rest) c.in_ok-insert.ensures.items
    ∙ put_gap known c.args.self.now.rest c.args.n here c.requires.within c.index_mut-2.ensures.value c.args.anys more s t refl refl refl
    (omega (
      arith,
      c.if-past-eq0.false,
      c.requires.before c.index.result.now,
      ap anys c.index.ensures,
      same known c.args.n c.index.result.now here c.index.ensures c.index_mut-2.ensures.value c.requires.within,
    ))
