use Rattle.std.proofs.Common.{◌≡◌, ◌∙◌, ◌≤◌, ◌+◌, ℕ, inl, inr, length, get_or, set, sym, ap, arith}
use Rattle.std.proofs.lemmas.Bool.{cases_lt}
use Rattle.std.proofs.lemmas.List.{ext_get_or, length-set, get_or-set_same, get_or-set_other}
use Rattle.value_domain.specs.Values.{any_val}
use Rattle.packed_cert.specs.PointsInBytes.{state_in_bytes}
use Rattle.packed_cert.specs.ValuesInBytes.{offset_after_value}
use Rattle.packed_cert.proofs.ValueShapes.{left_first, stands_at}
use Rattle.packed_cert.proofs.walks.read_row_values.Goals as goal

pub loop-i-init : goal.loop-i-init
loop-i-init c = record {
  count = omega arith;
  have = c.requires.have;
  left = c.requires.stand;
  done = λ k lt outside. sym (c.requires.row.kept k (omega arith) outside);
}

pub read_value_at_offset-requires : goal.read_value_at_offset-requires
read_value_at_offset-requires c =
    let vs = (state_in_bytes c.args.version c.args.bytes.now c.args.point.place).regs in
    let len : length vs ≡ 27 = omega (arith, c.requires.row.count) in
    (left_first c.args.version c.args.bytes.now c.loop-i.at 27 c.loop-i.i vs (omega (arith, c.requires.few)) len (c.loop-i.invariant.have (omega arith)) (c.loop-i.invariant.left (omega arith))).0

pub bounds-bytes-at : goal.bounds-bytes-at
bounds-bytes-at c =
    let vs = (state_in_bytes c.args.version c.args.bytes.now c.args.point.place).regs in
    let len : length vs ≡ 27 = omega (arith, c.requires.row.count) in
    let l = left_first c.args.version c.args.bytes.now c.loop-i.at 27 c.loop-i.i vs (omega (arith, c.requires.few)) len (c.loop-i.invariant.have (omega arith)) (c.loop-i.invariant.left (omega arith)) in
    (stands_at c.args.version c.args.bytes.now c.loop-i.at (λ k. (c.type_inv.bytes k).fits) l.0).inside

pub overflow_add-at : goal.overflow_add-at
overflow_add-at c =
    let vs = (state_in_bytes c.args.version c.args.bytes.now c.args.point.place).regs in
    let len : length vs ≡ 27 = omega (arith, c.requires.row.count) in
    let l = left_first c.args.version c.args.bytes.now c.loop-i.at 27 c.loop-i.i vs (omega (arith, c.requires.few)) len (c.loop-i.invariant.have (omega arith)) (c.loop-i.invariant.left (omega arith)) in
    let next : c.loop-i.at + c.value_length_by_tag-at.result ≡ offset_after_value c.args.bytes.now c.loop-i.at = ap (λ (k : ℕ). c.loop-i.at + k) c.value_length_by_tag-at.ensures in
    let within : c.loop-i.at + c.value_length_by_tag-at.result ≤ length c.args.bytes.now = rw next (stands_at c.args.version c.args.bytes.now c.loop-i.at (λ k. (c.type_inv.bytes k).fits) l.0).within in
    omega (arith, within)

pub loop-i-preserved : goal.loop-i-preserved
loop-i-preserved c =
    let vs = (state_in_bytes c.args.version c.args.bytes.now c.args.point.place).regs in
    let out = c.loop-i.out in
    let i = c.loop-i.i in
    let inv = c.loop-i.invariant in
    let len : length vs ≡ 27 = omega (arith, c.requires.row.count) in
    let l = left_first c.args.version c.args.bytes.now c.loop-i.at 27 i vs (omega (arith, c.requires.few)) len (inv.have (omega arith)) (inv.left (omega arith)) in
    let next : c.loop-i.at + c.value_length_by_tag-at.result ≡ offset_after_value c.args.bytes.now c.loop-i.at = ap (λ (k : ℕ). c.loop-i.at + k) c.value_length_by_tag-at.ensures in
    record {
      count = length-set out i c.read_value_at_offset.new.out ∙ inv.count;
      have = λ some. rw next l.1;
      left = λ some. rw next l.3;
      done = λ k lt told.
          elim (cases_lt k i) [
            | inl low ↦ get_or-set_other out i k c.read_value_at_offset.new.out any_val (λ e. let same : k ≡ i = e in omega arith) ∙ inv.done k lt (inl low)
            | inr from ↦
                elim (cases_lt i k) [
                  | inl high ↦
                      let past : c.args.point.row.behind ≤ k = elim told [ inl low2 ↦ absurd (omega arith) | inr p ↦ p ] in
                      get_or-set_other out i k c.read_value_at_offset.new.out any_val (λ e. let same : k ≡ i = e in omega arith) ∙ inv.done k lt (inr past)
                  | inr there ↦
                      let same : k ≡ i = omega arith in
                      ap (λ (n : ℕ). get_or (set out i c.read_value_at_offset.new.out) n any_val) same ∙ get_or-set_same out i c.read_value_at_offset.new.out any_val (omega (arith, inv.count, c.requires.few)) ∙ c.read_value_at_offset.ensures ∙ sym l.2 ∙ ap (λ (n : ℕ). get_or vs n any_val) (sym same)
                ]
          ];
    }

pub returns : goal.returns
returns c =
    let vs = (state_in_bytes c.args.version c.args.bytes.now c.args.point.place).regs in
    let inv = c.loop-i.invariant in
    let len : length vs ≡ 27 = omega (arith, c.requires.row.count) in
    ext_get_or any_val c.loop-i.out vs (inv.count ∙ sym len)
    (λ k lt.
    elim (cases_lt k c.loop-i.i) [
      | inl low ↦ inv.done k (omega (arith, inv.count)) (inl low)
      | inr from ↦ inv.done k (omega (arith, inv.count)) (inr (omega arith))
    ])
