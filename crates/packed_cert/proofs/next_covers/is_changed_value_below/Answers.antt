use Rattle.std.proofs.Common.{◌≡◌, ℕ, List, Some, get_or, arith, sym, ap, subst, ◌∙◌}
use Rattle.std.proofs.lemmas.Bool.Decides.{Decides-eqb}
use Rattle.std.proofs.lemmas.Slice.Eq.{slice_eq-Decides}
use Rattle.value_domain.specs.declared.values.Val.{Val}
use Rattle.value_domain.specs.declared.values.Val.TheVariants.{Set}
use Rattle.value_domain.specs.Values.{any_val, IsMember, IsBelow}
use Rattle.value_domain.proofs.RegLaws.{read_at}
use Rattle.vd_transfer.specs.Changes.{state_after}
use Rattle.packed_cert.proofs.next_covers.is_changed_value_below.Goals as goal

pub returns-then-eq : goal.returns-then-eq
returns-then-eq c = λ t k there lt outside.
    let low = (state_after c.args.s.now c.args.c.now).regs in
    let regs = c.args.s.now.regs in
    let i = c.in-Some.i in
    let both : Some i ≡ Some k = sym c.in-Some.is ∙ there in
    let same : i ≡ k = cc in
    let f = read_at regs i c.index-regs-i.result any_val (omega arith) c.index-regs-i.is in
    let words = (slice_eq-Decides Decides-eqb c.as_slice.result.now c.as_slice-in-Set-high.result.now c.eq.result c.eq.ensures).0 c.if-eq.true in
    let equal : get_or low i any_val ≡ get_or regs i any_val =
    sym c.changed_value-low.ensures
    ∙ c.in-Set.is
    ∙ ap (λ (l : List ℕ). Set l) (sym c.as_slice.ensures.items ∙ words ∙ c.as_slice-in-Set-high.ensures.items)
    ∙ sym c.in-Set-high.is
    ∙ sym f
    in
    subst (λ (n : ℕ). IsBelow (get_or low n any_val) (get_or regs n any_val)) same (λ x m. subst (IsMember x) equal m)

pub returns : goal.returns
returns c = λ t k there lt outside.
    let low = (state_after c.args.s.now c.args.c.now).regs in
    let regs = c.args.s.now.regs in
    let i = c.in-Some.i in
    let both : Some i ≡ Some k = sym c.in-Some.is ∙ there in
    let same : i ≡ k = cc in
    let f = read_at regs i c.index-regs-i.result any_val (omega arith) c.index-regs-i.is in
    let below : IsBelow (get_or low i any_val) (get_or regs i any_val) =
    subst (λ (v : Val). IsBelow v (get_or regs i any_val)) c.changed_value-low.ensures
    (subst (λ (w : Val). IsBelow c.changed_value-low.result.now w) (sym f) (c.leq.ensures.0 t))
    in
    subst (λ (n : ℕ). IsBelow (get_or low n any_val) (get_or regs n any_val)) same below
