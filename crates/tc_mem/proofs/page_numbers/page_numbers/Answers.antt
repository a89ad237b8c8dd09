use Rattle.std.proofs.Common.{◌/◌, ℕ, List, Contains, eqb, sym, subst, inl, inr}
use Rattle.std.specs.List.Sorted.{IsStrictlyIncreasing}
use Rattle.std.proofs.lemmas.List.{take_all}
use Rattle.std.proofs.lemmas.List.Filters.{dedup_is}
use Rattle.std.proofs.lemmas.List.Kept.{Contains-dedup_nat}
use Rattle.std.proofs.lemmas.List.Sorted.{Contains-permutation}
use Rattle.std.proofs.lemmas.Map.Keys.{IsStrictlyIncreasing-dedup}
use Rattle.tc_mem.proofs.Numbers.{in_more}
use Rattle.tc_mem.proofs.page_numbers.page_numbers.Goals as goal

pub loop-range-preserved : goal.loop-range-preserved
loop-range-preserved c = λ q h.
    elim (in_more c.args.ranges.now c.loop-range.range-index (record { at = 0; len = 0 }) q c.loop-range-test.true h) [
      | inl before ↦ c.in_ok-add_page_numbers.ensures.kept (q / 4096) (c.loop-range.invariant q before)
      | inr here ↦ c.in_ok-add_page_numbers.ensures.added q here.0 here.1
    ]

pub returns-clause-rising : goal.returns-clause-rising
returns-clause-rising c =
    subst IsStrictlyIncreasing (sym (dedup_is eqb _ _ c.dedup.ensures.filtered)) (IsStrictlyIncreasing-dedup _ c.sort_unstable.ensures.sorted)

pub returns-clause-all : goal.returns-clause-all
returns-clause-all c = λ q h.
    let all = take_all c.loop-range.range-index c.args.ranges.now c.loop-range-test.false in
    subst (λ (ns : List ℕ). Contains ns (q / 4096)) (sym (dedup_is eqb _ _ c.dedup.ensures.filtered))
    (Contains-dedup_nat _ (q / 4096) (Contains-permutation _ _ (q / 4096) c.sort_unstable.ensures.permutation (c.loop-range.invariant q (rw all h))))
