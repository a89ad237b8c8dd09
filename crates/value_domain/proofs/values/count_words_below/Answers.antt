use Rattle.std.proofs.Common.{ltb, ltb-true, arith, rules}
use Rattle.std.proofs.lemmas.Bool.{ltb-false}
use Rattle.std.proofs.lemmas.List.Sorted.{IsPartitionPoint-from_clause, IsPartitionedBy-ltb}
use Rattle.value_domain.proofs.Places.{rising_order}
use Rattle.value_domain.proofs.values.count_words_below.Goals as goal

pub returns-then-are_words_below : goal.returns-then-are_words_below
returns-then-are_words_below c = record {
  within = omega arith;
  before = λ k h. c.are_words_below.ensures c.if-are_words_below.true k h;
  after = λ k low high. absurd (omega arith);
}

pub returns : goal.returns
returns c =
    let parted = IsPartitionedBy-ltb (λ y. y) c.args.words.now c.args.x (rising_order c.args.words.now c.requires) in
    let point = IsPartitionPoint-from_clause (λ y. ltb y c.args.x) _ _ c.partition_point.ensures.partitioned parted (λ a r q k. search rules) in
    record {
      within = c.partition_point.ensures.bound;
      before = λ k h. ltb-true _ _ (point.0 k 0 (omega arith) h);
      after = λ k low high. ltb-false _ _ (point.1 k 0 low high);
    }
