use Rattle.std.proofs.Common.{◌≡◌, ◌<◌, ℕ, List, length, replicate, ap, arith, slice_index_or}
use Rattle.std.proofs.lemmas.List.{get_or-replicate}
use Rattle.std.proofs.Math.ListN.{length-replicate}
use Rattle.value_domain.specs.declared.values.Val.{Val}
use Rattle.value_domain.specs.Values.{any_val}
use Rattle.value_domain.proofs.RangeLaws.{any_value}
use Rattle.tcd_tests.proofs.states.open.Goals as goal

-- each of the values is any word
each_any : (vs : List Val) → vs ≡ replicate 27 any_val → (r : ℕ) → r < length vs → slice_index_or vs r any_val ≡ any_val
each_any vs e r lt = rw e (get_or-replicate 27 r any_val any_val (omega (arith, lt, ap (λ (l : List Val). length l) e, length-replicate 27 any_val)))

pub returns : goal.returns
returns c = λ r lt. rw (each_any c.any_regs.result c.any_regs.ensures r lt) (any_value c.args.b.now c.most_words-most_words.ensures.limits)
