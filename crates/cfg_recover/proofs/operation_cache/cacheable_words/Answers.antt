use Rattle.std.proofs.Common.{◌∙◌, ℕ, List, sym, ap, subst, arith}
use Rattle.value_domain.specs.declared.values.Val.TheVariants.{Set}
use Rattle.value_domain.specs.Sets.{AreSetWords}
use Rattle.value_domain.specs.Values.{any_val}
use Rattle.value_domain.proofs.RegLaws.{read_at}
use Rattle.vd_transfer.specs.Registers.{arg_of}
use Rattle.cfg_recover.proofs.OperationLaws.{data_value}
use Rattle.cfg_recover.proofs.operation_cache.cacheable_words.Goals as goal

pub returns-else-words-lt-MANY_WORDS : goal.returns-else-words-lt-MANY_WORDS
returns-else-words-lt-MANY_WORDS c =
    let s = c.args.s.now in
    let r = c.in-Reg.r in
    record {
      value = λ plan.
          ap (arg_of plan s) c.in-Reg.is
          ∙ data_value plan s r c.if-r-ge16.false
          ∙ read_at s.regs r c.index-regs-r.result any_val (omega (arith, c.if-r-ge16.false)) c.index-regs-r.is
          ∙ c.in-Set.is
          ∙ ap (λ (l : List ℕ). Set l) (sym c.as_slice-words.ensures.items);
      words = subst AreSetWords (sym c.as_slice-words.ensures.items) c.as_slice-words.ensures.words;
    }
