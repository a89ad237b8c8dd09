use Rattle.std.proofs.Common.{◌≡◌, ◌∙◌, ◌&&◌, Bool, length, leb, sym, ap, arith}
use Rattle.value_domain.specs.declared.values.Val.{Val}
use Rattle.value_domain.specs.declared.values.Val.TheVariants.{Set}
use Rattle.vd_transfer.specs.Operations.{operation_value}
use Rattle.cfg_recover.proofs.OperationLaws.{no_load, has_room, any_loaded, hit_state, hit_values, miss_value, same_word, is_nothing}
use Rattle.cfg_recover.proofs.operation_cache.CachedOperation.write_change.Goals as goal
use Rattle.cfg_recover.proofs.operation_cache.CachedOperation.write_change.Goals.{then-s, else-s}

pub returns-then-has_operation-clause-change : goal.returns-then-has_operation-clause-change
returns-then-has_operation-clause-change c = λ loaded.
    let s = c.args.s.now in
    let upper : Bool = leb 8 c.args.operation.dst in
    let low : c.if-s.c ≡ (s.lower && upper) =
    elim c.if-s.branch [
      | then-s w ↦ w.c-is ∙ ap (λ (b : Bool). b && upper) (sym w.if-s.true)
      | else-s w ↦ w.c-is ∙ w.if-s.false ∙ ap (λ (b : Bool). b && upper) (sym w.if-s.false)
    ]
    in
    rw (low, c.set_to_identity.ensures.kept, c.copy_to.ensures)
    (hit_state c.args.b.now c.args.plan.now s loaded c.args.operation c.args.self.now c.args.c.now c.requires.operation c.requires.results (c.has_operation.ensures c.if-has_operation.true))

pub returns-then-has_operation-clause-values : goal.returns-then-has_operation-clause-values
returns-then-has_operation-clause-values c =
    rw (c.set_to_identity.ensures.kept, c.copy_to.ensures)
    (hit_values c.args.b.now c.args.s.now c.args.operation c.args.self.now c.args.c.now c.requires.operation.small c.requires.values c.requires.results (c.has_operation.ensures c.if-has_operation.true))

pub write_instruction_change-requires-clause-loaded : goal.write_instruction_change-requires-clause-loaded
write_instruction_change-requires-clause-loaded c = no_load c.args.b.now c.args.s.now c.args.operation c.args.c.now.third.value c.requires.operation

pub write_instruction_change-requires-clause-room : goal.write_instruction_change-requires-clause-room
write_instruction_change-requires-clause-room c = has_room c.args.b.now c.args.s.now c.args.operation c.requires.operation

pub returns-then-is_none-clause-change : goal.returns-then-is_none-clause-change
returns-then-is_none-clause-change c = λ loaded.
    c.write_instruction_change.ensures.change
    ∙ any_loaded c.args.b.now c.args.plan.now c.args.s.now c.args.c.now.third.value loaded c.args.operation c.requires.operation

pub returns-else-eq-clause-change : goal.returns-else-eq-clause-change
returns-else-eq-clause-change c = λ loaded.
    c.write_instruction_change.ensures.change
    ∙ any_loaded c.args.b.now c.args.plan.now c.args.s.now c.args.c.now.third.value loaded c.args.operation c.requires.operation

pub returns-then-is_none-clause-results : goal.returns-then-is_none-clause-results
returns-then-is_none-clause-results c =
    let s = c.args.s.now in
    let b = c.args.b.now in
    let o = c.args.operation in
    let len : length s.regs ≡ 27 = omega arith in
    let m =
    miss_value b c.args.plan.now s c.args.c.now.third.value o c.write_instruction_change.new.c c.requires.operation len c.write_instruction_change.ensures.change c.write_instruction_change.ensures.values
    (same_word c.write_instruction_change.new.c.second.at o.dst c.eq.result c.eq.ensures c.if-eq.true) (is_nothing c.write_instruction_change.new.c.third.at c.is_none.result c.is_none.ensures c.if-is_none.true)
    in
    record {
      gives =
          c.copy_to-then-is_none.ensures
          ∙ m.0
          ∙ ap (λ (v : Val). operation_value b o.op v (Set o.y.now)) (sym c.set_words.ensures)
          ∙ ap (λ (v : Val). operation_value b o.op c.set_words.new.out v) (sym c.set_words-then-is_none.ensures);
      value = rw c.copy_to-then-is_none.ensures m.1;
    }
