use Rattle.std.proofs.Common.{◌≡◌, ◌∙◌, sym, ap, arith, set, take, subst, ◌+◌, ◌++◌, get_or}
use Rattle.std.proofs.lemmas.List.{take_all}
use Rattle.std.proofs.Math.ListN.{length-set}
use Rattle.value_domain.specs.declared.values.Val.{Val}
use Rattle.value_domain.specs.State.{joined_regs}
use Rattle.value_domain.specs.Values.{join_of, IsInLattice, cover, members, any_val}
use Rattle.value_domain.proofs.RegLaws.{read_at, regs_more, regs_left, regs_same, length-joined}
use Rattle.value_domain.proofs.states.join_regs.Goals as goal
use Rattle.value_domain.proofs.states.join_regs.Goals.{then-not-are_values_equal, else-not-are_values_equal}

pub loop-i-preserved : goal.loop-i-preserved
loop-i-preserved c =
    elim c.if-not-are_values_equal.branch [
      | then-not-are_values_equal w ↦
          let at_s = w.index-s-i-then-not-are_values_equal in
          let at_t = w.index-t-i-then-not-are_values_equal in
          let j : w.join.result ≡ join_of c.args.b.now at_s.result at_t.result =
          w.join.ensures.cover
          ∙ ap (λ (u : Val). cover c.args.b.now (members u ++ members (get_or c.args.t.now c.loop-i.i at_t.result))) (sym at_s.is)
          ∙ ap (λ (u : Val). cover c.args.b.now (members at_s.result ++ members u)) (sym at_t.is)
          in
          let more = regs_more c.args.b.now c.args.s.now c.args.t.now c.loop-i.out c.loop-i.i at_s.result at_t.result (omega arith) (omega arith)
          (omega (arith, c.loop-i.invariant.len)) at_s.is at_t.is c.loop-i.invariant.done in
          rw w.out-is
          (record {
            done = ap (λ (u : Val). take (c.loop-i.i + 1) (set c.loop-i.out c.loop-i.i u)) j ∙ more;
            left = regs_left c.args.s.now c.loop-i.out c.loop-i.i w.join.result c.loop-i.invariant.left;
            len = simp length-set c.loop-i.invariant.len;
          })
      | else-not-are_values_equal w ↦
          let v = c.index-s-i.result in
          let u = c.index-t-i.result in
          let eq : v ≡ u = cc (c.are_values_equal.ensures.0 w.if-not-are_values_equal.false) in
          let value = subst (λ (x : Val). IsInLattice c.args.b.now x) (read_at c.args.s.now c.loop-i.i v any_val (omega arith) c.index-s-i.is) (c.requires.left c.loop-i.i (omega arith)) in
          rw w.out-is
          (record {
            done = regs_same c.args.b.now c.args.s.now c.args.t.now c.loop-i.out c.loop-i.i v u (omega arith) (omega arith) (omega (arith, c.loop-i.invariant.len))
                c.index-s-i.is c.index-t-i.is eq value c.loop-i.invariant.done (c.loop-i.invariant.left c.loop-i.i (omega arith));
            left = λ k h. c.loop-i.invariant.left k (omega arith);
            len = c.loop-i.invariant.len;
          })
    ]

pub returns : goal.returns
returns c =
    let len = length-joined c.args.b.now c.args.s.now c.args.t.now (omega arith) in
    sym (take_all c.loop-i.i c.loop-i.out (omega (arith, c.loop-i.invariant.len)))
    ∙ c.loop-i.invariant.done
    ∙ take_all c.loop-i.i (joined_regs c.args.b.now c.args.s.now c.args.t.now) (omega arith)
