use Rattle.std.proofs.Common.{◌≡◌, ◌+◌, ◌-◌, ◌≤◌, arith, subst, ℕ}
use Rattle.packed_cert.specs.RepeatedBytes.{AreBytesRepeated}
use Rattle.packed_cert.proofs.SameBytes.{alike_behind}
use Rattle.packed_cert.proofs.repeated_bytes.end_of_repeated.Goals as goal

pub returns-then-front-state-clause-same : goal.returns-then-front-state-clause-same
returns-then-front-state-clause-same c =
    let bytes = c.args.bytes.now in
    let p = c.args.state in
    let front = c.saturating_sub-front.result in
    let few : front ≤ p.same = omega (arith, c.if-front-state.true) in
    let left : p.same - front ≡ p.at.start + p.same - p.at.values = omega (arith, c.if-state-front.true) in
    let alike = rw (c.if-state-front.true, c.if-start-front.true) at (alike_behind bytes p.at.start c.args.start front p.same few c.requires.again.alike) in
    subst (λ (n : ℕ). AreBytesRepeated bytes p.at.values c.args.at n) left alike

pub returns-clause-same : goal.returns-clause-same
returns-clause-same c =
    let count = c.count_repeated_before.result in
    let ahead : count ≡ c.args.state.at.values + count - c.args.state.at.values = omega arith in
    subst (λ (n : ℕ). AreBytesRepeated c.args.bytes.now c.args.state.at.values c.args.at n) ahead c.count_repeated_before.ensures.same
