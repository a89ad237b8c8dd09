use Rattle.std.proofs.Common.{◌≡◌, ◌≤◌, ◌+◌, ◌-◌, ℕ, subst, arith}
use Rattle.packed_cert.specs.RepeatedBytes.{AreBytesRepeated}
use Rattle.packed_cert.proofs.SameBytes.{alike_fewer}
use Rattle.packed_cert.proofs.SameWords.{eight_more}
use Rattle.packed_cert.proofs.repeated_bytes.are_last_eight_repeated.Goals as goal

pub returns : goal.returns
returns c = λ t.
    let i = c.args.n - 8 in
    let few : i ≤ c.args.from = omega (arith, c.if-n-from.false) in
    let part = alike_fewer c.args.bytes.now c.args.x c.args.y i c.args.from few c.requires.same in
    let all : i + 8 ≡ c.args.n = omega (arith, c.if-n-lt8.false) in
    subst (λ (k : ℕ). AreBytesRepeated c.args.bytes.now c.args.x c.args.y k) all
    (eight_more c.args.bytes.now c.args.x c.args.y i (λ k. (c.type_inv.bytes k).fits) (omega (arith, all, c.requires.first)) (omega (arith, all, c.requires.second)) part (c.are_eight_bytes_repeated.ensures t))
