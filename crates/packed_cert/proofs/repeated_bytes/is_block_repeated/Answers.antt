use Rattle.std.proofs.Common.{◌≡◌, ◌+◌, subst, arith, ℕ}
use Rattle.packed_cert.specs.RepeatedBytes.{AreBytesRepeated}
use Rattle.packed_cert.proofs.repeated_bytes.is_block_repeated.Goals as goal

pub returns : goal.returns
returns c = λ t.
    let all : c.args.i + 32 + 32 ≡ c.args.i + 64 = omega arith in
    subst (λ (k : ℕ). AreBytesRepeated c.args.bytes.now c.args.x c.args.y k) all (c.is_half_block_repeated-2.ensures t)
