use Rattle.std.proofs.Common.{◌≡◌, ◌+◌, subst, arith, ℕ}
use Rattle.packed_cert.specs.RepeatedBytes.{AreBytesRepeated}
use Rattle.packed_cert.proofs.SameWords.{eight_more}
use Rattle.packed_cert.proofs.repeated_bytes.is_half_block_repeated.Goals as goal

pub returns : goal.returns
returns c = λ t.
    let bytes = c.args.bytes.now in
    let x = c.args.x in
    let y = c.args.y in
    let i = c.args.i in
    let one = eight_more bytes x y i (λ k. (c.type_inv.bytes k).fits) (omega (arith, c.requires.first)) (omega (arith, c.requires.second)) c.requires.same (c.are_eight_bytes_repeated.ensures c.if-not-are_eight_bytes_repeated.false) in
    let two = eight_more bytes x y (i + 8) (λ k. (c.type_inv.bytes k).fits) (omega (arith, c.requires.first)) (omega (arith, c.requires.second)) one (c.are_eight_bytes_repeated-2.ensures c.if-not-are_eight_bytes_repeated-2.false) in
    let second : i + 8 + 8 ≡ i + 16 = omega arith in
    let three = eight_more bytes x y (i + 16) (λ k. (c.type_inv.bytes k).fits) (omega (arith, c.requires.first)) (omega (arith, c.requires.second)) (subst (λ (k : ℕ). AreBytesRepeated bytes x y k) second two) (c.are_eight_bytes_repeated-3.ensures c.if-not-are_eight_bytes_repeated-3.false) in
    let third : i + 16 + 8 ≡ i + 24 = omega arith in
    let four = eight_more bytes x y (i + 24) (λ k. (c.type_inv.bytes k).fits) (omega (arith, c.requires.first)) (omega (arith, c.requires.second)) (subst (λ (k : ℕ). AreBytesRepeated bytes x y k) third three) (c.are_eight_bytes_repeated-4.ensures t) in
    let fourth : i + 24 + 8 ≡ i + 32 = omega arith in
    subst (λ (k : ℕ). AreBytesRepeated bytes x y k) fourth four
