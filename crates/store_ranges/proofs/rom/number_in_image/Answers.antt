use Rattle.std.proofs.Common.{◌≡◌, ◌+◌, ◌-◌, refl, sym, ap, ◌∙◌, arith}
use Rattle.elf_image.specs.Images.{image_byte}
use Rattle.store_ranges.specs.Loads.{number_in_image}
use Rattle.store_ranges.proofs.RomLaws.{held_more, held_none, number_lt, number_fits}
use Rattle.store_ranges.proofs.rom.number_in_image.Goals as goal

pub loop-k-init : goal.loop-k-init
unfolding number_in_image
loop-k-init c = (refl, omega arith)

pub returns-in_err-byte-clause-value : goal.returns-in_err-byte-clause-value
returns-in_err-byte-clause-value c =
    let none = rw c.from.ensures at (sym c.byte.ensures.byte ∙ c.in_err-byte.was) in
    c.from_residual.ensures ∙ sym (held_none c.args.image.now c.args.x (c.args.n - 1 - c.loop-k.k) c.args.n (omega arith) none)

pub overflow_mul-number : goal.overflow_mul-number
overflow_mul-number c = omega (arith, number_fits c.loop-k.k 0 c.loop-k.number (omega arith) (omega arith) c.loop-k.invariant.1)

pub overflow_add-number : goal.overflow_add-number
overflow_add-number c = omega (arith, number_fits c.loop-k.k c.in_ok-byte.byte c.loop-k.number (omega arith) (omega arith) c.loop-k.invariant.1)

pub loop-k-preserved : goal.loop-k-preserved
loop-k-preserved c =
    let place : c.args.n - 1 - c.loop-k.k ≡ c.args.n - (c.loop-k.k + 1) = omega arith in
    let byte = rw c.from.ensures at (sym c.byte.ensures.byte ∙ c.in_ok-byte.was) in
    rw c.from-in-loop-k.ensures (
      held_more c.args.image.now (c.args.x + (c.args.n - (c.loop-k.k + 1))) (c.args.x + (c.args.n - c.loop-k.k)) c.loop-k.k c.in_ok-byte.byte c.loop-k.number (omega arith)
          (ap (λ i. image_byte c.args.image.now (c.args.x + i)) (sym place) ∙ byte) c.loop-k.invariant.0,
      number_lt c.loop-k.k c.in_ok-byte.byte c.loop-k.number (omega arith) (omega arith) c.loop-k.invariant.1,
    )
