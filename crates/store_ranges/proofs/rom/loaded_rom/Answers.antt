use Rattle.std.proofs.Common.{◌≡◌, true, false, sym, ◌∙◌}
use Rattle.store_ranges.proofs.RomLaws.{any_one, one_any}
use Rattle.store_ranges.proofs.rom.loaded_rom.Goals as goal

pub returns-then-not-is_in_rom : goal.returns-then-not-is_in_rom
returns-then-not-is_in_rom c = (
  (λ t. absurd (let f : false ≡ true = t in cc)),
  (λ r. sym c.if-not-is_in_rom.true ∙ c.is_in_rom.ensures.value ∙ one_any c.args.addr c.args.len c.args.plan.now.rom r.in_rom),
)

pub returns : goal.returns
returns c = (
  (λ t. record { in_rom = any_one c.args.addr c.args.len c.args.plan.now.rom (sym c.is_in_rom.ensures.value ∙ c.if-not-is_in_rom.false); held = c.are_bytes_in_image.ensures.0 t }),
  (λ r. c.are_bytes_in_image.ensures.1 r.held),
)
