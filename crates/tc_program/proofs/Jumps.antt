-- Jumps of 16 bits reach the addresses that their names mean.
use Rattle.std.proofs.Common.{◌+◌, ◌%◌, ◌^◌, ℕ, refl, sym, subst}
use Rattle.tc_asm.proofs.ShortJumps.{short_jumps_law}
use Rattle.tc_program.specs.Addresses.{SectionHasAddress, own}
use Rattle.tc_program.specs.PlacementLaws.{ShortJumpsReachTargets}
use Rattle.tc_program.proofs.Stands.{rules_at}

pub jumps_law : ShortJumpsReachTargets
jumps_law sources objects layout number index source t r base are is_source at is none begins =
    let j = short_jumps_law source index t r (rules_at sources objects are number source is_source) at is none in
    let B : ℕ → Type 0 = λ s. SectionHasAddress layout.places sources number s base in
    record {
      place = j.place;
      spells = j.spells;
      address = (base + j.label.offset) % 2 ^ 32;
      means = own ((base + j.label.offset) % 2 ^ 32) (record { source = source; is_source = is_source; label = j.label; is_label = j.is_label; base = base; begins = subst B (sym j.here) begins; is = refl });
      is = j.reaches base;
    }
