-- The ranges are those of the plan, so the memory is made as it says.
use Rattle.std.proofs.Common.{subst, ◌∙◌}
use Rattle.tc_mem.specs.PlanMemory.{IsMemoryOfZeros}
use Rattle.csa_chain.specs.MemoryBytes.{HasOnlyBytes}
use Rattle.tc_machine.specs.Starting.{start_memory_ranges}
use Rattle.tc_machine.proofs.Zeros.{zeros_bytes}
use Rattle.tc_machine.proofs.start_memory.start_memory.Goals as goal

pub returns : goal.returns
returns c =
    let zeros : IsMemoryOfZeros (start_memory_ranges c.args.rom.now c.args.ram.now c.args.at c.args.n) c.in_ok-mem.mem =
    subst (λ rs. IsMemoryOfZeros rs c.in_ok-mem.mem) (c.deref.ensures.value ∙ c.in_ok-ranges.ensures) c.in_ok-mem.ensures.zeros in
    record {
      zeros = c.in_ok-mem.mem;
      are_zeros = zeros;
      bytes = subst HasOnlyBytes c.copy_image.ensures.copied (c.copy_image.ensures.bytes (zeros_bytes (start_memory_ranges c.args.rom.now c.args.ram.now c.args.at c.args.n) c.in_ok-mem.mem zeros));
      is = cc;
    }
