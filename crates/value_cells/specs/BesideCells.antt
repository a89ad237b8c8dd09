-- The machine without the cells' bytes, compared with the machine that has them: its inputs are
-- what the cells hold.
use Rattle.std.specs.Prelude.{◌≡◌, ◌+◌, ◌*◌, ◌/◌, ◌%◌, ◌^◌, ◌⊎◌, ℕ, zero, suc, Bool, true, if◌then◌else◌, List, [], ◌∷◌, Option, Some, None, Ok, unwrap_or}
use Rattle.std.specs.FinMap as map
use Rattle.csa_chain.specs.MemoryBytes.{Memory, HasOnlyBytes}
use Rattle.csa_chain.specs.Chain.{link_in, is_area_mapped}
use Rattle.tc_isa.specs.declared.shapes.Shape.{Shape}
use Rattle.tc_machine.specs.declared.events.Event.{Event}
use Rattle.tc_machine.specs.declared.state.Machine.{Machine}
use Rattle.tc_machine.specs.Fetching.{fetched_instruction}
use Rattle.tc_machine.specs.Stepping.{step, load_at_pc}
use Rattle.value_cells.specs.declared.cells.Cell.{Cell}
use Rattle.value_cells.specs.Cells.{is_in_cell}

-- the memory without the word at an address
abbrev pub memory_without_word : Memory → ℕ → Memory
memory_without_word mem x = map.remove (map.remove (map.remove (map.remove mem x) (x + 1)) (x + 2)) (x + 3)

-- the memory without the bytes of the cells
unfoldable pub memory_without_cells : List Cell → Memory → Memory
memory_without_cells [] mem = mem
memory_without_cells (c ∷ cs) mem = memory_without_word (memory_without_cells cs mem) c.at

-- the byte in memory, if the flag t says that it is a cell's; else the input's byte b
abbrev pub cell_byte_or_input : Bool → Option ℕ → ℕ → ℕ
cell_byte_or_input t o b = if t then unwrap_or o b else b

-- the input of a load of n bytes from x on, with each byte of a cell replaced by what the cell
-- holds
unfoldable pub input_with_cell_bytes : List Cell → Memory → ℕ → ℕ → ℕ → ℕ
input_with_cell_bytes cells mem input x zero = input
input_with_cell_bytes cells mem input x (suc n) = cell_byte_or_input (is_in_cell cells x) (map.get mem x) (input % 2 ^ 8) + 2 ^ 8 * input_with_cell_bytes cells mem (input / 2 ^ 8) ((x + 1) % 2 ^ 32) n

-- the machine without the cells' bytes
abbrev pub machine_without_cells : List Cell → Machine → Machine
machine_without_cells cells m = record m { mem = memory_without_cells cells m.mem }

-- the event with the cells' bytes in its input, if a load reads them
abbrev pub event_with_cell_load : List Cell → Machine → Event → Option (ℕ × ℕ) → Event
event_with_cell_load cells m e None = e
event_with_cell_load cells m e (Some load) = record e { input = input_with_cell_bytes cells m.mem e.input load.0 load.1 }

-- the event for the machine without the cells' bytes that matches an event of the machine with them
abbrev pub event_without_cells : List Cell → Machine → Event → Event
event_without_cells cells m e = event_with_cell_load cells m e (load_at_pc m)

-- FCX and PCXI name no area, or an area without bytes of cells
pub record AreListHeadsOffCells (cells : List Cell) (m : Machine) : Type 0 where
  pub fcx : (link_in m.fcx ≡ 0) ⊎ (is_area_mapped (memory_without_cells cells m.mem) (link_in m.fcx) ≡ true)
  pub pcxi : (link_in m.pcxi ≡ 0) ⊎ (is_area_mapped (memory_without_cells cells m.mem) (link_in m.pcxi) ≡ true)

-- each step of the machine without the cells' bytes is the same step of the machine with them,
-- beside which it runs
abbrev pub StepsMatchWithoutCells : Type 0
StepsMatchWithoutCells =
    (cells : List Cell) (m : Machine) (e : Event) (shape : Shape) (n : ℕ) → HasOnlyBytes m.mem → AreListHeadsOffCells cells m → fetched_instruction (machine_without_cells cells m) ≡ Ok (shape, n)
    → step (machine_without_cells cells m) (event_without_cells cells m e) ≡ machine_without_cells cells (step m e)
