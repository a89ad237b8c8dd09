-- The switch routine: what it does, its bytes, and the bytes that a task's view has instead.
use Rattle.std.specs.Prelude.{◌≡◌, ◌+◌, ◌*◌, ◌%◌, ◌^◌, ◌<◌, ℕ, List, ◌∷◌, slice_index, Some, false, ◌≤◌, ◌&&◌, Bool, nat_le, nat_lt, []}
use Rattle.std.specs.List.{flat_map}
use Rattle.elf_image.specs.Images.{ImageData, image_byte}
use Rattle.tcd_plan.specs.PlanData.{PlanData}
use Rattle.tc_isa.specs.Insts.{InstData}
use Rattle.tc_isa.specs.NamedInstructions.{disable, svlcx, movh_a, lea_l, ld_w_l, addsc_a, mfcr, st_w_l, addi, jne, mov, mtcr, isync, rslcx, ret, nop, adjusted_upper_half, lower_half}
use Rattle.tc_isa.specs.Spelling.{instruction_bytes}
use Rattle.tcd_base.specs.Ranges.{IsInOneRange}
use Rattle.task_chains.specs.Tasks.{TasksData, count}
use Rattle.depth_cert.specs.Keys.{call_kind}
use Rattle.depth_cert.specs.declared.keys.Key.{Key}

-- ---- the routine
-- The routine of n tasks with their block at b. Interrupts are off, and the lower context is saved.
-- PCXI goes into the word of the current task; the next task becomes the current one; its word goes
-- into PCXI, and its contexts are restored.
abbrev pub switch_routine_of : ℕ → ℕ → List InstData
switch_routine_of n b =
    disable ∷
    svlcx ∷
    movh_a 2 (adjusted_upper_half b) ∷
    lea_l 2 2 (lower_half b) ∷
    ld_w_l 0 2 (4 * n) ∷
    addsc_a 3 2 0 2 ∷
    mfcr 1 0xfe00 ∷
    st_w_l 3 0 1 ∷
    addi 0 0 1 ∷
    jne 0 n 4 ∷
    mov 0 0 ∷
    st_w_l 2 (4 * n) 0 ∷
    addsc_a 3 2 0 2 ∷
    ld_w_l 1 3 0 ∷
    mtcr 0xfe00 1 ∷
    isync ∷
    rslcx ∷
    ret ∷ []

-- the switch routine's instructions in a task's view: where the routine itself reads the block or
-- PCXI, this form takes an input, and where it writes them, there is a NOP
abbrev pub view_routine_of : ℕ → ℕ → List InstData
view_routine_of n b =
    disable ∷
    svlcx ∷
    movh_a 2 (adjusted_upper_half b) ∷
    lea_l 2 2 (lower_half b) ∷
    mfcr 0 0 ∷
    addsc_a 3 2 0 2 ∷
    mfcr 1 0 ∷
    nop ∷
    addi 0 0 1 ∷
    jne 0 n 4 ∷
    mov 0 0 ∷
    nop ∷
    addsc_a 3 2 0 2 ∷
    mfcr 1 0 ∷
    nop ∷
    isync ∷
    rslcx ∷
    ret ∷ []

-- ---- bytes

-- the bytes of instructions, one after another, such as those of the routine
abbrev pub bytes_of_instructions : List InstData → List ℕ
bytes_of_instructions is = flat_map instruction_bytes is

-- the bytes of the routine that switches these tasks
abbrev pub switch_routine_bytes : TasksData → List ℕ
switch_routine_bytes tasks = bytes_of_instructions (switch_routine_of (count tasks) tasks.block)

-- the bytes that a task's view has in place of those of the switch routine: the bytes of the
-- routine's other form
abbrev pub view_routine_bytes : TasksData → List ℕ
view_routine_bytes tasks = bytes_of_instructions (view_routine_of (count tasks) tasks.block)

-- byte i of the routine is at its address, in a segment, and inside the rom range that has all
-- bytes up to it
pub record HasRoutineByte (image : ImageData) (plan : PlanData) (tasks : TasksData) (i : ℕ) : Type 0 where
  pub in_rom : IsInOneRange tasks.switch (i + 1) plan.rom
  pub held : image_byte image (tasks.switch + i) ≡ Some (slice_index (switch_routine_bytes tasks) i)

-- the size of the switch routine: 18 instructions of four bytes
abbrev pub routine_size : ℕ
routine_size = 72

-- the image has all 72 bytes of the switch routine at their addresses, in segments and inside one
-- rom range
abbrev pub HasRoutine : ImageData → PlanData → TasksData → Type 0
HasRoutine image plan tasks = (i : ℕ) → i < routine_size → HasRoutineByte image plan tasks i

-- x is the address of the first byte that isn't the routine's, or isn't in rom
pub record IsRoutineFault (image : ImageData) (plan : PlanData) (tasks : TasksData) (x : ℕ) : Type 0 where
  pub place : ℕ
  pub within : place < routine_size
  pub at : x ≡ (tasks.switch + place) % 2 ^ 32
  pub fails : HasRoutineByte image plan tasks place → ⊥
  pub least : (i : ℕ) → i < place → HasRoutineByte image plan tasks i

-- ---- the routine's frame and its points
-- the address is that of one of the switch routine's instructions
abbrev pub IsRoutineInstruction : TasksData → ℕ → Type 0
IsRoutineInstruction tasks p = (i : ℕ) × (i < 18) × (p ≡ tasks.switch + 4 * i)

-- the key of the switch routine's own frame: called at priority 0, and not on the interrupt stack
abbrev pub switch_key : TasksData → Key
switch_key tasks = record { kind = call_kind; entry = tasks.switch; prio = 0; is = false }

-- the address is in the switch routine
abbrev pub IsInRoutine : TasksData → ℕ → Type 0
IsInRoutine tasks x = (tasks.switch ≤ x) × (x < tasks.switch + routine_size)

-- the address is in the switch routine, as a test
abbrev pub is_in_routine : TasksData → ℕ → Bool
is_in_routine tasks x = nat_le tasks.switch x && nat_lt x (tasks.switch + routine_size)
