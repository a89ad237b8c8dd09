-- The printed lines.
use Rattle.std.specs.Prelude.{ℕ, if◌then◌else◌, List, ◌∷◌, ◌++◌, codes, slice_get, unwrap_or, ◌-◌, length, take, []}
use Rattle.std.specs.Fmt.{decimal}
use Rattle.tcd_text.specs.HexNumbers.{hex_word}
unfoldable pub use Rattle.depth_cert.specs.Keys.{key_kind_text}
use Rattle.elf_image.specs.declared.errors.ImageErr.{ImageErr}
use Rattle.elf_image.specs.declared.errors.ImageErr.TheVariants as elf
use Rattle.tcd_base.specs.declared.errors.FormErr.{FormErr}
use Rattle.depth_cert.specs.declared.keys.Key.{Key}
use Rattle.tc_machine.specs.declared.events.Cause.{Cause}
use Rattle.tc_machine.specs.declared.events.Cause.TheVariants.{Fcd, Fcu, Csu, Ctyp, NotListed, NoCode, NoArea}
use Rattle.tc_machine.specs.declared.events.End.{End}
use Rattle.tc_machine.specs.declared.events.End.TheVariants.{Running, Dead}
use Rattle.tc_machine.specs.declared.state.Machine.{Machine}
use Rattle.tc_script.specs.declared.errors.ScriptErr.{ScriptErr}
use Rattle.tc_script.specs.declared.errors.ScriptErr.TheVariants as script
use Rattle.tc_reloc.specs.declared.refusals.RelocErr.{RelocErr}
use Rattle.tc_reloc.specs.declared.refusals.RelocErr.TheVariants.{Odd, FarOff, Segment}
use Rattle.tc_link.specs.Refusals.{Refusal, twice, missing, no_place, no_room, reloc, no_entry}
use Rattle.tc_link.specs.declared.layout_errors.LayoutErr.{LayoutErr}
use Rattle.tc_link.specs.declared.layout_errors.LayoutErr.TheVariants as layout
use Rattle.tcd_plan.specs.Keys.{key_texts}
use Rattle.tcd_plan.specs.declared.plans.PlanKey.{PlanKey}
use Rattle.tcd_plan.specs.declared.plans.PlanErr.{PlanErr}
use Rattle.tcd_plan.specs.declared.plans.PlanErr.TheVariants as plan

-- the end of a printed line that names a frame: its kind, its entry, its priority, and whether the
-- interrupt stack is in use
unfoldable pub line_end_with_frame : Key → List ℕ
line_end_with_frame key = key_kind_text key.kind ++ (hex_word key.entry ++ (codes " prio " ++ (decimal key.prio ++ (codes " is " ++ ((if key.is then 49 else 48) ∷ 10 ∷ [])))))

-- the end of a rejection's line that names one number, as a line or an index
unfoldable pub line_end_with_number : ℕ → List ℕ
line_end_with_number i = codes " at " ++ (decimal i ++ 10 ∷ [])

-- the end of a rejection's line that names two numbers, as a file and a line
unfoldable pub line_end_with_two_numbers : ℕ → ℕ → List ℕ
line_end_with_two_numbers i j = codes " at " ++ (decimal i ++ (codes " " ++ (decimal j ++ 10 ∷ [])))

-- the end of a rejection's line that names a key of the plan
unfoldable pub line_end_with_key : PlanKey → List ℕ
line_end_with_key key = codes " key " ++ (unwrap_or (slice_get key_texts key.0) [] ++ 10 ∷ [])

-- the printed line for an executable with more bytes than its form allows
unfoldable pub elf_too_long_line : List ℕ
elf_too_long_line = codes "bad elf 0" ++ 10 ∷ []

-- the printed line on why a file is no executable: the number of the fault, 1 to 7
unfoldable pub bad_elf_line : ImageErr → List ℕ
bad_elf_line elf.Short = codes "bad elf 1" ++ 10 ∷ []
bad_elf_line elf.NotElf32Le = codes "bad elf 2" ++ 10 ∷ []
bad_elf_line elf.NotTriCore = codes "bad elf 3" ++ 10 ∷ []
bad_elf_line elf.NotExec = codes "bad elf 4" ++ 10 ∷ []
bad_elf_line (elf.BadSegment i) = codes "bad elf 5" ++ line_end_with_number i
bad_elf_line elf.TooLarge = codes "bad elf 6" ++ 10 ∷ []
bad_elf_line (elf.Overlap i j) = codes "bad elf 7" ++ line_end_with_two_numbers i j
bad_elf_line elf.NoMemory = []

-- the printed line for a plan with more bytes than its form allows
unfoldable pub plan_too_long_line : List ℕ
plan_too_long_line = codes "bad plan 0" ++ 10 ∷ []

-- the printed line on why a file is no plan: the number of the fault, 1 to 8
unfoldable pub bad_plan_line : PlanErr → List ℕ
bad_plan_line plan.NotJson = codes "bad plan 1" ++ 10 ∷ []
bad_plan_line (plan.Missing key) = codes "bad plan 2" ++ line_end_with_key key
bad_plan_line (plan.Unknown key) = codes "bad plan 3" ++ line_end_with_key key
bad_plan_line (plan.BadValue key) = codes "bad plan 4" ++ line_end_with_key key
bad_plan_line (plan.TooMany key) = codes "bad plan 5" ++ line_end_with_key key
bad_plan_line plan.BadCsa = codes "bad plan 6" ++ 10 ∷ []
bad_plan_line plan.BadVector = codes "bad plan 7" ++ 10 ∷ []
bad_plan_line (plan.Overlap i j) = codes "bad plan 8" ++ line_end_with_two_numbers i j
bad_plan_line plan.NoMemory = []

-- the printed line for a certificate with more bytes than its form allows
unfoldable pub cert_too_long_line : List ℕ
cert_too_long_line = codes "bad cert 0" ++ 10 ∷ []

-- the printed line on why a file is no certificate: the number of the fault, and its offset in the
-- file
unfoldable pub bad_cert_line : FormErr → List ℕ
bad_cert_line e = codes "bad cert " ++ (decimal e.kind ++ line_end_with_number e.at)

-- the printed line on a rule of certificates that fails, with the address and the frame
unfoldable pub refused_line : ℕ → Key → ℕ → List ℕ
refused_line rule key addr = codes "refused K" ++ (decimal rule ++ (codes " at " ++ (hex_word addr ++ (codes " in " ++ line_end_with_frame key))))

-- the line on an accepted certificate: the needed CSAs, and those of the plan without its reserve
unfoldable pub certified_line : ℕ → ℕ → List ℕ
certified_line need areas = codes "certified " ++ (decimal need ++ (codes " of " ++ (decimal areas ++ (codes " areas" ++ 10 ∷ []))))

-- the printed line for a turn script with more bytes than its form allows
unfoldable pub script_too_long_line : List ℕ
script_too_long_line = codes "bad script 0" ++ 10 ∷ []

-- the printed line on why a file is no turn script: the number of the fault, and its line
unfoldable pub bad_script_line : ScriptErr → List ℕ
bad_script_line (script.BadLine n) = codes "bad script 1" ++ line_end_with_number n
bad_script_line (script.NoSource n) = codes "bad script 2" ++ line_end_with_number n
bad_script_line (script.OutOfRange n) = codes "bad script 3" ++ line_end_with_number n
bad_script_line (script.TooMany n) = codes "bad script 4" ++ line_end_with_number n
bad_script_line script.NoMemory = []

-- the word that the line of a run prints for a cause of death
unfoldable pub death_cause_text : Cause → List ℕ
death_cause_text Fcd = codes "fcd"
death_cause_text Fcu = codes "fcu"
death_cause_text Csu = codes "csu"
death_cause_text Ctyp = codes "ctyp"
death_cause_text NotListed = codes "notlisted"
death_cause_text NoCode = codes "nocode"
death_cause_text NoArea = codes "noarea"

-- the end of the printed line on a run: whether the machine runs, or the cause and the address of
-- its death
unfoldable pub run_end_text : End → ℕ → List ℕ
run_end_text Running pc = codes "running" ++ 10 ∷ []
run_end_text (Dead cause) pc = codes "dead " ++ (death_cause_text cause ++ (codes " at " ++ (hex_word pc ++ 10 ∷ [])))

-- the printed line of `run`: the events, the peak of CSAs in use, and the state of the machine at
-- its end
unfoldable pub run_line : ℕ → ℕ → Machine → List ℕ
run_line events peak m = codes "events " ++ (decimal events ++ (codes " peak " ++ (decimal peak ++ (codes " " ++ run_end_text m.end m.pc))))

-- the printed line for a source with too many bytes, by its number among the sources, from 0; `asm`
-- has one source
unfoldable pub source_too_long_line : ℕ → List ℕ
source_too_long_line place = codes "bad source 0" ++ line_end_with_number place

-- the printed line on a source that breaks a rule: its number among the sources, from 0, the rule,
-- and the line in it
unfoldable pub bad_source_line : ℕ → ℕ → ℕ → List ℕ
bad_source_line place rule line = codes "bad source " ++ (decimal rule ++ line_end_with_two_numbers place line)

-- the printed line of `asm` on an object that was written, with its size in bytes
unfoldable pub assembled_object_line : ℕ → List ℕ
assembled_object_line bytes = codes "object " ++ (decimal bytes ++ (codes " bytes" ++ 10 ∷ []))

-- the printed line for a layout with more bytes than its form allows
unfoldable pub layout_too_long_line : List ℕ
layout_too_long_line = codes "bad layout 0" ++ 10 ∷ []

-- the printed line on why a file is no layout: the number of the fault, and its line
unfoldable pub bad_layout_line : LayoutErr → List ℕ
bad_layout_line (layout.BadLine n) = codes "bad layout 1" ++ line_end_with_number n
bad_layout_line (layout.Twice n) = codes "bad layout 2" ++ line_end_with_number n
bad_layout_line (layout.TooMany n) = codes "bad layout 3" ++ line_end_with_number n
bad_layout_line (layout.Overlap n) = codes "bad layout 4" ++ line_end_with_number n
bad_layout_line layout.NoMemory = []

-- the printed line for an object with too many bytes, by its number among the objects, from 0
unfoldable pub object_too_long_line : ℕ → List ℕ
object_too_long_line place = codes "bad object 0" ++ line_end_with_number place

-- the printed line on why a file is no object: its number among the objects, from 0, and the fault
-- with its offset
unfoldable pub bad_object_line : ℕ → FormErr → List ℕ
bad_object_line place e = codes "bad object " ++ (decimal e.kind ++ line_end_with_two_numbers place e.at)

-- the number that a `bad link` line prints for why a relocation doesn't fit its field
unfoldable pub reloc_fault_number : RelocErr → ℕ
reloc_fault_number Odd = 1
reloc_fault_number FarOff = 2
reloc_fault_number Segment = 3

-- the end of a printed line that names a symbol or a section
unfoldable pub line_end_with_name : List ℕ → List ℕ
line_end_with_name name = codes " name " ++ (name ++ 10 ∷ [])

-- the printed line on why objects can't be linked; a relocation is named by its object, section and
-- offset
unfoldable pub bad_link_line : Refusal → List ℕ
bad_link_line (twice name) = codes "bad link 1" ++ line_end_with_name name
bad_link_line (missing name) = codes "bad link 2" ++ line_end_with_name name
bad_link_line (no_place name) = codes "bad link 3" ++ line_end_with_name name
bad_link_line (no_room name) = codes "bad link 4" ++ line_end_with_name name
bad_link_line (reloc object section offset err) =
    codes "bad link 5 at " ++ (decimal object ++ (codes " " ++ (decimal section ++ (codes " " ++ (decimal offset ++ (codes " " ++ (decimal (reloc_fault_number err) ++ 10 ∷ [])))))))
bad_link_line no_entry = codes "bad link 6" ++ 10 ∷ []

-- the printed line of `link` on an image that was written, with its size in bytes
unfoldable pub linked_image_line : ℕ → List ℕ
linked_image_line bytes = codes "image " ++ (decimal bytes ++ (codes " bytes" ++ 10 ∷ []))

-- the printed line for a file of cells with more bytes than its form allows
unfoldable pub cells_too_long_line : List ℕ
cells_too_long_line = codes "bad cells 0" ++ 10 ∷ []

-- the printed line for a file of tasks with more bytes than its form allows
unfoldable pub tasks_too_long_line : List ℕ
tasks_too_long_line = codes "bad tasks 0" ++ 10 ∷ []

-- ---- boot sequences, cells, tasks and generated images
-- the printed line of `boot` on a certified boot sequence: its events, the needed CSAs, and those
-- of the plan without its reserve
unfoldable pub boot_line : ℕ → ℕ → ℕ → List ℕ
boot_line events need areas =
    codes "boot " ++ (decimal events ++ (codes " events certified " ++ (decimal need ++ (codes " of " ++ (decimal areas ++ (codes " areas" ++ 10 ∷ []))))))

-- the printed line of `bootgen` on a boot sequence that was written as a source
unfoldable pub bootgen_line : List ℕ
bootgen_line = codes "boot 56 instructions" ++ 10 ∷ []

-- the printed line of certified cells: the needed CSAs, those of the plan without its reserve, and
-- the number of cells in their bounds
unfoldable pub certified_cells_line : ℕ → ℕ → ℕ → List ℕ
certified_cells_line need areas count =
    codes "certified " ++ (decimal need ++ (codes " of " ++ (decimal areas ++ (codes " areas with " ++ (decimal count ++ (codes " cells" ++ 10 ∷ []))))))

-- the printed line on an image without the switch routine in rom: the first address where a byte of
-- the routine is missing
unfoldable pub refused_switch_line : ℕ → List ℕ
refused_switch_line addr = codes "refused switch at " ++ (hex_word addr ++ 10 ∷ [])

-- a printed line on a certificate with the number u of its task before the line feed
unfoldable pub line_with_task : List ℕ → ℕ → List ℕ
line_with_task line u = take (length line - 1) line ++ (codes " of task " ++ (decimal u ++ 10 ∷ []))

-- the printed line on a rule that fails in a task's certificate, with the address, the frame, and
-- the task
abbrev pub refused_task_line : ℕ → Key → ℕ → ℕ → List ℕ
refused_task_line rule key addr u = line_with_task (refused_line rule key addr) u

-- the printed line on tasks whose needs together exceed the CSAs of the plan without its reserve
unfoldable pub refused_sum_line : ℕ → ℕ → List ℕ
refused_sum_line sum areas = codes "refused sum " ++ (decimal sum ++ (codes " of " ++ (decimal areas ++ (codes " areas" ++ 10 ∷ []))))

-- the printed line on certified tasks: the CSAs that they need together, those of the plan without
-- its reserve, and the number of tasks
unfoldable pub certified_tasks_line : ℕ → ℕ → ℕ → List ℕ
certified_tasks_line sum areas n =
    codes "certified " ++ (decimal sum ++ (codes " of " ++ (decimal areas ++ (codes " areas in " ++ (decimal n ++ (codes " tasks" ++ 10 ∷ []))))))

-- the printed line of `gen`: the image's functions, its certificate's nodes and points, the needed
-- CSAs, and those of the plan without its reserve
unfoldable pub gen_line : ℕ → ℕ → ℕ → ℕ → ℕ → List ℕ
gen_line functions nodes points need areas =
    codes "functions "
    ++ (decimal functions
    ++ (codes " nodes "
    ++ (decimal nodes
    ++ (codes " points "
    ++ (decimal points ++ (codes " certified " ++ (decimal need ++ (codes " of " ++ (decimal areas ++ (codes " areas" ++ 10 ∷ []))))))))))
