-- Statements of guard laws: plain equations give the premises of the theorem on tasks. If a
-- definition of a premise asked for more, one of the laws would break.
use Rattle.std.specs.Prelude.{◌≡◌, ◌↔◌, ℕ, ◌+◌, ◌-◌, ◌*◌, ◌/◌, ◌%◌, ◌^◌, ◌<◌, ◌≤◌, ◌⊎◌, ◌==◌, true, false, List, ◌∷◌, length, slice_get, slice_index, All, Contains, Some, []}
use Rattle.std.specs.FinMap as bytes
use Rattle.csa_chain.specs.MemoryBytes.{Memory, is_mapped, word_at}
use Rattle.csa_chain.specs.Chain.{area_word}
use Rattle.elf_image.specs.Images.{ImageData, image_byte}
use Rattle.tcd_base.specs.declared.range.Range.{Range}
use Rattle.tcd_base.specs.declared.core_version.Core.{Core}
use Rattle.tcd_base.specs.declared.core_version.Core.TheVariants.{V13, V16}
use Rattle.tcd_base.specs.Ranges.{IsInOneRange}
use Rattle.tcd_plan.specs.PlanData.{PlanData, IsPlan}
use Rattle.tc_machine.specs.declared.events.End.TheVariants.{Running}
use Rattle.tc_machine.specs.PlanAreas.{first_link}
use Rattle.task_chains.specs.declared.task_lists.Task.{Task}
use Rattle.task_chains.specs.Tasks.{AreTasks}
use Rattle.task_chains.specs.Views.{TasksFitPlan}
use Rattle.task_chains.specs.TaskStarts.{IsTaskReady, TasksStart}

-- guard law of a premise: task i + 1 is ready if areas 2 i and 2 i + 1 are its contexts (PCXI 0, IO
-- 2, IS 0, stack pointer; link, UL 1, entry), and the block has the latter's link
abbrev pub EquationsMakeTaskReady : Type 0
EquationsMakeTaskReady =
    (core : Core) (plan : PlanData) (switch block : ℕ) (list : List Task) (mem : Memory) (i : ℕ) (t : Task) → slice_get list (i + 1) ≡ Some t
    → area_word mem (first_link plan + 2 * i) 0 ≡ 0
    → area_word mem (first_link plan + 2 * i) 1 / 2 ^ 9 % 8 ≡ 4
    → area_word mem (first_link plan + 2 * i) 2 ≡ t.sp
    → area_word mem (first_link plan + (2 * i + 1)) 0 % 2 ^ 20 ≡ first_link plan + 2 * i
    → (core ≡ V13 → area_word mem (first_link plan + (2 * i + 1)) 0 / 2 ^ 22 % 2 ≡ 1)
    → (core ≡ V16 → area_word mem (first_link plan + (2 * i + 1)) 0 / 2 ^ 20 % 2 ≡ 1)
    → area_word mem (first_link plan + (2 * i + 1)) 1 ≡ t.entry
    → word_at mem (block + 4 * (i + 1)) ≡ first_link plan + (2 * i + 1)
    → IsTaskReady core plan (record { switch = switch; block = block; list = list }) mem (i + 1)

-- guard law of a premise: tasks fit a plan with at most 15 peripherals and ram ranges together, the
-- block inside one ram range (it can add one more), and no start on the interrupt stack
abbrev pub EquationsMakeTasksFit : Type 0
EquationsMakeTasksFit =
    (plan : PlanData) (switch block : ℕ) (list : List Task) (r : Range) → IsPlan plan → Contains plan.ram r
    → r.at ≤ block → block + (4 * length list + 4) ≤ r.at + r.len → length plan.devices + length plan.ram ≤ 15 → plan.start_is ≡ false
    → TasksFitPlan plan (record { switch = switch; block = block; list = list })

-- Guard law of a premise: a machine with these fields starts the tasks. All other registers, bits
-- of PSW and bytes are any. FCX is the link of area 2 (n - 1), or 0 if there is none.
abbrev pub EquationsMakeTasksStart : Type 0
EquationsMakeTasksStart =
    (image : ImageData) (plan : PlanData) (switch block : ℕ) (t : Task) (ts : List Task) (d a : List ℕ) (psw fcx : ℕ) (mem : Memory) → IsPlan plan
    → AreTasks (record { switch = switch; block = block; list = t ∷ ts })
    → length d ≡ 16 → All (λ w. w < 2 ^ 32) d → length a ≡ 16 → All (λ w. w < 2 ^ 32) a → psw < 2 ^ 32
    → ((x b : ℕ) → bytes.get mem x ≡ Some b → b < 2 ^ 8)
    → ((x : ℕ) → (is_mapped mem x ≡ true) ↔ (IsInOneRange x 1 plan.rom ⊎ IsInOneRange x 1 plan.ram ⊎ ((plan.csa_at ≤ x) × (x < plan.csa_at + 64 * plan.areas))))
    → ((x b : ℕ) → IsInOneRange x 1 plan.rom → image_byte image x ≡ Some b → bytes.get mem x ≡ Some b)
    → 2 * length ts ≤ plan.areas → word_at mem (block + 4 * (length ts + 1)) ≡ 0
    → ((i : ℕ) → i < length ts → IsTaskReady plan.core plan (record { switch = switch; block = block; list = t ∷ ts }) mem (i + 1))
    → ((i : ℕ) → 2 * length ts ≤ i → i + 1 < plan.areas → area_word mem (first_link plan + i) 0 ≡ first_link plan + (i + 1))
    → ((i : ℕ) → 2 * length ts ≤ i → i + 1 ≡ plan.areas → area_word mem (first_link plan + i) 0 ≡ 0)
    → (2 * length ts < plan.areas → fcx ≡ first_link plan + 2 * length ts) → (2 * length ts ≡ plan.areas → fcx ≡ 0)
    → slice_index a 10 ≡ t.sp → slice_index a 0 ∷ slice_index a 1 ∷ slice_index a 8 ∷ slice_index a 9 ∷ [] ≡ plan.globals
    → (psw / 2 ^ 9 % 2 == 1) ≡ plan.start_is → psw / 2 ^ 10 % 4 ≡ 2
    → TasksStart image plan (record { switch = switch; block = block; list = t ∷ ts }) (record {
      pc = t.entry;
      d = d;
      a = a;
      psw = psw;
      pcxi = 0;
      fcx = fcx;
      lcx = first_link plan + (plan.areas - plan.reserve);
      ccpn = plan.start_ccpn;
      ie = plan.start_ie;
      biv = plan.biv;
      btv = plan.btv;
      isp = plan.isp;
      mem = mem;
      end = Running;
      core = plan.core;
    })
