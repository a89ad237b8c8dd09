-- What safe runs of all tasks are, part by part in plain equations: the statements of two guard
-- laws. If the definition spoke of fewer runs, or said less of a state, the first law would break;
-- if it said more, the second. The guard laws of the premises are in TaskGuardLaws.
use Rattle.std.specs.Prelude.{◌≡◌, ◌≢◌, ◌↔◌, ℕ, ◌+◌, ◌-◌, ◌*◌, ◌%◌, ◌^◌, ◌<◌, ◌≤◌, ◌⊎◌, List, length, map, slice_get, slice_index, Some}
use Rattle.std.specs.FinMap as bytes
use Rattle.csa_chain.specs.MemoryBytes.{word_at}
use Rattle.csa_chain.specs.SeveralChains.{sum_of_first}
use Rattle.elf_image.specs.Images.{ImageData, image_byte}
use Rattle.tcd_base.specs.declared.range.Range.{Range}
use Rattle.tcd_plan.specs.PlanData.{PlanData, IsPlan}
use Rattle.tc_isa.specs.Insts.{InstData}
use Rattle.tc_isa.specs.Spelling.{Spells}
use Rattle.tc_machine.specs.declared.events.Event.{Event}
use Rattle.tc_machine.specs.declared.events.End.TheVariants.{Running}
use Rattle.tc_machine.specs.declared.state.Machine.{Machine}
use Rattle.tc_machine.specs.PlanAreas.{first_link}
use Rattle.tc_machine.specs.Stepping.{stored, IsRun}
use Rattle.tc_machine.specs.Safe.{Fits}
use Rattle.tc_machine.specs.MachineLaws.{IsAreaWalk, LiesInRange}
use Rattle.task_chains.specs.declared.task_lists.Task.{Task}
use Rattle.task_chains.specs.TaskStarts.{TasksStart}
use Rattle.task_chains.specs.SafeTasks.{SafeTasks}

-- task u of n owns PCXI's chain, in plain equations: the block's last word is u, but at the
-- routine's 13th to 15th instructions u + 1, or 0 if u is the last, as PCXI is still task u's
pub record OwnsChain (switch block n : ℕ) (m : Machine) (u : ℕ) : Type 0 where
  pub one : u < n
  pub now : m.pc ≢ switch + 48 → m.pc ≢ switch + 52 → m.pc ≢ switch + 56 → word_at m.mem (block + 4 * n) ≡ u
  pub later :
      (m.pc ≡ switch + 48) ⊎ ((m.pc ≡ switch + 52) ⊎ (m.pc ≡ switch + 56))
      → (word_at m.mem (block + 4 * n) ≡ u + 1) ⊎ ((u + 1 ≡ n) × (word_at m.mem (block + 4 * n) ≡ 0))

-- safe tasks, in plain equations: the link has this place in list u, which is that of task u if u
-- is below n, and the free list if u is n
abbrev pub IsLinkAtPlaceOfList : ℕ → (ℕ → List ℕ) → List ℕ → ℕ → ℕ → ℕ → Type 0
IsLinkAtPlaceOfList n used free link u place = ((u < n) × (slice_get (used u) place ≡ Some link)) ⊎ ((u ≡ n) × (slice_get free place ≡ Some link))

-- A store of these bytes by an instruction at pc is inside one range of ram or of a peripheral. It
-- misses the save areas and all rom, where code and vectors are. It misses the block, unless pc is
-- at one of the routine's 72 bytes.
pub record IsSafeTaskStore (plan : PlanData) (switch block n pc x size : ℕ) : Type 0 where
  pub fits : x + size ≤ 2 ^ 32
  pub in_range : LiesInRange plan.ram x size ⊎ LiesInRange (map (λ d. d.range) plan.devices) x size
  pub off_areas : (x + size ≤ plan.csa_at) ⊎ (plan.csa_at + 64 * plan.areas ≤ x)
  pub off_rom : (place : ℕ) (r : Range) → slice_get plan.rom place ≡ Some r → (x + size ≤ r.at) ⊎ (r.at + r.len ≤ x)
  pub off_block : (pc < switch) ⊎ (switch + 72 ≤ pc) → (x + size ≤ block) ⊎ (block + (4 * n + 4) ≤ x)

-- The parts of a safe state. The machine runs, so it took no context trap. PCXI leads to the areas
-- of the task that owns it, the block's words lead to those of the others, and FCX leads to the
-- free ones. Each area of the plan has one place on one of these lists, and nothing else has a
-- place. Each task has at most its need, and all have at most the sum. FCX has LCX's link exactly
-- if all areas except the reserve are in use. The bytes at pc are in one rom range, the same in
-- memory and in the image, and spell an instruction. What the next event stores misses areas, rom
-- and block.
pub record HasSafeTaskParts (image : ImageData) (plan : PlanData) (switch block n : ℕ) (needs : ℕ → ℕ) (m : Machine) (e : Event) : Type 0 where
  pub running : m.end ≡ Running
  pub own : ℕ
  pub owns : OwnsChain switch block n m own
  pub used : ℕ → List ℕ
  pub free : List ℕ
  pub own_walk : IsAreaWalk m.mem m.pcxi (used own)
  pub other_walks : (u : ℕ) → u < n → u ≢ own → IsAreaWalk m.mem (word_at m.mem (block + 4 * u)) (used u)
  pub free_walk : IsAreaWalk m.mem m.fcx free
  pub count : sum_of_first n (λ u. length (used u)) + length free ≡ plan.areas
  pub places : (i : ℕ) → i < plan.areas → (u : ℕ) × (place : ℕ) × IsLinkAtPlaceOfList n used free (first_link plan + i) u place
  pub once : (l u v i j : ℕ) → IsLinkAtPlaceOfList n used free l u i → IsLinkAtPlaceOfList n used free l v j → (u ≡ v) × (i ≡ j)
  pub areas : (l u place : ℕ) → IsLinkAtPlaceOfList n used free l u place → (i : ℕ) × (i < plan.areas) × (l ≡ first_link plan + i)
  pub within_need : (u : ℕ) → u < n → length (used u) ≤ needs u
  pub within_sum : sum_of_first n (λ u. length (used u)) ≤ sum_of_first n needs
  pub limit : (m.fcx % 2 ^ 20 ≡ m.lcx % 2 ^ 20) ↔ (sum_of_first n (λ u. length (used u)) ≡ plan.areas - plan.reserve)
  pub code : List ℕ
  pub inst : InstData
  pub spelled : Spells code inst
  pub in_rom : LiesInRange plan.rom m.pc (length code)
  pub held : (i : ℕ) → i < length code → image_byte image (m.pc + i) ≡ Some (slice_index code i)
  pub there : (i : ℕ) → i < length code → bytes.get m.mem (m.pc + i) ≡ Some (slice_index code i)
  pub store : (x size : ℕ) → stored m e ≡ Some (x, size) → IsSafeTaskStore plan switch block n m.pc x size

-- if all runs of tasks are safe, each of their states has the parts of a safe state, whatever
-- fitting event is next
abbrev pub SafeTasksHaveParts : Type 0
SafeTasksHaveParts =
    (image : ImageData) (plan : PlanData) (switch block : ℕ) (list : List Task) (needs : ℕ → ℕ) (states : ℕ → Machine) (events : ℕ → Event) (n : ℕ) (e : Event)
    → IsPlan plan → SafeTasks image plan (record { switch = switch; block = block; list = list }) needs
    → IsRun states events → TasksStart image plan (record { switch = switch; block = block; list = list }) (states 0)
    → ((k : ℕ) → k < n → Fits plan (states k) (events k)) → Fits plan (states n) e
    → HasSafeTaskParts image plan switch block (length list) needs (states n) e

-- all runs of tasks are safe if each of their states has the parts of a safe state, whatever
-- fitting event is next
abbrev pub PartsMakeTasksSafe : Type 0
PartsMakeTasksSafe =
    (image : ImageData) (plan : PlanData) (switch block : ℕ) (list : List Task) (needs : ℕ → ℕ) → IsPlan plan
    → ((states : ℕ → Machine) (events : ℕ → Event) (n : ℕ) (e : Event)
    → IsRun states events → TasksStart image plan (record { switch = switch; block = block; list = list }) (states 0)
    → ((k : ℕ) → k < n → Fits plan (states k) (events k)) → Fits plan (states n) e
    → HasSafeTaskParts image plan switch block (length list) needs (states n) e)
    → SafeTasks image plan (record { switch = switch; block = block; list = list }) needs
