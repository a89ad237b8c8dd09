-- A task that waits still waits after a step of another one.
use Rattle.std.proofs.Common.{◌≡◌, ℕ, ◌/◌, ◌%◌, ◌^◌, List, sym, ap, ◌∙◌, subst, arith}
use Rattle.std.specs.FinMap as finite
use Rattle.csa_chain.specs.MemoryBytes.{Memory}
use Rattle.csa_chain.specs.Chain.{link_in}
use Rattle.csa_chain.specs.ContextWords.{ul_of}
use Rattle.csa_chain.proofs.ChainLaws.{SameArea, SameAreas, area_word_same}
use Rattle.elf_image.specs.Images.{ImageData}
use Rattle.tcd_base.specs.declared.core_version.Core.{Core}
use Rattle.tcd_plan.specs.PlanData.{PlanData}
use Rattle.tc_machine.specs.declared.state.Machine.{Machine}
use Rattle.tc_machine.specs.Machine.{is_interrupt_stack_used}
use Rattle.tcd_base.specs.Ranges.{IsInOneRange}
use Rattle.tc_machine.proofs.Areas.{Areas}
use Rattle.task_chains.specs.Tasks.{TasksData}
use Rattle.task_chains.specs.TaskStarts.{block_word, task_upper_area, task_lower_area, IsTaskReady}
use Rattle.task_chains.proofs.Twins.{SameContexts-kept}
use Rattle.task_chains.proofs.Invariant.{Waits, ready, paused}
use Rattle.task_chains.proofs.Levels.{areas_same}

-- a task that is ready, if its areas and its word are unchanged
ready_kept : (core : Core) (plan : PlanData) (tasks : TasksData) (m n : Memory) (w : ℕ) → SameArea m n (task_lower_area plan w) → SameArea m n (task_upper_area plan w) → block_word tasks n w ≡ block_word tasks m w → IsTaskReady core plan tasks m w → IsTaskReady core plan tasks n w
ready_kept core plan tasks m n w low up word r =
    let u0 = area_word_same up 0 (omega arith) in
    let u1 = area_word_same up 1 (omega arith) in
    let u2 = area_word_same up 2 (omega arith) in
    let l0 = area_word_same low 0 (omega arith) in
    let l1 = area_word_same low 1 (omega arith) in
    record {
      ends = u0 ∙ r.ends;
      io = ap (λ x. x / 2 ^ 10 % 4) u1 ∙ r.io;
      is = ap is_interrupt_stack_used u1 ∙ r.is;
      sp = u2 ∙ r.sp;
      above = ap link_in l0 ∙ r.above;
      ul = ap (ul_of core) l0 ∙ r.ul;
      entry = l1 ∙ r.entry;
      word = word ∙ r.word;
    }

-- by the areas of its chain, rom and its word
pub waits_kept : (image : ImageData) (plan : PlanData) (tasks : TasksData) (w : ℕ) (m n : Machine) (word : ℕ) (links : List ℕ) → SameAreas m.mem n.mem links → ((x : ℕ) → IsInOneRange x 1 plan.rom → finite.get n.mem x ≡ finite.get m.mem x)
    → block_word tasks n.mem w ≡ block_word tasks m.mem w → n.core ≡ m.core → n.lcx ≡ m.lcx → Waits image plan tasks w m word links → Waits image plan tasks w n word links
waits_kept image plan tasks w m n word links same rom block core lcx (ready later r is) =
    let areas = subst (SameAreas m.mem n.mem) is same in
    ready later (subst (λ c. IsTaskReady c plan tasks n.mem w) (sym core) (ready_kept m.core plan tasks m.mem n.mem w areas.0 (areas.1).0 block r)) is
waits_kept image plan tasks w m n word links same rom block core lcx (paused v seen of pc off ccpn p) =
    paused v seen
    (record { run = of.run; memory = of.memory; rom = of.rom; same_rom = λ x in_rom out. of.same_rom x in_rom out ∙ sym (rom x in_rom) })
    pc off ccpn
    (record {
      same = SameContexts-kept m.mem n.mem v.mem v.mem word v.pcxi links seen same (areas_same v.mem seen) p.same;
      view_word = p.view_word;
      view_links = p.view_links;
      view_free = p.view_free;
      view_areas = subst (λ x. Areas plan v.mem v.fcx x seen p.view_free) (sym lcx) p.view_areas;
    })
