-- A task's first turn ends the switch: its view starts.
use Rattle.std.proofs.Common.{◌≡◌, ℕ, ◌+◌, ◌-◌, ◌/◌, ◌%◌, ◌^◌, ◌<◌, false, get_or, refl, sym, ◌∙◌, arith}
use Rattle.csa_chain.specs.MemoryBytes.{Memory}
use Rattle.elf_image.specs.Images.{ImageData}
use Rattle.tcd_plan.specs.PlanData.{PlanData, IsPlan}
use Rattle.tc_machine.specs.declared.events.End.TheVariants.{Running}
use Rattle.tc_machine.specs.declared.state.Machine.{Machine}
use Rattle.tc_machine.specs.Machine.{is_interrupt_stack_used, IsMachine}
use Rattle.tc_machine.specs.PlanAreas.{first_link}
use Rattle.tc_machine.specs.Starting.{Starts, HasGlobals}
use Rattle.tc_machine.proofs.PlanLaws.{link_lt}
use Rattle.task_chains.specs.Tasks.{TasksData, task_at}
use Rattle.task_chains.specs.Views.{view_image_of, view_plan_of, TasksFitPlan}
use Rattle.csa_chain.proofs.SeveralLaws.{cond_other}
use Rattle.task_chains.proofs.ViewStart.{IsViewStart}
use Rattle.task_chains.proofs.Alike.{seen_as}

-- the machine after both contexts of task u, not the first, are restored
pub record Begun (plan : PlanData) (tasks : TasksData) (u : ℕ) (m : Machine) : Type 0 where
  pub words : IsMachine m
  pub lcx : m.lcx ≡ first_link plan + (plan.areas - plan.reserve)
  pub pc : m.pc ≡ (task_at tasks u).entry
  pub sp : get_or m.a 10 0 ≡ (task_at tasks u).sp
  pub globals : HasGlobals plan m.a
  pub biv : m.biv ≡ plan.biv
  pub btv : m.btv ≡ plan.btv
  pub isp : m.isp ≡ plan.isp
  pub ie : m.ie ≡ false
  pub ccpn : m.ccpn ≡ plan.start_ccpn
  pub is : is_interrupt_stack_used m.psw ≡ false
  pub io : m.psw / 2 ^ 10 % 4 ≡ 2
  pub end : m.end ≡ Running
  pub core : m.core ≡ plan.core

first_small : {plan : PlanData} → IsPlan plan → first_link plan < 2 ^ 32
first_small {plan = plan} ok = let some = (ok.areas).some in let lt = link_lt ok 0 (omega arith) in omega arith

-- the view starts as the machine, with its own memory, PCXI 0 and all areas free
pub view_begins : {plan : PlanData} → IsPlan plan → (image : ImageData) (tasks : TasksData) → TasksFitPlan plan tasks → (u : ℕ) → 0 < u → (m : Machine) → Begun plan tasks u m → (start : Memory) → IsViewStart (view_image_of image tasks u) plan tasks u m.mem start
    → Starts (view_image_of image tasks u) (view_plan_of plan tasks u) (seen_as m start 0 (first_link plan))
view_begins {plan = plan} ok image tasks fit u later m b start s =
    let w = b.words in
    record {
      machine = record { d = w.d; a = w.a; pc = w.pc; psw = w.psw; pcxi = omega arith; fcx = first_small ok; lcx = w.lcx; ccpn = w.ccpn; biv = w.biv; btv = w.btv; isp = w.isp; bytes = s.bytes };
      memory = s.memory;
      rom = s.rom;
      linked = s.linked;
      fcx = refl;
      lcx = b.lcx;
      pcxi = refl;
      pc = b.pc;
      sp = b.sp;
      globals = b.globals;
      biv = b.biv;
      btv = b.btv;
      isp = b.isp;
      ie = b.ie ∙ sym (cond_other u 0 plan.start_ie false (λ e. omega arith));
      ccpn = b.ccpn;
      is = b.is ∙ sym fit.own_stack;
      io = b.io;
      end = b.end;
      core = b.core;
    }
