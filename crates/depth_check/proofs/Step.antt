-- One event keeps the invariant.
use Rattle.std.proofs.Common.{◌≡◌, ◌≢◌, ℕ, ◌+◌, ◌-◌, ◌*◌, ◌/◌, ◌%◌, ◌^◌, ◌<◌, ◌≤◌, ◌==◌, inl, inr, Bool, true, false, cond, List, [], ◌∷◌, ◌++◌, length, set, Some, Ok, refl, sym, ap, ◌∙◌, subst, arith, length-append, Contains}
use Rattle.std.proofs.lemmas.Bool.{cases_Bool}
use Rattle.std.proofs.lemmas.Nat.{or_lt}
use Rattle.std.specs.Prelude.{Result, Option, None, IsSomeAnd, IfSome, bit_or}
use Rattle.csa_chain.specs.Chain.{link_in}
use Rattle.csa_chain.specs.ContextWords.{pie_of, pcpn_of}
use Rattle.elf_image.specs.Images.{ImageData}
use Rattle.tcd_plan.specs.PlanData.{PlanData, IsPlan}
use Rattle.tc_isa.specs.declared.shapes.Shape.{Shape}
use Rattle.tc_isa.specs.declared.shapes.Shape.TheVariants.{Call, Ret, Rfe, Svlcx, Rslcx, Bisr, Syscall, Mtcr}
use Rattle.tc_isa.specs.declared.shapes.Target.{Target}
use Rattle.tc_isa.specs.declared.shapes.Target.TheVariants as target
use Rattle.tc_machine.specs.declared.events.Cause.{Cause}
use Rattle.tc_machine.specs.declared.events.Event.{Event}
use Rattle.tc_machine.specs.declared.events.End.TheVariants.{Running}
use Rattle.tc_machine.specs.declared.state.Machine.{Machine}
use Rattle.tc_machine.specs.Machine.{reg, a11, is_interrupt_stack_used, psw_with_status, IsMachine}
use Rattle.tc_machine.specs.Instructions.{wrapping_sum, target_address, after_instruction, is_trapping_instruction}
use Rattle.tc_machine.specs.Handlers.{handler_psw, after_interrupt}
use Rattle.tc_machine.specs.Stepping.{is_interrupt_taken, after_fetch_result, machine_after_event, step}
use Rattle.tc_machine.specs.SavesAndRestores.{with_context_saved, save, with_context_restored, restore}
use Rattle.tc_machine.specs.Fetching.{fetched_instruction, fetched_size}
use Rattle.tc_machine.specs.Safe.{Fits}
use Rattle.tc_machine.proofs.Saves.{moved-lt}
use Rattle.tc_machine.proofs.Fetched.{fetched-is}
use Rattle.tc_machine.proofs.ShapeWords.{IsShape, IsTarget, shape_of-suits}
use Rattle.tc_machine.proofs.Stays.{irq_lt}
use Rattle.tc_machine.proofs.Steps.{done-is, step-is, with_event}
use Rattle.value_domain.specs.declared.states.State.{State}
use Rattle.vd_transfer.specs.EffectsOnStates.{state_after_lower_save, state_after_lower_restore}
use Rattle.depth_cert.specs.declared.keys.Key.{Key}
use Rattle.depth_cert.specs.declared.points.Exit.{Exit}
use Rattle.depth_cert.specs.Keys.{IsKey}
use Rattle.depth_cert.specs.Points.{find_point}
use Rattle.depth_cert.specs.Nodes.{NodeData, find_node}
use Rattle.depth_cert.specs.Certs.{CertData, IsCert}
use Rattle.cfg_recover.specs.Code.{IsCode}
use Rattle.cfg_recover.specs.Entries.{call_key, irq_key, sys_key, aln_key, call_entry, irq_entry, sys_entry, aln_entry, handler_key}
use Rattle.depth_cert.specs.Exits.{exit_of_state, state_after_return, ExitCovers}
use Rattle.cfg_recover.specs.Duties.{Owed, jump, enter, resume, leave, owed}
use Rattle.cfg_recover.specs.EdgesAreOwed.{OwesEntry, IsEdgeWayOwed}
use Rattle.cfg_recover.specs.Frames.{IsReturnTo, RunFrame, frames_after_jump, frames_after_entry, frames_after_return, frames_after_edge, frames_after_step}
use Rattle.cfg_recover.specs.RulesHoldOrFail.{limits_of_cert, HasCoveringPoint, Accepts}
use Rattle.cfg_recover.specs.StepEdges.{EdgeWay, to, call, irq, sys, aln, edge_way_of_shape, edge_way_by_trap, edge_way_in_fetch}
use Rattle.cfg_recover.specs.MovesAreOwed.{IsAtPoint, KeepsFrameAndContexts}
use Rattle.cfg_recover.proofs.MoveLaws.{moves_in_frame, traps_owed, calls_owed, interrupts_owed}
use Rattle.cfg_recover.proofs.EntryLaws.{holds_same, holds_exit, reg_lt}
use Rattle.depth_check.proofs.Frames.{Frame, standing, Leaves, by_return, from_system, from_handler, Invariant}
use Rattle.depth_check.proofs.Enter.{Begins, begun, entered, room, begins, saves}
use Rattle.depth_check.proofs.Leave.{globals_held, comes_back, restores, none_held}
use Rattle.depth_check.proofs.Plain.{Invariant-moved}
use Rattle.cfg_recover.proofs.PointLaws.{limits_are, PointHolds, duties_at, node_is, rules_at, Found, node_found}
use Rattle.depth_check.proofs.Entries.{PointFor, point_for, if_some, call_begins}
use Rattle.depth_check.proofs.Handlers.{handler_a, irq_begins, aln_begins, sys_begins}
use Rattle.depth_check.proofs.Locals.{with_locals, lower_pushed, lower_popped}
use Rattle.depth_check.proofs.Lengths.{jump_long}
use Rattle.depth_check.proofs.Owes.{owes-svlcx, owes-bisr, owes-rslcx, owes-syscall, owes-syscall_back, owes-ret, owes-rfe, interrupt-is, trap-is, call-is, syscall-is, ret-is, rfe-is, svlcx-is, bisr-is, rslcx-is, traps-is}
use Rattle.tc_mem.specs.PlanMemory.{HoldsRom}
use Rattle.value_domain.proofs.RegLaws.{implied_length}

-- the invariant, with some frames
pub record Goes (image : ImageData) (plan : PlanData) (cert : CertData) (most : ℕ) (m : Machine) (now : List RunFrame) : Type 0 where
  pub frame : Frame
  pub below : List Frame
  pub kept : Invariant image plan cert most m frame below
  pub stands : standing m.pc frame below ≡ now

Goes-as : {image : ImageData} {plan : PlanData} {cert : CertData} {most : ℕ} {m : Machine} {now then : List RunFrame} → now ≡ then → Goes image plan cert most m now → Goes image plan cert most m then
Goes-as e g = record { frame = g.frame; below = g.below; kept = g.kept; stands = g.stands ∙ e }

-- a frame goes on, with other lower contexts, and enters another
at_standing : (q pc : ℕ) (frame : Frame) (below : List Frame) → standing q frame below ≡ frames_after_jump q (standing pc frame below)
at_standing q pc frame [] = refl
at_standing q pc frame (s ∷ below) = refl

locals_standing : (q pc : ℕ) (frame : Frame) (locals : List ℕ) (flags : List Bool) (below : List Frame) → standing q (with_locals frame locals flags) below ≡ frames_after_jump q (standing pc frame below)
locals_standing q pc frame locals flags [] = refl
locals_standing q pc frame locals flags (s ∷ below) = refl

entered_standing : (key : Key → Key) (back q pc : ℕ) (frame : Frame) (below : List Frame) → record { key = key (frame.node).key; at = q } ∷ standing back frame below ≡ frames_after_entry key back q (standing pc frame below)
entered_standing key back q pc frame [] = refl
entered_standing key back q pc frame (s ∷ below) = refl

-- The invariant of a machine x after a step from m with these frames. The step's way is among the
-- duties of the point, or is the return to the frame before it.
pub record Steps (image : ImageData) (plan : PlanData) (cert : CertData) (most : ℕ) (m : Machine) (frame : Frame) (below : List Frame) (ds : List Owed) (e : Event) (n : ℕ) (way : EdgeWay) (x : Machine) : Type 0 where
  pub goes : Goes image plan cert most x (frames_after_edge m.pc (wrapping_sum m.pc n) e.irq way (standing m.pc frame below))
  pub owes : IsEdgeWayOwed ds (frame.node).key e.irq (standing m.pc frame below) x.pc way

Steps-as : {image : ImageData} {plan : PlanData} {cert : CertData} {most : ℕ} {m : Machine} {frame : Frame} {below : List Frame} {ds : List Owed} {e : Event} {n : ℕ} {way other : EdgeWay} {x : Machine} → other ≡ way
    → Steps image plan cert most m frame below ds e n way x → Steps image plan cert most m frame below ds e n other x
Steps-as {image} {plan} {cert} {most} {m} {frame} {below} {ds} {e} {n} {way} {other} {x} same s = subst (λ w. Steps image plan cert most m frame below ds e n w x) (sym same) s

-- a return goes to the frame before the newest
return_standing : (q pc : ℕ) (frame suspended : Frame) (below : List Frame) → frame.back ≡ q → IsReturnTo q (standing pc frame (suspended ∷ below))
return_standing q pc frame suspended [] e = e
return_standing q pc frame suspended (s ∷ below) e = e

-- an instruction that stays in its frame
pub stays_to : (shape : Shape) → KeepsFrameAndContexts shape → (q : ℕ) → edge_way_of_shape shape q ≡ to q
stays_to (Call x) stays q = absurd stays
stays_to Ret stays q = absurd stays
stays_to Rfe stays q = absurd stays
stays_to Svlcx stays q = absurd stays
stays_to Rslcx stays q = absurd stays
stays_to (Bisr c) stays q = absurd stays
stays_to (Syscall tin) stays q = absurd stays
stays_to (Mtcr src number) stays q = absurd stays
stays_to _ stays q = refl

-- ---- shapes

shape_is : (image : ImageData) (plan : PlanData) (p : ℕ) (shape : Shape) (n : ℕ) → IsCode image plan p shape n → IsShape shape
shape_is image plan p shape n code = subst IsShape code.shaped (shape_of-suits code.inst ((code.spells).spelled).inst)

-- the fetched instruction at an address with code
pub fetched_at : (image : ImageData) (plan : PlanData) → IsPlan plan → (m : Machine) → HoldsRom image plan m.mem → (shape : Shape) (n : ℕ) → IsCode image plan m.pc shape n → fetched_instruction m ≡ Ok (shape, n)
fetched_at image plan ok m rom shape n code =
    fetched-is image ok m rom code.even code.bytes code.inst code.spells ∙ ap (λ s. Ok (s, length code.bytes)) code.shaped ∙ ap (λ l. Ok (shape, l)) code.sized

target_lt : (m : Machine) → IsMachine m → (to : Target) → IsTarget to → target_address m to < 2 ^ 32
target_lt m words (target.Rel by) h = moved-lt m.pc by
target_lt m words (target.Abs x) h = h
target_lt m words (target.Reg r) h = let small = reg_lt m words r in omega arith

-- the status byte of an event leaves PSW.IS
status_is : (psw status : ℕ) → is_interrupt_stack_used (psw_with_status psw status) ≡ is_interrupt_stack_used psw
status_is psw status = ap (λ b. b == 1) (bit psw status)
  where
    bit : (psw status : ℕ) → (status * 2 ^ 24 + psw % 2 ^ 24) / 2 ^ 9 % 2 ≡ psw / 2 ^ 9 % 2
    bit psw status = omega arith

pub Invariant-event : (image : ImageData) (plan : PlanData) (cert : CertData) (most : ℕ) (m : Machine) (e : Event) (frame : Frame) (below : List Frame) → Invariant image plan cert most m frame below → Invariant image plan cert most (with_event m e) frame below
Invariant-event image plan cert most m e frame below k = record {
  stands = k.stands;
  point = k.point;
  found = k.found;
  inside = k.inside;
  flags = k.flags;
  is = status_is m.psw e.status ∙ k.is;
  lower_kept = k.lower_kept;
  frames = k.frames;
  free = k.free;
  areas = k.areas;
  rom = k.rom;
  memory = k.memory;
  biv = k.biv;
  btv = k.btv;
  isp = k.isp;
  running = k.running;
}

points_for : (node : NodeData) (q : ℕ) (s : State) (kind : ℕ) (o : Option Exit) → IfSome o (λ x. HasCoveringPoint node q (state_after_return s x kind)) → IfSome o (λ x. PointFor node q (state_after_return s x kind))
points_for node q s kind None h = tt
points_for node q s kind (Some x) h = point_for node q (state_after_return s x kind) (find_point q node.points) refl h

-- an exit of a node that covers another
record ExitFor (node : NodeData) (x : Exit) : Type 0 where
  pub exit : Exit
  pub is : node.exit ≡ Some exit
  pub covers : ExitCovers exit x

exit_for : (node : NodeData) (x : Exit) (o : Option Exit) → node.exit ≡ o → IsSomeAnd o (λ y. ExitCovers y x) → ExitFor node x
exit_for node x None e h = absurd h
exit_for node x (Some y) e h = record { exit = y; is = e; covers = h }

module _ (image : ImageData) (plan : PlanData) (ok : IsPlan plan) (cert : CertData) (most : ℕ) (few : most ≤ plan.areas - plan.reserve) (is_cert : IsCert cert) (accepted : Accepts image plan cert) where
  -- the node of a duty to enter
  record NodeFor (frame : Frame) (s : State) (key : Key) (t : State) : Type 0 where
    pub node : NodeData
    pub is : find_node key cert.nodes ≡ Some node
    pub found : Found image plan cert is_cert accepted key node
    pub at : PointFor node key.entry t
    pub room : length s.locals.items + 1 + node.need ≤ (frame.node).need

  node_for : (frame : Frame) (s : State) (key : Key) (t : State) → IsKey key → (o : Option NodeData) → find_node key cert.nodes ≡ o → IsSomeAnd o (λ n. HasCoveringPoint n key.entry t) → IfSome o (λ n. length s.locals.items + 1 + n.need ≤ (frame.node).need) → NodeFor frame s key t
  node_for frame s key t small None e h fits = absurd h
  node_for frame s key t small (Some n) e h fits =
      record { node = n; is = e; found = node_found image plan cert is_cert accepted key n small e; at = point_for n key.entry t (find_point key.entry n.points) refl h; room = fits }

  module _ (m : Machine) (words : IsMachine m) (frame : Frame) (below : List Frame) (k : Invariant image plan cert most m frame below) where
    key_small : IsKey (frame.node).key
    key_small = (node_is image plan cert is_cert accepted frame.node k.stands).key

    -- ---- frames that begin
    record Began (d a : List ℕ) (pc psw : ℕ) (ie : Bool) (ccpn back : ℕ) (key : Key) : Type 0 where
      pub saves : save m true ≡ with_context_saved m true
      pub goes : Goes image plan cert most (record (begun m d a pc psw ie ccpn) { end = Running }) (record { key = key; at = pc } ∷ standing back frame below)

    began : (d a : List ℕ) (pc psw : ℕ) (ie : Bool) (ccpn back : ℕ) (key : Key) → Begins plan cert m frame (k.point).state d a pc psw ie ccpn back key → Began d a pc psw ie ccpn back key
    began d a pc psw ie ccpn back key b =
        let free = room image plan ok cert most few m frame below k (b.node).need b.need in
        record {
          saves = saves image plan ok cert most few m frame below k free true;
          goes = record {
            frame = entered m b.node back;
            below = frame ∷ below;
            kept = begins image plan ok cert most few m frame below k words d a pc psw ie ccpn back key b free (globals_held plan (reg m) m.ie m.ccpn (k.point).state k.inside);
            stands = ap (λ j. record { key = j; at = pc } ∷ standing back frame below) b.key_is;
          };
        }

    module _ (shape : Shape) (n : ℕ) (h : PointHolds image plan cert frame.node m.pc (k.point).state shape n) where
      pub at_point : IsAtPoint (limits_of_cert plan cert) image plan (frame.node).key m (k.point).state shape n
      at_point = record {
        limits = limits_are plan cert.version;
        is_plan = ok;
        machine = words;
        running = k.running;
        memory = k.memory;
        rom = k.rom;
        code = h.code;
        own = h.own;
        regs = h.regs;
        values = h.values;
        inside = k.inside;
      }

      entering : (rule : ℕ) (key : Key) (t : State) → IsKey key → Contains (duties_at image plan cert frame.node m.pc (k.point).state shape n) (owed rule (enter key t)) → NodeFor frame (k.point).state key t
      entering rule key t small owes = node_for frame (k.point).state key t small (find_node key cert.nodes) refl (h.met (owed rule (enter key t)) owes) (h.entered (owed rule (enter key t)) owes)

      resuming : (rule : ℕ) (key : Key) (t : State) (q : ℕ) → (f : NodeFor frame (k.point).state key t) → Contains (duties_at image plan cert frame.node m.pc (k.point).state shape n) (owed rule (resume key q))
          → IfSome (f.node).exit (λ x. PointFor frame.node q (state_after_return (k.point).state x key.kind))
      resuming rule key t q f owes =
          points_for frame.node q (k.point).state key.kind (f.node).exit
          (if_some (λ n. IfSome n.exit (λ x. HasCoveringPoint frame.node q (state_after_return (k.point).state x key.kind))) (find_node key cert.nodes) f.node (h.met (owed rule (resume key q)) owes) f.is)

      jumping : (q : ℕ) (t : State) → Contains (duties_at image plan cert frame.node m.pc (k.point).state shape n) (owed 4 (jump q t)) → PointFor frame.node q t
      jumping q t owes = point_for frame.node q t (find_point q (frame.node).points) refl (h.met (owed 4 (jump q t)) owes)

      -- ---- inside the frame
      plain : (e : Event) → Fits plan m e → is_interrupt_taken m e ≡ false → KeepsFrameAndContexts shape → is_trapping_instruction m e shape ≡ false → Steps image plan cert most m frame below (duties_at image plan cert frame.node m.pc (k.point).state shape n) e n (edge_way_by_trap m e shape (after_instruction m e shape n).pc) (after_instruction m e shape n)
      plain e fits none stays free =
          let mv = moves_in_frame (limits_of_cert plan cert) image plan (frame.node).key m e (k.point).state shape n at_point fits none stays free in
          let at = jumping (after_instruction m e shape n).pc mv.state mv.owes in
          let way : edge_way_by_trap m e shape (after_instruction m e shape n).pc ≡ to (after_instruction m e shape n).pc =
          ap (λ t. cond t (aln (after_instruction m e shape n).pc) (edge_way_of_shape shape (after_instruction m e shape n).pc)) free ∙ stays_to shape stays (after_instruction m e shape n).pc
          in
          Steps-as way
          (record {
            goes = record {
              frame = frame;
              below = below;
              kept = Invariant-moved image plan ok cert most m (after_instruction m e shape n) frame below k mv.state mv.moves
                  (jump_long (limits_of_cert plan cert) image plan (frame.node).key m.pc (k.point).state n h.regs shape (after_instruction m e shape n).pc mv.state mv.owes) at.point at.found at.covers;
              stands = at_standing (after_instruction m e shape n).pc m.pc frame below;
            };
            owes = (mv.state, mv.owes);
          })

      -- ---- a misaligned access
      trapped : (e : Event) → is_trapping_instruction m e shape ≡ true → Steps image plan cert most m frame below (duties_at image plan cert frame.node m.pc (k.point).state shape n) e n (edge_way_by_trap m e shape (after_instruction m e shape n).pc) (after_instruction m e shape n)
      trapped e t =
          let small : IsKey (aln_key plan (frame.node).key) = record { kind = omega arith; entry = or_lt 32 plan.btv (2 * 2 ^ 5) (ok.words).btv (omega arith); prio = key_small.prio } in
          let owes = traps_owed (limits_of_cert plan cert) image plan (frame.node).key m e (k.point).state shape n at_point t in
          let f = entering 10 (aln_key plan (frame.node).key) (aln_entry plan (frame.node).key (k.point).state) small owes in
          let b = began (set m.d 15 4) (handler_a m m.pc) (bit_or m.btv (2 * 2 ^ 5)) (handler_psw m.psw) false m.ccpn m.pc (handler_key 4 (bit_or m.btv (2 * 2 ^ 5)) ((frame.node).key).prio)
          (aln_begins image plan cert most is_cert accepted m words frame below k h.regs f.node f.found f.at f.room) in
          subst (λ x. Steps image plan cert most m frame below (duties_at image plan cert frame.node m.pc (k.point).state shape n) e n (edge_way_by_trap m e shape x.pc) x) (sym (traps-is m e shape n t ∙ trap-is m k.running b.saves 2 4 m.pc))
          (Steps-as (ap (λ t. cond t (aln (bit_or m.btv (2 * 2 ^ 5))) (edge_way_of_shape shape (bit_or m.btv (2 * 2 ^ 5)))) t)
          (record {
            goes = Goes-as (entered_standing (λ j. handler_key 4 (bit_or m.btv (2 * 2 ^ 5)) j.prio) m.pc (bit_or m.btv (2 * 2 ^ 5)) m.pc frame below) b.goes;
            owes = subst (λ v. OwesEntry (duties_at image plan cert frame.node m.pc (k.point).state shape n) 10 (handler_key 4 (bit_or v (2 * 2 ^ 5)) ((frame.node).key).prio)) (sym k.btv) (aln_entry plan (frame.node).key (k.point).state, owes);
          }))

      -- ---- an interrupt
      pub interrupted : (e : Event) → Fits plan m e → is_interrupt_taken m e ≡ true → Steps image plan cert most m frame below (duties_at image plan cert frame.node m.pc (k.point).state shape n) e n (irq (after_interrupt m e.irq).pc) (after_interrupt m e.irq)
      interrupted e fits taken =
          let low = irq_lt ok m e fits in
          let small : IsKey (irq_key plan e.irq) = record { kind = omega arith; entry = or_lt 32 plan.biv (e.irq * 2 ^ 5) (ok.words).biv (omega arith); prio = low } in
          let owes = interrupts_owed (limits_of_cert plan cert) image plan (frame.node).key m e (k.point).state shape n at_point fits taken in
          let f = entering 11 (irq_key plan e.irq) (irq_entry plan (frame.node).key (k.point).state e.irq) small owes in
          let b = began m.d (handler_a m m.pc) (bit_or m.biv (e.irq * 2 ^ 5)) (handler_psw m.psw) false e.irq m.pc (handler_key 2 (bit_or m.biv (e.irq * 2 ^ 5)) e.irq)
          (irq_begins image plan cert most is_cert accepted m words frame below k h.regs e.irq f.node f.found f.at f.room) in
          subst (λ x. Steps image plan cert most m frame below (duties_at image plan cert frame.node m.pc (k.point).state shape n) e n (irq x.pc) x) (sym (interrupt-is m k.running b.saves e.irq))
          (record {
            goes = Goes-as (entered_standing (λ j. handler_key 2 (bit_or m.biv (e.irq * 2 ^ 5)) e.irq) m.pc (bit_or m.biv (e.irq * 2 ^ 5)) m.pc frame below) b.goes;
            owes = subst (λ v. OwesEntry (duties_at image plan cert frame.node m.pc (k.point).state shape n) 11 (handler_key 2 (bit_or v (e.irq * 2 ^ 5)) e.irq)) (sym k.biv) (irq_entry plan (frame.node).key (k.point).state e.irq, owes);
          })

    -- ---- a call
    calls : (e : Event) (x : Target) (n : ℕ) → PointHolds image plan cert frame.node m.pc (k.point).state (Call x) n → Steps image plan cert most m frame below (duties_at image plan cert frame.node m.pc (k.point).state (Call x) n) e n (call (after_instruction m e (Call x) n).pc) (after_instruction m e (Call x) n)
    calls e x n h =
        let small : IsKey (call_key (frame.node).key (target_address m x)) = record { kind = omega arith; entry = target_lt m words x (shape_is image plan m.pc (Call x) n h.code); prio = key_small.prio } in
        let owes = calls_owed (limits_of_cert plan cert) image plan (frame.node).key m (k.point).state x n (at_point (Call x) n h) in
        let f = entering (Call x) n h 5 (call_key (frame.node).key (target_address m x)) (call_entry (k.point).state) small owes.entered in
        let exits = resuming (Call x) n h 4 (call_key (frame.node).key (target_address m x)) (call_entry (k.point).state) (wrapping_sum m.pc n) f owes.back in
        let b = began m.d (set m.a 11 (wrapping_sum m.pc n)) (target_address m x) m.psw m.ie m.ccpn (wrapping_sum m.pc n) (call_key (frame.node).key (target_address m x))
        (call_begins image plan cert most is_cert accepted m words frame below k h.regs (target_address m x) (wrapping_sum m.pc n) (moved-lt m.pc n) f.node f.found f.at exits f.room) in
        subst (λ y. Steps image plan cert most m frame below (duties_at image plan cert frame.node m.pc (k.point).state (Call x) n) e n (call y.pc) y) (sym (call-is m k.running b.saves e x n))
        (record {
          goes = Goes-as (entered_standing (λ j. call_key j (target_address m x)) (wrapping_sum m.pc n) (target_address m x) m.pc frame below) b.goes;
          owes = (call_entry (k.point).state, owes.entered);
        })

    -- ---- a system call
    system : (e : Event) (tin n : ℕ) → PointHolds image plan cert frame.node m.pc (k.point).state (Syscall tin) n → Steps image plan cert most m frame below (duties_at image plan cert frame.node m.pc (k.point).state (Syscall tin) n) e n (sys (after_instruction m e (Syscall tin) n).pc) (after_instruction m e (Syscall tin) n)
    system e tin n h =
        let small : IsKey (sys_key plan (frame.node).key) = record { kind = omega arith; entry = or_lt 32 plan.btv (6 * 2 ^ 5) (ok.words).btv (omega arith); prio = key_small.prio } in
        let tin_small : tin < 2 ^ 32 = shape_is image plan m.pc (Syscall tin) n h.code in
        let f = entering (Syscall tin) n h 12 (sys_key plan (frame.node).key) (sys_entry plan (frame.node).key (k.point).state tin) small
        (owes-syscall (limits_of_cert plan cert) image plan (frame.node).key m.pc (k.point).state n tin) in
        let exits = resuming (Syscall tin) n h 4 (sys_key plan (frame.node).key) (sys_entry plan (frame.node).key (k.point).state tin) (wrapping_sum m.pc n) f
        (owes-syscall_back (limits_of_cert plan cert) image plan (frame.node).key m.pc (k.point).state n tin) in
        let b = began (set m.d 15 tin) (handler_a m (wrapping_sum m.pc n)) (bit_or m.btv (6 * 2 ^ 5)) (handler_psw m.psw) false m.ccpn (wrapping_sum m.pc n) (handler_key 3 (bit_or m.btv (6 * 2 ^ 5)) ((frame.node).key).prio)
        (sys_begins image plan cert most is_cert accepted m words frame below k h.regs tin tin_small (wrapping_sum m.pc n) (moved-lt m.pc n) f.node f.found f.at exits f.room) in
        subst (λ x. Steps image plan cert most m frame below (duties_at image plan cert frame.node m.pc (k.point).state (Syscall tin) n) e n (sys x.pc) x) (sym (syscall-is m k.running e tin n ∙ trap-is m k.running b.saves 6 tin (wrapping_sum m.pc n)))
        (record {
          goes = Goes-as (entered_standing (λ j. handler_key 3 (bit_or m.btv (6 * 2 ^ 5)) j.prio) (wrapping_sum m.pc n) (bit_or m.btv (6 * 2 ^ 5)) m.pc frame below) b.goes;
          owes = subst (λ v. OwesEntry (duties_at image plan cert frame.node m.pc (k.point).state (Syscall tin) n) 12 (handler_key 3 (bit_or v (6 * 2 ^ 5)) ((frame.node).key).prio)) (sym k.btv)
              (sys_entry plan (frame.node).key (k.point).state tin, owes-syscall (limits_of_cert plan cert) image plan (frame.node).key m.pc (k.point).state n tin);
        })

  -- ---- frames that end
  record Left (m : Machine) (frame : Frame) (below : List Frame) (x : Machine) : Type 0 where
    pub goes : Goes image plan cert most x (frames_after_return (standing m.pc frame below))
    pub owes : IsReturnTo x.pc (standing m.pc frame below)

  -- no frame is left below the start's
  left_to : (m : Machine) (words : IsMachine m) (frame : Frame) (below : List Frame) (k : Invariant image plan cert most m frame below) → length ((k.point).state).locals.items ≡ 0 → (frame.node).key.kind ≢ 0 →
      (ie : Bool) (ccpn : ℕ) → Leaves (pie_of m.core m.pcxi) (pcpn_of m.core m.pcxi) frame.node frame.word0 (reg m) ie ccpn → (n : Machine) →
      (restore m true ≡ with_context_restored m true → n ≡ record (with_context_restored m true) { pc = a11 m / 2 * 2; ie = ie; ccpn = ccpn; end = Running }) → Left m frame below n
  left_to m words frame [] k none other ie ccpn leaves n is = absurd (other ((k.frames).1).kind)
  left_to m words frame (suspended ∷ below) k none other ie ccpn leaves n is =
      let held = none_held image plan ok cert most few m frame (suspended ∷ below) k none in
      let back = comes_back image plan ok cert most few m words frame suspended below k held ie ccpn leaves in
      subst (Left m frame (suspended ∷ below)) (sym (is (restores image plan ok cert most few m words frame suspended below k held)))
      (record {
        goes = record { frame = suspended; below = below; kept = back.kept; stands = ap (λ q. standing q suspended below) back.at };
        owes = return_standing (a11 m / 2 * 2) m.pc frame suspended below (sym back.at);
      })

  module _ (m : Machine) (words : IsMachine m) (frame : Frame) (below : List Frame) (k : Invariant image plan cert most m frame below) where
    leaving : (rule n : ℕ) (shape : Shape) → (h : PointHolds image plan cert frame.node m.pc (k.point).state shape n) → Contains (duties_at image plan cert frame.node m.pc (k.point).state shape n) (owed rule (leave (exit_of_state (k.point).state))) → ExitFor frame.node (exit_of_state (k.point).state)
    leaving rule n shape h owes = exit_for frame.node (exit_of_state (k.point).state) (frame.node).exit refl (h.met (owed rule (leave (exit_of_state (k.point).state))) owes)

    returns : (e : Event) (n : ℕ) → PointHolds image plan cert frame.node m.pc (k.point).state Ret n → Left m frame below (after_instruction m e Ret n)
    returns e n h =
        let own = (h.own 6).returns refl in
        let x = leaving 6 n Ret h (owes-ret (limits_of_cert plan cert) image plan (frame.node).key m.pc (k.point).state n) in
        left_to m words frame below k own.1 (λ z. let one = own.0 in omega arith) m.ie m.ccpn
        (by_return x.exit x.is own.0 (holds_exit plan (k.point).state (reg m) m.ie m.ccpn x.exit h.regs x.covers k.inside)) (after_instruction m e Ret n) (λ is. ret-is m k.running is e n)

    comes_from : (e : Event) (n : ℕ) → PointHolds image plan cert frame.node m.pc (k.point).state Rfe n → Left m frame below (after_instruction m e Rfe n)
    comes_from e n h =
        let own = (h.own 7).exceptions refl in
        elim own.1 [
          | inl handler ↦
              left_to m words frame below k own.0 (λ z. elim handler.0 [ inl two ↦ omega arith | inr four ↦ omega arith ]) (pie_of m.core m.pcxi) (pcpn_of m.core m.pcxi) (from_handler handler.0 (k.lower_kept handler.1) refl refl)
              (after_instruction m e Rfe n) (λ is. rfe-is m k.running is e n)
          | inr three ↦
              let x = leaving 7 n Rfe h (owes-rfe (limits_of_cert plan cert) image plan (frame.node).key m.pc (k.point).state n three) in
              left_to m words frame below k own.0 (λ z. omega arith) (pie_of m.core m.pcxi) (pcpn_of m.core m.pcxi)
              (from_system x.exit m.ie m.ccpn x.is three (holds_exit plan (k.point).state (reg m) m.ie m.ccpn x.exit h.regs x.covers k.inside) refl refl) (after_instruction m e Rfe n) (λ is. rfe-is m k.running is e n)
        ]

    -- ---- lower contexts
    saves_lower : (e : Event) (shape : Shape) (n : ℕ) (h : PointHolds image plan cert frame.node m.pc (k.point).state shape n) (pc : ℕ) (ie : Bool) (ccpn : ℕ) →
        Contains (duties_at image plan cert frame.node m.pc (k.point).state shape n) (owed 4 (jump pc (record (state_after_lower_save (k.point).state) { ie = ie; ccpn = ccpn }))) → (ie2 : Bool) (ccpn2 : ℕ) → (ie2 ≡ true → ie ≡ true) → ccpn ≤ ccpn2 →
        (n2 : Machine) → (save m false ≡ with_context_saved m false → n2 ≡ record (with_context_saved m false) { pc = pc; ie = ie2; ccpn = ccpn2; end = Running }) → Steps image plan cert most m frame below (duties_at image plan cert frame.node m.pc (k.point).state shape n) e n (to n2.pc) n2
    saves_lower e shape n h pc ie ccpn owes ie2 ccpn2 enabled priority n2 is =
        let at = jumping m words frame below k shape n h pc (record (state_after_lower_save (k.point).state) { ie = ie; ccpn = ccpn }) owes in
        let fits = (rules_at image plan cert is_cert accepted frame.node pc at.point k.stands at.found).holds.locals in
        let same = implied_length ((at.point).state).locals.items (((k.point).state).locals.items ++ ((k.point).state).lower ∷ []) (at.covers).locals in
        let long = length-append ((k.point).state).locals.items (((k.point).state).lower ∷ []) in
        let free = room image plan ok cert most few m frame below k 0 (omega arith) in
        subst (λ x. Steps image plan cert most m frame below (duties_at image plan cert frame.node m.pc (k.point).state shape n) e n (to x.pc) x) (sym (is (saves image plan ok cert most few m frame below k free false)))
        (record {
          goes = record {
            frame = with_locals frame (link_in m.fcx ∷ frame.locals) (((k.point).state).lower ∷ frame.flags);
            below = below;
            kept = lower_pushed image plan ok cert most few m words frame below k free pc ie2 ccpn2 (record (state_after_lower_save (k.point).state) { ie = ie; ccpn = ccpn }) refl refl h.regs
                (holds_same plan (k.point).state (record (state_after_lower_save (k.point).state) { ie = ie; ccpn = ccpn }) (reg m) (reg m) m.ie ie2 m.ccpn ccpn2 refl enabled priority (reg_lt m words 27) (λ r lt other. refl) k.inside) at;
            stands = locals_standing pc m.pc frame (link_in m.fcx ∷ frame.locals) (((k.point).state).lower ∷ frame.flags) below;
          };
          owes = (record (state_after_lower_save (k.point).state) { ie = ie; ccpn = ccpn }, owes);
        })

    restores_lower : (e : Event) (n : ℕ) → PointHolds image plan cert frame.node m.pc (k.point).state Rslcx n → Steps image plan cert most m frame below (duties_at image plan cert frame.node m.pc (k.point).state Rslcx n) e n (to (after_instruction m e Rslcx n).pc) (after_instruction m e Rslcx n)
    restores_lower e n h =
        let at = jumping m words frame below k Rslcx n h (wrapping_sum m.pc n) (state_after_lower_restore (k.point).state) (owes-rslcx (limits_of_cert plan cert) image plan (frame.node).key m.pc (k.point).state n) in
        let p = lower_popped image plan ok cert most few m words frame below k (wrapping_sum m.pc n) ((h.own 8).room refl) h.regs at in
        subst (λ x. Steps image plan cert most m frame below (duties_at image plan cert frame.node m.pc (k.point).state Rslcx n) e n (to x.pc) x) (sym (rslcx-is m k.running p.restores e n))
        (record {
          goes = record { frame = with_locals frame p.areas p.flags; below = below; kept = p.kept; stands = locals_standing (wrapping_sum m.pc n) m.pc frame p.areas p.flags below };
          owes = (state_after_lower_restore (k.point).state, owes-rslcx (limits_of_cert plan cert) image plan (frame.node).key m.pc (k.point).state n);
        })

    -- ---- what the instruction at pc does
    module _ (e : Event) (fits : Fits plan m e) (none : is_interrupt_taken m e ≡ false) where
      accesses : (shape : Shape) (n : ℕ) (h : PointHolds image plan cert frame.node m.pc (k.point).state shape n) → KeepsFrameAndContexts shape → Steps image plan cert most m frame below (duties_at image plan cert frame.node m.pc (k.point).state shape n) e n (edge_way_by_trap m e shape (after_instruction m e shape n).pc) (after_instruction m e shape n)
      accesses shape n h stays =
          elim (cases_Bool (is_trapping_instruction m e shape)) [
            | inl t ↦ trapped m words frame below k shape n h e t
            | inr f ↦ plain m words frame below k shape n h e fits none stays f
          ]

      pub follows : (shape : Shape) (n : ℕ) → PointHolds image plan cert frame.node m.pc (k.point).state shape n → Steps image plan cert most m frame below (duties_at image plan cert frame.node m.pc (k.point).state shape n) e n (edge_way_by_trap m e shape (after_instruction m e shape n).pc) (after_instruction m e shape n)
      follows (Call x) n h = calls m words frame below k e x n h
      follows Ret n h = let l = returns e n h in record { goes = l.goes; owes = l.owes }
      follows Rfe n h = let l = comes_from e n h in record { goes = l.goes; owes = l.owes }
      follows Svlcx n h =
          saves_lower e Svlcx n h (wrapping_sum m.pc n) ((k.point).state).ie ((k.point).state).ccpn (owes-svlcx (limits_of_cert plan cert) image plan (frame.node).key m.pc (k.point).state n) m.ie m.ccpn
          (k.inside).enabled (k.inside).priority (after_instruction m e Svlcx n) (λ is. svlcx-is m k.running is e n)
      follows Rslcx n h = restores_lower e n h
      follows (Bisr c) n h =
          saves_lower e (Bisr c) n h (wrapping_sum m.pc n) true c (owes-bisr (limits_of_cert plan cert) image plan (frame.node).key m.pc (k.point).state n c) true c
          (λ t. t) (omega arith) (after_instruction m e (Bisr c) n) (λ is. bisr-is m k.running is e c n)
      follows (Syscall tin) n h = system m words frame below k e tin n h
      follows (Mtcr src number) n h = absurd ((h.own 13).writes refl)
      follows shape n h = accesses shape n h tt

  -- ---- one event
  -- the frames of m after a step of an event to q, from what is fetched
  abbrev by : Machine → Event → Bool → Result (Shape × ℕ) Cause → ℕ → List RunFrame → List RunFrame
  by m e taken f q fs = frames_after_edge m.pc (wrapping_sum m.pc (fetched_size f)) e.irq (cond taken (irq q) (edge_way_in_fetch m e f q)) fs

  -- what a step keeps, and which way it goes
  pub record Done (m : Machine) (frame : Frame) (below : List Frame) (k : Invariant image plan cert most m frame below) (e : Event) (x : Machine) : Type 0 where
    pub shape : Shape
    pub size : ℕ
    pub code : IsCode image plan m.pc shape size
    pub goes : Goes image plan cert most x (by m e (is_interrupt_taken m e) (fetched_instruction m) x.pc (standing m.pc frame below))
    pub owes : IsEdgeWayOwed (duties_at image plan cert frame.node m.pc (k.point).state shape size) (frame.node).key e.irq (standing m.pc frame below) x.pc (cond (is_interrupt_taken m e) (irq x.pc) (edge_way_in_fetch m e (fetched_instruction m) x.pc))

  done-kept : (m : Machine) → IsMachine m → (e : Event) → Fits plan m e → (frame : Frame) (below : List Frame) (k : Invariant image plan cert most m frame below) → Done m frame below k e (machine_after_event m e)
  done-kept m words e fits frame below k =
      let r = rules_at image plan cert is_cert accepted frame.node m.pc k.point k.stands k.found in
      elim (cases_Bool (is_interrupt_taken m e)) [
        | inl taken ↦
            let s = interrupted m words frame below k r.shape r.size r.holds e fits taken in
            subst (Done m frame below k e) (sym (ap (λ t. cond t (after_interrupt m e.irq) (after_fetch_result m e (fetched_instruction m))) taken))
            (record {
              shape = r.shape;
              size = r.size;
              code = (r.holds).code;
              goes = Goes-as (ap (λ t. by m e t (fetched_instruction m) (after_interrupt m e.irq).pc (standing m.pc frame below)) (sym taken)) s.goes;
              owes = subst (λ t. IsEdgeWayOwed (duties_at image plan cert frame.node m.pc (k.point).state r.shape r.size) (frame.node).key e.irq (standing m.pc frame below) (after_interrupt m e.irq).pc (cond t (irq (after_interrupt m e.irq).pc) (edge_way_in_fetch m e (fetched_instruction m) (after_interrupt m e.irq).pc)))
                  (sym taken) s.owes;
            })
        | inr none ↦
            let at : fetched_instruction m ≡ Ok (r.shape, r.size) = fetched_at image plan ok m k.rom r.shape r.size (r.holds).code in
            let s = follows m words frame below k e fits none r.shape r.size r.holds in
            subst (Done m frame below k e) (sym (done-is m e r.shape r.size none at))
            (record {
              shape = r.shape;
              size = r.size;
              code = (r.holds).code;
              goes = Goes-as (ap (λ t. by m e t (Ok (r.shape, r.size)) (after_instruction m e r.shape r.size).pc (standing m.pc frame below)) (sym none) ∙ ap (λ f. by m e (is_interrupt_taken m e) f (after_instruction m e r.shape r.size).pc (standing m.pc frame below)) (sym at)) s.goes;
              owes = subst (λ w. IsEdgeWayOwed (duties_at image plan cert frame.node m.pc (k.point).state r.shape r.size) (frame.node).key e.irq (standing m.pc frame below) (after_instruction m e r.shape r.size).pc w)
                  (ap (λ t. cond t (irq (after_instruction m e r.shape r.size).pc) (edge_way_in_fetch m e (Ok (r.shape, r.size)) (after_instruction m e r.shape r.size).pc)) (sym none) ∙ ap (λ f. cond (is_interrupt_taken m e) (irq (after_instruction m e r.shape r.size).pc) (edge_way_in_fetch m e f (after_instruction m e r.shape r.size).pc)) (sym at)) s.owes;
            })
      ]

  pub step-done : (m : Machine) → IsMachine m → (e : Event) → Fits plan m e → (frame : Frame) (below : List Frame) (k : Invariant image plan cert most m frame below) → Done m frame below k e (step m e)
  step-done m words e fits frame below k =
      let d = done-kept m words e fits frame below k in
      let after = d.goes in
      subst (Done m frame below k e) (sym (step-is m e k.running (after.kept).running))
      (record {
        shape = d.shape;
        size = d.size;
        code = d.code;
        goes = record { frame = after.frame; below = after.below; kept = Invariant-event image plan cert most (machine_after_event m e) e after.frame after.below after.kept; stands = after.stands };
        owes = d.owes;
      })

  pub step-kept : (m : Machine) → IsMachine m → (e : Event) → Fits plan m e → (now : List RunFrame) → Goes image plan cert most m now → Goes image plan cert most (step m e) (frames_after_step m e now)
  step-kept m words e fits now g =
      Goes-as (ap (by m e (is_interrupt_taken m e) (fetched_instruction m) (step m e).pc) g.stands) (step-done m words e fits g.frame g.below g.kept).goes
