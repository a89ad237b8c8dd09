-- What edges and frames are at each step, and what the promises about them give.
use Rattle.std.proofs.Common.{◌≡◌, ℕ, suc, Bool, true, false, cond, List, [], ◌∷◌, ◌++◌, Option, Some, refl, sym, ap, ◌∙◌, subst, arith, ◌==◌}
use Rattle.std.specs.Prelude.{None, IsSomeAnd, Result}
use Rattle.std.proofs.lemmas.Bool.{eqb-true}
use Rattle.elf_image.specs.Images.{ImageData}
use Rattle.tcd_plan.specs.PlanData.{PlanData}
use Rattle.tc_isa.specs.declared.shapes.Shape.{Shape}
use Rattle.tc_isa.specs.declared.shapes.Shape.TheVariants.{Call, Ret, Rfe, Syscall}
use Rattle.tc_machine.specs.declared.events.Cause.{Cause}
use Rattle.tc_machine.specs.declared.events.Event.{Event}
use Rattle.tc_machine.specs.declared.state.Machine.{Machine}
use Rattle.tc_machine.specs.Instructions.{wrapping_sum, is_trapping_instruction}
use Rattle.tc_machine.specs.Fetching.{fetched_instruction, fetched_size}
use Rattle.tc_machine.specs.Stepping.{is_interrupt_taken, step, run}
use Rattle.depth_cert.specs.declared.points.Point.{Point}
use Rattle.depth_cert.specs.Points.{find_point}
use Rattle.depth_cert.specs.Nodes.{NodeData, find_node}
use Rattle.depth_cert.specs.Certs.{CertData}
use Rattle.depth_cert.proofs.KeyLaws.{found_in}
use Rattle.cfg_recover.specs.Entries.{start_key}
use Rattle.cfg_recover.specs.Duties.{Owed, duties_of}
use Rattle.cfg_recover.specs.RulesHoldOrFail.{limits_of_cert}
use Rattle.cfg_recover.specs.MovesAreOwed.{IsInState}
use Rattle.cfg_recover.specs.Frames.{RunFrame, frames_after_edge, frames_after_step, frames_from, frames, AreFramesHeld, AreAllFramesHeld, IsReturnTo}
use Rattle.cfg_recover.specs.EdgesAreOwed.{IsEdgeWayOwed, IsEdgeOwedByFrames, GoesBackToFrame}
use Rattle.cfg_recover.specs.StepEdges.{EdgeWay, to, call, irq, sys, aln, ret, rfe, edge_way_of_shape, edge_way_by_trap, edge_way_in_fetch, edge_way_of_step}
use Rattle.cfg_recover.specs.EdgeAndFrameLaws.{IsStepOfShape, KeepsFrame, EdgeMatchesStep, EdgesMatchSteps, FramesFollowStep, FramesFollowAllRuns, FramesDescribeMachine, HeldFramesDescribeMachine, IsStepOwed, IsStepOwedByPoint, StepsAreOwedByPoints}

-- ---- edges
stays_to : (shape : Shape) (q : ℕ) → KeepsFrame shape → edge_way_of_shape shape q ≡ to q
stays_to (Call x) q keeps = absurd keeps
stays_to Ret q keeps = absurd keeps
stays_to Rfe q keeps = absurd keeps
stays_to (Syscall tin) q keeps = absurd keeps
stays_to _ q keeps = refl

module _ (m : Machine) (e : Event) where
  interrupted : is_interrupt_taken m e ≡ true → edge_way_of_step m e ≡ irq (step m e).pc
  interrupted t = ap (λ (b : Bool). cond b (irq (step m e).pc) (edge_way_in_fetch m e (fetched_instruction m) (step m e).pc)) t

  met : (shape : Shape) (n : ℕ) → IsStepOfShape m e shape n → edge_way_of_step m e ≡ edge_way_by_trap m e shape (step m e).pc
  met shape n h =
      ap (λ (b : Bool). cond b (irq (step m e).pc) (edge_way_in_fetch m e (fetched_instruction m) (step m e).pc)) h.free
      ∙ ap (λ (f : Result (Shape × ℕ) Cause). edge_way_in_fetch m e f (step m e).pc) h.there

  trapped : (shape : Shape) (n : ℕ) → IsStepOfShape m e shape n → is_trapping_instruction m e shape ≡ true → edge_way_of_step m e ≡ aln (step m e).pc
  trapped shape n h t = met shape n h ∙ ap (λ (b : Bool). cond b (aln (step m e).pc) (edge_way_of_shape shape (step m e).pc)) t

  stayed : (shape : Shape) (n : ℕ) → IsStepOfShape m e shape n → is_trapping_instruction m e shape ≡ false → KeepsFrame shape → edge_way_of_step m e ≡ to (step m e).pc
  stayed shape n h t keeps =
      met shape n h ∙ ap (λ (b : Bool). cond b (aln (step m e).pc) (edge_way_of_shape shape (step m e).pc)) t ∙ stays_to shape (step m e).pc keeps

  pub edge_is : EdgeMatchesStep m e
  edge_is = record {
    load = λ dst base offset size signed after. refl;
    store = λ src base offset size after. refl;
    at = refl;
    same = refl;
    interrupted = interrupted;
    misaligned = trapped;
    called = λ x n h. met (Call x) n h;
    system = λ tin n h. met (Syscall tin) n h;
    returned = λ n h. met Ret n h;
    resumed = λ n h. met Rfe n h;
    stayed = stayed;
  }

pub edges_are : EdgesMatchSteps
edges_are m e = edge_is m e

-- ---- frames
-- the frames after one more event
frames_more : (m : Machine) (es : List Event) (e : Event) (fs : List RunFrame) → frames_from m (es ++ e ∷ []) fs ≡ frames_after_step (run m es) e (frames_from m es fs)
frames_more m [] e fs = refl
frames_more m (x ∷ es) e fs = frames_more (step m x) es e (frames_after_step m x fs)

module _ (m : Machine) (e : Event) (f : RunFrame) (older : List RunFrame) where
  by_way : (w : EdgeWay) → edge_way_of_step m e ≡ w → frames_after_step m e (f ∷ older) ≡ frames_after_edge m.pc (wrapping_sum m.pc (fetched_size (fetched_instruction m))) e.irq w (f ∷ older)
  by_way w h = ap (λ (v : EdgeWay). frames_after_edge m.pc (wrapping_sum m.pc (fetched_size (fetched_instruction m))) e.irq v (f ∷ older)) h

  -- ways that depend on the instruction's size
  by_size : (w : EdgeWay) (shape : Shape) (n : ℕ) → edge_way_of_step m e ≡ w → IsStepOfShape m e shape n → frames_after_step m e (f ∷ older) ≡ frames_after_edge m.pc (wrapping_sum m.pc n) e.irq w (f ∷ older)
  by_size w shape n h meets =
      by_way w h ∙ ap (λ (r : Result (Shape × ℕ) Cause). frames_after_edge m.pc (wrapping_sum m.pc (fetched_size r)) e.irq w (f ∷ older)) meets.there

  frames_next : FramesFollowStep m e f older (frames_after_step m e (f ∷ older))
  frames_next = record {
    interrupted = λ t. by_way (irq (step m e).pc) (interrupted m e t);
    misaligned = λ shape n h t. by_way (aln (step m e).pc) (trapped m e shape n h t);
    called = λ x n h. by_size (call (step m e).pc) (Call x) n (met m e (Call x) n h) h;
    system = λ tin n h. by_size (sys (step m e).pc) (Syscall tin) n (met m e (Syscall tin) n h) h;
    returned = λ n h. by_way ret (met m e Ret n h);
    resumed = λ n h. by_way rfe (met m e Rfe n h);
    stayed = λ shape n h t keeps. by_way (to (step m e).pc) (stayed m e shape n h t keeps);
  }

pub frames_are : FramesFollowAllRuns
frames_are image plan m = record {
  start = refl;
  step = λ es e f older are.
      subst (λ (fs : List RunFrame). FramesFollowStep (run m es) e f older fs)
      (sym (frames_more m es e (record { key = start_key image plan; at = m.pc } ∷ []) ∙ ap (λ (fs : List RunFrame). frames_after_step (run m es) e fs) are))
      (frames_next (run m es) e f older);
}

-- ---- frames that are held
module _ (plan : PlanData) (cert : CertData) (m : Machine) (f : RunFrame) (fs : List RunFrame) (h : AreFramesHeld plan cert m f fs) where
  at_point : (node : NodeData) (o : Option Point) → find_node f.key cert.nodes ≡ Some node → find_point f.at node.points ≡ o → IsSomeAnd o (λ p. IsInState plan m p.state) → FramesDescribeMachine plan cert m (f ∷ fs)
  at_point node None stands e inside = absurd inside
  at_point node (Some point) stands e inside =
      let there = found_in (λ (p : Point). p.addr == f.at) node.points point e in
      record {
        newest = f;
        older = fs;
        are = refl;
        at = h.at;
        stack = h.is;
        node = node;
        stands = stands;
        point = point;
        there = there.0;
        addr = eqb-true point.addr f.at there.1 ∙ h.at;
        regs = inside.regs;
        enabled = inside.enabled;
        priority = inside.priority;
        callers = λ i d lt. h.nodes (suc i) d (omega arith);
      }

  at_node : (o : Option NodeData) → find_node f.key cert.nodes ≡ o → IsSomeAnd o (λ n. IsSomeAnd (find_point f.at n.points) (λ p. IsInState plan m p.state)) → FramesDescribeMachine plan cert m (f ∷ fs)
  at_node None e inside = absurd inside
  at_node (Some node) e inside = at_point node (find_point f.at node.points) e refl inside

held_say : (plan : PlanData) (cert : CertData) (m : Machine) (fs : List RunFrame) → AreAllFramesHeld plan cert m fs → FramesDescribeMachine plan cert m fs
held_say plan cert m [] h = absurd h
held_say plan cert m (f ∷ fs) h = at_node plan cert m f fs h (find_node f.key cert.nodes) refl h.point

pub held_frames_say : HeldFramesDescribeMachine
held_frames_say image plan cert held m es start fit = held_say plan cert (run m es) (frames image plan m es) (held m es start fit)

-- ---- edges that are owed
goes_back : (q : ℕ) (f : RunFrame) (older : List RunFrame) → IsReturnTo q (f ∷ older) → GoesBackToFrame older q
goes_back q f [] h = absurd h
goes_back q f (g ∷ rest) h = record { caller = g; rest = rest; are = refl; at = h }

module _ (ds : List Owed) (f : RunFrame) (older : List RunFrame) (m : Machine) (e : Event) (h : IsEdgeWayOwed ds f.key e.irq (f ∷ older) (step m e).pc (edge_way_of_step m e)) where
  owed_by : (w : EdgeWay) → edge_way_of_step m e ≡ w → IsEdgeWayOwed ds f.key e.irq (f ∷ older) (step m e).pc w
  owed_by w same = subst (λ (v : EdgeWay). IsEdgeWayOwed ds f.key e.irq (f ∷ older) (step m e).pc v) same h

  step_owed : IsStepOwed ds f older m e
  step_owed = record {
    interrupted = λ t. owed_by (irq (step m e).pc) (interrupted m e t);
    misaligned = λ shape n h t. owed_by (aln (step m e).pc) (trapped m e shape n h t);
    called = λ x n h. owed_by (call (step m e).pc) (met m e (Call x) n h);
    system = λ tin n h. owed_by (sys (step m e).pc) (met m e (Syscall tin) n h);
    returned = λ n h. goes_back (step m e).pc f older (owed_by ret (met m e Ret n h));
    resumed = λ n h. goes_back (step m e).pc f older (owed_by rfe (met m e Rfe n h));
    stayed = λ shape n h t keeps. owed_by (to (step m e).pc) (stayed m e shape n h t keeps);
  }

edge_says : (image : ImageData) (plan : PlanData) (cert : CertData) (m : Machine) (e : Event) (fs : List RunFrame) → IsEdgeOwedByFrames image plan cert m e fs → IsStepOwedByPoint image plan cert m e fs
edge_says image plan cert m e [] h = absurd h
edge_says image plan cert m e (f ∷ fs) h =
    let there = found_in (λ (p : Point). p.addr == m.pc) (h.node).points h.point h.found in
    record {
      newest = f;
      older = fs;
      are = refl;
      node = h.node;
      stands = h.stands;
      point = h.point;
      there = there.0;
      addr = eqb-true (h.point).addr m.pc there.1;
      shape = h.shape;
      size = h.size;
      code = h.code;
      owed = step_owed (duties_of (limits_of_cert plan cert) image plan f.key m.pc (h.point).state h.shape h.size) f fs m e h.owed;
    }

pub owed_edges_say : StepsAreOwedByPoints
owed_edges_say image plan cert owed m es e start fit fits = edge_says image plan cert (run m es) e (frames image plan m es) (owed m es e start fit fits)
