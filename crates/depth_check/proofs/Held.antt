-- The certificate holds the frames of runs, and each edge is a duty.
use Rattle.std.proofs.Common.{ℕ, zero, suc, ◌-◌, ◌<◌, ◌≤◌, List, [], ◌∷◌, length, get_or, refl, sym, ap, subst, arith}
use Rattle.std.specs.Prelude.{IsSome, IsSomeAnd, is_some}
use Rattle.csa_chain.specs.MemoryBytes.{Memory}
use Rattle.csa_chain.specs.Chain.{area_word}
use Rattle.elf_image.specs.Images.{ImageData}
use Rattle.tcd_base.specs.declared.core_version.Core.{Core}
use Rattle.tcd_plan.specs.PlanData.{PlanData, IsPlan}
use Rattle.tc_machine.specs.declared.events.Event.{Event}
use Rattle.tc_machine.specs.declared.state.Machine.{Machine}
use Rattle.tc_machine.specs.Machine.{a11, IsMachine}
use Rattle.tc_machine.specs.Stepping.{run}
use Rattle.tc_machine.specs.Safe.{Fits}
use Rattle.tc_machine.proofs.Stays.{stays_run}
use Rattle.depth_cert.specs.Points.{find_point}
use Rattle.depth_cert.specs.Certs.{CertData, IsCert}
use Rattle.depth_cert.specs.Nodes.{find_node}
use Rattle.cfg_recover.specs.RulesHoldOrFail.{Accepts, certified_need}
use Rattle.cfg_recover.specs.Frames.{RunFrame, IsFrameAtPoint, AreAllFramesHeld}
use Rattle.cfg_recover.specs.EdgesAreOwed.{IsEdgeOwedByFrames}
use Rattle.cfg_recover.specs.MovesAreOwed.{IsInState}
use Rattle.depth_check.specs.AcceptedPromises.{AcceptedHoldsFrames, AcceptedOwesEdges}
use Rattle.cfg_recover.proofs.PointLaws.{Stands}
use Rattle.depth_check.proofs.Frames.{Frame, standing, Frames, Invariant}
use Rattle.depth_check.proofs.Step.{step-done}
use Rattle.depth_check.proofs.Sound.{few, held}

module _ (image : ImageData) (plan : PlanData) (cert : CertData) (most : ℕ) where
  -- the node of each frame exists
  all_stand : (core : Core) (mem : Memory) (pcxi back pc : ℕ) (frame : Frame) (below : List Frame) → Stands cert frame.node → Frames plan cert most core mem pcxi back frame below →
      (i : ℕ) (d : RunFrame) → i < length (standing pc frame below) → IsSome (find_node (get_or (standing pc frame below) i d).key cert.nodes)
  all_stand core mem pcxi back pc frame [] stands h zero d lt = ap is_some stands
  all_stand core mem pcxi back pc frame [] stands h (suc i) d lt = absurd (omega arith)
  all_stand core mem pcxi back pc frame (s ∷ below) stands h zero d lt = ap is_some stands
  all_stand core mem pcxi back pc frame (s ∷ below) stands h (suc i) d lt =
      all_stand core mem (area_word mem frame.area 0) (area_word mem frame.area 3) frame.back s below (h.1).stands h.2 i d (omega arith)

  lies_at : (m : Machine) (frame : Frame) (below : List Frame) → Invariant image plan cert most m frame below → IsFrameAtPoint plan cert m (record { key = (frame.node).key; at = m.pc })
  lies_at m frame below k =
      subst (λ o. IsSomeAnd o (λ n. IsSomeAnd (find_point m.pc n.points) (λ p. IsInState plan m p.state))) (sym k.stands)
      (subst (λ o. IsSomeAnd o (λ p. IsInState plan m p.state)) (sym k.found) k.inside)

  -- the frames are held by the invariant
  hold_kept : (m : Machine) (frame : Frame) (below : List Frame) → Invariant image plan cert most m frame below → AreAllFramesHeld plan cert m (standing m.pc frame below)
  hold_kept m frame [] k = record { at = refl; nodes = all_stand m.core m.mem m.pcxi (a11 m) m.pc frame [] k.stands k.frames; point = lies_at m frame [] k; is = k.is }
  hold_kept m frame (s ∷ below) k =
      record { at = refl; nodes = all_stand m.core m.mem m.pcxi (a11 m) m.pc frame (s ∷ below) k.stands k.frames; point = lies_at m frame (s ∷ below) k; is = k.is }

  -- the edge of a step is a duty
  edge_done : (m : Machine) (e : Event) (ok : IsPlan plan) (fits_reserve : most ≤ plan.areas - plan.reserve) (is_cert : IsCert cert) (accepted : Accepts image plan cert) (words : IsMachine m) → Fits plan m e →
      (frame : Frame) (below : List Frame) → Invariant image plan cert most m frame below → IsEdgeOwedByFrames image plan cert m e (standing m.pc frame below)
  edge_done m e ok fits_reserve is_cert accepted words fits frame [] k =
      let d = step-done image plan ok cert most fits_reserve is_cert accepted m words e fits frame [] k in
      record { node = frame.node; stands = k.stands; point = k.point; found = k.found; shape = d.shape; size = d.size; code = d.code; owed = d.owes }
  edge_done m e ok fits_reserve is_cert accepted words fits frame (s ∷ below) k =
      let d = step-done image plan ok cert most fits_reserve is_cert accepted m words e fits frame (s ∷ below) k in
      record { node = frame.node; stands = k.stands; point = k.point; found = k.found; shape = d.shape; size = d.size; code = d.code; owed = d.owes }

-- ---- the theorems
pub frames_are_held : AcceptedHoldsFrames
frames_are_held image plan cert ok is_cert accepted m es start all_fit =
    let g = held image plan ok cert is_cert accepted m es start all_fit in
    subst (AreAllFramesHeld plan cert (run m es)) g.stands (hold_kept image plan cert (certified_need image plan cert) (run m es) g.frame g.below g.kept)

pub edges_are_owed : AcceptedOwesEdges
edges_are_owed image plan cert ok is_cert accepted m es e start all_fit fits =
    let g = held image plan ok cert is_cert accepted m es start all_fit in
    subst (IsEdgeOwedByFrames image plan cert (run m es) e) g.stands
    (edge_done image plan cert (certified_need image plan cert) (run m es) e ok (few image plan ok cert is_cert accepted m es start all_fit) is_cert accepted (stays_run ok m es start.machine all_fit) fits g.frame g.below g.kept)
