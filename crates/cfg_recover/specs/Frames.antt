-- The frames of a run, and what an accepted certificate says about them.
use Rattle.std.specs.Prelude.{◌≡◌, ℕ, List, ◌∷◌, IsSome, IsSomeAnd, All, Bool, []}
use Rattle.elf_image.specs.Images.{ImageData}
use Rattle.tcd_plan.specs.PlanData.{PlanData}
use Rattle.tc_machine.specs.declared.events.Event.{Event}
use Rattle.tc_machine.specs.declared.state.Machine.{Machine}
use Rattle.tc_machine.specs.Machine.{is_interrupt_stack_used}
use Rattle.tc_machine.specs.Instructions.{wrapping_sum}
use Rattle.tc_machine.specs.Fetching.{fetched_instruction, fetched_size}
use Rattle.tc_machine.specs.Stepping.{step}
use Rattle.depth_cert.specs.declared.keys.Key.{Key}
use Rattle.depth_cert.specs.Points.{find_point}
use Rattle.depth_cert.specs.Certs.{CertData}
use Rattle.depth_cert.specs.Nodes.{find_node}
use Rattle.cfg_recover.specs.Entries.{start_key, call_key, handler_key}
use Rattle.cfg_recover.specs.MovesAreOwed.{IsInState}
use Rattle.cfg_recover.specs.StepEdges.{EdgeWay, aln, call, irq, ret, rfe, sys, to, edge_way_of_step}

-- ---- frames
-- a frame of a run: its key, and the address at which it is or goes on
pub record RunFrame : Type 0 where
  pub key : Key
  pub at : ℕ

-- the frames of a run after the newest one went on to the address q
abbrev pub frames_after_jump : ℕ → List RunFrame → List RunFrame
frames_after_jump q [] = []
frames_after_jump q (f ∷ fs) = record { key = f.key; at = q } ∷ fs

-- the frames of a run after the newest one, which goes on at `back`, entered one at q; its key
-- follows from the newest's
abbrev pub frames_after_entry : (Key → Key) → ℕ → ℕ → List RunFrame → List RunFrame
frames_after_entry key back q [] = []
frames_after_entry key back q (f ∷ fs) = record { key = key f.key; at = q } ∷ record { key = f.key; at = back } ∷ fs

-- the frames of a run after the newest one ended
abbrev pub frames_after_return : List RunFrame → List RunFrame
frames_after_return [] = []
frames_after_return (f ∷ fs) = fs

-- the frames of a run after a step from p, the newest first: a call and a system call return to the
-- next instruction, an interrupt and a misaligned access to p itself
abbrev pub frames_after_edge : ℕ → ℕ → ℕ → EdgeWay → List RunFrame → List RunFrame
frames_after_edge p next prio (to q) fs = frames_after_jump q fs
frames_after_edge p next prio (call q) fs = frames_after_entry (λ k. call_key k q) next q fs
frames_after_edge p next prio (irq q) fs = frames_after_entry (λ k. handler_key 2 q prio) p q fs
frames_after_edge p next prio (sys q) fs = frames_after_entry (λ k. handler_key 3 q k.prio) next q fs
frames_after_edge p next prio (aln q) fs = frames_after_entry (λ k. handler_key 4 q k.prio) p q fs
frames_after_edge p next prio ret fs = frames_after_return fs
frames_after_edge p next prio rfe fs = frames_after_return fs

-- the frames of a run after one step of the machine
abbrev pub frames_after_step : Machine → Event → List RunFrame → List RunFrame
frames_after_step m e fs = frames_after_edge m.pc (wrapping_sum m.pc (fetched_size (fetched_instruction m))) e.irq (edge_way_of_step m e) fs

-- the frames after the steps of a run, from those before it
abbrev pub frames_from : Machine → List Event → List RunFrame → List RunFrame
frames_from m [] fs = fs
frames_from m (e ∷ es) fs = frames_from (step m e) es (frames_after_step m e fs)

-- the frames after a run from a start state
abbrev pub frames : ImageData → PlanData → Machine → List Event → List RunFrame
frames image plan m es = frames_from m es (record { key = start_key image plan; at = m.pc } ∷ [])

-- ---- what an accepted certificate says about frames
-- a frame of a run lies at a point: in the certificate, the node of the frame's key has a point at
-- the frame's address, whose state holds the machine
abbrev pub IsFrameAtPoint : PlanData → CertData → Machine → RunFrame → Type 0
IsFrameAtPoint plan cert m f = IsSomeAnd (find_node f.key cert.nodes) (λ n. IsSomeAnd (find_point f.at n.points) (λ p. IsInState plan m p.state))

-- the frames of a run are held: the newest is at pc and at a point that holds the machine, `is` of
-- its key is PSW.IS, and each has a node in the certificate
pub record AreFramesHeld (plan : PlanData) (cert : CertData) (m : Machine) (f : RunFrame) (fs : List RunFrame) : Type 0 where
  pub at : f.at ≡ m.pc
  pub nodes : All (λ g. IsSome (find_node g.key cert.nodes)) (f ∷ fs)
  pub point : IsFrameAtPoint plan cert m f
  pub is : is_interrupt_stack_used m.psw ≡ (f.key).is

-- the frames of a run are held: there is a newest one, at pc, with PSW.IS in its key and at a point
-- that holds the machine, and each frame has a node in the certificate
abbrev pub AreAllFramesHeld : PlanData → CertData → Machine → List RunFrame → Type 0
AreAllFramesHeld plan cert m [] = ⊥
AreAllFramesHeld plan cert m (f ∷ fs) = AreFramesHeld plan cert m f fs

-- the frame that is entered at an address: kind 1 by a call, 2 by an interrupt, 3 by a system call,
-- 4 by a misaligned access
abbrev pub entered_frame_at : ℕ → ℕ → ℕ → Bool → RunFrame
entered_frame_at kind at prio is = record { key = record { kind = kind; entry = at; prio = prio; is = is }; at = at }

-- this frame of a run, at another address, where it continues
abbrev pub frame_resumed_at : RunFrame → ℕ → RunFrame
frame_resumed_at f at = record { key = f.key; at = at }

-- a return to q: the frame before the newest one goes on at this address
abbrev pub IsReturnTo : ℕ → List RunFrame → Type 0
IsReturnTo q [] = ⊥
IsReturnTo q (f ∷ []) = ⊥
IsReturnTo q (f ∷ g ∷ fs) = g.at ≡ q
