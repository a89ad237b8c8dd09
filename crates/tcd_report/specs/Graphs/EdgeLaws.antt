-- What the graph of an accepted certificate says of runs.
use Rattle.std.specs.Prelude.{ℕ, ◌<◌, ◌^◌, List, [], ◌∷◌, Contains}
use Rattle.elf_image.specs.Images.{ImageData}
use Rattle.tcd_plan.specs.PlanData.{PlanData, IsPlan}
use Rattle.tc_machine.specs.declared.events.Event.{Event}
use Rattle.tc_machine.specs.declared.state.Machine.{Machine}
use Rattle.tc_machine.specs.Stepping.{run}
use Rattle.tc_machine.specs.Safe.{Fits, AllFit, Safe}
use Rattle.tc_machine.specs.Starting.{Starts}
use Rattle.depth_cert.specs.Certs.{CertData, IsCert}
use Rattle.cfg_recover.specs.RulesHoldOrFail.{certified_need}
use Rattle.cfg_recover.specs.Frames.{RunFrame, frames}
use Rattle.cfg_recover.specs.EdgesAreOwed.{EdgesOwed}
use Rattle.cfg_recover.specs.StepEdges.{edge_of_step}
use Rattle.tcd_report.specs.Graphs.{AreGraphLines, goes, graph_line}

-- the edge of a step of a run is on one of the graph's lines: the line has the key of the newest
-- frame, the address of the step and the way of its edge
abbrev pub IsEdgeOnLine : List (List ℕ) → Machine → Event → List RunFrame → Type 0
IsEdgeOnLine lines m e [] = ⊥
IsEdgeOnLine lines m e (f ∷ fs) = Contains lines (graph_line f.key (edge_of_step m e).at (goes (edge_of_step m e).way))

-- of each step of every run from every start state, the edge is on one of these lines of the graph
abbrev pub LinesHaveAllEdges : ImageData → PlanData → CertData → List (List ℕ) → Type 0
LinesHaveAllEdges image plan cert lines =
    (m : Machine) (es : List Event) (e : Event) → Starts image plan m → AllFit plan m es → Fits plan (run m es) e
    → IsEdgeOnLine lines (run m es) e (frames image plan m es)

-- the law of a graph's edges: if each run is safe and each edge is owed, as for an accepted
-- certificate, each edge is on a line of the graph
abbrev pub LinesHaveAllEdgesLaw : Type 0
LinesHaveAllEdgesLaw =
    (image : ImageData) (plan : PlanData) (cert : CertData) (lines : List (List ℕ)) → IsPlan plan → IsCert cert → image.entry < 2 ^ 32
    → Safe image plan (certified_need image plan cert) → EdgesOwed image plan cert → AreGraphLines image plan cert lines
    → LinesHaveAllEdges image plan cert lines
