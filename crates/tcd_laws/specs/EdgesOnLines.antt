-- The edges of runs, on the lines of a graph's text.
use Rattle.std.specs.Prelude.{◌<◌, ◌^◌, ℕ, List, [], ◌∷◌, ◌++◌, map}
use Rattle.elf_image.specs.Images.{ImageData}
use Rattle.tcd_plan.specs.PlanData.{PlanData, IsPlan}
use Rattle.depth_cert.specs.Certs.{CertData, IsCert}
use Rattle.cfg_recover.specs.RulesHoldOrFail.{Accepts}
use Rattle.tcd_text.specs.Lines.{text_lines}
use Rattle.tcd_report.specs.Graphs.{IsGraph}
use Rattle.tcd_report.specs.Graphs.EdgeLaws.{LinesHaveAllEdges}

-- the lines of a graph's text as it is printed, each with the line feed that ends it
abbrev pub printed_graph_lines : List ℕ → List (List ℕ)
printed_graph_lines text = map (λ l. l ++ 10 ∷ []) (text_lines text)

-- the law that an accepted certificate's printed graph has the edge of each step of each run, with
-- its address and its frame's key
abbrev pub PrintedGraphsHaveAllEdges : Type 0
PrintedGraphsHaveAllEdges =
    (image : ImageData) (plan : PlanData) (cert : CertData) (text : List ℕ) → image.entry < 2 ^ 32 → IsPlan plan → IsCert cert
    → Accepts image plan cert → IsGraph image plan cert text → LinesHaveAllEdges image plan cert (printed_graph_lines text)
