-- The report of a certificate: one compact JSON object with its keys in byte order.
pub mod Calls
pub mod Heights
pub mod Longest
use Rattle.std.specs.Prelude.{◌≡◌, ℕ, List, ◌∷◌, ◌++◌, length, map, codes, All, []}
use Rattle.serde_json.specs.Data.{Data, number, unsigned, string, array, object, member, no_members}
use Rattle.serde_json.specs.View.{items_of}
use Rattle.serde_json.specs.Written.{compact_text}
use Rattle.elf_image.specs.Images.{ImageData}
use Rattle.tcd_plan.specs.PlanData.{PlanData}
use Rattle.depth_cert.specs.Nodes.{NodeData}
use Rattle.depth_cert.specs.Certs.{CertData}
use Rattle.cfg_recover.specs.RulesHoldOrFail.{certified_need}
use Rattle.tcd_report.specs.declared.reports.longest_by_priority.LongestCalls.{LongestCalls}
use Rattle.tcd_report.specs.Texts.{frame_name}
use Rattle.tcd_report.specs.Reports.Longest.{priorities_of, IsLongestCallChain}

-- a number in the report's JSON
abbrev pub reported_count : ℕ → Data
reported_count n = number (unsigned n)

-- a node in the report's JSON: its key, its need, and the number of its points
abbrev pub reported_node : NodeData → Data
reported_node n = object (member (codes "key") (string (frame_name n.key)) (member (codes "need") (reported_count n.need) (member (codes "points") (reported_count (length n.points)) no_members)))

-- a row of the longest call chains in the report's JSON: an object of a priority and the length of
-- its longest call chain
abbrev pub longest_calls_data : LongestCalls → Data
longest_calls_data r = object (member (codes "longest") (reported_count r.longest) (member (codes "prio") (reported_count r.prio) no_members))

-- the whole report as a JSON object: the CSAs, the longest call chains, the certified need, the
-- nodes, and the reserve
abbrev pub report_object_data : ℕ → Data → ℕ → Data → ℕ → Data
report_object_data areas calls certified nodes reserve =
    object
    (member (codes "areas") (reported_count areas)
    (member (codes "calls") calls
    (member (codes "certified") (reported_count certified) (member (codes "nodes") nodes (member (codes "reserve") (reported_count reserve) no_members)))))

-- the longest call chains in the report's JSON: an array of one object for each priority
abbrev pub all_longest_calls_data : List LongestCalls → Data
all_longest_calls_data rows = array (items_of (map longest_calls_data rows))

-- the nodes in the report's JSON: an array in the order of their frames
abbrev pub nodes_data : List NodeData → Data
nodes_data nodes = array (items_of (map reported_node nodes))

-- the report of a certificate with these longest call chains
abbrev pub report_data : ImageData → PlanData → CertData → List LongestCalls → Data
report_data image plan cert rows = report_object_data plan.areas (all_longest_calls_data rows) (certified_need image plan cert) (nodes_data cert.nodes) plan.reserve

-- The text is the report and a line feed. It has the longest call chain of each priority that has
-- nodes, by ascending priority.
pub record IsReport (image : ImageData) (plan : PlanData) (cert : CertData) (text : List ℕ) : Type 0 where
  pub rows : List LongestCalls
  pub prios : map (λ r. r.prio) rows ≡ priorities_of cert.nodes
  pub longest : All (λ r. IsLongestCallChain image plan cert r.prio r.longest) rows
  pub is : text ≡ compact_text (report_data image plan cert rows) ++ 10 ∷ []
