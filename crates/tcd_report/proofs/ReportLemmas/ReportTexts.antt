-- A report has no floating-point number, so its text is the compact text.
use Rattle.std.proofs.Common.{◌≡◌, ◌∙◌, ℕ, List, [], ◌∷◌, false, map, refl, ap}
use Rattle.std.specs.Prelude.{codes}
use Rattle.std.proofs.lemmas.Bool.{or_from}
use Rattle.serde_json.specs.Data.{Data, object, Members, no_members, put}
use Rattle.serde_json.specs.Written.{has_float, items_have_float}
use Rattle.serde_json.specs.View.{items_of}
use Rattle.depth_cert.specs.Nodes.{NodeData}
use Rattle.tcd_report.specs.declared.reports.longest_by_priority.LongestCalls.{LongestCalls}
use Rattle.tcd_report.specs.Reports.{reported_count, reported_node, nodes_data, longest_calls_data, all_longest_calls_data, report_object_data}

rows_plain : (rows : List LongestCalls) → items_have_float (items_of (map longest_calls_data rows)) ≡ false
rows_plain [] = refl
rows_plain (r ∷ rs) = rows_plain rs

nodes_plain : (nodes : List NodeData) → items_have_float (items_of (map reported_node nodes)) ≡ false
nodes_plain [] = refl
nodes_plain (n ∷ ns) = nodes_plain ns

pub report_plain : (areas certified reserve : ℕ) (rows : List LongestCalls) (nodes : List NodeData) → has_float (report_object_data areas (all_longest_calls_data rows) certified (nodes_data nodes) reserve) ≡ false
report_plain areas certified reserve rows nodes = or_from _ _ (rows_plain rows) (or_from _ _ (nodes_plain nodes) refl)

-- five members that are put into an object one after another
pub whole_is : (areas need reserve : ℕ) (a n r calls nodes : Data) (m0 m1 m2 m3 m4 m5 : Members) → m0 ≡ no_members → m1 ≡ put (codes "areas") a m0 → m2 ≡ put (codes "calls") calls m1 → m3 ≡ put (codes "certified") n m2
    → m4 ≡ put (codes "nodes") nodes m3 → m5 ≡ put (codes "reserve") r m4 → a ≡ reported_count areas → n ≡ reported_count need → r ≡ reported_count reserve → object m5 ≡ report_object_data areas calls need nodes reserve
whole_is areas need reserve a n r calls nodes m0 m1 m2 m3 m4 m5 e0 e1 e2 e3 e4 e5 ea en er =
    let p1 = e2 ∙ ap (put (codes "calls") calls) (e1 ∙ ap (put (codes "areas") a) e0 ∙ ap (λ d. put (codes "areas") d no_members) ea) in
    let p2 = e3 ∙ ap (put (codes "certified") n) p1 ∙ ap (λ d. put (codes "certified") d (put (codes "calls") calls (put (codes "areas") (reported_count areas) no_members))) en in
    ap object
    (e5 ∙ ap (put (codes "reserve") r) (e4 ∙ ap (put (codes "nodes") nodes) p2)
    ∙ ap (λ d. put (codes "reserve") d (put (codes "nodes") nodes (put (codes "certified") (reported_count need) (put (codes "calls") calls (put (codes "areas") (reported_count areas) no_members))))) er)
