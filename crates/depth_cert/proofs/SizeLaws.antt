-- How long the spelling of a certificate may be.
use Rattle.std.proofs.Common.{ℕ, suc, ◌+◌, ◌*◌, ◌≤◌, ◌^◌, List, [], ◌∷◌, ◌++◌, length, map, get_or, Bool, true, false, Option, Some, None, ap, arith, cond, length-append}
use Rattle.std.specs.Prelude.{IfSome}
use Rattle.std.specs.List.{All, flat_map}
use Rattle.std.proofs.lemmas.List.{length-map}
use Rattle.std.proofs.lemmas.List.Concat.{length-flat_map, flat_map-cons}
use Rattle.std.proofs.lemmas.List.Sums.{sum_by-le, sum_by-cons}
use Rattle.value_domain.specs.declared.values.Val.{Val}
use Rattle.value_domain.specs.declared.values.Val.TheVariants.{Set, Span}
use Rattle.value_domain.specs.declared.states.State.{State}
use Rattle.tcd_base.specs.Bytes.{bytes_of_word}
use Rattle.depth_cert.specs.declared.points.Exit.{Exit}
use Rattle.depth_cert.specs.declared.points.Point.{Point}
use Rattle.depth_cert.specs.Keys.{cert_flag_byte}
use Rattle.depth_cert.specs.Points.{IsWellFormedCertValue, IsState, IsPoint}
use Rattle.depth_cert.specs.Exits.{IsExit}
use Rattle.depth_cert.specs.Nodes.{NodeData, IsNode, count_points}
use Rattle.depth_cert.specs.Certs.{CertData, IsCert}
use Rattle.value_domain.specs.Values.{is_span_of_all_words}
use Rattle.depth_cert.specs.Spelling.{bytes_of_value, bytes_of_state, bytes_of_point, bytes_of_key, bytes_of_exit, bytes_of_node, bytes_of_cert}
use Rattle.depth_cert.proofs.GrammarLaws.{width_le, most_le}

-- parts of at most n bytes each
parts_most : {A : Type 0} (f : A → List ℕ) (most : ℕ) (xs : List A) → All (λ x. length (f x) ≤ most) xs → length (flat_map f xs) ≤ length xs * most
parts_most {A} f most xs h = let sum = sum_by-le (λ (x : A). length (f x)) most xs h in omega (arith, length-flat_map f xs)

-- ---- values and states
span_most : (b : Bool) (lo last step : ℕ) → length (cond b (0 ∷ []) ((240 + step) ∷ bytes_of_word lo ++ bytes_of_word last)) ≤ 513
span_most true lo last step = omega arith
span_most false lo last step = omega arith

value_most : (version : ℕ) (v : Val) → IsWellFormedCertValue version v → length (bytes_of_value v) ≤ 513
unfolding bytes_of_value
value_most version (Set ws) h =
    let words = parts_most bytes_of_word 4 ws (λ k d lt. omega arith) in
    omega (arith, h.1, (width_le version).1)
value_most version (Span lo last step) h = span_most (is_span_of_all_words lo last step) lo last step

values_most : (version : ℕ) (vs : List Val) → All (IsWellFormedCertValue version) vs → length (flat_map bytes_of_value vs) ≤ length vs * 513
values_most version vs h = parts_most bytes_of_value 513 vs (λ k d lt. value_most version (get_or vs k d) (h k d lt))

state_most : (version : ℕ) (s : State) → IsState version s → length (bytes_of_state s) ≤ 13863
unfolding bytes_of_state
state_most version s h =
    let values = values_most version s.regs h.values in
    omega (arith, h.regs, h.locals, most_le version, length-map s.locals.items cert_flag_byte, length-append (map cert_flag_byte s.locals.items) (flat_map bytes_of_value s.regs))

point_most : (version : ℕ) (p : Point) → IsPoint version p → length (bytes_of_point p) ≤ 13867
unfolding bytes_of_point
point_most version p h = let state = state_most version p.state h.state in omega (arith, length-append (bytes_of_word p.addr) (bytes_of_state p.state))

points_most : (version : ℕ) (ps : List Point) → All (IsPoint version) ps → length (flat_map bytes_of_point ps) ≤ length ps * 13867
points_most version ps h = parts_most bytes_of_point 13867 ps (λ k d lt. point_most version (get_or ps k d) (h k d lt))

-- ---- nodes
exit_most : (version : ℕ) (x : Option Exit) (P : Exit → Type 0) → IfSome x (λ e. P e × IsExit version e) → length (bytes_of_exit x) ≤ 7185
unfolding bytes_of_exit
exit_most version None P h = omega arith
exit_most version (Some e) P h = let values = values_most version e.lower h.1.values in omega (arith, h.1.lower)

node_most : (version : ℕ) (n : NodeData) → IsNode version n → length (bytes_of_node n) ≤ 7198 + length n.points * 13867
unfolding bytes_of_node bytes_of_key
node_most version n h =
    let points = points_most version n.points h.points in
    let exit = exit_most version n.exit _ h.exit in
    omega (arith, length-append (bytes_of_exit n.exit) (bytes_of_word (length n.points) ++ flat_map bytes_of_point n.points))

nodes_most : (version : ℕ) (ns : List NodeData) → All (IsNode version) ns → length (flat_map bytes_of_node ns) ≤ 7198 * length ns + 13867 * count_points ns
nodes_most version [] h = omega arith
nodes_most version (n ∷ ns) h =
    let rest = nodes_most version ns (λ k d lt. h (suc k) d (omega arith)) in
    let first = node_most version n (h 0 n (omega arith)) in
    omega (arith, ap length (flat_map-cons bytes_of_node n ns), length-append (bytes_of_node n) (flat_map bytes_of_node ns), sum_by-cons (λ (x : NodeData). length x.points) n ns)

-- a certificate has at most 2^30 bytes
pub cert_most : (c : CertData) → IsCert c → length (bytes_of_cert c) ≤ 2 ^ 30
unfolding bytes_of_cert
cert_most c h = let nodes = nodes_most c.version c.nodes h.nodes in omega (arith, h.few, h.points)
