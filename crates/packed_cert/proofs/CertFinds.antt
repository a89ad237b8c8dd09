-- Nodes found by key.
use Rattle.std.proofs.Common.{◌≡◌, Bool, Option, ℕ, suc, ◌<◌, ◌≤◌, List, [], ◌∷◌, length, map, get_or, true, false, Some, None, refl, sym, ap, ◌∙◌, ltb, eqb, eq-eqb, inl, inr, arith}
use Rattle.std.specs.Option.{option_map, option_eq}
use Rattle.std.specs.List.{find, All}
use Rattle.std.specs.List.Sorted.{IsStrictlyIncreasing, IsPartitionPoint}
use Rattle.std.proofs.lemmas.Bool.{cases_Bool, ne_eqb, eqb-true}
use Rattle.std.proofs.lemmas.Option.{same_Some}
use Rattle.depth_cert.specs.declared.keys.Key.{Key}
use Rattle.depth_cert.specs.Keys.{number_of_key}
use Rattle.depth_cert.specs.declared.points.Point.{Point}
use Rattle.depth_cert.specs.Points.{find_point}
use Rattle.depth_cert.specs.Nodes.{NodeData, find_node}
use Rattle.depth_cert.proofs.FindLaws.{found, missing, missing_end}
use Rattle.packed_cert.specs.declared.places.NodePlaces.{NodePlaces}
use Rattle.packed_cert.specs.declared.places.PointPlace.{PointPlace}
use Rattle.packed_cert.specs.PointsInBytes.{points_in_bytes, point_in_bytes, state_in_bytes}
use Rattle.packed_cert.specs.NodesInBytes.{exit_in_bytes, node_in_bytes, nodes_in_bytes, AreNodePlaces}
use Rattle.packed_cert.specs.EnteredAlike.{node_state_at, HaveSameEntryAndExit, HasEntryAndExitAt}

-- finding in the nodes is finding by the numbers that are kept
find_in : (version : ℕ) (bytes : List ℕ) (k : Key) (ns : List NodePlaces) → All (AreNodePlaces version bytes) ns → find_node k (nodes_in_bytes version bytes ns) ≡ option_map (node_in_bytes version bytes) (find (λ n. eqb n.number (number_of_key k)) ns)
find_in version bytes k [] all = refl
find_in version bytes k (n ∷ ns) all =
    let own : eqb (number_of_key n.key) (number_of_key k) ≡ eqb n.number (number_of_key k) = ap (λ (m : ℕ). eqb m (number_of_key k)) (sym (all 0 n (omega arith)).number) in
    let more : All (AreNodePlaces version bytes) ns = λ j d h. all (suc j) d (omega arith) in
    elim (cases_Bool (eqb n.number (number_of_key k))) [ inl t ↦ rw (own ∙ t, t) refl | inr f ↦ rw (own ∙ f, f) (find_in version bytes k ns more) ]

-- the place before which all numbers are below
abbrev pub Parts : ℕ → List NodePlaces → ℕ → Type 0
Parts number ns i = IsPartitionPoint (λ n. ltb n.number number ≡ true) (λ n. ltb n.number number ≡ false) ns i

pub node_found : (version : ℕ) (bytes : List ℕ) (k : Key) (i : ℕ) (n : NodePlaces) (ns : List NodePlaces) → All (AreNodePlaces version bytes) ns → i < length ns → Parts (number_of_key k) ns i
    → (get_or ns i n).number ≡ number_of_key k → find_node k (nodes_in_bytes version bytes ns) ≡ Some (node_in_bytes version bytes (get_or ns i n))
node_found version bytes k i n ns all h parts e =
    let number : NodePlaces → ℕ = λ n. n.number in
    find_in version bytes k ns all ∙ ap (option_map (node_in_bytes version bytes)) (found number ns (number_of_key k) i n h parts (eq-eqb _ _ e))

pub node_missing : (version : ℕ) (bytes : List ℕ) (k : Key) (i : ℕ) (n : NodePlaces) (ns : List NodePlaces) → All (AreNodePlaces version bytes) ns → IsStrictlyIncreasing (map (λ n. n.number) ns) → Parts (number_of_key k) ns i
    → ((get_or ns i n).number ≡ number_of_key k → ⊥) → find_node k (nodes_in_bytes version bytes ns) ≡ None
node_missing version bytes k i n ns all rising parts other =
    let number : NodePlaces → ℕ = λ n. n.number in
    find_in version bytes k ns all ∙ ap (option_map (node_in_bytes version bytes)) (missing number ns (number_of_key k) i n rising parts (ne_eqb _ _ other))

pub node_past : (version : ℕ) (bytes : List ℕ) (k : Key) (i : ℕ) (ns : List NodePlaces) → All (AreNodePlaces version bytes) ns → Parts (number_of_key k) ns i → length ns ≤ i → find_node k (nodes_in_bytes version bytes ns) ≡ None
node_past version bytes k i ns all parts end =
    let number : NodePlaces → ℕ = λ n. n.number in
    find_in version bytes k ns all ∙ ap (option_map (node_in_bytes version bytes)) (missing_end number ns (number_of_key k) i parts end)

-- ---- nodes that are entered alike
-- what was found is at the places that were found
pub entered_at : (version : ℕ) (bytes : List ℕ) (ns : List NodePlaces) (k : Key) (n : NodePlaces) (p : PointPlace) → find_node k (nodes_in_bytes version bytes ns) ≡ Some (node_in_bytes version bytes n)
    → find_point k.entry (points_in_bytes version bytes n.points.items) ≡ Some (point_in_bytes version bytes p) → HasEntryAndExitAt version bytes ns k p.place n.exit
entered_at version bytes ns k n p found point m is =
    let same : m ≡ node_in_bytes version bytes n = same_Some _ _ (sym is ∙ found) in
    (ap (node_state_at k.entry) same ∙ ap (option_map (λ (x : Point). x.state)) point, ap (λ (d : NodeData). d.exit) same)

-- and what is at equal places is equal
pub entered_alike : (version : ℕ) (bytes : List ℕ) (ns : List NodePlaces) (a b : Key) (x y : ℕ) (e f : Option ℕ) → HasEntryAndExitAt version bytes ns a x e → HasEntryAndExitAt version bytes ns b y f → x ≡ y → e ≡ f → HaveSameEntryAndExit (nodes_in_bytes version bytes ns) a b
entered_alike version bytes ns a b x y e f one two state exit n m is also = (
  (one n is).0 ∙ ap (λ (p : ℕ). Some (state_in_bytes version bytes p)) state ∙ sym (two m also).0,
  (one n is).1 ∙ ap (option_map (exit_in_bytes version bytes)) exit ∙ sym (two m also).1,
)

pub same_place : (o p : Option ℕ) (b : Bool) → b ≡ option_eq eqb o p → b ≡ true → o ≡ p
same_place None None b e t = refl
same_place None (Some y) b e t = absurd (let f : false ≡ true = sym e ∙ t in cc)
same_place (Some x) None b e t = absurd (let f : false ≡ true = sym e ∙ t in cc)
same_place (Some x) (Some y) b e t = ap (λ (n : ℕ). Some n) (eqb-true x y (sym e ∙ t))
