-- Nodes whose parts are left where they stand.
use Rattle.std.proofs.Common.{◌≡◌, ℕ, suc, ◌+◌, List, [], ◌∷◌, ◌++◌, length, map, sum_by, Result, Ok, Err, OnOk, IfErr, Option, refl, sym, ap, ◌∙◌, arith}
use Rattle.std.specs.List.{All}
use Rattle.std.proofs.lemmas.List.{map-append, length-map}
use Rattle.std.proofs.lemmas.List.Sums.{sum_by-cons, sum_by-append}
use Rattle.tcd_base.specs.declared.errors.FormErr.{FormErr}
use Rattle.tcd_base.specs.Place.{Place}
use Rattle.depth_cert.specs.declared.errors.CertErr.{CertErr}
use Rattle.depth_cert.specs.declared.errors.CertErr.TheVariants.{Bad, NoMemory}
use Rattle.depth_cert.specs.declared.keys.Key.{Key}
use Rattle.depth_cert.specs.declared.points.Exit.{Exit}
use Rattle.depth_cert.specs.declared.points.Point.{Point}
use Rattle.depth_cert.specs.Keys.{number_of_key}
use Rattle.depth_cert.specs.Answers.{IsFaultOf}
use Rattle.depth_cert.specs.Nodes.{NodeData, count_points, key_numbers}
use Rattle.depth_cert.specs.Grammar.{exit_at, optional_exit_at, last_number, key_after, need_at, points_at, node_after}
use Rattle.packed_cert.specs.declared.places.NodePlaces.{NodePlaces}
use Rattle.packed_cert.specs.ValuesInBytes.{place_in_bytes, read_from_bytes_or}
use Rattle.packed_cert.specs.PointsInBytes.{point_in_bytes}
use Rattle.packed_cert.specs.NodesInBytes.{exit_in_bytes, ExitBeginsAt, AreNodePlaces, node_in_bytes, nodes_in_bytes}
use Rattle.depth_cert.specs.Exits.{no_exit}

-- the exit that was read stands where it was read
pub exit_read : (version : ℕ) (bytes : List ℕ) (c : Place) (x : ℕ) (e : Exit) (q : Place) → c.bytes ≡ bytes → x ≡ c.place → exit_at version c ≡ Ok (e, q) → (exit_in_bytes version bytes x ≡ e) × ExitBeginsAt version bytes x
exit_read version bytes c x e q b p h =
    let there : place_in_bytes bytes x ≡ c = ap (λ (k : ℕ). place_in_bytes bytes k) p ∙ ap (λ (l : List ℕ). place_in_bytes l c.place) (sym b) in
    let read : exit_at version (place_in_bytes bytes x) ≡ Ok (e, q) = ap (exit_at version) there ∙ h in
    (ap (read_from_bytes_or no_exit) read, ((e, q), read))

-- the exit that is read at a place is the one that stands there
pub exit_whole : (version : ℕ) (bytes : List ℕ) (x : ℕ) (e : Exit) (q c : Place) → c ≡ place_in_bytes bytes x → exit_at version c ≡ Ok (e, q) → e ≡ exit_in_bytes version bytes x
exit_whole version bytes x e q c there read = sym (ap (read_from_bytes_or no_exit) (ap (exit_at version) (sym there) ∙ read))

pub exit_never : (version : ℕ) (bytes : List ℕ) (x : ℕ) (f : FormErr) (c : Place) → c ≡ place_in_bytes bytes x → ExitBeginsAt version bytes x → exit_at version c ≡ Err f → ⊥
exit_never version bytes x f c there h read = never f h.0 (sym (ap (exit_at version) (sym there) ∙ read) ∙ h.1)
  where
    never : (f : FormErr) (y : Exit × Place) → ◌≡◌ {A = Result (Exit × Place) FormErr} (Err f) (Ok y) → ⊥
    never f y g = cc

-- the exit that was read into its place is the one that stands there
pub whole_exit : {A : Type 0} (version : ℕ) (bytes : List ℕ) (x : ℕ) (r : Result A FormErr) (e : Exit) (c d : Place) → c ≡ place_in_bytes bytes x → ExitBeginsAt version bytes x
    → OnOk r (exit_at version c ≡ Ok (e, d)) → IfErr r (λ f. exit_at version c ≡ Err f) → e ≡ exit_in_bytes version bytes x
whole_exit {A} version bytes x (Ok n) e c d there h ok err = exit_whole version bytes x e d c there ok
whole_exit {A} version bytes x (Err f) e c d there h ok err = absurd (exit_never version bytes x f c there h err)

pub keys_in : (version : ℕ) (bytes : List ℕ) (ns : List NodePlaces) → All (AreNodePlaces version bytes) ns → key_numbers (nodes_in_bytes version bytes ns) ≡ map (λ n. n.number) ns
keys_in version bytes [] all = refl
keys_in version bytes (n ∷ ns) all =
    let here : number_of_key n.key ≡ n.number = sym (all 0 n (omega arith)).number in
    let more : All (AreNodePlaces version bytes) ns = λ k d h. all (suc k) d (omega arith) in
    ap (λ (k : ℕ). k ∷ key_numbers (nodes_in_bytes version bytes ns)) here ∙ ap (λ (l : List ℕ). n.number ∷ l) (keys_in version bytes ns more)

pub nodes_push : (version : ℕ) (bytes : List ℕ) (ns : List NodePlaces) (n : NodePlaces) → nodes_in_bytes version bytes (ns ++ n ∷ []) ≡ nodes_in_bytes version bytes ns ++ node_in_bytes version bytes n ∷ []
nodes_push version bytes ns n = map-append (node_in_bytes version bytes) ns (n ∷ [])

pub count_push : (version : ℕ) (bytes : List ℕ) (ns : List NodePlaces) (n : NodePlaces) → count_points (nodes_in_bytes version bytes (ns ++ n ∷ [])) ≡ count_points (nodes_in_bytes version bytes ns) + length n.points.items
count_push version bytes ns n =
    let more = ap count_points (nodes_push version bytes ns n) ∙ sum_by-append (λ (n : NodeData). length n.points) (nodes_in_bytes version bytes ns) (node_in_bytes version bytes n ∷ []) in
    let one = length-map n.points.items (point_in_bytes version bytes) in
    omega (arith, more, one)

pub count_in : (version : ℕ) (bytes : List ℕ) (ns : List NodePlaces) → count_points (nodes_in_bytes version bytes ns) ≡ sum_by (λ (n : NodePlaces). length n.points.items) ns
count_in version bytes [] = refl
count_in version bytes (n ∷ ns) =
    sum_by-cons (λ (m : NodeData). length m.points) (node_in_bytes version bytes n) (nodes_in_bytes version bytes ns)
    ∙ ap (λ (k : ℕ). k + count_points (nodes_in_bytes version bytes ns)) (length-map n.points.items (point_in_bytes version bytes))
    ∙ ap (λ (k : ℕ). length n.points.items + k) (count_in version bytes ns)
    ∙ sym (sum_by-cons (λ (m : NodePlaces). length m.points.items) n ns)

-- ---- a node behind others: the key, the need, the exit, and the points
pub node_reads : (version : ℕ) (before : List NodeData) (p q r s t : Place) (key : Key) (need : ℕ) (exit : Option Exit) (points : List Point)
    → key_after (last_number (key_numbers before)) p ≡ Ok (key, q) → need_at q ≡ Ok (need, r) → optional_exit_at version key.kind r ≡ Ok (exit, s) → points_at version (count_points before) s ≡ Ok (points, t)
    → node_after version before p ≡ Ok (record { key = key; need = need; exit = exit; points = points }, t)
unfolding node_after
node_reads version before p q r s t key need exit points a b c d = rw (a, b, c, d) refl

pub key_fails : (version : ℕ) (before : List NodeData) (p : Place) (e : FormErr) → key_after (last_number (key_numbers before)) p ≡ Err e → node_after version before p ≡ Err e
unfolding node_after
key_fails version before p e a = rw a refl

pub need_fails : (version : ℕ) (before : List NodeData) (p q : Place) (key : Key) (e : FormErr) → key_after (last_number (key_numbers before)) p ≡ Ok (key, q) → need_at q ≡ Err e → node_after version before p ≡ Err e
unfolding node_after
need_fails version before p q key e a b = rw (a, b) refl

pub exit_fails : (version : ℕ) (before : List NodeData) (p q r : Place) (key : Key) (need : ℕ) (e : FormErr)
    → key_after (last_number (key_numbers before)) p ≡ Ok (key, q) → need_at q ≡ Ok (need, r) → optional_exit_at version key.kind r ≡ Err e → node_after version before p ≡ Err e
unfolding node_after
exit_fails version before p q r key need e a b c = rw (a, b, c) refl

pub points_fail : (version : ℕ) (before : List NodeData) (p q r s : Place) (key : Key) (need : ℕ) (exit : Option Exit) (e : CertErr)
    → key_after (last_number (key_numbers before)) p ≡ Ok (key, q) → need_at q ≡ Ok (need, r) → optional_exit_at version key.kind r ≡ Ok (exit, s) → IsFaultOf (points_at version (count_points before) s) e
    → IsFaultOf (node_after version before p) e
unfolding node_after
points_fail version before p q r s key need exit (Bad e) a b c d = rw (a, b, c, d) refl
points_fail version before p q r s key need exit NoMemory a b c d = tt
