-- The certificate of a table is the one to write.
use Rattle.std.proofs.Common.{◌≡◌, ◌⊎◌, inl, inr, ℕ, ◌+◌, ◌-◌, ◌*◌, ◌^◌, ◌<◌, ◌≤◌, true, false, List, [], ◌∷◌, length, map, get_or, refl, sym, ap, ◌∙◌, subst, arith, Option, Some, None, IsSome, Contains, All, eqb}
use Rattle.std.specs.Prelude.{filter, find, sum_by, option_map, option_and_then, IfSome}
use Rattle.std.specs.List.{IsDistinct, AllPairs}
use Rattle.std.specs.List.Sorted.{IsPermutation, IsStrictlyIncreasing, IsNonDecreasingBy}
use Rattle.std.proofs.lemmas.Bool.{cases_Bool, eqb-true, eq-eqb}
use Rattle.std.proofs.lemmas.List.{length-map, get_or-map, get_or_default, map-id}
use Rattle.std.proofs.lemmas.List.Elements.{All-map, All-contains, Contains-get_or, filter_passes}
use Rattle.std.proofs.lemmas.List.Kept.{AllPairs-filter, IsNonDecreasingBy-filter}
use Rattle.std.proofs.lemmas.List.Sorted.{Contains-permutation, IsPermutation-map, IsPermutation-sym, length_permutation}
use Rattle.std.proofs.lemmas.Map.Keys.{IsDistinct-IsPermutation, apart_from_distinct}
use Rattle.elf_image.specs.Images.{ImageData}
use Rattle.tcd_plan.specs.PlanData.{PlanData}
use Rattle.value_domain.specs.declared.values.Val.{Val}
use Rattle.value_domain.specs.declared.values.Val.TheVariants.{Set, Span}
use Rattle.value_domain.specs.declared.states.State.{State}
use Rattle.value_domain.specs.Limits.{Limits}
use Rattle.value_domain.specs.VersionLimits.{limits_for}
use Rattle.value_domain.specs.Values.{IsInLattice, any_val}
use Rattle.value_domain.specs.State.{AreInLattice}
use Rattle.value_domain.proofs.RangeLaws.{span_count, set_value}
use Rattle.depth_cert.specs.declared.keys.Key.{Key}
use Rattle.depth_cert.specs.declared.points.Point as located
use Rattle.depth_cert.specs.Keys.{IsKey, number_of_key, is_same_key}
use Rattle.depth_cert.specs.Points.{IsWellFormedCertValue, IsState, IsPoint, find_point}
use Rattle.depth_cert.specs.Exits.{IsExit}
use Rattle.depth_cert.specs.Nodes.{NodeData, IsNode, need_or_zero, count_points}
use Rattle.depth_cert.specs.Certs.{CertData, IsCert}
use Rattle.cfg_recover.specs.Entries.{start_key}
use Rattle.cfg_recover.specs.Assignments.{Place, point, exit, Assignment, is_same_place, key_of_place, known_by_node, assignment_of_cert, Closed, Derived, ArePointsFaultless}
use Rattle.depth_cert.specs.Known.{Known, state, leaving, exit_if_known}
use Rattle.depth_cert.specs.WellFormed.{IsWellFormedState, IsWellFormedExit, IsWellFormedKnown}
use Rattle.depth_maker.specs.LeastCertMade.{AreLeastNeeds, IsLeastFixpointCert, need_in_cert}
use Rattle.cfg_recover.proofs.Members.{contains_map}
use Rattle.depth_maker.specs.AssignmentCounts.{ListsPointsAndFrames}
use Rattle.depth_maker.specs.DutiesMonotone.{AreMakerInputs}
use Rattle.frame_places.specs.Spots.{ArePointsInRange, is_point_of, spot_address, spot_order_number}
use Rattle.depth_maker.specs.SpelledCert.{HasByteCcpns, addresses_in_frame, cert_of_assignment, node_of_assignment, point_of_assignment, state_or_blank}
use Rattle.depth_maker.specs.SpotsAsPlaces.{place_of_spot}
use Rattle.frame_places.specs.declared.places.Spot.{Spot}
use Rattle.frame_places.specs.declared.places.Spot.TheVariants.{Point, Exit}
use Rattle.depth_maker.proofs.DutyGrowth.{contained_map}
use Rattle.depth_maker.proofs.FindLemmas.{map_twice, sum_twice, has_or_not, find_mapped, find_unmapped, filter_has, has_filter, strict, sum_of_filters, one_at_most, one_if}
use Rattle.depth_maker.proofs.Lawful.{lawful}
use Rattle.depth_maker.proofs.MadeLaws.{meets_alike}
use Rattle.depth_maker.proofs.PlaceKinds.{IsOfKind, derived_kinds}
use Rattle.frame_places.proofs.KeyLaws.{key_tells, key_same}
use Rattle.depth_maker.proofs.PlaceLaws.{place_tells, place_same}
use Rattle.depth_maker.proofs.PlaceRanges.{IsInRange, derived_in_range}
use Rattle.depth_maker.proofs.PointEntries.{placed}
use Rattle.depth_maker.proofs.Sizes.{decides}
use Rattle.depth_maker.proofs.TableLaws.{derived_well_formed}
use Rattle.depth_cert.proofs.KeyLaws.{one_number}

-- ---- values
-- a value at the limits is one that certificates of the format may have
pub well_of : (plan : PlanData) (version : ℕ) (v : Val) → IsInLattice (limits_for plan version) v → IsWellFormedCertValue version v
well_of plan version (Set ws) is = let well = is.well in (well, (set_value (limits_for plan version) ws well).1 is)
well_of plan version (Span lo last step) is = let well = is.well in (well.0, span_count (limits_for plan version) lo last step is, well.2)

values_well : (plan : PlanData) (version : ℕ) (vs : List Val) → AreInLattice (limits_for plan version) vs → All (IsWellFormedCertValue version) vs
values_well plan version vs are k d lt = subst (IsWellFormedCertValue version) (sym (get_or_default vs k d any_val lt)) (well_of plan version (get_or vs k any_val) (are k lt))

-- what is there
pub value_in : (o : Option Known) → IsSome o → (v : Known) × (o ≡ Some v)
value_in None h = absurd (let f : false ≡ true = h in cc)
value_in (Some v) h = (v, refl)

some_of : (o : Option Known) (v : Known) → o ≡ Some v → IsSome o
some_of o v e = subst (λ (o : Option Known). IsSome o) (sym e) refl

no_key : Key
no_key = record { kind = 0; entry = 0; prio = 0; is = false }

-- a point of the frame, by its address
pub point_here : (k : Key) (q : Spot) → is_point_of k q ≡ true → q ≡ Point k (spot_address q)
point_here k (Point j p) e = ap (λ (z : Key). Point z p) (key_tells j k e)
point_here k (Exit j) e = cc

at_most_one : (ks : List Key) → IsDistinct is_same_key ks → (q : Spot) → sum_by (λ k. one_if (is_point_of k q)) ks ≤ 1
at_most_one ks distinct (Point j p) = one_at_most is_same_key key_tells j ks distinct
at_most_one ks distinct (Exit j) = none ks where
  none : (ks : List Key) → sum_by (λ k. one_if (is_point_of k (Exit j))) ks ≤ 1
  none ks = let z = zero_sum ks in omega (arith, z) where
    zero_sum : (ks : List Key) → sum_by (λ (k : Key). 0) ks ≡ 0
    zero_sum [] = refl
    zero_sum (k ∷ ks) = zero_sum ks

module _ (b : Limits) (image : ImageData) (plan : PlanData) (ground : AreMakerInputs b image plan) (a : Assignment)
    (derived : Derived b image plan a) (closed : Closed b image plan a) (faultless : ArePointsFaultless b image plan a)
    (fs : List Key) (qs : List Spot) (counted : ListsPointsAndFrames a (map place_of_spot qs) fs) (few_points : length qs ≤ 2 ^ 16) (few_frames : length fs ≤ 2048)
    (ks : List Key) (ps : List Spot) (frames : IsPermutation fs ks) (points : IsPermutation qs ps) (rising_points : IsNonDecreasingBy spot_order_number ps) where
  -- ---- frames and points
  kind : (y : Place) (v : Known) → a y ≡ Some v → IsOfKind y v
  kind = derived_kinds b image plan a derived

  well_formed : (y : Place) (v : Known) → a y ≡ Some v → IsWellFormedKnown b v
  well_formed = derived_well_formed b image plan (lawful b image plan ground) a derived

  in_range : (y : Place) (v : Known) → a y ≡ Some v → IsInRange y
  in_range = derived_in_range b image plan ground a derived

  known_frame : (y : Place) → IsSome (a y) → Contains ks (key_of_place y)
  known_frame y h = Contains-permutation fs ks (key_of_place y) frames (counted.frames y h)

  entered : (k : Key) → Contains ks k → IsSome (a (point k k.entry))
  entered k c = counted.entered k (Contains-permutation ks fs k (IsPermutation-sym fs ks frames) c)

  pub frame_key : (k : Key) → Contains ks k → IsKey k
  frame_key k c = let v = value_in (a (point k k.entry)) (entered k c) in (in_range (point k k.entry) v.0 v.1).0

  distinct_frames : IsDistinct is_same_key ks
  distinct_frames = IsDistinct-IsPermutation is_same_key ((decides is_same_key key_tells key_same).symm) fs ks frames counted.once_each

  distinct_points : IsDistinct is_same_place (map place_of_spot ps)
  distinct_points = IsDistinct-IsPermutation is_same_place ((decides is_same_place place_tells place_same).symm) (map place_of_spot qs) (map place_of_spot ps) (IsPermutation-map place_of_spot qs ps points) counted.once

  rising_keys : IsNonDecreasingBy (λ (k : Key). number_of_key k) ks → IsStrictlyIncreasing (map (λ (k : Key). number_of_key k) ks)
  rising_keys rising_frames = strict (λ (k : Key). number_of_key k) ks no_key rising_frames (λ i lt e.
      let one = frame_key (get_or ks i no_key) (Contains-get_or ks i no_key (omega (arith, lt))) in
      let two = frame_key (get_or ks (i + 1) no_key) (Contains-get_or ks (i + 1) no_key lt) in
      let same = one_number (get_or ks i no_key) (get_or ks (i + 1) no_key) one two e in
      let apart = apart_from_distinct is_same_key ks i (i + 1) no_key distinct_frames (omega arith) lt in
      let f : true ≡ false = sym (key_same (get_or ks i no_key)) ∙ ap (is_same_key (get_or ks i no_key)) same ∙ apart in
      cc)

  -- each point is there once
  apart_points : AllPairs (λ x y. is_same_place (place_of_spot x) (place_of_spot y) ≡ false) ps
  apart_points i j d lt l =
      let h = apart_from_distinct is_same_place (map place_of_spot ps) i j (place_of_spot d) distinct_points lt (omega (arith, l, length-map ps place_of_spot)) in
      let one = get_or-map place_of_spot ps i d (place_of_spot d) (omega (arith, lt, l)) in
      let two = get_or-map place_of_spot ps j d (place_of_spot d) l in
      sym (λ t. is_same_place (one t) (two t)) ∙ h

  module _ (k : Key) where
    abbrev kept : List Spot
    kept = filter (is_point_of k) ps

    of_frame : (i : ℕ) (d : Spot) → i < length kept → get_or kept i d ≡ Point k (spot_address (get_or kept i d))
    of_frame i d lt = point_here k (get_or (filter (is_point_of k) ps) i d) (filter_passes (is_point_of k) ps i d lt)

    rising_kept : IsNonDecreasingBy spot_address kept
    rising_kept i j d le lt =
        let up = IsNonDecreasingBy-filter spot_order_number (is_point_of k) ps rising_points i j d le lt in
        let one : spot_order_number (get_or kept i d) ≡ number_of_key k * 2 ^ 32 + spot_address (get_or kept i d) = ap spot_order_number (of_frame i d (omega (arith, le, lt))) in
        let two : spot_order_number (get_or kept j d) ≡ number_of_key k * 2 ^ 32 + spot_address (get_or kept j d) = ap spot_order_number (of_frame j d lt) in
        below (number_of_key k) (spot_order_number (get_or kept i d)) (spot_order_number (get_or kept j d)) (spot_address (get_or kept i d)) (spot_address (get_or kept j d)) up one two
      where
        below : (n x y p q : ℕ) → x ≤ y → x ≡ n * 2 ^ 32 + p → y ≡ n * 2 ^ 32 + q → p ≤ q
        below n x y p q le e f = omega arith

    rising_addresses : IsStrictlyIncreasing (addresses_in_frame ps k)
    rising_addresses = strict spot_address kept (Exit no_key) rising_kept (λ i lt e.
        let x = get_or kept i (Exit no_key) in
        let y = get_or kept (i + 1) (Exit no_key) in
        let same : x ≡ y = of_frame i (Exit no_key) (omega (arith, lt)) ∙ ap (λ (n : ℕ). Point k n) e ∙ sym (of_frame (i + 1) (Exit no_key) lt) in
        let apart = AllPairs-filter (λ x y. is_same_place (place_of_spot x) (place_of_spot y) ≡ false) (is_point_of k) ps apart_points i (i + 1) (Exit no_key) (omega arith) lt in
        let f : true ≡ false = sym (place_same (place_of_spot x)) ∙ ap (λ (z : Spot). is_same_place (place_of_spot x) (place_of_spot z)) same ∙ apart in
        cc)

    -- the addresses are those of the known points
    has_address : (p : ℕ) → IsSome (a (point k p)) → Contains (addresses_in_frame ps k) p
    has_address p h =
        let there = Contains-permutation qs ps (Point k p) points (placed qs k p (counted.points k p h)) in
        contains_map spot_address (filter (is_point_of k) ps) (Point k p) (filter_has (is_point_of k) ps (Point k p) there (key_same k))

    pub address_known : (p : ℕ) → Contains (addresses_in_frame ps k) p → IsSome (a (point k p))
    address_known p c =
        let m = contained_map spot_address (filter (is_point_of k) ps) p c in
        let f = has_filter (is_point_of k) ps m.0 m.1 in
        let is : m.0 ≡ Point k p = point_here k m.0 f.1 ∙ ap (λ (n : ℕ). Point k n) m.2 in
        let there = Contains-permutation ps qs (Point k p) (IsPermutation-sym qs ps points) (subst (Contains ps) is f.0) in
        (counted.known (point k p) (contains_map place_of_spot qs (Point k p) there)).0

  -- all points of the list may be in a certificate
  pub are_ranged : ArePointsInRange ps
  are_ranged q c =
      let m = contains_map place_of_spot qs q (Contains-permutation ps qs q (IsPermutation-sym qs ps points) c) in
      let known = counted.known (place_of_spot q) m in
      let v = value_in (a (place_of_spot q)) known.0 in
      at q (place_of_spot q) refl known.1 (in_range (place_of_spot q) v.0 v.1)
    where
      at : (q : Spot) (y : Place) → place_of_spot q ≡ y → (k : Key) × (p : ℕ) × (y ≡ point k p) → IsInRange y → (k : Key) × (p : ℕ) × (q ≡ Point k p) × IsKey k × (p < 2 ^ 32)
      at (Point j p) y e is range = let r = subst IsInRange (sym e) range in (j, p, refl, r.0, r.1)
      at (Exit j) y e is range = absurd (let f : exit j ≡ point is.0 is.1 = e ∙ is.2 in cc)

  -- ---- the certificate
  module _ (rising_frames : IsNonDecreasingBy (λ (k : Key). number_of_key k) ks) (version : ℕ) (known_version : (version ≡ 1) ⊎ (version ≡ 2)) (of_version : b ≡ limits_for plan version) (need : Key → ℕ) (needs : AreLeastNeeds b image plan a need) (few : (k : Key) → need k ≤ plan.areas - plan.reserve) (areas : plan.areas ≤ 4096)
      (bytes : All (λ k. HasByteCcpns (node_of_assignment a need (addresses_in_frame ps) k)) ks) where
    abbrev node : Key → NodeData
    node k = node_of_assignment a need (addresses_in_frame ps) k

    abbrev cert : CertData
    cert = cert_of_assignment version a need (addresses_in_frame ps) ks

    found : (k : Key) → Contains ks k → find (λ n. is_same_key n.key k) cert.nodes ≡ Some (node k)
    found k c = find_mapped (λ n. is_same_key n.key k) (node_of_assignment a need (addresses_in_frame ps)) k (key_same k) (λ z e. ap (node_of_assignment a need (addresses_in_frame ps)) (key_tells z k e)) ks c

    not_found : (k : Key) → (Contains ks k → ⊥) → find (λ n. is_same_key n.key k) cert.nodes ≡ None
    not_found k absent =
        find_unmapped (λ n. is_same_key n.key k) (node_of_assignment a need (addresses_in_frame ps)) ks
        (λ z c. elim (cases_Bool (is_same_key z k)) [ inl e ↦ absurd (absent (subst (Contains ks) (key_tells z k e) c)) | inr e ↦ e ])

    point_found : (k : Key) (p : ℕ) → Contains (addresses_in_frame ps k) p → find_point p (node k).points ≡ Some (point_of_assignment a k p)
    point_found k p c = find_mapped (λ (q : located.Point). eqb q.addr p) (point_of_assignment a k) p (eq-eqb p p refl) (λ z e. ap (point_of_assignment a k) (eqb-true z p e)) (addresses_in_frame ps k) c

    point_not_found : (k : Key) (p : ℕ) → (Contains (addresses_in_frame ps k) p → ⊥) → find_point p (node k).points ≡ None
    point_not_found k p absent =
        find_unmapped (λ (q : located.Point). eqb q.addr p) (point_of_assignment a k) (addresses_in_frame ps k)
        (λ z c. elim (cases_Bool (eqb z p)) [ inl e ↦ absurd (absent (subst (Contains (addresses_in_frame ps k)) (eqb-true z p e) c)) | inr e ↦ e ])

    -- ---- what it says
    unknown : (y : Place) → (Contains ks (key_of_place y) → ⊥) → None ≡ a y
    unknown y absent = at (a y) refl where
      at : (o : Option Known) → a y ≡ o → None ≡ a y
      at None e = sym e
      at (Some v) e = absurd (absent (known_frame y (some_of (a y) v e)))

    state_back : (k : Key) (p : ℕ) → IsSome (a (point k p)) → Some (state (state_or_blank (a (point k p)))) ≡ a (point k p)
    state_back k p h = let v = value_in (a (point k p)) h in at v.0 v.1 (kind (point k p) v.0 v.1) where
      at : (v : Known) → a (point k p) ≡ Some v → IsOfKind (point k p) v → Some (state (state_or_blank (a (point k p)))) ≡ a (point k p)
      at (state s) e h = ap (λ (o : Option Known). Some (state (state_or_blank o))) e ∙ sym e
      at (leaving x) e h = absurd h

    none_back : (k : Key) (p : ℕ) → (Contains (addresses_in_frame ps k) p → ⊥) → None ≡ a (point k p)
    none_back k p absent = at (a (point k p)) refl where
      at : (o : Option Known) → a (point k p) ≡ o → None ≡ a (point k p)
      at None e = sym e
      at (Some v) e = absurd (absent (has_address k p (some_of (a (point k p)) v e)))

    exit_back : (k : Key) → option_map leaving (exit_if_known (a (exit k))) ≡ a (exit k)
    exit_back k = at (a (exit k)) refl where
      at : (o : Option Known) → a (exit k) ≡ o → option_map leaving (exit_if_known (a (exit k))) ≡ a (exit k)
      at None e = ap (λ (o : Option Known). option_map leaving (exit_if_known o)) e ∙ sym e
      at (Some (leaving x)) e = ap (λ (o : Option Known). option_map leaving (exit_if_known o)) e ∙ sym e
      at (Some (state s)) e = absurd (kind (exit k) (state s) e)

    known_point : (k : Key) (p : ℕ) → known_by_node (point k p) (node k) ≡ a (point k p)
    known_point k p =
        elim (has_or_not eqb (λ x y e. eqb-true x y e) (λ x. eq-eqb x x refl) (addresses_in_frame ps k) p) [
          | inl c ↦ ap (option_map (λ (q : located.Point). state q.state)) (point_found k p c) ∙ state_back k p (address_known k p c)
          | inr n ↦ ap (option_map (λ (q : located.Point). state q.state)) (point_not_found k p n) ∙ none_back k p n
        ]

    known_node : (y : Place) → known_by_node y (node (key_of_place y)) ≡ a y
    known_node (point k p) = known_point k p
    known_node (exit k) = exit_back k

    pub known_same : (y : Place) → assignment_of_cert cert y ≡ a y
    known_same y =
        elim (has_or_not is_same_key key_tells key_same ks (key_of_place y)) [
          | inl c ↦ ap (option_and_then (known_by_node y)) (found (key_of_place y) c) ∙ known_node y
          | inr n ↦ ap (option_and_then (known_by_node y)) (not_found (key_of_place y) n) ∙ unknown y n
        ]

    -- ---- what it keeps
    states : (k : Key) (p : ℕ) → ((point_of_assignment a k p).state).ccpn < 2 ^ 8 → Contains (addresses_in_frame ps k) p → IsPoint version (point_of_assignment a k p)
    states k p byte c = let v = value_in (a (point k p)) (address_known k p c) in at v.0 v.1 (kind (point k p) v.0 v.1) where
      at : (v : Known) → a (point k p) ≡ Some v → IsOfKind (point k p) v → IsPoint version (point_of_assignment a k p)
      at (leaving x) e h = absurd h
      at (state s) e h =
          let is : s ≡ state_or_blank (a (point k p)) = sym (ap state_or_blank e) in
          let good : IsWellFormedState b s = well_formed (point k p) (state s) e in
          let same : IsState version s = record {
            regs = good.regs;
            values = values_well plan version s.regs (subst (λ (b : Limits). AreInLattice b s.regs) of_version good.values);
            ccpn = subst (λ (z : State). z.ccpn < 2 ^ 8) (sym is) byte;
            locals = let le = good.few in omega (arith, le, ap (λ (b : Limits). b.most_locals) of_version);
          } in
          record { addr = (in_range (point k p) (state s) e).1; state = subst (IsState version) is same }

    exits_are : (k : Key) (o : Option Known) → a (exit k) ≡ o → IfSome (exit_if_known o) (λ e. e.ccpn < 2 ^ 8) → IfSome (exit_if_known o) (λ e. ((k.kind ≡ 1) ⊎ (k.kind ≡ 3)) × IsExit version e)
    exits_are k (Some (leaving x)) e byte =
        let good : IsWellFormedExit b x = well_formed (exit k) (leaving x) e in
        ((in_range (exit k) (leaving x) e).1, record { lower = good.regs; values = values_well plan version x.lower (subst (λ (b : Limits). AreInLattice b x.lower) of_version good.values); ccpn = byte })
    exits_are k _ e byte = tt

    node_is : (k : Key) → Contains ks k → IsNode version (node k)
    node_is k c =
        let byte = All-contains (λ k. HasByteCcpns (node_of_assignment a need (addresses_in_frame ps) k)) ks k bytes c in
        record {
          key = frame_key k c;
          need = let le = few k in omega (arith, le, areas);
          exit = exits_are k (a (exit k)) refl byte.exit;
          rising = subst IsStrictlyIncreasing (sym (map_twice (λ (q : located.Point). q.addr) (point_of_assignment a k) (addresses_in_frame ps k) ∙ map-id (addresses_in_frame ps k))) (rising_addresses k);
          points =
              All-map (IsPoint version) (point_of_assignment a k) (addresses_in_frame ps k)
              (λ i d lt. states k (get_or (addresses_in_frame ps k) i d)
              (subst (λ (q : located.Point). (q.state).ccpn < 2 ^ 8) (get_or-map (point_of_assignment a k) (addresses_in_frame ps k) i d (point_of_assignment a k d) lt)
              (byte.points i (point_of_assignment a k d) (omega (arith, lt, length-map (addresses_in_frame ps k) (point_of_assignment a k)))))
              (Contains-get_or (addresses_in_frame ps k) i d lt));
        }

    few_kept : count_points cert.nodes ≤ 2 ^ 16
    few_kept =
        let one : count_points (map (node_of_assignment a need (addresses_in_frame ps)) ks) ≡ sum_by (λ k. length (map (point_of_assignment a k) (addresses_in_frame ps k))) ks = sum_twice (λ (n : NodeData). length n.points) (node_of_assignment a need (addresses_in_frame ps)) ks in
        let two : sum_by (λ k. length (map (point_of_assignment a k) (addresses_in_frame ps k))) ks ≡ sum_by (λ k. length (filter (is_point_of k) ps)) ks =
        ap (λ (f : Key → ℕ). sum_by f ks) (λ i k. (length-map (addresses_in_frame ps k) (point_of_assignment a k) ∙ length-map (filter (is_point_of k) ps) spot_address) i) in
        omega (arith, one, two, sum_of_filters is_point_of ks (at_most_one ks distinct_frames) ps, length_permutation qs ps points, few_points)

    is_cert : IsCert cert
    is_cert = record {
      version = known_version;
      few = omega (arith, length-map ks (node_of_assignment a need (addresses_in_frame ps)), length_permutation fs ks frames, few_frames);
      rising = subst IsStrictlyIncreasing (sym (map_twice (λ (n : NodeData). number_of_key n.key) (node_of_assignment a need (addresses_in_frame ps)) ks)) (rising_keys rising_frames);
      nodes = All-map (IsNode version) (node_of_assignment a need (addresses_in_frame ps)) ks (λ i d lt. node_is (get_or ks i d) (Contains-get_or ks i d lt));
      points = few_kept;
    }

    entries : (n : NodeData) → Contains cert.nodes n → IsSome (find_point (n.key).entry n.points)
    entries n c =
        let m = contained_map (node_of_assignment a need (addresses_in_frame ps)) ks n c in
        subst (λ (n : NodeData). IsSome (find_point (n.key).entry n.points)) m.2
        (subst (λ (o : Option located.Point). IsSome o) (sym (point_found m.0 (m.0).entry (has_address m.0 (m.0).entry (entered m.0 m.1)))) refl)

    -- ---- its needs
    need_here : (k : Key) → Contains ks k → need_in_cert cert k ≡ need k
    need_here k c = ap need_or_zero (found k c)

    need_agrees : (y : Place) (v : Known) → a y ≡ Some v → need (key_of_place y) ≡ need_in_cert cert (key_of_place y)
    need_agrees y v e = sym (need_here (key_of_place y) (known_frame y (some_of (a y) v e)))

    least_needs : AreLeastNeeds b image plan a (need_in_cert cert)
    least_needs = record {
      meets = meets_alike b image plan a need (need_in_cert cert) closed need_agrees needs.meets;
      least = λ other m k.
          elim (has_or_not is_same_key key_tells key_same ks k) [
            | inl c ↦ (let le = needs.least other m k in omega (arith, le, need_here k c))
            | inr n ↦ (let e : need_in_cert cert k ≡ 0 = ap need_or_zero (not_found k n) in omega (arith, e))
          ];
    }

    start_few : need_in_cert cert (start_key image plan) ≤ plan.areas - plan.reserve
    start_few =
        let o = closed.start in
        let c = known_frame (point (start_key image plan) image.entry) (some_of (a (point (start_key image plan) image.entry)) o.known o.at) in
        let le = few (start_key image plan) in
        omega (arith, le, need_here (start_key image plan) c)

    pub is_written : IsLeastFixpointCert image plan version (cert_of_assignment version a need (addresses_in_frame ps) ks)
    is_written =
        let same : assignment_of_cert cert ≡ a = λ i y. known_same y i in
        record {
          is_cert = is_cert;
          of_version = refl;
          entries = entries;
          derived = subst (λ (b : Limits). Derived b image plan (assignment_of_cert cert)) of_version (subst (Derived b image plan) (sym same) derived);
          closed = subst (λ (b : Limits). Closed b image plan (assignment_of_cert cert)) of_version (subst (Closed b image plan) (sym same) closed);
          faultless = subst (λ (b : Limits). ArePointsFaultless b image plan (assignment_of_cert cert)) of_version (subst (ArePointsFaultless b image plan) (sym same) faultless);
          needs =
              subst (λ (b : Limits). AreLeastNeeds b image plan (assignment_of_cert cert) (need_in_cert cert)) of_version
              (subst (λ (c : Assignment). AreLeastNeeds b image plan c (need_in_cert cert)) (sym same) least_needs);
          start = start_few;
        }
