-- The parts of a certificate, as they are appended.
use Rattle.std.proofs.Common.{◌≡◌, true, ℕ, ◌+◌, ◌^◌, ◌<◌, ◌≤◌, List, [], ◌++◌, length, map, get_or, take, sym, ap, ◌∙◌, subst, arith, append-nil, append_assoc, Option, Some, None, All, ◌⊎◌}
use Rattle.std.specs.Prelude.{filter, IfSome}
use Rattle.std.specs.List.{flat_map}
use Rattle.std.specs.List.Sorted.{IsNonDecreasingBy}
use Rattle.std.proofs.lemmas.List.{take_more, flat_map_more, length-map, get_or_default}
use Rattle.std.proofs.lemmas.List.Elements.{All-map, All-more, All-nil}
use Rattle.std.proofs.lemmas.List.Sorted.{length_permutation, IsPermutation-refl}
use Rattle.tcd_base.specs.Bytes.{bytes_of_half, bytes_of_word}
use Rattle.value_domain.specs.declared.values.Val.{Val}
use Rattle.value_domain.specs.declared.states.State.{State}
use Rattle.value_domain.specs.Limits.{Limits}
use Rattle.value_domain.specs.Values.{IsWellFormed, any_val}
use Rattle.value_domain.specs.State.{AreInLattice}
use Rattle.depth_cert.specs.declared.keys.Key.{Key}
use Rattle.depth_cert.specs.declared.points.Exit as exits
use Rattle.depth_cert.specs.declared.points.Point as located
use Rattle.depth_cert.specs.Keys.{IsKey, number_of_key}
use Rattle.depth_cert.specs.Spelling.{bytes_of_cert, bytes_of_exit, bytes_of_key, bytes_of_node, bytes_of_point, bytes_of_state}
use Rattle.cfg_recover.proofs.Members.{contains_map}
use Rattle.cfg_recover.specs.Assignments.{point, exit}
use Rattle.depth_cert.specs.Known.{Known, state, leaving, IsNotExit, exit_if_known}
use Rattle.depth_cert.specs.WellFormed.{IsWellFormedExit}
use Rattle.depth_maker.specs.Needs.{need_of_frame}
use Rattle.depth_maker.specs.Rows.{HasFinishedTable}
use Rattle.depth_maker.specs.SpelledCert.{AreTableFrames, AreTablePointEntries, IsTableFrame, HasByteCcpns, SourceHasLimitsOfFormat, IsOrderedCertSource, AreFixpointCertBytesFromSource, AppendsTablePoint, AppendsTablePoints, AppendsTableExit, AppendsTableNode, AppendsTableNodes, cert_from_table, exit_from_table, known_from_table, node_from_table, point_from_table, state_or_blank}
use Rattle.depth_maker.specs.SpotsAsPlaces.{spots_in_order, spots_of_entries, place_of_spot, spot_of}
use Rattle.frame_places.specs.Spots.{ArePointsInRange, is_point_of, spot_address}
use Rattle.frame_places.specs.PointEntries.{is_in_frame, place_of_entry, points_in}
use Rattle.frame_places.specs.Marks.{value_of_place}
use Rattle.frame_places.proofs.OrderLemmas.{frame_entries, in_frame_is}
use Rattle.depth_maker.specs.AssignmentCounts.{ListsPointsAndFrames}
use Rattle.depth_maker.specs.declared.table.Table as made
use Rattle.depth_maker.proofs.PointEntries.{entries_counted, entries_few, rising_spots}
use Rattle.depth_maker.specs.TableView.{view_of_table}
use Rattle.frame_places.specs.declared.places.Spot.{Spot}
use Rattle.frame_places.specs.declared.places.Spot.TheVariants.{Exit}
use Rattle.depth_maker.specs.declared.rows.Source.{Source}
use Rattle.depth_maker.specs.declared.spelling.Ordered.{Ordered}
use Rattle.depth_maker.proofs.CountedLemmas.{few_spots}
use Rattle.depth_maker.proofs.FindLemmas.{flat_twice, has_filter, length_kept}
use Rattle.depth_maker.proofs.PlaceKinds.{IsOfKind, derived_kinds}
use Rattle.depth_maker.proofs.PlaceRanges.{derived_in_range}
use Rattle.depth_maker.proofs.RowSteps.{done_well_formed}
use Rattle.depth_maker.proofs.SpelledLaws.{are_ranged, is_written, point_here, value_in}

-- values at the limits are well-formed
well_values : (b : Limits) (vs : List Val) → AreInLattice b vs → All IsWellFormed vs
well_values b vs are k d lt = subst IsWellFormed (sym (get_or_default vs k d any_val lt)) (are k lt).well

-- ---- points
pub writes_point : (s : Source) (k : Key) (p : ℕ) (u : State) (old mid new : List ℕ) → known_from_table s (point k p) ≡ Some (state u) → u.ccpn < 2 ^ 8 → mid ≡ old ++ bytes_of_word p → new ≡ mid ++ bytes_of_state u
    → AppendsTablePoint s k p old new
unfolding bytes_of_point
writes_point s k p u old mid new at byte one two =
    let same : state_or_blank (known_from_table s (point k p)) ≡ u = ap state_or_blank at in
    record {
      bytes =
          two ∙ ap (λ (l : List ℕ). l ++ bytes_of_state u) one ∙ append_assoc old (bytes_of_word p) (bytes_of_state u)
          ∙ ap (λ (u : State). old ++ (bytes_of_word p ++ bytes_of_state u)) (sym same);
      ccpn = subst (λ (z : State). z.ccpn < 2 ^ 8) (sym same) byte;
    }

pub points_none : (s : Source) (k : Key) (out : List ℕ) → AppendsTablePoints s k [] out out
points_none s k out = record { bytes = sym (append-nil out); ccpn = All-nil _ }

pub points_more : (s : Source) (k : Key) (qs : List Spot) (i : ℕ) (d : Spot) (old mid new : List ℕ) → i < length qs → AppendsTablePoints s k (take i qs) old mid → AppendsTablePoint s k (spot_address (get_or qs i d)) mid new
    → AppendsTablePoints s k (take (i + 1) qs) old new
points_more s k qs i d old mid new lt so one = record {
  bytes =
      one.bytes ∙ ap (λ (l : List ℕ). l ++ bytes_of_point (point_from_table s k (spot_address (get_or qs i d)))) so.bytes
      ∙ flat_map_more (λ q. bytes_of_point (point_from_table s k (spot_address q))) old (take i qs) (get_or qs i d)
      ∙ ap (λ (l : List Spot). old ++ flat_map (λ q. bytes_of_point (point_from_table s k (spot_address q))) l) (sym (take_more qs i d lt));
  ccpn = All-more (λ q. ((point_from_table s k (spot_address q)).state).ccpn < 2 ^ 8) qs i d lt so.ccpn one.ccpn;
}

-- ---- exits
pub exit_there : (s : Source) (k : Key) (w : Known) (x : exits.Exit) → value_of_place (s.table.now).places (Exit k) ≡ Some w → w ≡ leaving x → known_from_table s (exit k) ≡ Some (leaving x)
unfolding view_of_table
exit_there s k w x at is = at ∙ ap (λ (v : Known). Some v) is

pub no_exit_there : (s : Source) → HasFinishedTable s → (k : Key) (w : Known) → value_of_place (s.table.now).places (Exit k) ≡ Some w → IsNotExit w → ⊥
unfolding view_of_table
no_exit_there s source k w at none = of_kind w (derived_kinds _ _ _ (view_of_table s.table.now).cells (source.done).derived (exit k) w at) none where
  of_kind : (v : Known) → IsOfKind (exit k) v → IsNotExit v → ⊥
  of_kind (leaving y) h n = n
  of_kind (state u) h n = h

pub exit_well : (s : Source) → HasFinishedTable s → (k : Key) (x : exits.Exit) → known_from_table s (exit k) ≡ Some (leaving x) → All IsWellFormed x.lower
unfolding view_of_table
exit_well s source k x at =
    let good : IsWellFormedExit (s.ground.now).bounds.now x = done_well_formed s.ground.now s.table.now source.done (Exit k) (leaving x) at in
    well_values (s.ground.now).bounds.now x.lower good.values

pub writes_exit : (s : Source) (k : Key) (x : exits.Exit) (old new : List ℕ) → known_from_table s (exit k) ≡ Some (leaving x) → x.ccpn < 2 ^ 8 → new ≡ old ++ bytes_of_exit (Some x) → AppendsTableExit s k old new
writes_exit s k x old new at byte is =
    let same : exit_if_known (known_from_table s (exit k)) ≡ Some x = ap exit_if_known at in
    record {
      bytes = is ∙ ap (λ (o : Option exits.Exit). old ++ bytes_of_exit o) (sym same);
      ccpn = subst (λ (o : Option exits.Exit). IfSome o (λ e. e.ccpn < 2 ^ 8)) (sym same) byte;
    }

pub writes_no_exit : (s : Source) (k : Key) (old new : List ℕ) → known_from_table s (exit k) ≡ None → new ≡ old ++ bytes_of_exit None → AppendsTableExit s k old new
writes_no_exit s k old new at is =
    let same : exit_if_known (known_from_table s (exit k)) ≡ None = ap exit_if_known at in
    record {
      bytes = is ∙ ap (λ (o : Option exits.Exit). old ++ bytes_of_exit o) (sym same);
      ccpn = subst (λ (o : Option exits.Exit). IfSome o (λ e. e.ccpn < 2 ^ 8)) (sym same) tt;
    }

-- ---- nodes
module _ (o : Ordered) (ordered : IsOrderedCertSource o) where
  abbrev table : made.Table
  table = (o.source.now).table.now

  counted : ListsPointsAndFrames (λ q. value_of_place table.places (spot_of q)) (map place_of_spot (points_in table.places)) table.frames.items
  counted = entries_counted table.places table.points.items table.frames.items ordered.unique ((ordered.source).done).counted

  few : length (points_in table.places) ≤ 2 ^ 16
  few = entries_few table.places table.points.items table.frames.items ordered.unique ((ordered.source).done).counted

  pub spots_ranged : ArePointsInRange (spots_in_order o)
  unfolding view_of_table
  spots_ranged =
      let s = o.source.now in
      let done = (ordered.source).done in
      are_ranged _ _ _ (s.ground.now).sound (view_of_table table).cells done.derived done.closed done.faultless table.frames.items (points_in table.places) counted few (few_spots table.points.items table.frames.items (done.counted).few).1
      table.frames.items (spots_in_order o) (IsPermutation-refl table.frames.items) ordered.points (rising_spots table.places o.points.now ordered.entries ordered.rising)

  pub key_is : (k : Key) → IsTableFrame o.source.now k → IsKey k
  unfolding view_of_table
  key_is k c =
      let s = o.source.now in
      let done = (ordered.source).done in
      let v = value_in ((view_of_table table).cells (point k k.entry)) (((done.counted).each).entered k c) in
      (derived_in_range _ _ _ (s.ground.now).sound (view_of_table table).cells done.derived (point k k.entry) v.0 v.1).0

  -- the entries of a frame's points
  pub points_are : (k : Key) → IsTableFrame o.source.now k → AreTablePointEntries o.source.now k (filter (is_in_frame k) o.points.now)
  points_are k c x has =
      let f = has_filter (is_in_frame k) o.points.now x has in
      let q = place_of_entry table.places x in
      let own : is_point_of k q ≡ true =
      sym (in_frame_is k (key_is k c) x q (spots_ranged q (contains_map (place_of_entry table.places) o.points.now x f.0)) ((ordered.entries).order x f.0)) ∙ f.1 in
      record { within = (ordered.entries).within x f.0; is = point_here k q own }

  pub spots_are : (k : Key) → IsTableFrame o.source.now k → spots_of_entries o.source.now (filter (is_in_frame k) o.points.now) ≡ filter (is_point_of k) (spots_in_order o)
  spots_are k c = frame_entries table.places k (key_is k c) o.points.now ordered.entries spots_ranged

  pub few_of : (k : Key) → length (filter (is_in_frame k) o.points.now) ≤ 2 ^ 16
  few_of k =
      omega (arith, few, length_kept (is_in_frame k) o.points.now, length-map o.points.now (place_of_entry table.places), length_permutation (points_in table.places) (spots_in_order o) ordered.points)

five : (o a b c d e : List ℕ) → ((((o ++ a) ++ b) ++ c) ++ d) ++ e ≡ o ++ (a ++ (b ++ (c ++ (d ++ e))))
five o a b c d e =
    append_assoc (((o ++ a) ++ b) ++ c) d e ∙ append_assoc ((o ++ a) ++ b) c (d ++ e) ∙ append_assoc (o ++ a) b (c ++ (d ++ e)) ∙ append_assoc o a (b ++ (c ++ (d ++ e)))

five_from : (o a b c d n k h e l p : List ℕ) → a ≡ o ++ k → b ≡ a ++ h → c ≡ b ++ e → d ≡ c ++ l → n ≡ d ++ p → n ≡ o ++ (k ++ (h ++ (e ++ (l ++ p))))
five_from o a b c d n k h e l p one two three four last =
    last ∙ ap (λ (x : List ℕ). x ++ p) (four ∙ ap (λ (x : List ℕ). x ++ l) (three ∙ ap (λ (x : List ℕ). x ++ e) (two ∙ ap (λ (x : List ℕ). x ++ h) one))) ∙ five o k h e l p

-- a node's points, from places
spelled_points : (s : Source) (k : Key) (qs : List Spot) → flat_map (λ q. bytes_of_point (point_from_table s k (spot_address q))) qs ≡ flat_map bytes_of_point (map (point_from_table s k) (map spot_address qs))
spelled_points s k qs = sym (flat_twice bytes_of_point (point_from_table s k) (map spot_address qs) ∙ flat_twice (λ p. bytes_of_point (point_from_table s k p)) spot_address qs)

spelled_count : (s : Source) (k : Key) (qs : List Spot) → length (map (point_from_table s k) (map spot_address qs)) ≡ length qs
spelled_count s k qs = length-map (map spot_address qs) (point_from_table s k) ∙ length-map qs spot_address

abbrev own_need : Ordered → Key → ℕ
own_need o k = need_of_frame ((o.source.now).table.now).frames.items o.needs.now k

pub writes_node : (o : Ordered) (k : Key) (need n : ℕ) (qs : List Spot) (old a b c d new : List ℕ) → qs ≡ filter (is_point_of k) (spots_in_order o) → need ≡ own_need o k → n ≡ length qs
    → a ≡ old ++ bytes_of_key k → b ≡ a ++ bytes_of_half need → AppendsTableExit o.source.now k b c → d ≡ c ++ bytes_of_word n → AppendsTablePoints o.source.now k qs d new → AppendsTableNode o k old new
unfolding bytes_of_node
writes_node o k need n qs old a b c d new is needs count one two left four so = record {
  bytes =
      five_from old a b c d new (bytes_of_key k) (bytes_of_half need) (bytes_of_exit (exit_from_table o.source.now k)) (bytes_of_word n) (flat_map (λ q. bytes_of_point (point_from_table o.source.now k (spot_address q))) qs) one two left.bytes four so.bytes
      ∙ ap (λ (m : ℕ). old ++ (bytes_of_key k ++ (bytes_of_half m ++ (bytes_of_exit (exit_from_table o.source.now k) ++ (bytes_of_word n ++ flat_map (λ q. bytes_of_point (point_from_table o.source.now k (spot_address q))) qs))))) needs
      ∙ ap (λ (m : ℕ). old ++ (bytes_of_key k ++ (bytes_of_half (own_need o k) ++ (bytes_of_exit (exit_from_table o.source.now k) ++ (bytes_of_word m ++ flat_map (λ q. bytes_of_point (point_from_table o.source.now k (spot_address q))) qs))))) (count ∙ sym (spelled_count o.source.now k qs))
      ∙ ap (λ (l : List ℕ). old ++ (bytes_of_key k ++ (bytes_of_half (own_need o k) ++ (bytes_of_exit (exit_from_table o.source.now k) ++ (bytes_of_word (length (map (point_from_table o.source.now k) (map spot_address qs))) ++ l))))) (spelled_points o.source.now k qs)
      ∙ ap (λ (l : List Spot). old ++ (bytes_of_key k ++ (bytes_of_half (own_need o k) ++ (bytes_of_exit (exit_from_table o.source.now k) ++ (bytes_of_word (length (map (point_from_table o.source.now k) (map spot_address l))) ++ flat_map bytes_of_point (map (point_from_table o.source.now k) (map spot_address l))))))) is;
  ccpn = record {
    exit = left.ccpn;
    points =
        subst (λ (l : List Spot). All (λ (p : located.Point). (p.state).ccpn < 2 ^ 8) (map (point_from_table o.source.now k) (map spot_address l))) is
        (All-map (λ (p : located.Point). (p.state).ccpn < 2 ^ 8) (point_from_table o.source.now k) (map spot_address qs) (All-map (λ p. ((point_from_table o.source.now k p).state).ccpn < 2 ^ 8) spot_address qs so.ccpn));
  };
}

pub nodes_none : (o : Ordered) (out : List ℕ) → AppendsTableNodes o [] out out
nodes_none o out = record { bytes = sym (append-nil out); ccpn = All-nil _ }

pub nodes_more : (o : Ordered) (ks : List Key) (i : ℕ) (d : Key) (old mid new : List ℕ) → i < length ks → AppendsTableNodes o (take i ks) old mid → AppendsTableNode o (get_or ks i d) mid new → AppendsTableNodes o (take (i + 1) ks) old new
nodes_more o ks i d old mid new lt so one = record {
  bytes =
      one.bytes ∙ ap (λ (l : List ℕ). l ++ bytes_of_node (node_from_table o.source.now o.needs.now (spots_in_order o) (get_or ks i d))) so.bytes
      ∙ flat_map_more (λ k. bytes_of_node (node_from_table o.source.now o.needs.now (spots_in_order o) k)) old (take i ks) (get_or ks i d)
      ∙ ap (λ (l : List Key). old ++ flat_map (λ k. bytes_of_node (node_from_table o.source.now o.needs.now (spots_in_order o) k)) l) (sym (take_more ks i d lt));
  ccpn = All-more (λ k. HasByteCcpns (node_from_table o.source.now o.needs.now (spots_in_order o) k)) ks i d lt so.ccpn one.ccpn;
}

-- ---- the certificate
abbrev all_nodes : Ordered → List Key → List ℕ
all_nodes o ks = flat_map (λ k. bytes_of_node (node_from_table o.source.now o.needs.now (spots_in_order o) k)) ks

pub writes_cert : (o : Ordered) (version count : ℕ) (ks : List Key) (out a b c new : List ℕ) → out ≡ [] → count ≡ length ks → a ≡ out ++ bytes_of_word 1128547156 → b ≡ a ++ bytes_of_half version → c ≡ b ++ bytes_of_half count
    → AppendsTableNodes o ks c new → new ≡ bytes_of_cert (cert_from_table o.source.now version o.needs.now ks (spots_in_order o))
unfolding bytes_of_cert
writes_cert o version count ks out a b c new empty is one two three so =
    so.bytes ∙ ap (λ (x : List ℕ). x ++ all_nodes o ks) (three ∙ ap (λ (x : List ℕ). x ++ bytes_of_half count) (two ∙ ap (λ (x : List ℕ). x ++ bytes_of_half version) (one ∙ ap (λ (x : List ℕ). x ++ bytes_of_word 1128547156) empty)))
    ∙ append_assoc (bytes_of_word 1128547156 ++ bytes_of_half version) (bytes_of_half count) (all_nodes o ks) ∙ append_assoc (bytes_of_word 1128547156) (bytes_of_half version) (bytes_of_half count ++ all_nodes o ks)
    ∙ ap (λ (m : ℕ). bytes_of_word 1128547156 ++ (bytes_of_half version ++ (bytes_of_half m ++ all_nodes o ks))) (is ∙ sym (length-map ks (node_from_table o.source.now o.needs.now (spots_in_order o))))
    ∙ ap (λ (l : List ℕ). bytes_of_word 1128547156 ++ (bytes_of_half version ++ (bytes_of_half (length (map (node_from_table o.source.now o.needs.now (spots_in_order o)) ks)) ++ l))) (sym (flat_twice bytes_of_node (node_from_table o.source.now o.needs.now (spots_in_order o)) ks))

pub spelled_is : (o : Ordered) (version : ℕ) (ks : List Key) (c out : List ℕ) → IsOrderedCertSource o → AreTableFrames o ks → IsNonDecreasingBy (λ (k : Key). number_of_key k) ks → (version ≡ 1) ⊎ (version ≡ 2) → SourceHasLimitsOfFormat o.source.now version
    → out ≡ bytes_of_cert (cert_from_table o.source.now version o.needs.now ks (spots_in_order o)) → AppendsTableNodes o ks c out → AreFixpointCertBytesFromSource o.source.now version out
unfolding view_of_table
spelled_is o version ks c out ordered frames rising known limits bytes so =
    let s = o.source.now in
    let done = (ordered.source).done in
    let t = s.table.now in
    let few = few_spots t.points.items t.frames.items (done.counted).few in (
      cert_from_table s version o.needs.now ks (spots_in_order o),
      bytes,
      is_written _ _ _ (s.ground.now).sound (view_of_table t).cells done.derived done.closed done.faultless t.frames.items (points_in t.places) (entries_counted t.places t.points.items t.frames.items ordered.unique done.counted)
          (entries_few t.places t.points.items t.frames.items ordered.unique done.counted) few.1 ks (spots_in_order o) frames ordered.points (rising_spots t.places o.points.now ordered.entries ordered.rising) rising version
          known limits (need_of_frame t.frames.items o.needs.now) (ordered.needs).least (ordered.needs).few ((((s.ground.now).sound).is_plan).areas).few so.ccpn,
    )
