-- The certificate of a table: a node for each frame, by ascending key, with the frame's points by
-- ascending address.
use Rattle.std.specs.Prelude.{◌≡◌, ◌<◌, ◌^◌, ◌++◌, ℕ, false, List, length, map, filter, Option, Some, None, All, IfSome, Contains, []}
use Rattle.std.specs.List.{flat_map}
use Rattle.std.specs.List.Sorted.{IsPermutation, IsNonDecreasingBy}
use Rattle.indexmap.specs.IndexMap.{IsUnique, keys}
use Rattle.elf_image.specs.Images.{ImageData}
use Rattle.tcd_plan.specs.PlanData.{PlanData}
use Rattle.value_domain.specs.declared.states.State.{State}
use Rattle.value_domain.specs.VersionLimits.{limits_for}
use Rattle.depth_cert.specs.declared.keys.Key.{Key}
use Rattle.depth_cert.specs.declared.points.Exit as exits
use Rattle.depth_cert.specs.declared.points.Point as points
use Rattle.depth_cert.specs.Nodes.{NodeData}
use Rattle.depth_cert.specs.Certs.{CertData}
use Rattle.depth_cert.specs.Spelling.{bytes_of_cert, bytes_of_exit, bytes_of_node, bytes_of_point}
use Rattle.cfg_recover.specs.Assignments.{Place, point, exit, Assignment}
use Rattle.depth_cert.specs.Known.{Known, state, leaving, exit_if_known}
use Rattle.depth_maker.specs.LeastCertMade.{IsLeastFixpointCert}
use Rattle.depth_maker.specs.Needs.{need_of_frame, AreLeastTableNeeds}
use Rattle.depth_maker.specs.Rows.{HasFinishedTable}
use Rattle.depth_maker.specs.TableView.{view_of_table}
use Rattle.frame_places.specs.PointEntries.{ArePointEntries, place_of_entry, points_in}
use Rattle.frame_places.specs.Spots.{is_point_of, spot_address, spot_eq}
use Rattle.frame_places.specs.declared.ordering.PointEntry.{PointEntry}
use Rattle.frame_places.specs.declared.places.Spot.{Spot}
use Rattle.frame_places.specs.declared.places.Spot.TheVariants.{Point}
use Rattle.depth_maker.specs.declared.rows.Source.{Source}
use Rattle.depth_maker.specs.declared.spelling.Ordered.{Ordered}
use Rattle.depth_maker.specs.SpotsAsPlaces.{spots_in_order}
use Rattle.depth_maker.specs.declared.inputs_and_limits.Ground.{Ground}

-- ---- places in order
-- the addresses of frame k's points, in the order of the list
abbrev pub addresses_in_frame : List Spot → Key → List ℕ
addresses_in_frame ps k = map spot_address (filter (is_point_of k) ps)

-- ---- nodes
-- the state without values or locals that stands in where no state is known
abbrev pub blank_state : State
blank_state = record { regs = []; ie = false; ccpn = 0; lower = false; locals = record { items = [] } }

-- the known state at a point, or the blank state if none is known
abbrev pub state_or_blank : Option Known → State
state_or_blank None = blank_state
state_or_blank (Some (state s)) = s
state_or_blank (Some (leaving x)) = blank_state

-- the certificate's point at an address of frame k, with the state that the assignment has there
abbrev pub point_of_assignment : Assignment → Key → ℕ → points.Point
point_of_assignment a k p = record { addr = p; state = state_or_blank (a (point k p)) }

-- the certificate's node of frame k, by an assignment and needs, with points at these addresses
abbrev pub node_of_assignment : Assignment → (Key → ℕ) → (Key → List ℕ) → Key → NodeData
node_of_assignment a need addresses k = record { key = k; need = need k; exit = exit_if_known (a (exit k)); points = map (point_of_assignment a k) (addresses k) }

-- the certificate of an assignment and needs, with the nodes of these frames
abbrev pub cert_of_assignment : ℕ → Assignment → (Key → ℕ) → (Key → List ℕ) → List Key → CertData
cert_of_assignment version a need addresses ks = record { version = version; nodes = map (node_of_assignment a need addresses) ks }

-- each CCPN in a certificate's node is a byte
pub record HasByteCcpns (n : NodeData) : Type 0 where
  pub exit : IfSome n.exit (λ e. e.ccpn < 2 ^ 8)
  pub points : All (λ p. (p.state).ccpn < 2 ^ 8) n.points

-- ---- by the types of the code

-- the limits of values that the table was made with are those of this certificate format
abbrev pub SourceHasLimitsOfFormat : Source → ℕ → Type 0
SourceHasLimitsOfFormat s version = (s.ground.now).bounds.now ≡ limits_for (s.ground.now).plan.now version

-- what is known at a place of the maker's finished table
abbrev pub known_from_table : Source → Place → Option Known
known_from_table s y = (view_of_table s.table.now).cells y

-- the exit of a frame in the maker's finished table, if one is known
abbrev pub exit_from_table : Source → Key → Option exits.Exit
exit_from_table s k = exit_if_known ((view_of_table s.table.now).cells (exit k))

-- the certificate's point at an address of a frame, with its state in the maker's table
abbrev pub point_from_table : Source → Key → ℕ → points.Point
point_from_table s k p = point_of_assignment (view_of_table s.table.now).cells k p

-- the certificate's node of a frame of the maker's table, with the points of a list
abbrev pub node_from_table : Source → List ℕ → List Spot → Key → NodeData
node_from_table s needs ps k = node_of_assignment (view_of_table s.table.now).cells (need_of_frame (s.table.now).frames.items needs) (addresses_in_frame ps) k

-- the certificate of the maker's table, with the nodes of these frames and their needs
abbrev pub cert_from_table : Source → ℕ → List ℕ → List Key → List Spot → CertData
cert_from_table s version needs ks ps = cert_of_assignment version (view_of_table s.table.now).cells (need_of_frame (s.table.now).frames.items needs) (addresses_in_frame ps) ks

-- what the certificate's bytes are made from: a finished table, the least needs of its frames, and
-- its points sorted
pub record IsOrderedCertSource (o : Ordered) : Type 0 where
  pub source : HasFinishedTable o.source.now
  pub needs : AreLeastTableNeeds o.source.now o.needs.now
  pub unique : IsUnique spot_eq ((o.source.now).table.now).places
  pub points : IsPermutation (points_in ((o.source.now).table.now).places) (spots_in_order o)
  pub rising : IsNonDecreasingBy (λ x. x.order) o.points.now
  pub entries : ArePointEntries ((o.source.now).table.now).places o.points.now

-- ---- what is appended
-- the bytes of a point of the maker's table are appended, and its CCPN is a byte
pub record AppendsTablePoint (s : Source) (k : Key) (p : ℕ) (old new : List ℕ) : Type 0 where
  pub bytes : new ≡ old ++ bytes_of_point (point_from_table s k p)
  pub ccpn : ((point_from_table s k p).state).ccpn < 2 ^ 8

-- the bytes of these points of frame k are appended, and each CCPN is a byte
pub record AppendsTablePoints (s : Source) (k : Key) (qs : List Spot) (old new : List ℕ) : Type 0 where
  pub bytes : new ≡ old ++ flat_map (λ q. bytes_of_point (point_from_table s k (spot_address q))) qs
  pub ccpn : All (λ q. ((point_from_table s k (spot_address q)).state).ccpn < 2 ^ 8) qs

-- the bytes of frame k's exit, or of none if none is known, are appended, and its CCPN is a byte
pub record AppendsTableExit (s : Source) (k : Key) (old new : List ℕ) : Type 0 where
  pub bytes : new ≡ old ++ bytes_of_exit (exit_from_table s k)
  pub ccpn : IfSome (exit_from_table s k) (λ e. e.ccpn < 2 ^ 8)

-- the bytes of frame k's node are appended, and each CCPN in the node is a byte
pub record AppendsTableNode (o : Ordered) (k : Key) (old new : List ℕ) : Type 0 where
  pub bytes : new ≡ old ++ bytes_of_node (node_from_table o.source.now o.needs.now (spots_in_order o) k)
  pub ccpn : HasByteCcpns (node_from_table o.source.now o.needs.now (spots_in_order o) k)

-- the bytes of the nodes of these frames are appended, and each CCPN in them is a byte
pub record AppendsTableNodes (o : Ordered) (ks : List Key) (old new : List ℕ) : Type 0 where
  pub bytes : new ≡ old ++ flat_map (λ k. bytes_of_node (node_from_table o.source.now o.needs.now (spots_in_order o) k)) ks
  pub ccpn : All (λ k. HasByteCcpns (node_from_table o.source.now o.needs.now (spots_in_order o) k)) ks

-- these are the frames of the maker's table, in any order
abbrev pub AreTableFrames : Ordered → List Key → Type 0
AreTableFrames o ks = IsPermutation ((o.source.now).table.now).frames.items ks

-- the address of the place of an entry of the maker's table: that of a point, 0 for an exit
abbrev pub address_of_entry : Source → PointEntry → ℕ
address_of_entry s x = spot_address (place_of_entry (s.table.now).places x)

-- this is the entry of a point of frame k in the maker's table
pub record IsTablePointEntry (s : Source) (k : Key) (x : PointEntry) : Type 0 where
  pub within : x.entry < length (keys (s.table.now).places)
  pub is : place_of_entry (s.table.now).places x ≡ Point k (address_of_entry s x)

-- these are entries of points of frame k in the maker's table
abbrev pub AreTablePointEntries : Source → Key → List PointEntry → Type 0
AreTablePointEntries s k xs = (x : PointEntry) → Contains xs x → IsTablePointEntry s k x

-- the maker's table has a frame with this key
abbrev pub IsTableFrame : Source → Key → Type 0
IsTableFrame s k = Contains (s.table.now).frames.items k

-- the bytes spell the certificate of the maker's least fixpoint
abbrev pub AreFixpointCertBytes : ImageData → PlanData → ℕ → List ℕ → Type 0
AreFixpointCertBytes image plan version bytes = (cert : CertData) × (bytes ≡ bytes_of_cert cert) × IsLeastFixpointCert image plan version cert

-- the bytes spell the certificate of the maker's least fixpoint, for the image and plan of this
-- source
abbrev pub AreFixpointCertBytesFromSource : Source → ℕ → List ℕ → Type 0
AreFixpointCertBytesFromSource s version bytes = AreFixpointCertBytes (s.ground.now).image.now (s.ground.now).plan.now version bytes

-- the bytes spell the certificate of the maker's least fixpoint, for the image and the plan at hand
abbrev pub AreFixpointCertBytesForInputs : Ground → ℕ → List ℕ → Type 0
AreFixpointCertBytesForInputs g version bytes = (cert : CertData) × (bytes ≡ bytes_of_cert cert) × IsLeastFixpointCert g.image.now g.plan.now version cert
