-- Places, by the types of the code.
use Rattle.cfg_recover.specs.Assignments.{Place, point, exit}
use Rattle.frame_places.specs.declared.places.Spot.{Spot}
use Rattle.frame_places.specs.declared.places.Spot.TheVariants.{Point, Exit}
use Rattle.std.specs.Prelude.{List}
use Rattle.frame_places.specs.PointEntries.{places_of_entries}
use Rattle.frame_places.specs.declared.ordering.PointEntry.{PointEntry}
use Rattle.depth_maker.specs.declared.rows.Source.{Source}
use Rattle.depth_maker.specs.declared.spelling.Ordered.{Ordered}

-- a place of an assignment, as the code's type of places
abbrev pub spot_of : Place → Spot
spot_of (point k p) = Point k p
spot_of (exit k) = Exit k

-- a place of the code's type, as a place of an assignment
abbrev pub place_of_spot : Spot → Place
place_of_spot (Point k p) = point k p
place_of_spot (Exit k) = exit k

-- the places of these entries of the table
abbrev pub spots_of_entries : Source → List PointEntry → List Spot
spots_of_entries s xs = places_of_entries (s.table.now).places xs

-- the places of the points that the maker has sorted for the certificate
abbrev pub spots_in_order : Ordered → List Spot
spots_in_order o = spots_of_entries o.source.now o.points.now
