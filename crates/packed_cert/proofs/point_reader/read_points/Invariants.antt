use Rattle.std.proofs.Common.{◌≡◌, ◌+◌, ◌-◌, ℕ, length, get_or, map, []}
use Rattle.std.specs.Prelude.{IfSome}
use Rattle.std.specs.List.{All}
use Rattle.std.specs.List.Sorted.{IsStrictlyIncreasing}
use Rattle.tcd_base.specs.FieldReaders.{many_fields_at}
use Rattle.depth_cert.specs.Grammar.{last_number, point_after}
use Rattle.packed_cert.specs.declared.places.PointPlace.{PointPlace}
use Rattle.packed_cert.specs.PointsInBytes.{state_in_bytes, points_in_bytes, StateBeginsAt, AreStatePlaces}
use Rattle.packed_cert.specs.Moves.{AllDifferOnlyInRows}
use Rattle.packed_cert.proofs.point_reader.read_points.Given as goal

abbrev pub invariant-loop-i : goal.invariant-loop-i
invariant-loop-i l = record {
  read : many_fields_at (point_after l.version) l.count [] l.initial.c ≡ many_fields_at (point_after l.version) (l.count - l.i) (points_in_bytes l.version l.bytes l.points.items) l.c;
  bytes : l.c.bytes ≡ l.initial.c.bytes;
  count : length l.points.items ≡ l.i;
  states : All (λ p. StateBeginsAt l.version l.bytes p.place) l.points.items;
  rising : IsStrictlyIncreasing (map (λ p. p.addr) l.points.items);
  last : l.last ≡ last_number (map (λ p. p.addr) l.points.items);
  used : l.room.used ≡ l.initial.room.used;
  exit : l.room.exit ≡ l.initial.room.exit;
  state : IfSome l.room.last (AreStatePlaces l.version l.bytes l.room.state);
  before : (j : ℕ) (d : PointPlace) → j + 1 ≡ l.i → l.room.state ≡ state_in_bytes l.version l.bytes (get_or l.points.items j d).place;
  moves : AllDifferOnlyInRows l.version l.bytes l.points.items;
}
