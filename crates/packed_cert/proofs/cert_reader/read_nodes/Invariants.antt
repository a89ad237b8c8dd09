use Rattle.std.proofs.Common.{◌≡◌, ◌≤◌, ◌-◌, ◌^◌, []}
use Rattle.std.specs.List.{All}
use Rattle.tcd_base.specs.FieldReaders.{many_fields_at}
use Rattle.depth_cert.specs.Grammar.{node_after}
use Rattle.depth_cert.specs.Nodes.{count_points}
use Rattle.std.specs.Prelude.{IfSome}
use Rattle.packed_cert.specs.PointsInBytes.{AreStatePlaces}
use Rattle.packed_cert.specs.NodesInBytes.{nodes_in_bytes, AreNodePlaces, AreExitPlaces}
use Rattle.packed_cert.proofs.cert_reader.read_nodes.Given as goal

abbrev pub invariant-loop-i : goal.invariant-loop-i
invariant-loop-i l = record {
  read : many_fields_at (node_after l.version) l.count [] l.initial.c ≡ many_fields_at (node_after l.version) (l.count - l._i) (nodes_in_bytes l.version l.bytes l.nodes.items) l.c;
  bytes : l.c.bytes ≡ l.initial.c.bytes;
  places : All (AreNodePlaces l.version l.bytes) l.nodes.items;
  used : l.room.used ≡ count_points (nodes_in_bytes l.version l.bytes l.nodes.items);
  few : l.room.used ≤ 2 ^ 16;
  exit : IfSome l.room.exit.last (AreExitPlaces l.version l.bytes);
  state : IfSome l.room.last (AreStatePlaces l.version l.bytes l.room.state);
}
