use Rattle.std.specs.Prelude.{map, string_bytes}
use Rattle.tcd_driver.specs.Ship.{IsShipmentReport}
use Rattle.tcd_driver.proofs.ShipReports.{HasReadSources}
use Rattle.tcd_driver.proofs.commands.ship.ship_sources.Given as goal

abbrev pub invariant-loop-i : goal.invariant-loop-i
invariant-loop-i g l =
    HasReadSources (map string_bytes l.names.sources.now) (IsShipmentReport l.names l.plan l.layout) (g.F.Files.seen l.fn.files) (g.F.Files.seen l.files) l.objects.items l.i
