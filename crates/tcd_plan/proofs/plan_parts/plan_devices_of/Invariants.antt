use Rattle.std.proofs.Common.{◌≡◌, map, take}
use Rattle.serde_json.specs.View.{view}
use Rattle.tcd_plan.specs.PlanReader.{plan_device_of}
use Rattle.tcd_plan.proofs.plan_parts.plan_devices_of.Given as goal

abbrev pub invariant-loop-object : goal.invariant-loop-object
invariant-loop-object l = l.devices.items ≡ map plan_device_of (map view (take l.object-index l.objects))
