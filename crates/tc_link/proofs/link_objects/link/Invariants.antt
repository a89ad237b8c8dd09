use Rattle.std.proofs.Common.{◌≡◌, take}
use Rattle.tc_link.proofs.link_objects.link.Given as goal

abbrev pub invariant-loop-object : goal.invariant-loop-object
invariant-loop-object l = l.parts.items ≡ take l.object-index l.objects
