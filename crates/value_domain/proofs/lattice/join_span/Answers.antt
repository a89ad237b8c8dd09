use Rattle.std.proofs.Common.{◌∙◌}
use Rattle.value_domain.proofs.RangeLaws.{cover_join_span}
use Rattle.value_domain.specs.Values.{members}
use Rattle.value_domain.proofs.lattice.join_span.Goals as goal

pub returns : goal.returns
returns c = c.write_span.ensures ∙ rw (c.min.ensures, c.max.ensures, c.min-2.ensures) (cover_join_span c.args.b.now (members c.args.v.now) c.args.lo c.args.last c.args.step c.requires.right c.extent_of-e.ensures c.extent_of_span-f.ensures)
