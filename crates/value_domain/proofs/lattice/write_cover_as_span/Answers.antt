use Rattle.std.proofs.Common.{◌∙◌, sym}
use Rattle.value_domain.proofs.ExtentLaws.{cover_span}
use Rattle.value_domain.specs.Values.{multiples_in_range}
use Rattle.value_domain.proofs.RangeLaws.{many_range}
use Rattle.value_domain.proofs.lattice.write_cover_as_span.Goals as goal

pub returns : goal.returns
returns c =
    c.write_span.ensures
    ∙ sym (cover_span c.args.b.now (multiples_in_range c.args.first c.args.last c.args.step) (many_range c.args.b.now c.args.first c.args.last c.args.step c.requires.many) c.extent_of_span-e.ensures)
