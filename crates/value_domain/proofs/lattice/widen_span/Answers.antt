use Rattle.std.proofs.Common.{◌∙◌}
use Rattle.value_domain.specs.Values.{members}
use Rattle.value_domain.proofs.PutLaws.{widened}
use Rattle.value_domain.proofs.lattice.widen_span.Goals as goal

pub returns : goal.returns
returns c =
    c.write_span.ensures
    ∙ widened c.args.b.now c.args.v.now c.args.words.now c.requires.value c.requires.span (c.extent_with_words-e.ensures (members c.args.v.now) c.extent_of.ensures)
