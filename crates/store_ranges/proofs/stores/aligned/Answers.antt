use Rattle.std.proofs.lemmas.Bool.{leb-true, le-leb}
use Rattle.store_ranges.proofs.StoreLaws.{aligned_is}
use Rattle.store_ranges.proofs.stores.aligned.Goals as goal

pub returns : goal.returns
returns c =
    let is = aligned_is c.args.at.now c.args.size c.requires.well c.requires.size c.extent_of.ensures in
    rw (c.alignment_log2.ensures, c.from.ensures) ((λ t. is.0 (leb-true _ _ t)), (λ each. le-leb _ _ (is.1 each)))
