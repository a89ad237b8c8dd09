use Rattle.std.proofs.Common.{◌∙◌, not, ap}
use Rattle.value_domain.specs.declared.values.Val.{Val}
use Rattle.store_ranges.specs.Accesses.{are_aligned}
use Rattle.cfg_recover.proofs.LocalLaws.{are_aligned-is}
use Rattle.cfg_recover.proofs.FlowDuties.{same_test}
use Rattle.cfg_recover.proofs.entered.has_misaligned_address.Goals as goal

pub returns : goal.returns
returns c =
    let at = c.address_by_shape-at.result in
    let listed = are_aligned-is at c.args.size c.address_by_shape-at.ensures.value.well in
    ap not (same_test c.aligned.result (are_aligned at c.args.size) (λ t. listed.0 (c.aligned.ensures.0 t)) (λ t. c.aligned.ensures.1 (listed.1 t)) ∙ ap (λ (v : Val). are_aligned v c.args.size) c.address_by_shape-at.ensures.address)
