use Rattle.std.proofs.lemmas.Bool.{leb-true, le-leb}
use Rattle.value_domain.proofs.RangeLaws.{set_value}
use Rattle.value_domain.proofs.lattice.is_value.Goals as goal

pub returns-in-Set : goal.returns-in-Set
returns-in-Set c =
    let both = set_value c.args.b.now c.in-Set.words c.as_slice.ensures.words in
    rw (c.in-Set.is, c.as_slice.ensures.items, c.most_words.ensures.most_words)
    ((λ t. both.0 (leb-true _ _ t)), (λ v. le-leb _ _ (both.1 v)))
