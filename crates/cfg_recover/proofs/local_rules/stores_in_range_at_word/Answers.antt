use Rattle.cfg_recover.proofs.LocalLaws.{word_stores}
use Rattle.cfg_recover.proofs.local_rules.stores_in_range_at_word.Goals as goal

pub returns-in-Store : goal.returns-in-Store
returns-in-Store c = rw c.in-Store.is (word_stores c.args.plan.now c.args.x c.in-Store.size c.is_store_in_range.result c.is_store_in_range.ensures)
