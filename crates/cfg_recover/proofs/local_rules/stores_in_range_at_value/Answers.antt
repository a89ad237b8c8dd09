use Rattle.cfg_recover.proofs.local_rules.stores_in_range_at_value.Goals as goal

pub returns-in-Store : goal.returns-in-Store
returns-in-Store c = rw c.in-Store.is c.store_ok.ensures
