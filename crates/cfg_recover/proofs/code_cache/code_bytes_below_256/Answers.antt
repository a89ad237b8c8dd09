use Rattle.cfg_recover.proofs.code_cache.code_bytes_below_256.Goals as goal

pub returns : goal.returns
returns c = λ k. (c.type_inv.bytes k).fits
