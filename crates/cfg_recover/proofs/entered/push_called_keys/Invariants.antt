use Rattle.std.proofs.Common.{◌≡◌, ◌++◌, ◌∷◌, [], take}
use Rattle.std.specs.List.{flat_map}
use Rattle.cfg_recover.specs.Entries.{call_key}
use Rattle.cfg_recover.proofs.entered.push_called_keys.Given as goal

abbrev pub invariant-loop-t : goal.invariant-loop-t
invariant-loop-t l = l.keys.items ≡ l.initial.keys.items ++ flat_map (λ t. call_key l.key t ∷ []) (take l.t-index l.targets)
