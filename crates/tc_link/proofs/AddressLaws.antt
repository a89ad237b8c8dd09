-- Addresses of symbols by their numbers.
use Rattle.std.proofs.Common.{◌≡◌, ◌∷◌, [], ℕ, zero, suc, List, get_or, map, refl, ap, ◌∙◌}
use Rattle.std.specs.Prelude.{slice_get}
use Rattle.std.specs.Option.{option_map_or}
use Rattle.tc_link.specs.Placing.{PlacedData}
use Rattle.tc_link.specs.GlobalSymbols.{GlobalData}
use Rattle.tc_link.specs.Relocated.{symbol_address, symbol_addresses}

-- the item with this number, and 0 if there is none
mapped_at : {A : Type 0} (f : A → ℕ) (xs : List A) (n : ℕ) → get_or (map f xs) n 0 ≡ option_map_or f (slice_get xs n) 0
mapped_at f [] zero = refl
mapped_at f [] (suc n) = refl
mapped_at f (x ∷ xs) zero = refl
mapped_at f (x ∷ xs) (suc n) = mapped_at f xs n

pub address_of : (all : List GlobalData) (p : PlacedData) (addresses : List ℕ) (n : ℕ) → addresses ≡ symbol_addresses all p
    → get_or addresses n 0 ≡ option_map_or (symbol_address all p.bases) (slice_get p.object.symbols n) 0
unfolding symbol_addresses
address_of all p addresses n e = ap (λ (l : List ℕ). get_or l n 0) e ∙ mapped_at (symbol_address all p.bases) p.object.symbols n
