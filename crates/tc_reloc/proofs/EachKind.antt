-- Facts of each of the seven kinds.
use Rattle.std.proofs.Common.{◌≡◌, ◌<◌, ◌≤◌, ℕ, ◌⊎◌, inl, inr, subst, arith}
use Rattle.std.proofs.lemmas.Bool.{cases_lt}

-- case analysis on a kind, from the least kind up
up_to : (P : ℕ → Type 0) (kind low : ℕ) → P low → (low < kind → P kind) → low ≤ kind → P kind
up_to P kind low here above h = by (cases_lt low kind)
  where
    by : (low < kind) ⊎ (kind ≤ low) → P kind
    by (inl l) = above l
    by (inr g) = let e : low ≡ kind = omega arith in subst P e here

pub record EachKind (P : ℕ → Type 0) : Type 0 where
  pub rel24 : P 1
  pub abs24 : P 2
  pub rel15 : P 3
  pub upper : P 4
  pub lower : P 5
  pub offset : P 6
  pub word : P 7

pub at_kind : (P : ℕ → Type 0) → EachKind P → (kind : ℕ) → 1 ≤ kind → kind ≤ 7 → P kind
at_kind P each kind some most =
    up_to P kind 1 each.rel24 (up_to P kind 2 each.abs24 (up_to P kind 3 each.rel15 (up_to P kind 4 each.upper (up_to P kind 5 each.lower (up_to P kind 6 each.offset (up_to P kind 7 each.word (λ h. absurd (omega arith)))))))) some
