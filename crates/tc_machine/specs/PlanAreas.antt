-- The save areas of a plan, by their links.
use Rattle.std.specs.Prelude.{ℕ, zero, suc, ◌+◌, ◌*◌, ◌/◌, ◌%◌, ◌^◌, List, ◌∷◌, nat_lt, if◌then◌else◌, []}
use Rattle.tcd_plan.specs.PlanData.{PlanData}

-- the links of n save areas that follow one another, ascending from the first one's
abbrev pub consecutive_links : ℕ → ℕ → List ℕ
consecutive_links link zero = []
consecutive_links link (suc n) = link ∷ consecutive_links (link + 1) n

-- the link of a plan's first save area: its segment in bits 19:16, its number in the segment in
-- bits 15:0
abbrev pub first_link : PlanData → ℕ
first_link p = p.csa_at / 2 ^ 28 * 2 ^ 16 + p.csa_at % 2 ^ 28 / 64

-- the links of a plan's context save areas, ascending
abbrev pub plan_areas : PlanData → List ℕ
plan_areas p = consecutive_links (first_link p) p.areas

-- the link of a plan's save area i, counted from 0; 0, the end of a chain, if the plan has fewer
-- areas
abbrev pub area_link_or_zero : PlanData → ℕ → ℕ
area_link_or_zero plan i = if nat_lt i plan.areas then first_link plan + i else 0
