-- The plan with cells is a plan.
use Rattle.std.proofs.Common.{get_or, ◌≡◌, ◌≢◌, ℕ, zero, suc, ◌+◌, ◌%◌, ◌^◌, ◌<◌, ◌≤◌, inl, inr, true, false, ◌&&◌, List, [], ◌∷◌, ◌++◌, map, length, take, refl, sym, ap, ◌∙◌, subst, arith, nat_le, nat_lt, All}
use Rattle.std.proofs.lemmas.Bool.{and_parts, and_from, lt-ltb, le-leb, or_right}
use Rattle.std.proofs.lemmas.List.Folds.{list_all-append}
use Rattle.std.proofs.lemmas.List.{map-append}
use Rattle.std.specs.List.{list_all}
use Rattle.std.specs.Prelude.{sum_by, AllPairs}
use Rattle.tcd_base.specs.declared.range.Range.{Range}
use Rattle.tcd_plan.specs.declared.plans.Device.{Device}
use Rattle.tcd_plan.specs.PlanData.{PlanData, IsPlan, is_plan_range, is_plan_device, are_all_ranges_disjoint, areas_range}
use Rattle.tcd_base.specs.Ranges.{IsWithinRange, IsInOneRange}
use Rattle.tcd_plan.specs.Cutting.{ranges_outside}
use Rattle.tcd_plan.proofs.ApartLaws.{range_parts, is_range-from, device_ranges, HaveBytes, HaveBytes-ranges, HaveBytes-append, IsInOne-fits, each_apart, all_apart-before, all_apart-behind, all_apart-front, all_apart-append}
use Rattle.tcd_plan.proofs.CutLaws.{IsInOne-parts, ranges_without_ranges, ranges_without_apart, ranges_without_size}
use Rattle.tcd_base.proofs.RangeLaws.{IsInOne-front, IsInOne-behind}
use Rattle.value_cells.specs.declared.cells.Cell.{Cell}
use Rattle.value_cells.specs.Cells.{ram_without_cells, cell_device, with_cells, IsCell, AreCells, is_in_cell}
use Rattle.value_cells.proofs.CellRanges.{ram_in, ram_out, first_cell, later_cells, cell_in_ram, ram_not_rom, ram_not_device}

-- ---- all words
ram_ranges : (plan : PlanData) (cells : List Cell) (rs : List Range) → All (IsCell plan) cells → list_all is_plan_range rs ≡ true → list_all is_plan_range (ram_without_cells cells rs) ≡ true
ram_ranges plan [] rs all h = h
ram_ranges plan (c ∷ cs) rs all h = ram_ranges plan cs (ranges_outside c.at 4 rs) (later_cells plan c cs all) (ranges_without_ranges c.at 4 (first_cell plan c cs all).aligned refl rs h)

ram_apart : (plan : PlanData) (cells : List Cell) (rs : List Range) → All (IsCell plan) cells → list_all is_plan_range rs ≡ true → are_all_ranges_disjoint rs ≡ true → are_all_ranges_disjoint (ram_without_cells cells rs) ≡ true
ram_apart plan [] rs all h g = g
ram_apart plan (c ∷ cs) rs all h g =
    let a = (first_cell plan c cs all).aligned in
    ram_apart plan cs (ranges_outside c.at 4 rs) (later_cells plan c cs all) (ranges_without_ranges c.at 4 a refl rs h) (ranges_without_apart c.at 4 a refl rs h g)

-- the number of bytes in ranges
abbrev size : List Range → ℕ
size rs = sum_by (λ (r : Range). r.len) rs

ram_size : (cells : List Cell) (rs : List Range) → size (ram_without_cells cells rs) ≤ size rs
ram_size [] rs = omega arith
ram_size (c ∷ cs) rs = let a = ram_size cs (ranges_outside c.at 4 rs) in let b : size (ranges_outside c.at 4 rs) ≤ size rs = ranges_without_size c.at 4 rs in omega arith

-- ---- peripherals
abbrev cell_ranges : List Cell → List Range
cell_ranges cells = map (λ (d : Device). d.range) (map cell_device cells)

device_all : (xs ys : List Device) → list_all is_plan_device xs ≡ true → list_all is_plan_device ys ≡ true → list_all is_plan_device (xs ++ ys) ≡ true
device_all xs ys h g = list_all-append is_plan_device xs ys ∙ and_from _ _ h g

module _ (plan : PlanData) (ok : IsPlan plan) where
  cell_fits : (c : Cell) → IsCell plan c → c.at + 4 ≤ 2 ^ 32
  cell_fits c is = IsInOne-fits c.at 4 plan.ram (ok.ranges).ram is.in_ram

  cell_range : (c : Cell) → IsCell plan c → is_plan_range (record { at = c.at; len = 4 }) ≡ true
  cell_range c is = is_range-from (record { at = c.at; len = 4 }) is.aligned refl (omega arith) (cell_fits c is)

  cell_devices : (cells : List Cell) → All (IsCell plan) cells → list_all is_plan_device (map cell_device cells) ≡ true
  cell_devices [] all = refl
  cell_devices (c ∷ cs) all =
      let is = first_cell plan c cs all in
      and_from _ _ (and_from _ _ (and_from _ _ (cell_range c is) (le-leb c.lo c.hi is.ordered)) (lt-ltb c.hi (2 ^ 32) is.word)) (cell_devices cs (later_cells plan c cs all))

  -- addresses inside the cells' ranges are bytes of cells
  in_cells : (cells : List Cell) (x : ℕ) → IsInOneRange x 1 (cell_ranges cells) → is_in_cell cells x ≡ true
  in_cells [] x h = absurd h
  in_cells (c ∷ cs) x (inl h) = let low = h.0 in let high = h.1 in rw (le-leb c.at x low, lt-ltb x (c.at + 4) (omega arith)) refl
  in_cells (c ∷ cs) x (inr h) = or_right (nat_le c.at x && nat_lt x (c.at + 4)) (is_in_cell cs x) (in_cells cs x h)

  apart_from : (c : Cell) (cs : List Cell) (x : ℕ) → c.at % 4 ≡ 0 → All (IsCell plan) cs → All (λ (d : Cell). d.at ≢ c.at) cs → IsWithinRange x 1 (record { at = c.at; len = 4 }) → IsInOneRange x 1 (cell_ranges cs) → ⊥
  apart_from c [] x a all once h g = g
  apart_from c (d ∷ ds) x a all once h (inl g) =
      let b = (first_cell plan d ds all).aligned in
      let low = h.0 in
      let high = h.1 in
      let low2 = g.0 in
      let high2 = g.1 in
      once 0 d (omega arith) (omega arith)
  apart_from c (d ∷ ds) x a all once h (inr g) = apart_from c ds x a (later_cells plan d ds all) (λ i e lt. once (suc i) e (omega arith)) h g

  cells_apart : (cells : List Cell) → All (IsCell plan) cells → AllPairs (λ (c d : Cell). d.at ≢ c.at) cells → are_all_ranges_disjoint (cell_ranges cells) ≡ true
  cells_apart [] all once = refl
  cells_apart (c ∷ cs) all once =
      let is = first_cell plan c cs all in
      let rest = later_cells plan c cs all in
      and_from _ _ (each_apart (record { at = c.at; len = 4 }) (cell_ranges cs) (omega arith) (HaveBytes-ranges _ (device_ranges (map cell_device cs) (cell_devices cs rest)))
      (λ x h g. apart_from c cs x is.aligned rest (λ k e lt. once 0 (suc k) e (omega arith) (omega arith)) h g)) (cells_apart cs rest (λ i j e lt within. once (suc i) (suc j) e (omega arith) (omega arith)))

-- ---- the plan
pub take_whole : (cells : List Cell) → take (length cells) cells ≡ cells
take_whole [] = refl
take_whole (c ∷ cs) = ap (λ l. c ∷ l) (take_whole cs)

module _ {plan : PlanData} (ok : IsPlan plan) (cells : List Cell) (are : AreCells plan cells) where
  abbrev ram : List Range
  ram = ram_without_cells cells plan.ram

  abbrev old_devices : List Range
  old_devices = map (λ (d : Device). d.range) plan.devices

  all : All (IsCell plan) cells
  all = are.each

  ram_is : list_all is_plan_range ram ≡ true
  ram_is = ram_ranges plan cells plan.ram are.each (ok.ranges).ram

  old_is : list_all is_plan_range old_devices ≡ true
  old_is = device_ranges plan.devices (ok.ranges).devices

  new_is : list_all is_plan_range (cell_ranges cells) ≡ true
  new_is = device_ranges (map cell_device cells) (cell_devices plan ok cells are.each)

  three : are_all_ranges_disjoint (plan.rom ++ plan.ram ++ old_devices) ≡ true
  three = all_apart-front (plan.rom ++ plan.ram ++ old_devices) (areas_range plan ∷ []) ok.apart

  two : are_all_ranges_disjoint (plan.rom ++ plan.ram) ≡ true
  two = all_apart-front (plan.rom ++ plan.ram) old_devices (three)

  cell_ram : (x : ℕ) → IsInOneRange x 1 (cell_ranges cells) → IsInOneRange x 1 plan.ram
  cell_ram x h = cell_in_ram plan cells x are.each (in_cells plan ok cells x h)

  first_two : are_all_ranges_disjoint (plan.rom ++ ram) ≡ true
  first_two =
      all_apart-append plan.rom ram (HaveBytes-ranges _ (ok.ranges).rom) (HaveBytes-ranges _ (ram_is)) (all_apart-front plan.rom plan.ram (two))
      (ram_apart plan cells plan.ram are.each (ok.ranges).ram (all_apart-behind plan.rom plan.ram (two))) (λ x a b. ram_not_rom plan ok x (ram_in cells plan.ram x 1 b) a)

  both_devices : are_all_ranges_disjoint (old_devices ++ cell_ranges cells) ≡ true
  both_devices =
      all_apart-append old_devices (cell_ranges cells) (HaveBytes-ranges _ (old_is)) (HaveBytes-ranges _ (new_is)) (all_apart-behind (plan.rom ++ plan.ram) old_devices (three))
      (cells_apart plan ok cells are.each are.once) (λ x a b. ram_not_device plan ok x (cell_ram x b) a)

  four_apart : are_all_ranges_disjoint (plan.rom ++ ram ++ (old_devices ++ cell_ranges cells) ++ areas_range plan ∷ []) ≡ true
  four_apart =
      all_apart-append (plan.rom ++ ram ++ (old_devices ++ cell_ranges cells)) (areas_range plan ∷ []) (HaveBytes-append _ _ here there) ((let s = (ok.areas).some in omega arith), tt)
      (all_apart-append (plan.rom ++ ram) (old_devices ++ cell_ranges cells) here there (first_two) (both_devices)
      (λ x a b. elim (IsInOne-parts x 1 plan.rom ram a) [
        | inl rom ↦ elim (IsInOne-parts x 1 old_devices (cell_ranges cells) b) [
          | inl old ↦ all_apart-before x (plan.rom ++ plan.ram) old_devices (three) (IsInOne-front x 1 plan.rom plan.ram rom) old
          | inr new ↦ ram_not_rom plan ok x (cell_ram x new) rom
        ]
        | inr left ↦ elim (IsInOne-parts x 1 old_devices (cell_ranges cells) b) [
          | inl old ↦ ram_not_device plan ok x (ram_in cells plan.ram x 1 left) old
          | inr new ↦ (let f : true ≡ false = sym (in_cells plan ok cells x new) ∙ ram_out cells plan.ram x left in cc)
        ]
      ]))
      (refl)
      (λ x a b. elim (IsInOne-parts x 1 (plan.rom ++ ram) (old_devices ++ cell_ranges cells) a) [
        | inl left ↦ elim (IsInOne-parts x 1 plan.rom ram left) [
          | inl rom ↦ all_apart-before x (plan.rom ++ plan.ram ++ old_devices) (areas_range plan ∷ []) ok.apart (IsInOne-front x 1 (plan.rom ++ plan.ram) old_devices (IsInOne-front x 1 plan.rom plan.ram rom)) b
          | inr r ↦ all_apart-before x (plan.rom ++ plan.ram ++ old_devices) (areas_range plan ∷ []) ok.apart (IsInOne-front x 1 (plan.rom ++ plan.ram) old_devices (IsInOne-behind x 1 plan.rom plan.ram (ram_in cells plan.ram x 1 r))) b
        ]
        | inr device ↦ elim (IsInOne-parts x 1 old_devices (cell_ranges cells) device) [
          | inl old ↦ all_apart-before x (plan.rom ++ plan.ram ++ old_devices) (areas_range plan ∷ []) ok.apart (IsInOne-behind x 1 (plan.rom ++ plan.ram) old_devices old) b
          | inr new ↦ all_apart-before x (plan.rom ++ plan.ram ++ old_devices) (areas_range plan ∷ []) ok.apart (IsInOne-front x 1 (plan.rom ++ plan.ram) old_devices (IsInOne-behind x 1 plan.rom plan.ram (cell_ram x new))) b
        ]
      ])
    where
      here : HaveBytes (plan.rom ++ ram)
      here = HaveBytes-append plan.rom ram (HaveBytes-ranges _ (ok.ranges).rom) (HaveBytes-ranges _ (ram_is))

      there : HaveBytes (old_devices ++ cell_ranges cells)
      there = HaveBytes-append old_devices (cell_ranges cells) (HaveBytes-ranges _ (old_is)) (HaveBytes-ranges _ (new_is))

  -- The plan with cells is a plan.
  pub IsPlan-with_cells : IsPlan (with_cells plan cells)
  IsPlan-with_cells = record {
    ranges = record {
      some = (ok.ranges).some;
      few_rom = (ok.ranges).few_rom;
      few_ram = subst (λ cs. length (with_cells plan cs).ram ≤ 16) (take_whole cells) (are.few_ram (length cells) (omega arith));
      few_devices = subst (λ cs. length (with_cells plan cs).devices ≤ 16) (take_whole cells) (are.few_devices (length cells) (omega arith));
      rom = (ok.ranges).rom;
      ram = ram_is;
      devices = device_all plan.devices (map cell_device cells) (ok.ranges).devices (cell_devices plan ok cells are.each);
      small_rom = (ok.ranges).small_rom;
      small_ram = (let s = ram_size cells plan.ram in let t = (ok.ranges).small_ram in omega arith);
    };
    areas = record {
      some = (ok.areas).some;
      few = (ok.areas).few;
      reserved = (ok.areas).reserved;
      reserve_within = (ok.areas).reserve_within;
      word = (ok.areas).word;
      not_zero = (ok.areas).not_zero;
      aligned = (ok.areas).aligned;
      in_segment = (ok.areas).in_segment;
      fit = (ok.areas).fit;
    };
    words = record {
      sp = (ok.words).sp;
      isp = (ok.words).isp;
      biv = (ok.words).biv;
      btv = (ok.words).btv;
      even_biv = (ok.words).even_biv;
      even_btv = (ok.words).even_btv;
      ccpn = (ok.words).ccpn;
      four = (ok.words).four;
      globals = (ok.words).globals;
    };
    irqs = ok.irqs;
    apart = subst (λ ds. are_all_ranges_disjoint (plan.rom ++ ram ++ ds ++ areas_range plan ∷ []) ≡ true) (sym (map-append (λ (d : Device). d.range) plan.devices (map cell_device cells))) (four_apart);
  }

-- ---- one cell after another
pub ram_behind : (cells more : List Cell) (rs : List Range) → ram_without_cells (cells ++ more) rs ≡ ram_without_cells more (ram_without_cells cells rs)
ram_behind [] more rs = refl
ram_behind (c ∷ cs) more rs = ram_behind cs more (ranges_outside c.at 4 rs)

take_more : (cells : List Cell) (i : ℕ) (d : Cell) → i < length cells → take (i + 1) cells ≡ take i cells ++ get_or cells i d ∷ []
take_more [] i d lt = absurd (omega arith)
take_more (c ∷ cs) zero d lt = refl
take_more (c ∷ cs) (suc i) d lt = let e : suc i + 1 ≡ suc (i + 1) = omega arith in ap (λ k. take k (c ∷ cs)) e ∙ ap (λ l. c ∷ l) (take_more cs i d (omega arith))

-- the ranges without one more cell
pub ram_more : (cells : List Cell) (rs : List Range) (i : ℕ) (d : Cell) → i < length cells → ranges_outside (get_or cells i d).at 4 (ram_without_cells (take i cells) rs) ≡ ram_without_cells (take (i + 1) cells) rs
ram_more cells rs i d lt = sym (ap (λ cs. ram_without_cells cs rs) (take_more cells i d lt) ∙ ram_behind (take i cells) (get_or cells i d ∷ []) rs)

pub take_cells : (plan : PlanData) (cells : List Cell) (i : ℕ) → All (IsCell plan) cells → All (IsCell plan) (take i cells)
take_cells plan [] zero each k d lt = absurd (omega arith)
take_cells plan [] (suc i) each k d lt = absurd (omega arith)
take_cells plan (c ∷ cs) zero each k d lt = absurd (omega arith)
take_cells plan (c ∷ cs) (suc i) each zero d lt = first_cell plan c cs each
take_cells plan (c ∷ cs) (suc i) each (suc k) d lt = take_cells plan cs i (later_cells plan c cs each) k d (omega arith)

fits_each : (rs : List Range) → list_all is_plan_range rs ≡ true → All (λ r. r.at + r.len ≤ 2 ^ 32) rs
fits_each [] h k d lt = absurd (omega arith)
fits_each (r ∷ rs) h zero d lt = (range_parts r (and_parts (is_plan_range r) (list_all is_plan_range rs) h).0).3
fits_each (r ∷ rs) h (suc k) d lt = fits_each rs (and_parts (is_plan_range r) (list_all is_plan_range rs) h).1 k d (omega arith)

-- no range that is left passes 2^32
pub ram_fits : {plan : PlanData} → IsPlan plan → (cells : List Cell) → All (IsCell plan) cells → All (λ r. r.at + r.len ≤ 2 ^ 32) (ram_without_cells cells plan.ram)
ram_fits {plan = plan} ok cells each = fits_each _ (ram_ranges plan cells plan.ram each (ok.ranges).ram)

-- ---- a plan made of its parts
abbrev pub with_parts : PlanData → List Range → List Range → List Device → List ℕ → PlanData
with_parts p rom ram devices irqs = record p { rom = rom; ram = ram; devices = devices; irqs = irqs }

pub plan_parts : (p q : PlanData) (cells : List Cell) (rom ram : List Range) (devices : List Device) (irqs : List ℕ) → p ≡ q → rom ≡ q.rom → ram ≡ (with_cells q cells).ram → devices ≡ (with_cells q cells).devices → irqs ≡ q.irqs
    → with_parts p rom ram devices irqs ≡ with_cells q cells
plan_parts p q cells rom ram devices irqs p_is rom_is ram_is devices_is irqs_is =
    ap (λ (x : PlanData). with_parts x rom ram devices irqs) p_is
    ∙ ap (λ (l : List Range). with_parts q l ram devices irqs) rom_is
    ∙ ap (λ (l : List Range). with_parts q q.rom l devices irqs) ram_is
    ∙ ap (λ (l : List Device). with_parts q q.rom (with_cells q cells).ram l irqs) devices_is
    ∙ ap (λ (l : List ℕ). with_parts q q.rom (with_cells q cells).ram (with_cells q cells).devices l) irqs_is
