-- Cells read one line after another.
use Rattle.std.proofs.Common.{◌≡◌, ℕ, ◌+◌, ◌<◌, ◌≤◌, inl, List, [], ◌∷◌, ◌++◌, length, map, IsTrue, refl, sym, ap, ◌∙◌, subst, arith, nat_lt, nat_le}
use Rattle.std.specs.Prelude.{filter_map}
use Rattle.std.proofs.lemmas.Bool.{ltb-true, lt-ltb, leb-true}
use Rattle.std.proofs.lemmas.List.{length-append, length-map}
use Rattle.std.proofs.lemmas.List.Elements.{All-push, filter_map-append}
use Rattle.tcd_base.specs.declared.range.Range.{Range}
use Rattle.tcd_plan.specs.PlanData.{PlanData}
use Rattle.tcd_text.specs.Lines.{text_lines}
use Rattle.value_cells.specs.declared.cells.Cell.{Cell}
use Rattle.tcd_plan.specs.Cutting.{ranges_outside}
use Rattle.value_cells.specs.Cells.{cell_device, ram_without_cells, with_cells, AreCells}
use Rattle.value_cells.specs.CellListText.{cell_of_line, cell_of_words, IsCellLine, AreCellsOfText, HasRoomForCell, AreCellsAfterLine}
use Rattle.value_cells.proofs.CellPlan.{ram_behind}

-- ---- room for one more
pub room_ram : (plan : PlanData) (cells : List Cell) (c : Cell) → (with_cells plan (cells ++ c ∷ [])).ram ≡ ranges_outside c.at 4 (ram_without_cells cells plan.ram)
room_ram plan cells c = ram_behind cells (c ∷ []) plan.ram

pub room_devices : (plan : PlanData) (cells : List Cell) (c : Cell) → length (with_cells plan (cells ++ c ∷ [])).devices ≡ length plan.devices + length cells + 1
room_devices plan cells c =
    omega (arith, length-append plan.devices (map cell_device (cells ++ c ∷ [])), length-map (cells ++ c ∷ []) cell_device, length-append cells (c ∷ []))

pub has_room : (plan : PlanData) (cells : List Cell) (c : Cell) → length (ranges_outside c.at 4 (ram_without_cells cells plan.ram)) ≤ 16 → length plan.devices + length cells < 16 → HasRoomForCell plan cells c
has_room plan cells c few lt = record {
  ram = subst (λ (rs : List Range). length rs ≤ 16) (sym (room_ram plan cells c)) few;
  devices = omega (arith, room_devices plan cells c);
}

pub room_few : (plan : PlanData) (cells : List Cell) (c : Cell) → HasRoomForCell plan cells c → length (ranges_outside c.at 4 (ram_without_cells cells plan.ram)) ≤ 16
room_few plan cells c room = subst (λ (rs : List Range). length rs ≤ 16) (room_ram plan cells c) room.ram

pub room_lt : (plan : PlanData) (cells : List Cell) (c : Cell) → HasRoomForCell plan cells c → length plan.devices + length cells < 16
room_lt plan cells c room = omega (arith, room_devices plan cells c, room.devices)

-- if there are few enough ranges, the number of peripherals decides
pub room_then : (plan fields : PlanData) (cells : List Cell) (c : Cell) (n d m : ℕ) → fields ≡ plan → d ≡ length fields.devices → m ≡ length cells → n ≡ length (ranges_outside c.at 4 (ram_without_cells cells plan.ram)) → n ≤ 16
    → (IsTrue (nat_lt (d + m) 16) → HasRoomForCell plan cells c) × (HasRoomForCell plan cells c → IsTrue (nat_lt (d + m) 16))
room_then plan fields cells c n d m same devices count parts few =
    let all : d ≡ length plan.devices = devices ∙ ap (λ (p : PlanData). length p.devices) same in (
      λ t. has_room plan cells c (omega arith) (let lt = ltb-true (d + m) 16 t in omega arith),
      λ room. lt-ltb (d + m) 16 (omega (arith, room_lt plan cells c room)),
    )

pub room_else : (plan : PlanData) (cells : List Cell) (c : Cell) (n : ℕ) → n ≡ length (ranges_outside c.at 4 (ram_without_cells cells plan.ram)) → 16 < n → (IsTrue (nat_le n 16) → HasRoomForCell plan cells c) × (HasRoomForCell plan cells c → IsTrue (nat_le n 16))
room_else plan cells c n parts many = (
  λ t. absurd (let le = leb-true n 16 t in omega arith),
  λ room. absurd (let few = room_few plan cells c room in omega arith),
)

-- ---- one line more

append_none : (cells : List Cell) → cells ++ [] ≡ cells
append_none [] = refl
append_none (c ∷ cs) = ap (λ l. c ∷ l) (append_none cs)

pub takes_none : (plan : PlanData) (cells : List Cell) (line : List ℕ) → length line ≡ 0 → AreCells plan cells → AreCellsAfterLine plan cells line cells
unfolding cell_of_words
takes_none plan cells [] none are = record { form = inl refl; named = sym (append_none cells); are = are }
takes_none plan cells (x ∷ xs) none are = absurd (omega arith)

-- ---- a text
-- the lines before what is left name the cells
pub record IsReadSoFar (plan : PlanData) (bytes rest : List ℕ) (number : ℕ) (cells : List Cell) : Type 0 where
  pub before : List (List ℕ)
  pub split : text_lines bytes ≡ before ++ text_lines rest
  pub count : number ≡ length before
  pub read : AreCellsOfText plan before cells

behind_one : (xs ys : List (List ℕ)) (x : List ℕ) → xs ++ x ∷ ys ≡ (xs ++ x ∷ []) ++ ys
behind_one [] ys x = refl
behind_one (z ∷ zs) ys x = ap (λ l. z ∷ l) (behind_one zs ys x)

pub read_more : (plan : PlanData) (bytes rest line behind : List ℕ) (number : ℕ) (cells more : List Cell) → IsReadSoFar plan bytes rest number cells → text_lines rest ≡ line ∷ text_lines behind → AreCellsAfterLine plan cells line more
    → IsReadSoFar plan bytes behind (number + 1) more
read_more plan bytes rest line behind number cells more so cut takes = record {
  before = so.before ++ line ∷ [];
  split = so.split ∙ ap (λ l. so.before ++ l) cut ∙ behind_one so.before (text_lines behind) line;
  count = omega (arith, so.count, length-append so.before (line ∷ []));
  read = record {
    forms = All-push IsCellLine so.before line (so.read).forms takes.form;
    named = takes.named ∙ ap (λ l. l ++ filter_map cell_of_line (line ∷ [])) (so.read).named ∙ sym (filter_map-append cell_of_line so.before (line ∷ []));
    are = takes.are;
  };
}

append_no_lines : (xs : List (List ℕ)) → xs ++ [] ≡ xs
append_no_lines [] = refl
append_no_lines (x ∷ xs) = ap (λ l. x ∷ l) (append_no_lines xs)

pub read_all : (plan : PlanData) (bytes rest : List ℕ) (number : ℕ) (cells : List Cell) → length rest ≡ 0 → IsReadSoFar plan bytes rest number cells → AreCellsOfText plan (text_lines bytes) cells
unfolding text_lines
read_all plan bytes [] number cells none so = subst (λ ls. AreCellsOfText plan ls cells) (sym (so.split ∙ append_no_lines so.before)) so.read
read_all plan bytes (x ∷ xs) number cells none so = absurd (omega arith)
