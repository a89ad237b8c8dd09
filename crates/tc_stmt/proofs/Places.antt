-- The row and the wants at a place.
use Rattle.std.proofs.Common.{◌≡◌, ◌<◌, ℕ, List, map, length, get_or, ap, sym, ◌∙◌}
use Rattle.std.specs.Borrow.{Bor}
use Rattle.std.proofs.lemmas.List.{get_or-map, length-map}
use Rattle.tc_isa.specs.declared.table.Row.{Row}
use Rattle.tc_isa.specs.Rows.{RowData, row_of}
use Rattle.tc_stmt.specs.declared.want.Want.{Want}
use Rattle.tc_stmt.specs.Wants.{wants_of, row_wants_now}

long_map : (rows : List Row) (i : ℕ) → i < length rows → i < length (map row_of rows)
long_map rows i h = rw (length-map rows row_of) h

pub long_wants : (rows : List Row) (wants : List (Bor (List Want))) → map row_wants_now wants ≡ map wants_of (map row_of rows) → length wants ≡ length rows
long_wants rows wants e = sym (length-map wants row_wants_now) ∙ ap length e ∙ length-map (map row_of rows) wants_of ∙ length-map rows row_of

pub wants_here : (rows : List Row) (wants : List (Bor (List Want))) (i : ℕ) (d : Row) (w : Bor (List Want)) → map row_wants_now wants ≡ map wants_of (map row_of rows) → i < length rows → i < length wants
    → (get_or wants i w).now ≡ wants_of (row_of (get_or rows i d))
wants_here rows wants i d w e h k =
    sym (get_or-map row_wants_now wants i w (row_wants_now w) k)
    ∙ ap (λ us. get_or us i (row_wants_now w)) e
    ∙ get_or-map wants_of (map row_of rows) i (row_of d) (row_wants_now w) (long_map rows i h)
    ∙ ap wants_of (get_or-map row_of rows i d (row_of d) h)

pub row_here : (rows : List Row) (i : ℕ) (d : Row) (e : RowData) → i < length rows → get_or (map row_of rows) i e ≡ row_of (get_or rows i d)
row_here rows i d e h = get_or-map row_of rows i d e h
