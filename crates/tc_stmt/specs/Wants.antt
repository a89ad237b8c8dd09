-- The meaning of the operand texts of the rows.
use Rattle.std.specs.Prelude.{ℕ, ◌==◌, true, false, if◌then◌else◌, List, ◌∷◌, map, codes, []}
use Rattle.std.specs.Borrow.{Bor}
use Rattle.std.specs.List.{slice_split}
use Rattle.std.specs.Str.{bytes_eq}
use Rattle.tc_isa.specs.Rows.{RowData}
use Rattle.tc_stmt.specs.declared.want.Field.TheVariants.{C, S1, S2, N, K}
use Rattle.tc_stmt.specs.declared.want.Want.{Want}
use Rattle.tc_stmt.specs.declared.want.Want.TheVariants.{Reg, A10, Number, Target, Absolute, Memory}

-- the operand that a row wants, from its text in the row's operands, as `Ds1`, `sk4` or `[As2]sk`
unfoldable pub want_of : List ℕ → Want
want_of text =
    if bytes_eq text (codes "Dc") then Reg false C
    else (if bytes_eq text (codes "Ac") then Reg true C
    else (if bytes_eq text (codes "Ds1") then Reg false S1
    else (if bytes_eq text (codes "As1") then Reg true S1
    else (if bytes_eq text (codes "Ds2") then Reg false S2
    else (if bytes_eq text (codes "As2") then Reg true S2
    else (if bytes_eq text (codes "a10") then A10
    else (if bytes_eq text (codes "sk") then Number true K
    else (if bytes_eq text (codes "uk") then Number false K
    else (if bytes_eq text (codes "sk4") then Number true S2
    else (if bytes_eq text (codes "uk4") then Number false S2
    else (if bytes_eq text (codes "n") then Number false N
    else (if bytes_eq text (codes "T") then Target
    else (if bytes_eq text (codes "U") then Absolute
    else (if bytes_eq text (codes "[As2]") then Memory false false
    else (if bytes_eq text (codes "[As2]sk") then Memory false true
    else Memory true true)))))))))))))))

-- the text of one operand that a row wants, cut at the commas of the row's operand text, without
-- its leading blank
abbrev pub trimmed_want_text : List ℕ → List ℕ
trimmed_want_text (c ∷ cs) = if c == 32 then cs else (c ∷ cs)
trimmed_want_text [] = []

-- the operands that a row wants: its operand text, split at commas
unfoldable pub wants_of : RowData → List Want
wants_of r = if bytes_eq r.operands [] then [] else map (λ t. want_of (trimmed_want_text t)) (slice_split (λ c. c == 44) r.operands)

-- the wants of a row, as values
abbrev pub row_wants_now : Bor (List Want) → List Want
row_wants_now w = w.now
