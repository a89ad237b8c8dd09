-- The text of a key is ASCII.
use Rattle.std.proofs.Common.{◌≡◌, ◌==◌, ◌<◌, ◌^◌, ◌++◌, ◌∷◌, [], ℕ, Bool, true, false, ◌&&◌, List, IsAscii, decimal, refl, arith}
use Rattle.std.specs.Prelude.{codes, nat_lt, if◌then◌else◌}
use Rattle.std.specs.List.{list_all}
use Rattle.std.proofs.lemmas.Bool.{ltb-true}
use Rattle.std.proofs.lemmas.Fmt.{IsAscii-decimal}
use Rattle.std.proofs.lemmas.Str.{IsAscii-append}
use Rattle.std.proofs.lemmas.Str.Ascii.{IsAscii-nil, IsAscii-cons}
use Rattle.tcd_text.specs.HexNumbers.{hex_word}
use Rattle.tcd_text.proofs.DigitLaws.{hex_word-ascii}
use Rattle.depth_cert.specs.declared.keys.Key.{Key}
use Rattle.depth_cert.specs.Keys.{start_kind, call_kind, irq_kind, sys_kind}
use Rattle.tcd_report.specs.Texts.{key_kind_text, frame_name}
use Rattle.tcd_report.specs.Graphs.{node_line_prefix, point_line_prefix}

both : (a b : Bool) → (a && b) ≡ true → (a ≡ true) × (b ≡ true)
both true true e = (refl, refl)
both true false e = (refl, e)
both false b e = absurd (let no : false ≡ true = e in cc)

-- a text that passes a test
literal : (bs : List ℕ) → list_all (λ b. nat_lt b 128) bs ≡ true → IsAscii bs
literal [] e = IsAscii-nil
literal (b ∷ bs) e =
    let parts = both (nat_lt b 128) (list_all (λ c. nat_lt c 128) bs) e in
    IsAscii-cons b bs (ltb-true b 128 parts.0) (literal bs parts.1)

-- one of two texts
either : (b : Bool) (x y : List ℕ) → IsAscii x → IsAscii y → IsAscii (if b then x else y)
either true x y h g = h
either false x y h g = g

kind_ascii : (kind : ℕ) → IsAscii (key_kind_text kind)
unfolding key_kind_text
kind_ascii kind =
    either (kind == start_kind) (codes "start ") _ (literal (codes "start ") refl)
    (either (kind == call_kind) (codes "call ") _ (literal (codes "call ") refl)
    (either (kind == irq_kind) (codes "irq ") _ (literal (codes "irq ") refl)
    (either (kind == sys_kind) (codes "sys ") (codes "aln ") (literal (codes "sys ") refl) (literal (codes "aln ") refl))))

digit_ascii : (b : Bool) → IsAscii ((if b then 49 else 48) ∷ [])
digit_ascii true = literal (49 ∷ []) refl
digit_ascii false = literal (48 ∷ []) refl

key_ascii : (key : Key) → key.entry < 2 ^ 32 → key.prio < 2 ^ 8 → IsAscii (frame_name key)
unfolding frame_name
key_ascii key entry prio =
    let stack : List ℕ = (if key.is then 49 else 48) ∷ [] in
    let from_is : List ℕ = codes " is " ++ stack in
    let from_number : List ℕ = decimal key.prio ++ from_is in
    let from_prio : List ℕ = codes " prio " ++ from_number in
    IsAscii-append (key_kind_text key.kind) (hex_word key.entry ++ from_prio) (kind_ascii key.kind)
    (IsAscii-append (hex_word key.entry) from_prio (hex_word-ascii key.entry entry)
    (IsAscii-append (codes " prio ") from_number (literal (codes " prio ") refl)
    (IsAscii-append (decimal key.prio) from_is (IsAscii-decimal key.prio (omega (arith, prio)))
    (IsAscii-append (codes " is ") stack (literal (codes " is ") refl) (digit_ascii key.is)))))

-- the fronts of lines
pub key_front_ascii : (key : Key) → key.entry < 2 ^ 32 → key.prio < 2 ^ 8 → IsAscii (node_line_prefix key)
key_front_ascii key entry prio = IsAscii-append (frame_name key) (codes ": ") (key_ascii key entry prio) (literal (codes ": ") refl)

pub line_front_ascii : (key : Key) (p : ℕ) → p < 2 ^ 32 → IsAscii (node_line_prefix key) → IsAscii (point_line_prefix key p)
line_front_ascii key p small is =
    IsAscii-append (node_line_prefix key) (hex_word p ++ 32 ∷ []) is (IsAscii-append (hex_word p) (32 ∷ []) (hex_word-ascii p small) (literal (32 ∷ []) refl))
