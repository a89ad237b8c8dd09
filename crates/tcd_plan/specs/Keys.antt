-- The printed keys of a plan.
use Rattle.std.specs.Prelude.{ℕ, List, ◌∷◌, codes, slice_get, unwrap_or, []}

-- the texts of the keys in the order of their numbers, from 0; `root` is the whole document
abbrev pub key_texts : List (List ℕ)
key_texts =
    codes "root" ∷
    codes "rom" ∷
    codes "rom.at" ∷
    codes "rom.len" ∷
    codes "ram" ∷
    codes "ram.at" ∷
    codes "ram.len" ∷
    codes "devices" ∷
    codes "devices.at" ∷
    codes "devices.len" ∷
    codes "devices.lo" ∷
    codes "devices.hi" ∷
    codes "csa" ∷
    codes "csa.at" ∷
    codes "csa.areas" ∷
    codes "csa.reserve" ∷
    codes "sp" ∷
    codes "isp" ∷
    codes "biv" ∷
    codes "btv" ∷
    codes "irqs" ∷
    codes "traps" ∷
    codes "start" ∷
    codes "start.ie" ∷
    codes "start.ccpn" ∷
    codes "start.is" ∷
    codes "globals" ∷
    codes "globals.a0" ∷
    codes "globals.a1" ∷
    codes "globals.a8" ∷
    codes "globals.a9" ∷
    codes "core" ∷
    []

-- the printed text of a plan's key, by the number of the key
abbrev pub key_text_of : ℕ → List ℕ
key_text_of key = unwrap_or (slice_get key_texts key) []
