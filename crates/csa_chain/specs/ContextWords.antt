-- The word PCXI in both layouts, and the words of the upper and the lower context.
use Rattle.std.specs.Prelude.{ℕ, ◌+◌, ◌*◌, ◌/◌, ◌%◌, ◌^◌, Bool, ◌==◌, if◌then◌else◌, List, ◌∷◌, slice_index, ◌&&◌, ◌||◌, nat_lt, nat_le, []}
use Rattle.tcd_base.specs.declared.core_version.Core.{Core}
use Rattle.tcd_base.specs.declared.core_version.Core.TheVariants.{V13, V16}

-- ---- PCXI
-- The word with these fields and all other bits zero. V13: PCPN in bits 31:24, PIE in 23, UL in 22,
-- the link in 19:0 (manual, volume 1, context management).
-- V16, the layout of core 1.6, which that manual doesn't have: PCPN in bits 29:22, PIE in 21, UL in
-- 20, the link in 19:0.
abbrev pub pcxi_word_of : Core → ℕ → Bool → Bool → ℕ → ℕ
pcxi_word_of V13 pcpn pie ul link = pcpn * 2 ^ 24 + (if pie then 1 else 0) * 2 ^ 23 + (if ul then 1 else 0) * 2 ^ 22 + link
pcxi_word_of V16 pcpn pie ul link = pcpn * 2 ^ 22 + (if pie then 1 else 0) * 2 ^ 21 + (if ul then 1 else 0) * 2 ^ 20 + link

-- the field PCPN in each layout: the priority that the interrupted or calling code ran at
abbrev pub pcpn_of : Core → ℕ → ℕ
pcpn_of V13 word = word / 2 ^ 24 % 2 ^ 8
pcpn_of V16 word = word / 2 ^ 22 % 2 ^ 8

-- the bit PIE of a context's word PCXI, in each layout: interrupts were enabled
abbrev pub pie_of : Core → ℕ → Bool
pie_of V13 word = word / 2 ^ 23 % 2 == 1
pie_of V16 word = word / 2 ^ 21 % 2 == 1

-- the bit UL in each layout: the area holds an upper context
abbrev pub ul_of : Core → ℕ → Bool
ul_of V13 word = word / 2 ^ 22 % 2 == 1
ul_of V16 word = word / 2 ^ 20 % 2 == 1

-- ---- what a save writes
-- The 16 words of the upper context: PCXI, PSW, A10, A11, D8 to D11, A12 to A15, D12 to D15
-- (manual, volume 1, context management).
abbrev pub upper_context_words : ℕ → ℕ → List ℕ → List ℕ → List ℕ
upper_context_words pcxi psw d a =
    pcxi ∷ psw ∷ slice_index a 10 ∷ slice_index a 11
    ∷ slice_index d 8 ∷ slice_index d 9 ∷ slice_index d 10 ∷ slice_index d 11
    ∷ slice_index a 12 ∷ slice_index a 13 ∷ slice_index a 14 ∷ slice_index a 15
    ∷ slice_index d 12 ∷ slice_index d 13 ∷ slice_index d 14 ∷ slice_index d 15 ∷ []

-- The 16 words of the lower context: PCXI, A11, A2, A3, D0 to D3, A4 to A7, D4 to D7 (manual,
-- volume 1, context management).
abbrev pub lower_context_words : ℕ → List ℕ → List ℕ → List ℕ
lower_context_words pcxi d a =
    pcxi ∷ slice_index a 11 ∷ slice_index a 2 ∷ slice_index a 3
    ∷ slice_index d 0 ∷ slice_index d 1 ∷ slice_index d 2 ∷ slice_index d 3
    ∷ slice_index a 4 ∷ slice_index a 5 ∷ slice_index a 6 ∷ slice_index a 7
    ∷ slice_index d 4 ∷ slice_index d 5 ∷ slice_index d 6 ∷ slice_index d 7 ∷ []

-- ---- what a restore reads
-- D0 to D15 after an upper context is restored: D8 to D15 are the context's (manual, volume 1,
-- context management).
abbrev pub d_after_upper_restore : List ℕ → List ℕ → List ℕ
d_after_upper_restore words d =
    slice_index d 0 ∷ slice_index d 1 ∷ slice_index d 2 ∷ slice_index d 3
    ∷ slice_index d 4 ∷ slice_index d 5 ∷ slice_index d 6 ∷ slice_index d 7
    ∷ slice_index words 4 ∷ slice_index words 5 ∷ slice_index words 6 ∷ slice_index words 7
    ∷ slice_index words 12 ∷ slice_index words 13 ∷ slice_index words 14 ∷ slice_index words 15 ∷ []

-- A0 to A15 after an upper context is restored: A10 to A15 are the context's (manual, volume 1,
-- context management).
abbrev pub a_after_upper_restore : List ℕ → List ℕ → List ℕ
a_after_upper_restore words a =
    slice_index a 0 ∷ slice_index a 1 ∷ slice_index a 2 ∷ slice_index a 3
    ∷ slice_index a 4 ∷ slice_index a 5 ∷ slice_index a 6 ∷ slice_index a 7
    ∷ slice_index a 8 ∷ slice_index a 9 ∷ slice_index words 2 ∷ slice_index words 3
    ∷ slice_index words 8 ∷ slice_index words 9 ∷ slice_index words 10 ∷ slice_index words 11 ∷ []

-- D0 to D15 after the words of a lower context are restored: D0 to D7 are the context's (manual,
-- volume 1, context management)
abbrev pub d_after_lower_restore : List ℕ → List ℕ → List ℕ
d_after_lower_restore words d =
    slice_index words 4 ∷ slice_index words 5 ∷ slice_index words 6 ∷ slice_index words 7
    ∷ slice_index words 12 ∷ slice_index words 13 ∷ slice_index words 14 ∷ slice_index words 15
    ∷ slice_index d 8 ∷ slice_index d 9 ∷ slice_index d 10 ∷ slice_index d 11
    ∷ slice_index d 12 ∷ slice_index d 13 ∷ slice_index d 14 ∷ slice_index d 15 ∷ []

-- A0 to A15 after the words of a lower context were loaded: A2 to A7 and A11 are the context's
-- (manual, volume 1, context management)
abbrev pub a_after_lower_restore : List ℕ → List ℕ → List ℕ
a_after_lower_restore words a =
    slice_index a 0 ∷ slice_index a 1 ∷ slice_index words 2 ∷ slice_index words 3
    ∷ slice_index words 8 ∷ slice_index words 9 ∷ slice_index words 10 ∷ slice_index words 11
    ∷ slice_index a 8 ∷ slice_index a 9 ∷ slice_index a 10 ∷ slice_index words 1
    ∷ slice_index a 12 ∷ slice_index a 13 ∷ slice_index a 14 ∷ slice_index a 15 ∷ []

-- ---- the registers of each context
-- an upper context has the register Dr
abbrev pub is_d_in_upper_context : ℕ → Bool
is_d_in_upper_context r = nat_le 8 r

-- a lower context has the register Dr
abbrev pub is_d_in_lower_context : ℕ → Bool
is_d_in_lower_context r = nat_lt r 8

-- an upper context has the register Ar: r is 10 or more; A11 is in both contexts, A0, A1, A8 and A9
-- are in neither
abbrev pub is_a_in_upper_context : ℕ → Bool
is_a_in_upper_context r = nat_le 10 r

-- a lower context has the register Ar
abbrev pub is_a_in_lower_context : ℕ → Bool
is_a_in_lower_context r = (nat_le 2 r && nat_le r 7) || (r == 11)
