-- The laws of contexts: fields and registers that are written to words are read back, words stay
-- below 2^32, and contexts stay as they were.
use Rattle.std.specs.Prelude.{◌≡◌, ℕ, ◌<◌, if◌then◌else◌, List, slice_index, ◌^◌, Bool, length, All}
use Rattle.csa_chain.specs.Chain.{area_word, link_in}
use Rattle.csa_chain.specs.ContextWords.{upper_context_words, lower_context_words, d_after_upper_restore, a_after_upper_restore, d_after_lower_restore, a_after_lower_restore, is_a_in_lower_context, is_d_in_lower_context, is_a_in_upper_context, is_d_in_upper_context, pcpn_of, pcxi_word_of, pie_of, ul_of}
use Rattle.std.specs.List.{AllByRecursion}
use Rattle.csa_chain.specs.MemoryBytes.{Memory}
use Rattle.tcd_base.specs.declared.core_version.Core.{Core}

-- The upper context of d and a, restored over the registers d' and a': its registers are those of d
-- and a again, all others those of d' and a'. Words 0 and 1 are PCXI and PSW.
abbrev pub UpperContextRoundTrips : Type 0
UpperContextRoundTrips =
    (pcxi psw : ℕ) (d a d' a' : List ℕ) (r : ℕ) → r < 16 →
    (slice_index (d_after_upper_restore (upper_context_words pcxi psw d a) d') r ≡ (if is_d_in_upper_context r then slice_index d r else slice_index d' r))
    × (slice_index (a_after_upper_restore (upper_context_words pcxi psw d a) a') r ≡ (if is_a_in_upper_context r then slice_index a r else slice_index a' r))
    × (slice_index (upper_context_words pcxi psw d a) 0 ≡ pcxi)
    × (slice_index (upper_context_words pcxi psw d a) 1 ≡ psw)

-- The lower context of d and a, restored over the registers d' and a': its registers are those of d
-- and a again, all others those of d' and a'. Word 0 is PCXI.
abbrev pub LowerContextRoundTrips : Type 0
LowerContextRoundTrips =
    (pcxi : ℕ) (d a d' a' : List ℕ) (r : ℕ) → r < 16 →
    (slice_index (d_after_lower_restore (lower_context_words pcxi d a) d') r ≡ (if is_d_in_lower_context r then slice_index d r else slice_index d' r))
    × (slice_index (a_after_lower_restore (lower_context_words pcxi d a) a') r ≡ (if is_a_in_lower_context r then slice_index a r else slice_index a' r))
    × (slice_index (lower_context_words pcxi d a) 0 ≡ pcxi)

-- law of contexts: the 16 context words in each area of these links are as they were in the older
-- memory
abbrev pub ContextsStay : List ℕ → Memory → Memory → Type 0
ContextsStay links old new = AllByRecursion (λ l. (i : ℕ) → i < 16 → area_word new l i ≡ area_word old l i) links

-- A word PCXI that is built from fields has these fields.
abbrev pub PcxiFieldsRoundTrip : Type 0
PcxiFieldsRoundTrip =
    (core : Core) (pcpn : ℕ) (pie ul : Bool) (link : ℕ) → pcpn < 2 ^ 8 → link < 2 ^ 20 →
    (pcpn_of core (pcxi_word_of core pcpn pie ul link) ≡ pcpn)
    × (pie_of core (pcxi_word_of core pcpn pie ul link) ≡ pie)
    × (ul_of core (pcxi_word_of core pcpn pie ul link) ≡ ul)
    × (link_in (pcxi_word_of core pcpn pie ul link) ≡ link)
    × (pcxi_word_of core pcpn pie ul link < 2 ^ 32)

-- the list has n elements, all of them words below 2^32, such as registers or the words of a
-- context
abbrev pub IsListOfWords : ℕ → List ℕ → Type 0
IsListOfWords n ws = (length ws ≡ n) × All (λ w. w < 2 ^ 32) ws

-- Contexts that are saved or restored from words below 2^32 are words below 2^32.
abbrev pub ContextWordsStayInBounds : Type 0
ContextWordsStayInBounds =
    (pcxi psw : ℕ) (words d a : List ℕ) → pcxi < 2 ^ 32 → psw < 2 ^ 32 → IsListOfWords 16 words → IsListOfWords 16 d → IsListOfWords 16 a →
    IsListOfWords 16 (upper_context_words pcxi psw d a)
    × IsListOfWords 16 (lower_context_words pcxi d a)
    × IsListOfWords 16 (d_after_upper_restore words d)
    × IsListOfWords 16 (a_after_upper_restore words a)
    × IsListOfWords 16 (d_after_lower_restore words d)
    × IsListOfWords 16 (a_after_lower_restore words a)
