-- Names are text.
use Rattle.std.proofs.Common.{◌≡◌, ◌<◌, ◌≤◌, ℕ, true, List, length, get_or, ◌⊎◌, inl, inr, Result, Ok, Err, refl, arith}
use Rattle.std.specs.Prelude.{MatchResult, IsOk}
use Rattle.std.specs.List.{AllPass}
use Rattle.std.specs.Str.{IsUtf8}
use Rattle.std.proofs.lemmas.Str.{IsUtf8-from_ascii}
use Rattle.std.proofs.lemmas.Bool.{and_parts, cases_lt}
use Rattle.std.proofs.lemmas.List.{get_or_past}
use Rattle.std.proofs.lemmas.Bool.Decides.{nat_tests}
use Rattle.std.proofs.lemmas.List.Sums.{AllPass-from_list_all}
use Rattle.tcd_base.specs.NameBytes.{is_name_byte, is_name_start}
use Rattle.tc_object.specs.Names.{is_object_name}

further_ascii : (c : ℕ) → is_name_byte c ≡ true → c < 128
unfolding is_name_byte is_name_start
further_ascii c h = grind (arith, nat_tests)

pub name_utf8 : (bs : List ℕ) → is_object_name bs ≡ true → IsUtf8 bs
name_utf8 bs h =
    let parts = and_parts _ _ (and_parts _ _ h).1 in
    let each = AllPass-from_list_all is_name_byte bs parts.1 in
    IsUtf8-from_ascii bs (λ i. by i each (cases_lt i (length bs)))
  where
    by : (i : ℕ) → AllPass is_name_byte bs → (i < length bs) ⊎ (length bs ≤ i) → get_or bs i 0 < 128
    by i each (inl l) = further_ascii (get_or bs i 0) (each i 0 l)
    by i each (inr g) = rw (get_or_past bs i 0 g) (omega arith)

-- a reading of text that text passes
pub text_ok : {T E : Type 0} (r : Result T E) (Q : Type 0) (P : T → Type 0) (R : E → Type 0) → MatchResult r P (λ e. ¬ Q × R e) → Q → IsOk r
text_ok (Ok x) Q P R h q = refl
text_ok (Err e) Q P R h q = absurd (h.0 q)
