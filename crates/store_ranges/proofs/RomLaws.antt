-- Numbers in rom.
use Rattle.std.proofs.Common.{◌≡◌, ℕ, zero, suc, ◌+◌, ◌*◌, ◌^◌, ◌<◌, ◌≤◌, inl, inr, Bool, true, false, List, [], ◌∷◌, Option, Some, None, refl, sym, ap, ◌∙◌, subst, arith}
use Rattle.std.specs.Prelude.{IsTrue, ◌↔◌, option_and_then}
use Rattle.std.specs.Option.{option_map}
use Rattle.std.specs.List.{list_any}
use Rattle.std.proofs.lemmas.Bool.{or_cases, or_left, or_right}
use Rattle.tcd_base.specs.declared.range.Range.{Range}
use Rattle.tcd_plan.specs.PlanData.{PlanData, IsPlan}
use Rattle.tcd_base.specs.Ranges.{IsInOneRange, is_within_range}
use Rattle.tcd_plan.proofs.ApartLaws.{rom_fits}
use Rattle.elf_image.specs.Images.{ImageData, image_byte}
use Rattle.tcd_base.proofs.RangeLaws.{within_true, true_within}
use Rattle.store_ranges.specs.Loads.{number_in_image}

-- ---- in one range
pub any_one : (x n : ℕ) (rs : List Range) → list_any (is_within_range x n) rs ≡ true → IsInOneRange x n rs
any_one x n [] t = absurd (let f : false ≡ true = t in cc)
any_one x n (r ∷ rs) t =
    elim (or_cases (is_within_range x n r) (list_any (is_within_range x n) rs) t) [
      | inl h ↦ inl (within_true x n r h)
      | inr h ↦ inr (any_one x n rs h)
    ]

pub one_any : (x n : ℕ) (rs : List Range) → IsInOneRange x n rs → list_any (is_within_range x n) rs ≡ true
one_any x n [] i = absurd i
one_any x n (r ∷ rs) (inl w) = or_left (is_within_range x n r) (list_any (is_within_range x n) rs) (true_within x n r w)
one_any x n (r ∷ rs) (inr i) = or_right (is_within_range x n r) (list_any (is_within_range x n) rs) (one_any x n rs i)

-- a test decides it, also of ranges that are known to be the same
pub tests_one : (b : Bool) (x n : ℕ) (rs ss : List Range) → rs ≡ ss → b ≡ list_any (is_within_range x n) rs → IsTrue b ↔ IsInOneRange x n ss
tests_one b x n rs ss same t =
    let P : List Range → Type 0 = λ l. IsTrue b ↔ IsInOneRange x n l in
    subst P same (λ h. any_one x n rs (sym t ∙ h), λ h. t ∙ one_any x n rs h)

pub any_fits : (plan : PlanData) (x n : ℕ) → IsPlan plan → list_any (is_within_range x n) plan.rom ≡ true → x + n ≤ 2 ^ 32
any_fits plan x n ok t = rom_fits ok x n (any_one x n plan.rom t)

-- ---- numbers, from the last byte on
pub held_more : (image : ImageData) (y z k b number : ℕ) → z ≡ y + 1 → image_byte image y ≡ Some b → number_in_image image z k ≡ Some number → number_in_image image y (k + 1) ≡ Some (b + 256 * number)
unfolding number_in_image
held_more image y z k b number next byte rest =
    let e : number_in_image image (y + 1) k ≡ Some number = ap (λ a. number_in_image image a k) (sym next) ∙ rest in
    let s : k + 1 ≡ suc k = omega arith in
    ap (number_in_image image y) s
    ∙ ap (λ o. option_and_then (λ b. option_map (λ w. b + 2 ^ 8 * w) (number_in_image image (y + 1) k)) o) byte
    ∙ ap (option_map (λ w. b + 2 ^ 8 * w)) e

pub held_none : (image : ImageData) (x i n : ℕ) → i < n → image_byte image (x + i) ≡ None → number_in_image image x n ≡ None
unfolding number_in_image
held_none image x i zero lt none = absurd (omega arith)
held_none image x zero (suc n) lt none =
    let here : x + 0 ≡ x = omega arith in
    ap (λ o. option_and_then (λ b. option_map (λ w. b + 2 ^ 8 * w) (number_in_image image (x + 1) n)) o) (ap (image_byte image) (sym here) ∙ none)
held_none image x (suc i) (suc n) lt none =
    let next : x + suc i ≡ x + 1 + i = omega arith in
    let rest = held_none image (x + 1) i n (omega arith) (ap (image_byte image) (sym next) ∙ none) in
    later (image_byte image x) (number_in_image image (x + 1) n) rest
  where
    later : (o p : Option ℕ) → p ≡ None → option_and_then (λ b. option_map (λ w. b + 2 ^ 8 * w) p) o ≡ None
    later None p e = refl
    later (Some b) p e = ap (option_map (λ w. b + 2 ^ 8 * w)) e

pub number_lt : (k b number : ℕ) → k < 4 → b < 256 → number < 2 ^ (8 * k) → b + 256 * number < 2 ^ (8 * (k + 1))
number_lt zero b number lt byte below = omega arith
number_lt (suc zero) b number lt byte below = omega arith
number_lt (suc (suc zero)) b number lt byte below = omega arith
number_lt (suc (suc (suc zero))) b number lt byte below = omega arith
number_lt (suc (suc (suc (suc k)))) b number lt byte below = absurd (omega arith)

pub number_fits : (k b number : ℕ) → k < 4 → b < 256 → number < 2 ^ (8 * k) → b + 256 * number < 2 ^ 32
number_fits zero b number lt byte below = omega arith
number_fits (suc zero) b number lt byte below = omega arith
number_fits (suc (suc zero)) b number lt byte below = omega arith
number_fits (suc (suc (suc zero))) b number lt byte below = omega arith
number_fits (suc (suc (suc (suc k)))) b number lt byte below = absurd (omega arith)
