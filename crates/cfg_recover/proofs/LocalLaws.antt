-- The least rule whose own part fails.
use Rattle.std.proofs.Common.{◌≡◌, ℕ, ◌%◌, ◌⊎◌, inl, inr, Bool, true, false, List, [], ◌∷◌, Some, None, refl, sym, ap, ◌∙◌, subst}
use Rattle.std.specs.Prelude.{IsTrue, ◌↔◌, ◌==◌}
use Rattle.std.specs.List.{list_all}
use Rattle.std.proofs.lemmas.Bool.{eqb-true, eq-eqb, and_parts, and_from}
use Rattle.elf_image.specs.Images.{ImageData}
use Rattle.tcd_plan.specs.PlanData.{PlanData}
use Rattle.tc_isa.specs.Insts.{InstData}
use Rattle.tc_isa.specs.Meanings.{shape_of}
use Rattle.tc_isa.specs.declared.shapes.Shape.{Shape}
use Rattle.tc_isa.specs.declared.shapes.Shape.TheVariants.{Load, Store}
use Rattle.value_domain.specs.declared.values.Val.{Val}
use Rattle.value_domain.specs.declared.states.State.{State}
use Rattle.value_domain.specs.Limits.{Limits}
use Rattle.value_domain.specs.Sets.{Among}
use Rattle.value_domain.specs.Values.{members, IsWellFormed, word_val}
use Rattle.value_domain.proofs.CoverLaws.{member_same}
use Rattle.vd_transfer.specs.EffectsOnStates.{address_of_access}
use Rattle.tcd_plan.specs.MappedAddresses.{IsStoreInRange}
use Rattle.store_ranges.specs.Accesses.{AreAligned, AreStoresInRange, are_aligned}
use Rattle.depth_cert.specs.declared.keys.Key.{Key}
use Rattle.cfg_recover.specs.Code.{IsCode}
use Rattle.cfg_recover.specs.LocalRules.{StoresInRange, IsAccessAllowed, LocalRuleHolds, LocalRuleHoldsAtPoint, StoresInRangeAtValue, IsAccessAllowedAtValue}
use Rattle.cfg_recover.specs.LocalFaults.{IsLocalFault, IsLeastLocalFault, IsFaultlessInst}
use Rattle.cfg_recover.proofs.CodeLaws.{IsCode-one}

-- ---- alignment
all_at : (n : ℕ) (xs : List ℕ) (z : ℕ) → list_all (λ x. x % n == 0) xs ≡ true → Among z xs → z % n ≡ 0
all_at n [] z t i = absurd i
all_at n (x ∷ xs) z t i =
    let both = and_parts (x % n == 0) (list_all (λ x. x % n == 0) xs) t in
    elim i [ inl e ↦ ap (λ (y : ℕ). y % n) e ∙ eqb-true (x % n) 0 both.0 | inr j ↦ all_at n xs z both.1 j ]

all_from : (n : ℕ) (xs : List ℕ) → ((z : ℕ) → Among z xs → z % n ≡ 0) → list_all (λ x. x % n == 0) xs ≡ true
all_from n [] each = refl
all_from n (x ∷ xs) each = and_from _ _ (eq-eqb (x % n) 0 (each x (inl refl))) (all_from n xs (λ z i. each z (inr i)))

-- the listed members of a value are multiples if and only if all its members are
pub are_aligned-is : (v : Val) (size : ℕ) → IsWellFormed v → AreAligned v size ↔ (are_aligned v size ≡ true)
are_aligned-is v size well =
    (λ each. all_from size (members v) (λ z i. each z ((member_same v z well).1 i)), λ t x i. all_at size (members v) x t ((member_same v x well).0 i))

-- if the trap isn't stated, an access is allowed only if all its addresses are aligned
pub allowed_untrapped : (fields plan : PlanData) (t : Bool) (v : Val) (size : ℕ) → IsWellFormed v → fields ≡ plan → fields.aln ≡ false → IsTrue t ↔ AreAligned v size → IsTrue t ↔ ((are_aligned v size ≡ true) ⊎ (plan.aln ≡ true))
allowed_untrapped fields plan t v size well e off is =
    let same = are_aligned-is v size well in
    (λ h. inl (same.0 (is.0 h)), λ h. elim h [ inl a ↦ is.1 (same.1 a) | inr on ↦ let none : plan.aln ≡ false = ap (λ (p : PlanData). p.aln) (sym e) ∙ off in cc ])

-- ---- accesses at the address
stores_same : (b : Limits) (plan : PlanData) (s : State) (shape : Shape) → StoresInRangeAtValue plan (address_of_access b plan shape s) shape ↔ StoresInRange b plan s shape
stores_same b plan s (Store src base offset size after) = (λ h. h, λ h. h)
stores_same b plan s _ = (λ h. h, λ h. h)

access_same : (b : Limits) (plan : PlanData) (s : State) (shape : Shape) → IsAccessAllowedAtValue plan (address_of_access b plan shape s) shape ↔ IsAccessAllowed b plan s shape
access_same b plan s (Load dst base offset size signed after) = (λ h. h, λ h. h)
access_same b plan s (Store src base offset size after) = (λ h. h, λ h. h)
access_same b plan s _ = (λ h. h, λ h. h)

pub StoresInRange-at : (b : Limits) (plan : PlanData) (s : State) (shape : Shape) (at : Val) (t : Bool) → at ≡ address_of_access b plan shape s → IsTrue t ↔ StoresInRangeAtValue plan at shape → IsTrue t ↔ StoresInRange b plan s shape
StoresInRange-at b plan s shape at t e is =
    let there : IsTrue t ↔ StoresInRangeAtValue plan (address_of_access b plan shape s) shape = subst (λ (v : Val). IsTrue t ↔ StoresInRangeAtValue plan v shape) e is in
    let same = stores_same b plan s shape in
    (λ h. same.0 (there.0 h), λ h. there.1 (same.1 h))

pub MayAccess-at : (b : Limits) (plan : PlanData) (s : State) (shape : Shape) (at : Val) (t : Bool) → at ≡ address_of_access b plan shape s → IsTrue t ↔ IsAccessAllowedAtValue plan at shape → IsTrue t ↔ IsAccessAllowed b plan s shape
MayAccess-at b plan s shape at t e is =
    let there : IsTrue t ↔ IsAccessAllowedAtValue plan (address_of_access b plan shape s) shape = subst (λ (v : Val). IsTrue t ↔ IsAccessAllowedAtValue plan v shape) e is in
    let same = access_same b plan s shape in
    (λ h. same.0 (there.0 h), λ h. there.1 (same.1 h))

pub word_allowed : (fields plan : PlanData) (x size : ℕ) → fields ≡ plan → fields.aln ≡ false → IsTrue (x % size == 0) ↔ ((are_aligned (word_val x) size ≡ true) ⊎ (plan.aln ≡ true))
word_allowed fields plan x size e off = (
  (λ h. inl (and_from (x % size == 0) true h refl)),
  (λ h. elim h [ inl a ↦ (and_parts (x % size == 0) true a).0 | inr on ↦ let none : plan.aln ≡ false = ap (λ (p : PlanData). p.aln) (sym e) ∙ off in cc ]),
)

-- the only access from one word
pub word_stores : (plan : PlanData) (x size : ℕ) (t : Bool) → IsTrue t ↔ IsStoreInRange plan (x, size) → IsTrue t ↔ AreStoresInRange plan (word_val x) size
word_stores plan x size t is = (
  (λ h y i. elim i [ inl e ↦ subst (λ (z : ℕ). IsStoreInRange plan (z, size)) (sym e) (is.0 h) | inr none ↦ absurd none ]),
  (λ each. is.1 (each x (inl refl))),
)

-- ---- the least rule that fails
-- if a test says no, P doesn't hold
pub ruled_out : {P : Type 0} (t : Bool) → IsTrue t ↔ P → t ≡ false → P → ⊥
ruled_out t is off h = let on : t ≡ true = is.1 h in cc

-- ---- at an address
-- what holds for the shape that was found there holds there
pub LocalHolds-found : (b : Limits) (image : ImageData) (plan : PlanData) (key : Key) (p : ℕ) (s : State) (shape : Shape) (n r : ℕ) → IsCode image plan p shape n → LocalRuleHolds b plan key p s shape r → LocalRuleHoldsAtPoint b image plan key p s r
LocalHolds-found b image plan key p s shape n r code holds = record {
  code = λ e. record { shape = shape; size = n; code = code };
  own = λ t m other. subst (λ (x : Shape). LocalRuleHolds b plan key p s x r) (IsCode-one image plan p shape t n m code other).0 holds;
}

pub IsLocalFault-broken : (b : Limits) (image : ImageData) (plan : PlanData) (key : Key) (p : ℕ) (s : State) (shape : Shape) (n r : ℕ) → IsCode image plan p shape n → IsLeastLocalFault b plan key p s shape (Some r) → IsLocalFault b image plan key p s r
IsLocalFault-broken b image plan key p s shape n r code least = record {
  fails = λ holds. least.0 (holds.own shape n code);
  least = λ q lt. LocalHolds-found b image plan key p s shape n q code (least.1 q lt);
}

pub FindsFaultless-whole : (b : Limits) (image : ImageData) (plan : PlanData) (key : Key) (p : ℕ) (s : State) (inst : InstData) (n : ℕ) → IsCode image plan p (shape_of inst) n → IsLeastLocalFault b plan key p s (shape_of inst) None → IsFaultlessInst b image plan key p s (inst, n)
FindsFaultless-whole b image plan key p s inst n code whole = record {
  faultless = λ r. LocalHolds-found b image plan key p s (shape_of inst) n r code (whole r);
  code = code;
}
