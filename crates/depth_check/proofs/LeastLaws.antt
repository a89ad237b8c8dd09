-- The least rule that fails, from the least rules of parts.
use Rattle.std.proofs.Common.{◌≡◌, ℕ, ◌≤◌, Bool, true, false, Option, Some, None, min, arith, inl, inr, refl, subst, sym}
use Rattle.std.specs.Prelude.{IsTrue, ◌↔◌}
use Rattle.std.proofs.lemmas.Bool.{cases_lt}
use Rattle.depth_check.specs.LeastBroken.{FindsLeastBroken, IsLeastBrokenRule, lesser_broken_rule, broken_rule_unless}

-- a test decides what a single rule asks
pub found_by : (b : Bool) (r : ℕ) (X : Type 0) → r ≤ 14 → (IsTrue b ↔ X) → FindsLeastBroken (λ q. r ≡ q → X) (broken_rule_unless b r)
found_by true r X small d = λ q e. d.0 refl
found_by false r X small d = record {
  broken = λ h. let t : false ≡ true = d.1 (h refl) in cc;
  least = λ q lt e. absurd (omega arith);
  known = small;
}

-- two parts
pub found_both : (P Q : ℕ → Type 0) (a b : Option ℕ) → FindsLeastBroken P a → FindsLeastBroken Q b → FindsLeastBroken (λ q. P q × Q q) (lesser_broken_rule a b)
found_both P Q None None f g = λ q. (f q, g q)
found_both P Q None (Some b) f g = record { broken = λ h. g.broken h.1; least = λ q lt. (f q, g.least q lt); known = g.known }
found_both P Q (Some a) None f g = record { broken = λ h. f.broken h.0; least = λ q lt. (f.least q lt, g q); known = f.known }
found_both P Q (Some a) (Some b) f g =
    elim (cases_lt b a) [
      | inl lt ↦
          let e : min a b ≡ b = omega arith in
          subst (λ n. IsLeastBrokenRule (λ q. P q × Q q) n) (sym e) (record { broken = λ h. g.broken h.1; least = λ q l. (f.least q (omega arith), g.least q l); known = g.known })
      | inr le ↦
          let e : min a b ≡ a = omega arith in
          subst (λ n. IsLeastBrokenRule (λ q. P q × Q q) n) (sym e) (record { broken = λ h. f.broken h.0; least = λ q l. (f.least q l, g.least q (omega arith)); known = f.known })
    ]

-- the least rule for equivalent facts
pub found_same : (P Q : ℕ → Type 0) (o : Option ℕ) → ((q : ℕ) → P q → Q q) → ((q : ℕ) → Q q → P q) → FindsLeastBroken P o → FindsLeastBroken Q o
found_same P Q None to from f = λ q. to q (f q)
found_same P Q (Some r) to from f = record { broken = λ h. f.broken (from r h); least = λ q lt. to q (f.least q lt); known = f.known }
