-- What a first fault says.
use Rattle.std.proofs.Common.{◌≡◌, ℕ, ◌+◌, ◌*◌, ◌^◌, ◌<◌, ◌≤◌, ◌⊎◌, inl, inr, refl, ap, arith}
use Rattle.std.proofs.lemmas.Bool.{cases_lt}
use Rattle.std.proofs.lemmas.List.Elements.{All-contains}
use Rattle.elf_image.specs.Images.{ImageData}
use Rattle.tcd_plan.specs.PlanData.{PlanData}
use Rattle.depth_cert.specs.declared.keys.Key.{Key}
use Rattle.depth_cert.specs.declared.points.Point.{Point}
use Rattle.depth_cert.specs.Keys.{number_of_key}
use Rattle.depth_cert.specs.Points.{IsPoint}
use Rattle.depth_cert.specs.Nodes.{NodeData, IsNode, need_or_zero}
use Rattle.depth_cert.specs.Certs.{CertData, IsCert}
use Rattle.cfg_recover.specs.Entries.{start_key}
use Rattle.cfg_recover.specs.RulesHoldOrFail.{limits_of_cert, RuleHolds, RulesHoldAtNode, Accepts, RuleFails, at_start, at_entry, at_point}
use Rattle.cfg_recover.specs.FirstFaultLaws.{IsFaultPlace, start, entry, point, FirstFaultsNameFirstFailures, CertifiedNeedIsOfStart}
use Rattle.cfg_recover.proofs.DutyRules.{duty_asked}

-- a certificate with a fault isn't accepted
pub fails_refutes : (image : ImageData) (plan : PlanData) (cert : CertData) (r : ℕ) (k : Key) (p : ℕ) → RuleFails image plan cert r k p → Accepts image plan cert → ⊥
fails_refutes image plan cert _ _ _ (at_start wrong) accepts = wrong accepts.start
fails_refutes image plan cert _ _ _ (at_entry node member wrong) accepts = wrong (All-contains (RulesHoldAtNode image plan cert) cert.nodes node accepts.nodes member).entry
fails_refutes image plan cert _ _ _ (at_point node q r member at wrong) accepts =
    let holds = All-contains (RulesHoldAtNode image plan cert) cert.nodes node accepts.nodes member in
    wrong (All-contains (λ (p : Point). (r : ℕ) → RuleHolds image plan cert node p r) node.points q holds.points at r)

-- only K2 to K14 ask something of a point
no_rule : (image : ImageData) (plan : PlanData) (cert : CertData) (node : NodeData) (q : Point) (r : ℕ) → (r < 2) ⊎ (14 < r) → RuleHolds image plan cert node q r
no_rule image plan cert node q r out =
    let other : (n : ℕ) → 2 ≤ n → n ≤ 14 → r ≡ n → ⊥ = λ n low high e. elim out [ inl h ↦ omega arith | inr h ↦ omega arith ] in
    record {
      values = λ e. absurd (other 2 (omega arith) (omega arith) e);
      own = λ values. record {
        code = λ e. absurd (other 3 (omega arith) (omega arith) e);
        own = λ shape n code. record {
          targets = λ e. absurd (other 5 (omega arith) (omega arith) e);
          returns = λ e. absurd (other 6 (omega arith) (omega arith) e);
          exceptions = λ e. absurd (other 7 (omega arith) (omega arith) e);
          room = λ e. absurd (other 8 (omega arith) (omega arith) e);
          stores = λ e. absurd (other 9 (omega arith) (omega arith) e);
          accesses = λ e. absurd (other 10 (omega arith) (omega arith) e);
          system = λ e. absurd (other 12 (omega arith) (omega arith) e);
          writes = λ e. absurd (other 13 (omega arith) (omega arith) e);
        };
      };
      covered = λ shape n d alone c e.
          let asked = duty_asked (limits_of_cert plan cert) image plan node.key q.addr q.state n shape d c in
          absurd (other d.rule (omega (arith, asked.0)) (omega (arith, asked.1)) (let f : r ≡ d.rule = omega arith in f));
      needs = λ shape n e. absurd (other 14 (omega arith) (omega arith) e);
    }

place_of : (image : ImageData) (plan : PlanData) (cert : CertData) (r : ℕ) (k : Key) (p : ℕ) → RuleFails image plan cert r k p → IsFaultPlace image plan cert r k p
place_of image plan cert _ _ _ (at_start wrong) = start wrong
place_of image plan cert _ _ _ (at_entry node member wrong) = entry node member wrong
place_of image plan cert _ _ _ (at_point node q r member at wrong) = point node q r member at wrong

fault_at : (image : ImageData) (plan : PlanData) (cert : CertData) (r : ℕ) (k : Key) (p : ℕ) → IsFaultPlace image plan cert r k p → RuleFails image plan cert r k p
fault_at image plan cert _ _ _ (start wrong) = at_start wrong
fault_at image plan cert _ _ _ (entry node member wrong) = at_entry node member wrong
fault_at image plan cert _ _ _ (point node q r member at wrong) = at_point node q r member at wrong

-- ---- the numbers of a place
pub record AreNumbers (image : ImageData) (plan : PlanData) (r : ℕ) (k : Key) (p : ℕ) : Type 0 where
  pub some : 1 ≤ r
  pub most : r ≤ 14
  pub addr : p < 2 ^ 32
  pub one : r ≡ 1 → (k ≡ start_key image plan) × (p ≡ image.entry)

module _ (image : ImageData) (plan : PlanData) (cert : CertData) (small : image.entry < 2 ^ 32) (is_cert : IsCert cert) where
  numbers : (r : ℕ) (k : Key) (p : ℕ) → IsFaultPlace image plan cert r k p → AreNumbers image plan r k p
  numbers _ _ _ (start wrong) = record { some = omega arith; most = omega arith; addr = small; one = λ _. (refl, refl) }
  numbers _ _ _ (entry node member wrong) =
      let is : IsNode cert.version node = All-contains (IsNode cert.version) cert.nodes node is_cert.nodes member in
      record { some = omega arith; most = omega arith; addr = (is.key).entry; one = λ e. absurd (let f : 2 ≡ 1 = e in omega arith) }
  numbers _ _ _ (point node q r member at wrong) =
      let is : IsNode cert.version node = All-contains (IsNode cert.version) cert.nodes node is_cert.nodes member in
      let here : IsPoint cert.version q = All-contains (IsPoint cert.version) node.points q is.points at in
      let low : 2 ≤ r = elim (cases_lt r 2) [ inl lt ↦ absurd (wrong (no_rule image plan cert node q r (inl lt))) | inr ge ↦ ge ] in
      let high : r ≤ 14 = elim (cases_lt 14 r) [ inl lt ↦ absurd (wrong (no_rule image plan cert node q r (inr lt))) | inr ge ↦ ge ] in
      record { some = omega arith; most = high; addr = here.addr; one = λ e. absurd (omega arith) }

-- a fault whose number isn't greater comes before the other, or is it
before : (r a p q c x : ℕ) → p < 2 ^ 32 → x < 2 ^ 32 → r ≤ 14 → q ≤ 14 → (a * 2 ^ 32 + p) * 2 ^ 4 + r ≤ (c * 2 ^ 32 + x) * 2 ^ 4 + q → (a < c) ⊎ (a ≡ c) × ((p < x) ⊎ (p ≡ x) × (r ≤ q))
before r a p q c x p_lt x_lt r_le q_le le =
    elim (cases_lt a c) [
      | inl lt ↦ inl lt
      | inr ge ↦
          let whole : a * 2 ^ 32 + p ≤ c * 2 ^ 32 + x = omega arith in
          let same : a ≡ c = omega arith in
          inr (
            same,
            elim (cases_lt p x) [
              | inl less ↦ inl less
              | inr more ↦ let at : p ≡ x = omega arith in inr (at, omega arith)
            ],
          )
    ]

pub first_faults_say : FirstFaultsNameFirstFailures
first_faults_say image plan cert r k p small is_cert f =
    let place = place_of image plan cert r k p f.fails in
    let own = numbers image plan cert small is_cert r k p place in
    record {
      some = own.some;
      most = own.most;
      addr = own.addr;
      one = own.one;
      place = place;
      start = f.start;
      first = λ q j x other.
          let its = numbers image plan cert small is_cert q j x other in
          elim (f.least q j x (fault_at image plan cert q j x other)) [
            | inl one ↦ inl one
            | inr le ↦ inr (before r (number_of_key k) p q (number_of_key j) x own.addr its.addr own.most its.most le)
          ];
      refuted = λ accepts. fails_refutes image plan cert r k p f.fails accepts;
    }

pub need_says : CertifiedNeedIsOfStart
need_says image plan cert node found = ap need_or_zero found
