-- The sets that the rows cover hold all results, and grow with the operands.
use Rattle.std.proofs.Common.{◌≡◌, ℕ, ◌+◌, ◌-◌, ◌*◌, ◌/◌, ◌%◌, ◌^◌, ◌<◌, ◌≤◌, inl, inr, refl, arith, min, max, bit_and}
use Rattle.std.proofs.lemmas.Bool.{cases_lt, lt-ltb, le-ltb, le-leb, lt-leb}
use Rattle.std.proofs.lemmas.Nat.{and_le_l, and_le_r, shr_le}
use Rattle.std.proofs.Math.Pow.{shr_mono}
use Rattle.std.proofs.Math.Nat.{mul-le-mul_right}
use Rattle.value_domain.specs.Sets.{Among, AreAmong, alignment_log2}
use Rattle.value_domain.specs.Values.{multiples_in_range}
use Rattle.value_domain.proofs.CoverLaws.{range_among, among_range, from_units}
use Rattle.tc_isa.specs.Arithmetic.{logical_shift}
use Rattle.vd_transfer.specs.Intervals.{sum_interval, difference_interval, logical_shift_interval, interval_words}
use Rattle.vd_transfer.proofs.Steps.{twos_add, twos_sub, twos_mod, twos_and_both, twos_shift}

-- a range inside another
pub range_inside : (lo last s lo2 last2 s2 : ℕ) → s ≤ 2 → lo2 ≤ lo → last ≤ last2 → s2 ≤ s → AreAmong (multiples_in_range lo last s) (multiples_in_range lo2 last2 s2)
range_inside lo last s lo2 last2 s2 small a b c z i =
    let m = range_among z lo last s small i in
    among_range z lo2 last2 s2 (omega arith) (omega (arith, m.0), omega (arith, m.1), omega (arith, m.2))

-- x is from a to b, and has step p
pub record Lies (x a b p : ℕ) : Type 0 where
  pub from : a ≤ x
  pub to : x ≤ b
  pub fits : p ≤ alignment_log2 x

-- ---- Add
pub sums_have : (x y a b c d m : ℕ) → m ≤ 2 → Lies x a b m → Lies y c d m → b < 2 ^ 32 → d < 2 ^ 32 → Among ((x + y) % 2 ^ 32) (interval_words (sum_interval a b c d m))
unfolding sum_interval
sums_have x y a b c d m small lx ly bb dd =
    let f : m ≤ alignment_log2 ((x + y) % 2 ^ 32) = twos_mod m small (x + y) (twos_add m small x y lx.fits ly.fits) in
    let r : (x + y) % 2 ^ 32 < 2 ^ 32 = omega arith in
    elim (cases_lt (b + d) (2 ^ 32)) [
      | inl fit ↦ rw (lt-ltb (b + d) (2 ^ 32) fit) (among_range ((x + y) % 2 ^ 32) (a + c) (b + d) m small (omega (arith, lx.from, ly.from, lx.to, ly.to), omega (arith, lx.to, ly.to), f))
      | inr past ↦
          rw (le-ltb (b + d) (2 ^ 32) past)
          (elim (cases_lt (a + c) (2 ^ 32)) [
            | inl some ↦ rw (lt-leb (2 ^ 32) (a + c) some) (among_range ((x + y) % 2 ^ 32) 0 (2 ^ 32 - 1) m small (omega arith, omega arith, f))
            | inr all ↦
                rw (le-leb (2 ^ 32) (a + c) all)
                (among_range ((x + y) % 2 ^ 32) (a + c - 2 ^ 32) (b + d - 2 ^ 32) m small (omega (arith, lx.from, ly.from, lx.to, ly.to), omega (arith, lx.from, ly.from, lx.to, ly.to), f))
          ])
    ]

pub sums_grow : (a b c d m a2 b2 c2 d2 m2 : ℕ) → m ≤ 2 → m2 ≤ m → a ≤ b → c ≤ d → a2 ≤ a → b ≤ b2 → c2 ≤ c → d ≤ d2 → b2 < 2 ^ 32 → d2 < 2 ^ 32
    → AreAmong (interval_words (sum_interval a b c d m)) (interval_words (sum_interval a2 b2 c2 d2 m2))
unfolding sum_interval
sums_grow a b c d m a2 b2 c2 d2 m2 small step ab cd la hb lc hd bb dd =
    elim (cases_lt (b2 + d2) (2 ^ 32)) [
      | inl fit2 ↦
          rw (lt-ltb (b2 + d2) (2 ^ 32) fit2, lt-ltb (b + d) (2 ^ 32) (omega arith))
          (range_inside (a + c) (b + d) m (a2 + c2) (b2 + d2) m2 small (omega arith) (omega arith) step)
      | inr past2 ↦
          rw (le-ltb (b2 + d2) (2 ^ 32) past2)
          (elim (cases_lt (a2 + c2) (2 ^ 32)) [
            | inr all2 ↦
                rw (le-leb (2 ^ 32) (a2 + c2) all2, le-ltb (b + d) (2 ^ 32) (omega arith), le-leb (2 ^ 32) (a + c) (omega arith))
                (range_inside (a + c - 2 ^ 32) (b + d - 2 ^ 32) m (a2 + c2 - 2 ^ 32) (b2 + d2 - 2 ^ 32) m2 small (omega arith) (omega arith) step)
            | inl some2 ↦
                rw (lt-leb (2 ^ 32) (a2 + c2) some2)
                (elim (cases_lt (b + d) (2 ^ 32)) [
                  | inl fit ↦ rw (lt-ltb (b + d) (2 ^ 32) fit) (range_inside (a + c) (b + d) m 0 (2 ^ 32 - 1) m2 small (omega arith) (omega arith) step)
                  | inr past ↦
                      rw (le-ltb (b + d) (2 ^ 32) past)
                      (elim (cases_lt (a + c) (2 ^ 32)) [
                        | inl some ↦ rw (lt-leb (2 ^ 32) (a + c) some) (range_inside 0 (2 ^ 32 - 1) m 0 (2 ^ 32 - 1) m2 small (omega arith) (omega arith) step)
                        | inr all ↦ rw (le-leb (2 ^ 32) (a + c) all) (range_inside (a + c - 2 ^ 32) (b + d - 2 ^ 32) m 0 (2 ^ 32 - 1) m2 small (omega arith) (omega arith) step)
                      ])
                ])
          ])
    ]

-- ---- And
pub ands_have : (x y b d p q : ℕ) → p ≤ 2 → q ≤ 2 → x ≤ b → y ≤ d → p ≤ alignment_log2 x → q ≤ alignment_log2 y → Among (bit_and x y) (multiples_in_range 0 (min b d) (max p q))
ands_have x y b d p q sp sq hx hy fx fy =
    among_range (bit_and x y) 0 (min b d) (max p q) (omega arith)
    (omega arith, omega (arith, and_le_l x y, and_le_r x y), twos_and_both x y p q sp sq fx fy)

pub ands_grow : (b d p q b2 d2 p2 q2 : ℕ) → p ≤ 2 → q ≤ 2 → b ≤ b2 → d ≤ d2 → p2 ≤ p → q2 ≤ q → AreAmong (multiples_in_range 0 (min b d) (max p q)) (multiples_in_range 0 (min b2 d2) (max p2 q2))
ands_grow b d p q b2 d2 p2 q2 sp sq hb hd hp hq = range_inside 0 (min b d) (max p q) 0 (min b2 d2) (max p2 q2) (omega arith) (omega arith) (omega arith) (omega arith)

-- ---- Sh by n
pub shifts_have : (x a b p n : ℕ) → p ≤ 2 → Lies x a b p → b < 2 ^ 32 → Among (logical_shift x n) (interval_words (logical_shift_interval a b p n))
unfolding logical_shift_interval
shifts_have x a b p n small l bb =
    elim (cases_lt n 32) [
      | inl left ↦
          rw (lt-ltb n 32 left)
          (elim (cases_lt (b * 2 ^ n) (2 ^ 32)) [
            | inl fit ↦
                let below : x * 2 ^ n ≤ b * 2 ^ n = mul-le-mul_right (2 ^ n) l.to in
                let over : a * 2 ^ n ≤ x * 2 ^ n = mul-le-mul_right (2 ^ n) l.from in
                let same : x * 2 ^ n % 2 ^ 32 ≡ x * 2 ^ n = omega arith in
                rw (lt-ltb (b * 2 ^ n) (2 ^ 32) fit, same)
                (among_range (x * 2 ^ n) (a * 2 ^ n) (b * 2 ^ n) (min 2 (p + n)) (omega arith) (over, below, twos_shift n p x small l.fits))
            | inr past ↦
                rw (le-ltb (b * 2 ^ n) (2 ^ 32) past)
                (among_range (x * 2 ^ n % 2 ^ 32) 0 (2 ^ 32 - 1) (min 2 (p + n)) (omega arith)
                (omega arith, omega arith, twos_mod (min 2 (p + n)) (omega arith) (x * 2 ^ n) (twos_shift n p x small l.fits)))
          ])
      | inr right ↦
          rw (le-ltb n 32 right)
          (among_range (x / 2 ^ (64 - n)) (a / 2 ^ (64 - n)) (b / 2 ^ (64 - n)) 0 (omega arith)
          (shr_mono (64 - n) l.from, shr_mono (64 - n) l.to, omega arith))
    ]

pub shifts_grow : (a b p n a2 b2 p2 : ℕ) → p ≤ 2 → a2 ≤ a → b ≤ b2 → p2 ≤ p → AreAmong (interval_words (logical_shift_interval a b p n)) (interval_words (logical_shift_interval a2 b2 p2 n))
unfolding logical_shift_interval
shifts_grow a b p n a2 b2 p2 small la hb hp =
    let low : a2 * 2 ^ n ≤ a * 2 ^ n = mul-le-mul_right (2 ^ n) la in
    let high : b * 2 ^ n ≤ b2 * 2 ^ n = mul-le-mul_right (2 ^ n) hb in
    elim (cases_lt n 32) [
      | inl left ↦
          rw (lt-ltb n 32 left)
          (elim (cases_lt (b2 * 2 ^ n) (2 ^ 32)) [
            | inl fit2 ↦
                rw (lt-ltb (b2 * 2 ^ n) (2 ^ 32) fit2, lt-ltb (b * 2 ^ n) (2 ^ 32) (omega arith))
                (range_inside (a * 2 ^ n) (b * 2 ^ n) (min 2 (p + n)) (a2 * 2 ^ n) (b2 * 2 ^ n) (min 2 (p2 + n)) (omega arith) low high (omega arith))
            | inr past2 ↦
                rw (le-ltb (b2 * 2 ^ n) (2 ^ 32) past2)
                (elim (cases_lt (b * 2 ^ n) (2 ^ 32)) [
                  | inl fit ↦ rw (lt-ltb (b * 2 ^ n) (2 ^ 32) fit) (range_inside (a * 2 ^ n) (b * 2 ^ n) (min 2 (p + n)) 0 (2 ^ 32 - 1) (min 2 (p2 + n)) (omega arith) (omega arith) (omega arith) (omega arith))
                  | inr past ↦ rw (le-ltb (b * 2 ^ n) (2 ^ 32) past) (range_inside 0 (2 ^ 32 - 1) (min 2 (p + n)) 0 (2 ^ 32 - 1) (min 2 (p2 + n)) (omega arith) (omega arith) (omega arith) (omega arith))
                ])
          ])
      | inr right ↦
          rw (le-ltb n 32 right)
          (range_inside (a / 2 ^ (64 - n)) (b / 2 ^ (64 - n)) 0 (a2 / 2 ^ (64 - n)) (b2 / 2 ^ (64 - n)) 0 (omega arith) (shr_mono (64 - n) la) (shr_mono (64 - n) hb) (omega arith))
    ]

-- a shift's set has words alone
pub shifts_below : (a b p n z : ℕ) → p ≤ 2 → b < 2 ^ 32 → Among z (interval_words (logical_shift_interval a b p n)) → z < 2 ^ 32
unfolding logical_shift_interval
shifts_below a b p n z small bb i =
    elim (cases_lt n 32) [
      | inl left ↦
          let j = rw (lt-ltb n 32 left) at i in
          elim (cases_lt (b * 2 ^ n) (2 ^ 32)) [
            | inl fit ↦
                let k = range_among z (a * 2 ^ n) (b * 2 ^ n) (min 2 (p + n)) (omega arith) (rw (lt-ltb (b * 2 ^ n) (2 ^ 32) fit) at j) in
                omega (arith, k.1)
            | inr past ↦
                let k = range_among z 0 (2 ^ 32 - 1) (min 2 (p + n)) (omega arith) (rw (le-ltb (b * 2 ^ n) (2 ^ 32) past) at j) in
                omega (arith, k.1)
          ]
      | inr right ↦
          let k = range_among z (a / 2 ^ (64 - n)) (b / 2 ^ (64 - n)) 0 (omega arith) (rw (le-ltb n 32 right) at i) in
          omega (arith, k.1, shr_le b (64 - n))
    ]

-- ---- Sub
pub differences_have : (x y a b c d m : ℕ) → m ≤ 2 → Lies x a b m → Lies y c d m → b < 2 ^ 32 → d < 2 ^ 32 → Among ((x + 2 ^ 32 - y) % 2 ^ 32) (interval_words (difference_interval a b c d m))
unfolding difference_interval
differences_have x y a b c d m small lx ly bb dd =
    let lift : m ≤ alignment_log2 (x + 2 ^ 32) = twos_add m small x (2 ^ 32) lx.fits (le_trans_2 m small) in
    let f : m ≤ alignment_log2 ((x + 2 ^ 32 - y) % 2 ^ 32) = twos_mod m small (x + 2 ^ 32 - y) (twos_sub m small (x + 2 ^ 32) y lift ly.fits) in
    elim (cases_lt a d) [
      | inr fit ↦ rw (le-leb d a fit) (among_range ((x + 2 ^ 32 - y) % 2 ^ 32) (a - d) (b - c) m small (omega (arith, lx.from, ly.from, lx.to, ly.to), omega (arith, lx.from, ly.from, lx.to, ly.to), f))
      | inl past ↦
          rw (lt-leb d a past)
          (elim (cases_lt b c) [
            | inl all ↦
                rw (lt-ltb b c all)
                (among_range ((x + 2 ^ 32 - y) % 2 ^ 32) (a + 2 ^ 32 - d) (b + 2 ^ 32 - c) m small (omega (arith, lx.from, ly.from, lx.to, ly.to), omega (arith, lx.from, ly.from, lx.to, ly.to), f))
            | inr some ↦ rw (le-ltb b c some) (among_range ((x + 2 ^ 32 - y) % 2 ^ 32) 0 (2 ^ 32 - 1) m small (omega arith, omega arith, f))
          ])
    ]
  where
    le_trans_2 : (m : ℕ) → m ≤ 2 → m ≤ alignment_log2 (2 ^ 32)
    le_trans_2 m small = let t : 2 ≤ alignment_log2 (2 ^ 32) = from_units 2 (omega arith) (2 ^ 30) (2 ^ 32) refl in omega arith

pub differences_grow : (a b c d m a2 b2 c2 d2 m2 : ℕ) → m ≤ 2 → m2 ≤ m → a ≤ b → c ≤ d → a2 ≤ a → b ≤ b2 → c2 ≤ c → d ≤ d2 → b2 < 2 ^ 32 → d2 < 2 ^ 32
    → AreAmong (interval_words (difference_interval a b c d m)) (interval_words (difference_interval a2 b2 c2 d2 m2))
unfolding difference_interval
differences_grow a b c d m a2 b2 c2 d2 m2 small step ab cd la hb lc hd bb dd =
    elim (cases_lt a2 d2) [
      | inr fit2 ↦
          rw (le-leb d2 a2 fit2, le-leb d a (omega arith))
          (range_inside (a - d) (b - c) m (a2 - d2) (b2 - c2) m2 small (omega arith) (omega arith) step)
      | inl past2 ↦
          rw (lt-leb d2 a2 past2)
          (elim (cases_lt b2 c2) [
            | inl all2 ↦
                rw (lt-ltb b2 c2 all2, lt-leb d a (omega arith), lt-ltb b c (omega arith))
                (range_inside (a + 2 ^ 32 - d) (b + 2 ^ 32 - c) m (a2 + 2 ^ 32 - d2) (b2 + 2 ^ 32 - c2) m2 small (omega arith) (omega arith) step)
            | inr some2 ↦
                rw (le-ltb b2 c2 some2)
                (elim (cases_lt a d) [
                  | inr fit ↦ rw (le-leb d a fit) (range_inside (a - d) (b - c) m 0 (2 ^ 32 - 1) m2 small (omega arith) (omega arith) step)
                  | inl past ↦
                      rw (lt-leb d a past)
                      (elim (cases_lt b c) [
                        | inl all ↦ rw (lt-ltb b c all) (range_inside (a + 2 ^ 32 - d) (b + 2 ^ 32 - c) m 0 (2 ^ 32 - 1) m2 small (omega arith) (omega arith) step)
                        | inr some ↦ rw (le-ltb b c some) (range_inside 0 (2 ^ 32 - 1) m 0 (2 ^ 32 - 1) m2 small (omega arith) (omega arith) step)
                      ])
                ])
          ])
    ]
