-- Bytes that are written into pages one after another.
use Rattle.std.proofs.Common.{◌≡◌, ◌≢◌, ◌+◌, ◌-◌, ◌/◌, ◌%◌, ◌^◌, ◌<◌, ◌≤◌, ℕ, Bool, true, cond, List, ◌++◌, length, get_or, take, drop, All, Some, None, inl, inr, refl, sym, ap, ◌∙◌, subst, arith, length-set}
use Rattle.std.specs.Prelude.{is_some}
use Rattle.std.proofs.lemmas.Bool.{cases_eq, cases_lt}
use Rattle.std.proofs.lemmas.List.{length-take, length-drop, length-append, get_or_append_left, get_or-append_right, get_or-take, get_or-drop, get_or-set_same}
use Rattle.std.proofs.lemmas.List.Elements.{All-get_or}
use Rattle.std.proofs.lemmas.List.Edits.{length-between, get_or-between}
use Rattle.std.specs.FinMap as finite
use Rattle.csa_chain.specs.MemoryBytes.{Memory, is_mapped}
use Rattle.tc_mem.specs.Pages.{is_page_bit_set, page_byte_at, memory_of, page_bytes_with, AreOrderedPages, page_number_of}
use Rattle.tc_mem.specs.Written.{IsMemoryWritten}
use Rattle.tc_mem.specs.declared.page.Page.{Page}
use Rattle.tc_mem.proofs.Search.{no_page}
use Rattle.tc_mem.proofs.Mapped.{byte_of_same, byte_of_other, get-memory_of, byte_in_set}
use Rattle.tc_mem.proofs.Stored.{IsAt, with_bytes, changed, ArePages-changed, page_at, get_found, mapped_found}
use Rattle.tc_mem.proofs.AreaLaws.{clash}
use Rattle.tc_mem.proofs.Accesses.{unmapped}

-- ---- bytes in place of others
module _ (bytes : List ℕ) (o : ℕ) (new : List ℕ) (fits : o + length new ≤ length bytes) where
  front_size : length (take o bytes) ≡ o
  front_size = let e = length-take o bytes in omega arith

  pub put_size : length (page_bytes_with bytes o new) ≡ length bytes
  put_size =
      let front = front_size in
      let all = length-append (take o bytes) (new ++ drop (o + length new) bytes) in
      let rest = length-append new (drop (o + length new) bytes) in
      let last = length-drop (o + length new) bytes in
      omega arith

  put_below : (k : ℕ) → k < o → get_or (page_bytes_with bytes o new) k 0 ≡ get_or bytes k 0
  put_below k lt =
      let front = front_size in
      get_or_append_left (take o bytes) (new ++ drop (o + length new) bytes) 0 k (omega arith) ∙ get_or-take o bytes k 0 lt

  put_here : (k : ℕ) → k < length new → get_or (page_bytes_with bytes o new) (o + k) 0 ≡ get_or new k 0
  put_here k lt =
      let front = front_size in
      let place : o + k - o ≡ k = omega arith in
      get_or-append_right (take o bytes) (new ++ drop (o + length new) bytes) o (o + k) 0 front (omega arith)
      ∙ ap (λ (i : ℕ). get_or (new ++ drop (o + length new) bytes) i 0) place
      ∙ get_or_append_left new (drop (o + length new) bytes) 0 k lt

  put_above : (k : ℕ) → o + length new ≤ k → get_or (page_bytes_with bytes o new) k 0 ≡ get_or bytes k 0
  put_above k le =
      let front = front_size in
      let back : o + length new + (k - o - length new) ≡ k = omega arith in
      get_or-append_right (take o bytes) (new ++ drop (o + length new) bytes) o k 0 front (omega arith)
      ∙ get_or-append_right new (drop (o + length new) bytes) (length new) (k - o) 0 refl (omega arith)
      ∙ get_or-drop (o + length new) bytes (k - o - length new) 0
      ∙ ap (λ (i : ℕ). get_or bytes i 0) back

  pub put_small : ((k : ℕ) → get_or bytes k 0 < 256) → All (λ b. b < 2 ^ 8) new → (k : ℕ) → get_or (page_bytes_with bytes o new) k 0 < 256
  put_small old small k =
      elim (cases_lt k o) [
        | inl below ↦ rw (put_below k below) (old k)
        | inr above ↦ elim (cases_lt k (o + length new)) [
          | inl within ↦
              let place : o + (k - o) ≡ k = omega arith in
              let byte = All-get_or (λ b. b < 2 ^ 8) new (k - o) 0 (omega arith) small in
              let there = ap (λ (i : ℕ). get_or (page_bytes_with bytes o new) i 0) (sym place) ∙ put_here (k - o) (omega arith) in
              rw there byte
          | inr beyond ↦ rw (put_above k beyond) (old k)
        ]
      ]

-- ---- a page with other bytes
module _ (ps : List Page) (i n : ℕ) (bytes : List ℕ) (at : IsAt ps i n) (size : length bytes ≡ 4096) where
  after : AreOrderedPages (changed ps i bytes)
  after = ArePages-changed ps i bytes at.pages at.within size

  there : get_or (changed ps i bytes) i no_page ≡ with_bytes (get_or ps i no_page) bytes
  there = get_or-set_same ps i (with_bytes (get_or ps i no_page) bytes) no_page at.within

  within_after : i < length (changed ps i bytes)
  within_after = rw length-set at.within

  get_same : (q : ℕ) → n ≡ q / 4096 → finite.get (memory_of (changed ps i bytes)) q ≡ cond (is_page_bit_set (get_or ps i no_page).mapped (q % 4096)) (Some (get_or bytes (q % 4096) 0)) None
  get_same q same =
      get_found q (changed ps i bytes) i after within_after (ap page_number_of there ∙ at.number ∙ same)
      ∙ ap (page_byte_at q) there
      ∙ byte_of_same q (with_bytes (get_or ps i no_page) bytes) (at.number ∙ same)

  get_other : (q : ℕ) → n ≢ q / 4096 → finite.get (memory_of (changed ps i bytes)) q ≡ finite.get (memory_of ps) q
  get_other q other =
      let apart : page_number_of (get_or ps i no_page) ≢ q / 4096 = λ e. other (sym at.number ∙ e) in
      get-memory_of (changed ps i bytes) q after.whole
      ∙ byte_in_set q ps i (with_bytes (get_or ps i no_page) bytes) at.within (byte_of_other q (with_bytes (get_or ps i no_page) bytes) apart ∙ sym (byte_of_other q (get_or ps i no_page) apart))
      ∙ sym (get-memory_of ps q at.pages.whole)

  mapped_same : (q : ℕ) → is_mapped (memory_of (changed ps i bytes)) q ≡ is_mapped (memory_of ps) q
  mapped_same q =
      elim (cases_eq n (q / 4096)) [
        | inl same ↦
            mapped_found q (changed ps i bytes) i after within_after (ap page_number_of there ∙ at.number ∙ same)
            ∙ ap (λ (p : Page). is_page_bit_set p.mapped (q % 4096)) there
            ∙ sym (mapped_found q ps i at.pages at.within (at.number ∙ same))
        | inr other ↦ ap is_some (get_other q other)
      ]

-- bytes that are written into one page
pub page_written : (ps : List Page) (i a : ℕ) (new : List ℕ) → IsAt ps i (a / 4096) → a % 4096 + length new ≤ 4096 →
    IsMemoryWritten (memory_of ps) a new (memory_of (changed ps i (page_bytes_with (get_or ps i no_page).bytes (a % 4096) new)))
page_written ps i a new at fit =
    let p : Page = get_or ps i no_page in
    let size : length p.bytes ≡ 4096 = (page_at ps i at.pages at.within).bytes in
    let fits : a % 4096 + length new ≤ length p.bytes = omega arith in
    let bytes : List ℕ = page_bytes_with p.bytes (a % 4096) new in
    let all : length bytes ≡ 4096 = put_size p.bytes (a % 4096) new fits ∙ size in
    record {
      mapped = mapped_same ps i (a / 4096) bytes at all;
      here = λ k lt is.
          let same : a / 4096 ≡ (a + k) / 4096 = omega arith in
          let place : (a + k) % 4096 ≡ a % 4096 + k = omega arith in
          let is_here : is_page_bit_set p.mapped ((a + k) % 4096) ≡ true = sym (mapped_found (a + k) ps i at.pages at.within (at.number ∙ same)) ∙ is in
          get_same ps i (a / 4096) bytes at all (a + k) same
          ∙ ap (λ (t : Bool). cond t (Some (get_or bytes ((a + k) % 4096) 0)) None) is_here
          ∙ ap (λ (j : ℕ). Some (get_or bytes j 0)) place
          ∙ ap (λ (b : ℕ). Some b) (put_here p.bytes (a % 4096) new fits k lt);
      elsewhere = λ q out.
          elim (cases_eq (a / 4096) (q / 4096)) [
            | inl same ↦
                let kept : get_or bytes (q % 4096) 0 ≡ get_or p.bytes (q % 4096) 0 =
                elim out [
                  | inl low ↦ put_below p.bytes (a % 4096) new fits (q % 4096) (omega arith)
                  | inr high ↦ put_above p.bytes (a % 4096) new fits (q % 4096) (omega arith)
                ] in
                get_same ps i (a / 4096) bytes at all q same
                ∙ ap (λ (b : ℕ). cond (is_page_bit_set p.mapped (q % 4096)) (Some b) None) kept
                ∙ sym (byte_of_same q p (at.number ∙ same))
                ∙ sym (get_found q ps i at.pages at.within (at.number ∙ same))
            | inr other ↦ get_other ps i (a / 4096) bytes at all q other
          ];
    }

-- no page has the bytes
pub none_written : (ps : List Page) (a : ℕ) (new : List ℕ) → AreOrderedPages ps → All (λ p. page_number_of p ≢ a / 4096) ps → a % 4096 + length new ≤ 4096 → IsMemoryWritten (memory_of ps) a new (memory_of ps)
none_written ps a new pages none fit = record {
  mapped = λ q. refl;
  here = λ k lt is.
      let same : a / 4096 ≡ (a + k) / 4096 = omega arith in
      absurd (clash (sym is ∙ unmapped ps (a + k) pages (subst (λ (n : ℕ). All (λ p. page_number_of p ≢ n) ps) same none)));
  elsewhere = λ q out. refl;
}

-- ---- one part after another
pub nothing_written : (m : Memory) (x : ℕ) (bs : List ℕ) → IsMemoryWritten m x (take 0 bs) m
nothing_written m x bs = record { mapped = λ q. refl; here = λ k lt is. absurd (omega arith); elsewhere = λ q out. refl }

pub more_written : (m now new : Memory) (x y k l : ℕ) (bs : List ℕ) → IsMemoryWritten m x (take k bs) now → IsMemoryWritten now y (take (l - k) (drop k bs)) new → y ≡ x + k → k ≤ l → l ≤ length bs → IsMemoryWritten m x (take l bs) new
more_written m now new x y k l bs before more is le most =
    let size_k : length (take k bs) ≡ k = (let e = length-take k bs in omega arith) in
    let size_l : length (take l bs) ≡ l = (let e = length-take l bs in omega arith) in
    let size : length (take (l - k) (drop k bs)) ≡ l - k = length-between bs k l most in
    record {
      mapped = λ q. more.mapped q ∙ before.mapped q;
      here = λ j lt mapped_here.
          elim (cases_lt j k) [
            | inl early ↦
                more.elsewhere (x + j) (inl (omega arith))
                ∙ before.here j (omega arith) mapped_here
                ∙ ap (λ (b : ℕ). Some b) (get_or-take k bs j 0 early ∙ sym (get_or-take l bs j 0 (omega arith)))
            | inr late ↦
                let place : y + (j - k) ≡ x + j = omega arith in
                let back : k + (j - k) ≡ j = omega arith in
                ap (finite.get new) (sym place)
                ∙ more.here (j - k) (omega arith) (ap (is_mapped now) place ∙ before.mapped (x + j) ∙ mapped_here)
                ∙ ap (λ (b : ℕ). Some b) (get_or-between bs k l (j - k) 0 (omega arith) ∙ ap (λ (i : ℕ). get_or bs i 0) back ∙ sym (get_or-take l bs j 0 (omega arith)))
          ];
      elsewhere = λ q out.
          elim out [
            | inl low ↦ more.elsewhere q (inl (omega arith)) ∙ before.elsewhere q (inl low)
            | inr high ↦ more.elsewhere q (inr (omega arith)) ∙ before.elsewhere q (inr (omega arith))
          ];
    }
