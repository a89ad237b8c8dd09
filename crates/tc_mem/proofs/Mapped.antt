-- The memory of a list of pages: its byte at an address, and what a write of a byte changes.
use Rattle.std.proofs.Common.{◌≡◌, ◌≢◌, ◌+◌, ◌-◌, ◌*◌, ◌/◌, ◌%◌, ◌<◌, ◌==◌, ℕ, zero, suc, Bool, true, false, cond, List, [], ◌∷◌, ◌++◌, map, length, get_or, set, All, Option, Some, None, inl, inr, refl, sym, ap, ◌∙◌, arith}
use Rattle.std.specs.Prelude.{nat_le, slice_get}
use Rattle.std.proofs.lemmas.Bool.{cases_lt, cases_eq, cases_order, eq-eqb, ne_eqb, le-leb, lt-leb}
use Rattle.std.proofs.lemmas.List.{length-map}
use Rattle.std.proofs.Math.Seq.{map-set_same}
use Rattle.std.proofs.lemmas.List.Elements.{All-head, All-tail, All-set, All-from_get_or}
use Rattle.std.proofs.lemmas.Option.{slice_get-get_or, slice_get_past}
use Rattle.std.specs.FinMap as finite
use Rattle.std.specs.FinMap.{find, get-from_entries}
use Rattle.std.specs.Ordering.{nat_cmp, eq_by_cmp}
use Rattle.std.specs.Cmp.{nat_cmp_total, unsigned_tied}
use Rattle.tc_mem.specs.Pages.{is_page_bit_set, page_byte_at, page_entries_from, entries_of_pages, memory_of, IsPage, AreOrderedPages, page_number_of}
use Rattle.tc_mem.specs.declared.page.Page.{Page}
use Rattle.tc_mem.proofs.Search.{no_page, number_at_is, rises}

abbrev pub or_else : Option ℕ → Option ℕ → Option ℕ
or_else None other = other
or_else (Some x) other = Some x

-- the byte at an address, of the first page that has it
abbrev pub byte_in : ℕ → List Page → Option ℕ
byte_in q [] = None
byte_in q (p ∷ ps) = or_else (page_byte_at q p) (byte_in q ps)

-- ---- a look through the entries of a page
-- the byte at q, of bytes from an address on
abbrev part : ℕ → List ℕ → ℕ → List ℕ → Option ℕ
part q mapped at bytes = cond (nat_le at q) (cond (is_page_bit_set mapped (q % 4096)) (slice_get bytes (q - at)) None) None

none_both : (a b : Bool) → cond a (cond {A = Option ℕ} b None None) None ≡ None
none_both true true = refl
none_both true false = refl
none_both false b = refl

either_same : {A : Type 0} (b : Bool) (x : A) → cond b x x ≡ x
either_same true x = refl
either_same false x = refl

one_of_two : (b : Bool) (x : ℕ) (last : Option ℕ) → cond b (Some x) last ≡ or_else (cond b (Some x) None) last
one_of_two true x last = refl
one_of_two false x last = refl

-- a look at the first byte
first_byte : (q at b : ℕ) (bs : List ℕ) (last : Option ℕ) (here there : Bool) → (q ≡ at → here ≡ there) →
    cond here (cond (q == at) (Some b) (or_else (cond (nat_le (at + 1) q) (cond there (slice_get bs (q - (at + 1))) None) None) last)) (or_else (cond (nat_le (at + 1) q) (cond there (slice_get bs (q - (at + 1))) None) None) last)
    ≡ or_else (cond (nat_le at q) (cond there (slice_get (b ∷ bs) (q - at)) None) None) last
first_byte q at b bs last here there agree =
    elim (cases_order q at) [
      | inr (inl below) ↦
          let e1 : (q == at) ≡ false = ne_eqb q at (omega arith) in
          let e2 : nat_le at q ≡ false = lt-leb at q below in
          let e3 : nat_le (at + 1) q ≡ false = lt-leb (at + 1) q (omega arith) in
          rw (e1, e2, e3) (either_same here last)
      | inl same ↦
          let e1 : (q == at) ≡ true = eq-eqb q at same in
          let e2 : nat_le at q ≡ true = le-leb at q (omega arith) in
          let e3 : nat_le (at + 1) q ≡ false = lt-leb (at + 1) q (omega arith) in
          let e4 : q - at ≡ 0 = omega arith in
          let e5 : here ≡ there = agree same in
          rw (e1, e2, e3, e4, e5) (one_of_two there b last)
      | inr (inr above) ↦
          let e1 : (q == at) ≡ false = ne_eqb q at (omega arith) in
          let e2 : nat_le at q ≡ true = le-leb at q (omega arith) in
          let e3 : nat_le (at + 1) q ≡ true = le-leb (at + 1) q (omega arith) in
          let e4 : q - at ≡ suc (q - (at + 1)) = omega arith in
          rw (e1, e2, e3, e4) (either_same here _)
    ]

entries_split : (q at b : ℕ) (es rest : List (ℕ × ℕ)) (t : Bool) → find nat_cmp q (cond t ((at, b) ∷ es) es ++ rest) ≡ cond t (cond (eq_by_cmp nat_cmp q at) (Some b) (find nat_cmp q (es ++ rest))) (find nat_cmp q (es ++ rest))
entries_split q at b es rest true = refl
entries_split q at b es rest false = refl

entries_find : (q : ℕ) (mapped : List ℕ) (at : ℕ) (bs : List ℕ) (rest : List (ℕ × ℕ)) → find nat_cmp q (page_entries_from mapped at bs ++ rest) ≡ or_else (part q mapped at bs) (find nat_cmp q rest)
unfolding page_entries_from
entries_find q mapped at [] rest = sym (ap (λ (o : Option ℕ). or_else o (find nat_cmp q rest)) (none_both (nat_le at q) (is_page_bit_set mapped (q % 4096))))
entries_find q mapped at (b ∷ bs) rest =
    entries_split q at b (page_entries_from mapped (at + 1) bs) rest (is_page_bit_set mapped (at % 4096))
    ∙ ap (λ (f : Option ℕ). cond (is_page_bit_set mapped (at % 4096)) (cond (eq_by_cmp nat_cmp q at) (Some b) f) f) (entries_find q mapped (at + 1) bs rest)
    ∙ ap (λ t. cond (is_page_bit_set mapped (at % 4096)) (cond t (Some b) (or_else (part q mapped (at + 1) bs) (find nat_cmp q rest))) (or_else (part q mapped (at + 1) bs) (find nat_cmp q rest))) (unsigned_tied q at)
    ∙ first_byte q at b bs (find nat_cmp q rest) (is_page_bit_set mapped (at % 4096)) (is_page_bit_set mapped (q % 4096)) (λ e. ap (λ k. is_page_bit_set mapped (k % 4096)) (sym e))

-- ---- a page
-- the page of another number has no such byte
pub byte_of_other : (q : ℕ) (p : Page) → page_number_of p ≢ q / 4096 → page_byte_at q p ≡ None
byte_of_other q p other =
    let no : (q / 4096 == p.number) ≡ false = ne_eqb (q / 4096) p.number (λ e. other (sym e)) in
    ap (λ (t : Bool). cond t (cond (is_page_bit_set p.mapped (q % 4096)) (Some (get_or p.bytes (q % 4096) 0)) None) None) no

-- the page of that number has the byte if its bit is set
pub byte_of_same : (q : ℕ) (p : Page) → page_number_of p ≡ q / 4096 → page_byte_at q p ≡ cond (is_page_bit_set p.mapped (q % 4096)) (Some (get_or p.bytes (q % 4096) 0)) None
byte_of_same q p same =
    let yes : (q / 4096 == p.number) ≡ true = eq-eqb (q / 4096) p.number (sym same) in
    ap (λ (t : Bool). cond t (cond (is_page_bit_set p.mapped (q % 4096)) (Some (get_or p.bytes (q % 4096) 0)) None) None) yes

part_is : (q : ℕ) (p : Page) → IsPage p → part q p.mapped (p.number * 4096) p.bytes ≡ page_byte_at q p
part_is q p page =
    let size = page.bytes in
    elim (cases_eq p.number (q / 4096)) [
      | inl same ↦
          let from : nat_le (p.number * 4096) q ≡ true = le-leb (p.number * 4096) q (omega arith) in
          let offset : q - p.number * 4096 ≡ q % 4096 = omega arith in
          let there = slice_get-get_or p.bytes (q % 4096) 0 (omega arith) in
          ap (λ (t : Bool). cond t (cond (is_page_bit_set p.mapped (q % 4096)) (slice_get p.bytes (q - p.number * 4096)) None) None) from
          ∙ ap (λ (k : ℕ). cond (is_page_bit_set p.mapped (q % 4096)) (slice_get p.bytes k) None) offset
          ∙ ap (λ (o : Option ℕ). cond (is_page_bit_set p.mapped (q % 4096)) o None) there
          ∙ sym (byte_of_same q p same)
      | inr other ↦ elim (cases_lt q (p.number * 4096)) [
        | inl below ↦
            let from : nat_le (p.number * 4096) q ≡ false = lt-leb (p.number * 4096) q below in
            ap (λ (t : Bool). cond t (cond (is_page_bit_set p.mapped (q % 4096)) (slice_get p.bytes (q - p.number * 4096)) None) None) from
            ∙ sym (byte_of_other q p other)
        | inr above ↦
            let past = slice_get_past p.bytes (q - p.number * 4096) (omega arith) in
            ap (λ (o : Option ℕ). cond (nat_le (p.number * 4096) q) (cond (is_page_bit_set p.mapped (q % 4096)) o None) None) past
            ∙ none_both (nat_le (p.number * 4096) q) (is_page_bit_set p.mapped (q % 4096))
            ∙ sym (byte_of_other q p other)
      ]
    ]

-- ---- pages
all_find : (q : ℕ) (ps : List Page) → All IsPage ps → find nat_cmp q (entries_of_pages ps) ≡ byte_in q ps
unfolding entries_of_pages
all_find q [] whole = refl
all_find q (p ∷ ps) whole =
    entries_find q p.mapped (p.number * 4096) p.bytes (entries_of_pages ps)
    ∙ ap (λ (o : Option ℕ). or_else o (find nat_cmp q (entries_of_pages ps))) (part_is q p (All-head IsPage p ps whole))
    ∙ ap (or_else (page_byte_at q p)) (all_find q ps (All-tail IsPage p ps whole))

-- what the memory has at an address
pub get-memory_of : (ps : List Page) (q : ℕ) → All IsPage ps → finite.get (memory_of ps) q ≡ byte_in q ps
unfolding memory_of
get-memory_of ps q whole = get-from_entries nat_cmp_total (entries_of_pages ps) q ∙ all_find q ps whole

-- no page has the number: no byte
pub byte_in_none : (q : ℕ) (ps : List Page) → All (λ p. page_number_of p ≢ q / 4096) ps → byte_in q ps ≡ None
byte_in_none q [] none = refl
byte_in_none q (p ∷ ps) none =
    let P : Page → Type 0 = λ r. page_number_of r ≢ q / 4096 in
    ap (λ (o : Option ℕ). or_else o (byte_in q ps)) (byte_of_other q p (All-head P p ps none))
    ∙ byte_in_none q ps (All-tail P p ps none)

or_none : (o : Option ℕ) → or_else o None ≡ o
or_none None = refl
or_none (Some x) = refl

-- the page of that number decides
alone : (q : ℕ) (ps : List Page) (i : ℕ) → i < length ps → ((k : ℕ) → k < length ps → k ≢ i → page_number_of (get_or ps k no_page) ≢ q / 4096) → byte_in q ps ≡ page_byte_at q (get_or ps i no_page)
alone q [] i lt others = absurd (omega arith)
alone q (p ∷ ps) zero lt others =
    let rest = All-from_get_or (λ r. page_number_of r ≢ q / 4096) ps no_page (λ k h. others (suc k) (omega arith) (omega arith)) in
    ap (or_else (page_byte_at q p)) (byte_in_none q ps rest) ∙ or_none (page_byte_at q p)
alone q (p ∷ ps) (suc i) lt others =
    ap (λ (o : Option ℕ). or_else o (byte_in q ps)) (byte_of_other q p (others zero (omega arith) (omega arith)))
    ∙ alone q ps i (omega arith) (λ k h ne. others (suc k) (omega arith) (omega arith))

-- the numbers of other pages differ
others_differ : (ps : List Page) → AreOrderedPages ps → (i k : ℕ) → i < length ps → k < length ps → k ≢ i → page_number_of (get_or ps k no_page) ≢ page_number_of (get_or ps i no_page)
others_differ ps pages i k lt lk ne same =
    let at_i = number_at_is ps i lt in
    let at_k = number_at_is ps k lk in
    let size : length (map page_number_of ps) ≡ length ps = simp length-map in
    elim (cases_lt i k) [
      | inl l ↦ let r = rises (map page_number_of ps) pages.rising i k l (omega arith) in absurd (omega arith)
      | inr g ↦ let r = rises (map page_number_of ps) pages.rising k i (omega arith) (omega arith) in absurd (omega arith)
    ]

pub byte_in_found : (q : ℕ) (ps : List Page) (i : ℕ) → AreOrderedPages ps → i < length ps → page_number_of (get_or ps i no_page) ≡ q / 4096 → byte_in q ps ≡ page_byte_at q (get_or ps i no_page)
byte_in_found q ps i pages lt is = alone q ps i lt (λ k h ne e. others_differ ps pages i k lt h ne (e ∙ sym is))

-- a page in which only the byte at another address differs
pub byte_in_set : (q : ℕ) (ps : List Page) (i : ℕ) (p : Page) → i < length ps → page_byte_at q p ≡ page_byte_at q (get_or ps i no_page) → byte_in q (set ps i p) ≡ byte_in q ps
byte_in_set q [] i p lt same = absurd (omega arith)
byte_in_set q (r ∷ ps) zero p lt same = ap (λ (o : Option ℕ). or_else o (byte_in q ps)) same
byte_in_set q (r ∷ ps) (suc i) p lt same = ap (or_else (page_byte_at q r)) (byte_in_set q ps i p (omega arith) same)

-- a page whose number and sizes stay
pub ArePages-set : (ps : List Page) (i : ℕ) (p : Page) → AreOrderedPages ps → IsPage p → page_number_of p ≡ page_number_of (get_or ps i no_page) → AreOrderedPages (set ps i p)
ArePages-set ps i p pages page same = record {
  whole = All-set IsPage ps i p page pages.whole;
  rising = rw (map-set_same page_number_of ps i p no_page same) pages.rising;
}
