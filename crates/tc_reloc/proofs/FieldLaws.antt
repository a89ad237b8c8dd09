-- A written field holds its number, keeps all other bits, and reaches the value.
use Rattle.std.proofs.Common.{◌≡◌, ◌+◌, ◌^◌, ◌<◌, ◌≤◌, ℕ, None, arith}
use Rattle.std.proofs.lemmas.Bool.Decides.{nat_tests}
use Rattle.tc_reloc.specs.Refusals.{reloc_value_refusal}
use Rattle.tc_reloc.specs.Fields.{reloc_field_number, reloc_field_bound, reloc_field_bits, bits_outside_reloc_field}
use Rattle.tc_reloc.specs.ReachedAddresses.{number_in_reloc_field, address_reached_by_reloc}
use Rattle.tc_reloc.proofs.EachKind.{EachKind, at_kind}

module _ (w k : ℕ) (word : w < 2 ^ 32) where
  abbrev Fits : ℕ → Type 0
  Fits kind = k < reloc_field_bound kind → bits_outside_reloc_field kind w + reloc_field_bits kind k < 2 ^ 32

  fits_each : EachKind Fits
  unfolding reloc_field_bound reloc_field_bits bits_outside_reloc_field
  fits_each = record {
    rel24 = λ h. omega arith;
    abs24 = λ h. omega arith;
    rel15 = λ h. omega arith;
    upper = λ h. omega arith;
    lower = λ h. omega arith;
    offset = λ h. omega arith;
    word = λ h. omega arith;
  }

  -- a word with a written field is a word
  pub written_below : (kind : ℕ) → 1 ≤ kind → kind ≤ 7 → k < reloc_field_bound kind → bits_outside_reloc_field kind w + reloc_field_bits kind k < 2 ^ 32
  written_below kind some most = at_kind Fits fits_each kind some most

  abbrev Held : ℕ → Type 0
  Held kind = k < reloc_field_bound kind → number_in_reloc_field kind (bits_outside_reloc_field kind w + reloc_field_bits kind k) ≡ k

  held_each : EachKind Held
  unfolding reloc_field_bound reloc_field_bits bits_outside_reloc_field number_in_reloc_field
  held_each = record {
    rel24 = λ h. omega arith;
    abs24 = λ h. omega arith;
    rel15 = λ h. omega arith;
    upper = λ h. omega arith;
    lower = λ h. omega arith;
    offset = λ h. omega arith;
    word = λ h. omega arith;
  }

  -- the field holds the number that was written
  pub held_of-written : (kind : ℕ) → 1 ≤ kind → kind ≤ 7 → k < reloc_field_bound kind → number_in_reloc_field kind (bits_outside_reloc_field kind w + reloc_field_bits kind k) ≡ k
  held_of-written kind some most = at_kind Held held_each kind some most

  abbrev Stays : ℕ → Type 0
  Stays kind = k < reloc_field_bound kind → bits_outside_reloc_field kind (bits_outside_reloc_field kind w + reloc_field_bits kind k) ≡ bits_outside_reloc_field kind w

  stays_each : EachKind Stays
  unfolding reloc_field_bound reloc_field_bits bits_outside_reloc_field
  stays_each = record {
    rel24 = λ h. omega arith;
    abs24 = λ h. omega arith;
    rel15 = λ h. omega arith;
    upper = λ h. omega arith;
    lower = λ h. omega arith;
    offset = λ h. omega arith;
    word = λ h. omega arith;
  }

  -- and all other bits stay
  pub rest_of-written : (kind : ℕ) → 1 ≤ kind → kind ≤ 7 → k < reloc_field_bound kind → bits_outside_reloc_field kind (bits_outside_reloc_field kind w + reloc_field_bits kind k) ≡ bits_outside_reloc_field kind w
  rest_of-written kind some most = at_kind Stays stays_each kind some most

module _ (place value : ℕ) (place_word : place < 2 ^ 32) (value_word : value < 2 ^ 32) where
  abbrev Below : ℕ → Type 0
  Below kind = reloc_field_number kind place value < reloc_field_bound kind

  below_each : EachKind Below
  unfolding reloc_field_number reloc_field_bound
  below_each = record {
    rel24 = omega arith;
    abs24 = omega arith;
    rel15 = omega arith;
    upper = omega arith;
    lower = omega arith;
    offset = omega arith;
    word = omega arith;
  }

  -- the number fits the field
  pub content_below : (kind k : ℕ) → k ≡ reloc_field_number kind place value → 1 ≤ kind → kind ≤ 7 → k < reloc_field_bound kind
  content_below kind k is some most = rw is (at_kind Below below_each kind some most)

  abbrev Reaches : ℕ → Type 0
  Reaches kind = reloc_value_refusal kind place value ≡ None → address_reached_by_reloc kind place value (reloc_field_number kind place value) ≡ value

  reaches_each : EachKind Reaches
  unfolding reloc_field_number address_reached_by_reloc reloc_value_refusal
  reaches_each = record {
    rel24 = λ h. grind (arith, nat_tests);
    abs24 = λ h. grind (arith, nat_tests);
    rel15 = λ h. grind (arith, nat_tests);
    upper = λ h. grind (arith, nat_tests);
    lower = λ h. grind (arith, nat_tests);
    offset = λ h. grind (arith, nat_tests);
    word = λ h. grind (arith, nat_tests);
  }

  -- if nothing is refused, the written number reaches the value
  pub reached_by-content_of : (kind : ℕ) → 1 ≤ kind → kind ≤ 7 → reloc_value_refusal kind place value ≡ None → address_reached_by_reloc kind place value (reloc_field_number kind place value) ≡ value
  reached_by-content_of kind some most = at_kind Reaches reaches_each kind some most

-- a whole word becomes the value, and keeps none of its bits
pub whole_word : (w place value : ℕ) → value ≡ bits_outside_reloc_field 7 w + reloc_field_bits 7 (reloc_field_number 7 place value)
unfolding reloc_field_number bits_outside_reloc_field reloc_field_bits
whole_word w place value = omega arith
