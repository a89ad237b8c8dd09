-- The event of a turn fits.
use Rattle.std.proofs.Common.{◌≡◌, ℕ, zero, suc, ◌+◌, ◌%◌, ◌<◌, ◌≤◌, ◌^◌, ◌⊎◌, inl, inr, Bool, true, false, List, [], ◌∷◌, drop, slice_get, Option, Some, None, Result, Ok, Err, refl, sym, ap, subst, ◌∙◌, arith, add-one}
use Rattle.std.specs.Prelude.{◌==◌, IfSome, All, Contains}
use Rattle.std.specs.List.{list_any}
use Rattle.std.proofs.lemmas.Bool.{or_cases, or_left, or_right, false≢true, cond_both}
use Rattle.std.proofs.lemmas.List.Elements.{All-nil, All-cons, All-head, All-tail, All-weaker}
use Rattle.tcd_plan.specs.declared.plans.Device.{Device}
use Rattle.tcd_plan.specs.PlanData.{PlanData}
use Rattle.tc_isa.specs.Insts.{InstData, IsInst}
use Rattle.tc_isa.specs.declared.shapes.Shape.{Shape}
use Rattle.tc_isa.specs.declared.shapes.Shape.TheVariants.{Load}
use Rattle.tc_encode.specs.Decoding.{decoded_of}
use Rattle.tc_encode.specs.declared.errors.DecodeErr.{DecodeErr}
use Rattle.tc_encode.proofs.DecodeProofs.{decode_laws}
use Rattle.tc_machine.specs.declared.events.Cause.TheVariants.{NoCode}
use Rattle.tc_machine.specs.declared.events.Event.{Event}
use Rattle.tc_machine.specs.declared.events.End.{End}
use Rattle.tc_machine.specs.declared.events.End.TheVariants.{Running, Dead}
use Rattle.tc_machine.specs.declared.state.Machine.{Machine}
use Rattle.tc_machine.specs.Fetching.{mapped_bytes, fetched_shape, fetched_instruction}
use Rattle.tcd_base.specs.Ranges.{IsWithinRange, is_within_range}
use Rattle.tcd_base.proofs.RangeLaws.{within_true, true_within}
use Rattle.tc_machine.specs.Safe.{Fits}
use Rattle.tc_machine.specs.Stepping.{none_if_dead, load_of_fetched, load_at_pc, next_load_of}
use Rattle.tc_machine.proofs.ShapeWords.{IsSize, IsShape, shape_of-suits}
use Rattle.tc_script.specs.declared.scripts.Turn.{Turn}
use Rattle.tc_script.specs.Ports.{AcceptsDeviceAddresses, AnswersWithinDeviceBounds}
use Rattle.tc_script.specs.DrivenRuns.{DeviceAnswers, IsDrivenInput, IsEventOfTurn}
use Rattle.tcd_plan.specs.MappedAddresses.{IsInDevice, MayAnswerAt, MayAnswerLoad}

-- ---- ranges
abbrev pub in_one : ℕ → ℕ → List Device → Bool
in_one x n ds = list_any (λ d. is_within_range x n d.range) ds

pub inside : (x n : ℕ) (ds : List Device) → in_one x n ds ≡ true → IsInDevice x n ds
inside x n [] is = absurd (false≢true is)
inside x n (d ∷ ds) is = elim (or_cases (is_within_range x n d.range) (in_one x n ds) is) [ inl here ↦ inl (within_true x n d.range here) | inr there ↦ inr (inside x n ds there) ]

pub in_one-true : (x n : ℕ) (ds : List Device) → IsInDevice x n ds → in_one x n ds ≡ true
in_one-true x n [] is = absurd is
in_one-true x n (d ∷ ds) (inl here) = or_left (is_within_range x n d.range) (in_one x n ds) (true_within x n d.range here)
in_one-true x n (d ∷ ds) (inr there) = or_right (is_within_range x n d.range) (in_one x n ds) (in_one-true x n ds there)

pub outside : (x n : ℕ) (ds : List Device) → in_one x n ds ≡ false → IsInDevice x n ds → ⊥
outside x n ds is h = false≢true (sym is ∙ in_one-true x n ds h)

-- ---- asking
-- the first byte of the access may be asked for
pub asked : (can : ℕ → ℕ → Type 0) (x n t : ℕ) (ds : List Device) → AcceptsDeviceAddresses can ds → 1 ≤ n → t < 2 ^ 32 → IsInDevice x n ds → can x t
asked can x n t [] all some small is = absurd is
asked can x n t (d ∷ ds) all some small (inl here) = all 0 d (omega arith) x t (here.0, omega (arith, here.1)) small
asked can x n t (d ∷ ds) all some small (inr there) = asked can x n t ds (All-tail (λ d. (addr t : ℕ) → IsWithinRange addr 1 d.range → t < 2 ^ 32 → can addr t) d ds all) some small there

abbrev Lies : ℕ → Device → Type 0
Lies w d = (d.lo ≤ w) × (w ≤ d.hi)

none_within : (x w : ℕ) (ds : List Device) → (IsInDevice x 4 ds → ⊥) → MayAnswerAt x w ds
none_within x w [] out = All-nil (λ d. IsWithinRange x 4 d.range → Lies w d)
none_within x w (d ∷ ds) out = All-cons (λ d. IsWithinRange x 4 d.range → Lies w d) d ds (λ here. absurd (out (inl here))) (none_within x w ds (λ there. out (inr there)))

all_within : (answers : DeviceAnswers) (x t w : ℕ) (ds : List Device) → AnswersWithinDeviceBounds answers ds → t < 2 ^ 32 → w < 2 ^ 32 → answers x t w → MayAnswerAt x w ds
all_within answers x t w ds all early small gives =
    All-weaker (λ d. (addr t w : ℕ) → IsWithinRange addr 1 d.range → t < 2 ^ 32 → w < 2 ^ 32 → answers addr t w → Lies w d) (λ d. IsWithinRange x 4 d.range → Lies w d) (λ d h here. h x t w (here.0, omega (arith, here.1)) early small gives) ds all

input_lies : (answers : DeviceAnswers) (ds : List Device) (t : ℕ) (load : Option (ℕ × ℕ)) (w : ℕ) → AnswersWithinDeviceBounds answers ds → t < 2 ^ 32 → w < 2 ^ 32 → IsDrivenInput ds answers t load w → IfSome load (λ l. l.1 ≡ 4 → MayAnswerAt l.0 w ds)
input_lies answers ds t None w all early small is = tt
input_lies answers ds t (Some load) w all early small (inl is) = λ four. all_within answers load.0 t w ds all early small is.1
input_lies answers ds t (Some load) w all early small (inr is) = λ four. none_within load.0 w ds (λ h. is.0 (subst (λ n. IsInDevice load.0 n ds) (sym four) h))

-- ---- the load at pc
abbrev decoded_at : Machine → Result (InstData × ℕ) DecodeErr
decoded_at m = decoded_of (mapped_bytes 4 m.mem m.pc)

next_load-running : (m : Machine) → m.end ≡ Running → next_load_of m ≡ load_of_fetched m (fetched_shape (decoded_at m))
next_load-running m is = ap (λ end. none_if_dead end (load_of_fetched m (fetched_shape (decoded_at m)))) is

at_pc : (plan : PlanData) (m : Machine) (w : ℕ) → MayAnswerLoad plan w (load_of_fetched m (fetched_shape (decoded_at m))) → MayAnswerLoad plan w (load_at_pc m)
unfolding fetched_instruction
at_pc plan m w h = cond_both (m.pc % 2 == 0) (fetched_shape (decoded_at m)) (Err NoCode) (λ r. MayAnswerLoad plan w (load_of_fetched m r)) (λ even. h) (λ odd. tt)

pub fits_event : (plan : PlanData) (answers : DeviceAnswers) (t : ℕ) (turn : Turn) (m : Machine) (e : Event) → m.end ≡ Running → IsEventOfTurn plan.devices answers t turn m e → AnswersWithinDeviceBounds answers plan.devices → (turn.irq ≡ 0) ⊎ Contains plan.irqs turn.irq → t < 2 ^ 32 → e.input < 2 ^ 32 → Fits plan m e
fits_event plan answers t turn m e running is all source early small = record {
  irq = subst (λ n. (n ≡ 0) ⊎ Contains plan.irqs n) (sym is.irq) source;
  input = small;
  status = let zero_status : e.status ≡ 0 = is.status in omega arith;
  answers = λ free. at_pc plan m e.input (subst (λ load. MayAnswerLoad plan e.input load) (next_load-running m running) (input_lies answers plan.devices t (next_load_of m) e.input all early small is.input));
}

-- ---- the size of a load
some_size : (n : ℕ) → IsSize n → 1 ≤ n
some_size n (inl is) = omega arith
some_size n (inr (inl is)) = omega arith
some_size n (inr (inr is)) = omega arith

abbrev HasBytesOf : Option (ℕ × ℕ) → Type 0
HasBytesOf load = IfSome load (λ l. 1 ≤ l.1)

sized_shape : (m : Machine) (shape : Shape) (n : ℕ) → IsShape shape → HasBytesOf (load_of_fetched m (Ok (shape, n)))
sized_shape m (Load dst base offset size signed after) n h = some_size size h
sized_shape m _ n h = tt

sized : (m : Machine) (r : Result (InstData × ℕ) DecodeErr) → ((i : InstData) (n : ℕ) → r ≡ Ok (i, n) → IsInst i) → HasBytesOf (load_of_fetched m (fetched_shape r))
sized m (Ok found) h = sized_shape m _ found.1 (shape_of-suits found.0 (h found.0 found.1 refl))
sized m (Err e) h = tt

where_running-sized : (end : End) (load : Option (ℕ × ℕ)) → HasBytesOf load → HasBytesOf (none_if_dead end load)
where_running-sized Running load h = h
where_running-sized (Dead cause) load h = tt

-- the next load has bytes
pub next_load-sized : (m : Machine) → HasBytesOf (next_load_of m)
next_load-sized m = where_running-sized m.end _ (sized m (decoded_at m) (λ i n is. (decode_laws.decoded _ i n is).inst))

-- ---- turns
pub all_at : {X : Type 0} (P : X → Type 0) (xs : List X) (i : ℕ) (x : X) → All P xs → slice_get xs i ≡ Some x → P x
all_at P [] i x all is = cc
all_at P (y ∷ xs) zero x all is = let same : y ≡ x = cc in subst P same (All-head P y xs all)
all_at P (y ∷ xs) (suc i) x all is = all_at P xs i x (All-tail P y xs all) is

drop_suc : {X : Type 0} (xs : List X) (i : ℕ) (x : X) → slice_get xs i ≡ Some x → drop i xs ≡ x ∷ drop (suc i) xs
drop_suc [] i x is = cc
drop_suc (y ∷ xs) zero x is = let same : y ≡ x = cc in ap (λ z. z ∷ xs) same
drop_suc (y ∷ xs) (suc i) x is = drop_suc xs i x is

pub drop_at : {X : Type 0} (xs : List X) (i : ℕ) (x : X) → slice_get xs i ≡ Some x → drop i xs ≡ x ∷ drop (i + 1) xs
drop_at xs i x is = drop_suc xs i x is ∙ ap (λ n. x ∷ drop n xs) (sym (add-one i))
