-- What a file that passes the checks loads is within the limits of an image.
use Rattle.std.proofs.Common.{◌≡◌, ℕ, zero, suc, ◌^◌, ◌<◌, ◌≤◌, Bool, true, false, ◌&&◌, List, [], ◌∷◌, length, map, find, drop, sum_by, Option, Some, None, refl, arith, All, get_or}
use Rattle.std.specs.List.{list_all, AllByRecursion}
use Rattle.std.specs.Option.{option_map, option_or}
use Rattle.std.proofs.lemmas.List.{length-take, length-drop, length-map}
use Rattle.std.proofs.lemmas.List.Elements.{recursion_from_All, All-map, All-take, All-drop}
use Rattle.std.proofs.lemmas.List.Sums.{sum_by-cons}
use Rattle.std.proofs.lemmas.Bool.Decides.{nat_tests}
use Rattle.elf_image.specs.declared.headers.Header.{Header}
use Rattle.elf_image.specs.declared.errors.ImageErr.{ImageErr}
use Rattle.elf_image.specs.declared.errors.ImageErr.TheVariants.{Overlap}
use Rattle.elf_image.specs.Images.{SegmentData, HoldOnlyBytes, IsImage, is_segment, are_segments_disjoint, are_all_segments_disjoint}
use Rattle.elf_image.specs.ReadElf.{has_overlap_with, loading_headers, program_header_refusal, exceeds_image_limits, overlap_refusal, loaded_segment}
use Rattle.elf_image.proofs.Good.{Good, loads_good, unfound_head, unfound_tail}

both : {a b : Bool} → a ≡ true → b ≡ true → (a && b) ≡ true
both e f = rw (e, f) refl

length-segment_of : (bytes : List ℕ) (h : Header) → Good bytes h → length (loaded_segment bytes h).bytes ≡ h.file_size
length-segment_of bytes h good = omega (arith, length-take h.file_size (drop h.offset bytes), length-drop h.offset bytes, good.inside)

a_segment : (bytes : List ℕ) (h : Header) → Good bytes h → is_segment (loaded_segment bytes h) ≡ true
a_segment bytes h good = let len = length-segment_of bytes h good in grind (arith, nat_tests)

segments : (bytes : List ℕ) (hs : List Header) → AllByRecursion (Good bytes) hs → list_all is_segment (map (loaded_segment bytes) hs) ≡ true
segments bytes [] good = refl
segments bytes (h ∷ hs) good = both (a_segment bytes h good.0) (segments bytes hs good.1)

all_below : (xs : List ℕ) → ((k : ℕ) → get_or xs k 0 < 2 ^ 8) → All (λ b. b < 2 ^ 8) xs
all_below [] h k d lt = absurd (omega arith)
all_below (x ∷ xs) h zero d lt = h 0
all_below (x ∷ xs) h (suc k) d lt = all_below xs (λ j. h (suc j)) k d (omega arith)

are_bytes : (bytes : List ℕ) (hs : List Header) → All (λ b. b < 2 ^ 8) bytes → HoldOnlyBytes (map (loaded_segment bytes) hs)
are_bytes bytes hs small =
    All-map (λ (s : SegmentData). All (λ b. b < 2 ^ 8) s.bytes) (loaded_segment bytes) hs
    (λ k h lt. All-take (λ b. b < 2 ^ 8) (get_or hs k h).file_size (drop (get_or hs k h).offset bytes) (All-drop (λ b. b < 2 ^ 8) (get_or hs k h).offset bytes small))

apart : (bytes : List ℕ) (h k : Header) → Good bytes h → Good bytes k → has_overlap_with h k ≡ false → are_segments_disjoint (loaded_segment bytes h) (loaded_segment bytes k) ≡ true
unfolding has_overlap_with
apart bytes h k good_h good_k e =
    let len_h = length-segment_of bytes h good_h in
    let len_k = length-segment_of bytes k good_k in
    grind (arith, nat_tests)

apart_all : (bytes : List ℕ) (h : Header) (hs : List Header) → Good bytes h → AllByRecursion (Good bytes) hs → find (has_overlap_with h) hs ≡ None → list_all (are_segments_disjoint (loaded_segment bytes h)) (map (loaded_segment bytes) hs) ≡ true
apart_all bytes h [] good_h good e = refl
apart_all bytes h (k ∷ hs) good_h good e = both (apart bytes h k good_h good.0 (unfound_head (has_overlap_with h) k hs e)) (apart_all bytes h hs good_h good.1 (unfound_tail (has_overlap_with h) k hs e))

first_none : (o : Option Header) (h : Header) (p : Option ImageErr) → option_or (option_map (λ k. Overlap h.number k.number) o) p ≡ None → (o ≡ None) × (p ≡ None)
first_none None h p e = (refl, e)
first_none (Some k) h p e = absurd cc

all_are_apart : (bytes : List ℕ) (hs : List Header) → AllByRecursion (Good bytes) hs → overlap_refusal hs ≡ None → are_all_segments_disjoint (map (loaded_segment bytes) hs) ≡ true
unfolding overlap_refusal
all_are_apart bytes [] good e = refl
all_are_apart bytes (h ∷ hs) good e =
    let none = first_none (find (has_overlap_with h) hs) h (overlap_refusal hs) e in
    both (apart_all bytes h hs good.0 good.1 none.0) (all_are_apart bytes hs good.1 none.1)

sizes : (bytes : List ℕ) (hs : List Header) → AllByRecursion (Good bytes) hs → sum_by (λ s. length s.bytes) (map (loaded_segment bytes) hs) ≡ sum_by (λ h. h.file_size) hs
sizes bytes [] good = refl
sizes bytes (h ∷ hs) good =
    omega (arith, sum_by-cons (λ (s : SegmentData). length s.bytes) (loaded_segment bytes h) (map (loaded_segment bytes) hs), sum_by-cons (λ (x : Header). x.file_size) h hs, length-segment_of bytes h good.0, sizes bytes hs good.1)

not_large : (hs : List Header) → exceeds_image_limits hs ≡ false → (length hs ≤ 64) × (sum_by (λ h. h.file_size) hs ≤ 2 ^ 24)
unfolding exceeds_image_limits
not_large hs e = (grind (arith, nat_tests), grind (arith, nat_tests))

pub loaded_is_image : (bytes : List ℕ) (entry : ℕ) (ss : List SegmentData) → entry < 2 ^ 32 → ((k : ℕ) → get_or bytes k 0 < 2 ^ 8) → program_header_refusal bytes ≡ None → exceeds_image_limits (loading_headers bytes) ≡ false → overlap_refusal (loading_headers bytes) ≡ None → ss ≡ map (loaded_segment bytes) (loading_headers bytes) → IsImage (record { entry = entry; segments = ss })
loaded_is_image bytes entry ss below small_bytes fine small alone e =
    let hs = loading_headers bytes in
    let good = recursion_from_All (Good bytes) hs (loads_good bytes fine) in
    let limits = not_large hs small in
    rw e (record {
      entry = below;
      few = omega (arith, limits.0, length-map hs (loaded_segment bytes));
      segments = segments bytes hs good;
      bytes = are_bytes bytes hs (all_below bytes small_bytes);
      apart = all_are_apart bytes hs good alone;
      small = omega (arith, limits.1, sizes bytes hs good);
    })
