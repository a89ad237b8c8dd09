-- The view's routine, written over a segment byte by byte.
use Rattle.std.proofs.Common.{◌≡◌, ℕ, zero, suc, ◌+◌, ◌-◌, ◌^◌, ◌<◌, cond, List, [], ◌∷◌, length, map, get_or, refl, sym, ap, ◌∙◌, subst, arith, nat_le, nat_lt, ◌&&◌, ◌||◌, ext_get_or}
use Rattle.std.specs.Prelude.{sum_by, slice_index_or}
use Rattle.std.specs.List.{list_all}
use Rattle.std.proofs.lemmas.List.{length-map}
use Rattle.std.proofs.lemmas.List.Sums.{sum_by-cons}
use Rattle.elf_image.specs.Images.{ImageData, SegmentData, IsImage, HoldOnlyBytes, is_segment, are_segments_disjoint, are_all_segments_disjoint}
use Rattle.task_chains.specs.Tasks.{TasksData, AreTasks, count}
use Rattle.task_chains.specs.SwitchRoutine.{view_routine_bytes}
use Rattle.task_chains.specs.Views.{with_view_routine_from, view_segment, view_image_of}

-- ---- one byte after another
-- the byte at x, which was b, after the first k bytes are written
abbrev pub byte_after : TasksData → ℕ → ℕ → ℕ → ℕ
byte_after tasks x k b = cond (nat_le tasks.switch x && nat_lt x (tasks.switch + k)) (slice_index_or (view_routine_bytes tasks) (x - tasks.switch) 0) b

pub record IsWrittenSoFar (tasks : TasksData) (at k : ℕ) (olds now : List ℕ) : Type 0 where
  pub size : length now ≡ length olds
  pub each : (j : ℕ) → j < length olds → get_or now j 0 ≡ byte_after tasks (at + j) k (get_or olds j 0)

-- ---- all bytes
module _ (tasks : TasksData) where
  length-with : (x : ℕ) (bytes : List ℕ) → length (with_view_routine_from tasks x bytes) ≡ length bytes
  unfolding with_view_routine_from
  length-with x [] = refl
  length-with x (b ∷ bytes) = ap suc (length-with (x + 1) bytes)

  with_get : (x : ℕ) (bytes : List ℕ) (j : ℕ) → j < length bytes → get_or (with_view_routine_from tasks x bytes) j 0 ≡ byte_after tasks (x + j) 72 (get_or bytes j 0)
  unfolding with_view_routine_from
  with_get x [] j lt = absurd (omega arith)
  with_get x (b ∷ bytes) zero lt = ap (λ y. byte_after tasks y 72 b) (sym (let e : x + 0 ≡ x = omega arith in e))
  with_get x (b ∷ bytes) (suc j) lt = with_get (x + 1) bytes j (omega arith) ∙ ap (λ y. byte_after tasks y 72 (get_or bytes j 0)) (let e : x + 1 + j ≡ x + suc j = omega arith in e)

  pub written_all : (at : ℕ) (olds now : List ℕ) → IsWrittenSoFar tasks at 72 olds now → now ≡ with_view_routine_from tasks at olds
  written_all at olds now so =
      ext_get_or 0 now (with_view_routine_from tasks at olds) (so.size ∙ sym (length-with at olds))
      (λ j lt. let within : j < length olds = subst (λ n. j < n) so.size lt in so.each j within ∙ sym (with_get at olds j within))

  -- ---- the image keeps its limits
  segment_same : (s : SegmentData) → is_segment (view_segment tasks s) ≡ is_segment s
  segment_same s = ap (λ k. nat_lt 0 k && nat_le (s.at + k) (2 ^ 32)) (length-with s.at s.bytes)

  segments_same : (ss : List SegmentData) → list_all is_segment (map (view_segment tasks) ss) ≡ list_all is_segment ss
  segments_same [] = refl
  segments_same (s ∷ ss) = ap (λ t. t && list_all is_segment (map (view_segment tasks) ss)) (segment_same s) ∙ ap (λ t. is_segment s && t) (segments_same ss)

  apart_same : (s t : SegmentData) → are_segments_disjoint (view_segment tasks s) (view_segment tasks t) ≡ are_segments_disjoint s t
  apart_same s t =
      ap (λ k. nat_le (s.at + k) t.at || nat_le (t.at + length (with_view_routine_from tasks t.at t.bytes)) s.at) (length-with s.at s.bytes)
      ∙ ap (λ k. nat_le (s.at + length s.bytes) t.at || nat_le (t.at + k) s.at) (length-with t.at t.bytes)

  one_apart : (s : SegmentData) (ts : List SegmentData) → list_all (are_segments_disjoint (view_segment tasks s)) (map (view_segment tasks) ts) ≡ list_all (are_segments_disjoint s) ts
  one_apart s [] = refl
  one_apart s (t ∷ ts) = ap (λ b. b && list_all (are_segments_disjoint (view_segment tasks s)) (map (view_segment tasks) ts)) (apart_same s t) ∙ ap (λ b. are_segments_disjoint s t && b) (one_apart s ts)

  all_same : (ss : List SegmentData) → are_all_segments_disjoint (map (view_segment tasks) ss) ≡ are_all_segments_disjoint ss
  all_same [] = refl
  all_same (s ∷ ss) = ap (λ b. b && are_all_segments_disjoint (map (view_segment tasks) ss)) (one_apart s ss) ∙ ap (λ b. list_all (are_segments_disjoint s) ss && b) (all_same ss)

  sum_same : (ss : List SegmentData) → sum_by (λ (s : SegmentData). length s.bytes) (map (view_segment tasks) ss) ≡ sum_by (λ (s : SegmentData). length s.bytes) ss
  sum_same [] = refl
  sum_same (s ∷ ss) =
      sum_by-cons (λ (z : SegmentData). length z.bytes) (view_segment tasks s) (map (view_segment tasks) ss)
      ∙ ap (λ k. k + sum_by (λ (z : SegmentData). length z.bytes) (map (view_segment tasks) ss)) (length-with s.at s.bytes) ∙ ap (λ k. length s.bytes + k) (sum_same ss)
      ∙ sym (sum_by-cons (λ (z : SegmentData). length z.bytes) s ss)

  pub view_is_image : (image : ImageData) (u : ℕ) → IsImage image → AreTasks tasks → u < count tasks → HoldOnlyBytes (view_image_of image tasks u).segments → IsImage (view_image_of image tasks u)
  view_is_image image u ok are lt bytes = record {
    entry = (are.words u (record { entry = 0; sp = 0 }) lt).0;
    few = omega (arith, length-map image.segments (view_segment tasks), ok.few);
    segments = segments_same image.segments ∙ ok.segments;
    bytes = bytes;
    apart = all_same image.segments ∙ ok.apart;
    small = omega (arith, sum_same image.segments, ok.small);
  }
