-- Laws of the first refusal, step by step.
use Rattle.std.proofs.Common.{◌≡◌, ◌⊎◌, inl, inr, ℕ, true, false, List, map, Option, Some, None, Ok, Err, refl, sym, ap, ◌∙◌}
use Rattle.std.specs.Bool.{then_some}
use Rattle.std.specs.Option.{option_or}
use Rattle.elf_image.specs.declared.errors.ImageErr.{ImageErr}
use Rattle.elf_image.specs.declared.errors.ImageErr.TheVariants.{TooLarge, NoMemory}
use Rattle.elf_image.specs.declared.headers.Header.{Header}
use Rattle.elf_image.specs.Images.{SegmentData}
use Rattle.elf_image.specs.ReadElf.{e_entry, loading_headers, elf_header_refusal, program_header_refusal, exceeds_image_limits, overlap_refusal, image_refusal, loaded_segment, image_of_loading_headers, image_unless_refused, image_of_file, GivesImage}

-- the answer if there is a refusal
pub refused : (bytes : List ℕ) (e : ImageErr) → image_refusal bytes ≡ Some e → GivesImage (Err e) (image_of_file bytes)
unfolding image_of_file
refused bytes NoMemory h = tt
refused bytes _ h = ap (λ o. image_unless_refused o (image_of_loading_headers bytes)) h

first : (a b c d : Option ImageErr) (e : ImageErr) → Some e ≡ a → option_or a (option_or b (option_or c d)) ≡ Some e
first a b c d e h = rw (← h) refl

second : (a b c d : Option ImageErr) (e : ImageErr) → None ≡ a → Some e ≡ b → option_or a (option_or b (option_or c d)) ≡ Some e
second a b c d e h i = rw (← h, ← i) refl

third : (a b c d : Option ImageErr) (e : ImageErr) → None ≡ a → None ≡ b → Some e ≡ c → option_or a (option_or b (option_or c d)) ≡ Some e
third a b c d e h i j = rw (← h, ← i, ← j) refl

fourth : (a b c d x : Option ImageErr) → None ≡ a → None ≡ b → None ≡ c → x ≡ d → option_or a (option_or b (option_or c d)) ≡ x
fourth a b c d x h i j k = rw (← h, ← i, ← j, k) refl

pub refused_start : (bytes : List ℕ) (e : ImageErr) → Some e ≡ elf_header_refusal bytes → GivesImage (Err e) (image_of_file bytes)
unfolding image_refusal
refused_start bytes e h = refused bytes e (first (elf_header_refusal bytes) (program_header_refusal bytes) (then_some (exceeds_image_limits (loading_headers bytes)) TooLarge) (overlap_refusal (loading_headers bytes)) e h)

pub refused_segment : (bytes : List ℕ) (e : ImageErr) → None ≡ elf_header_refusal bytes → Some e ≡ program_header_refusal bytes → GivesImage (Err e) (image_of_file bytes)
unfolding image_refusal
refused_segment bytes e h i = refused bytes e (second (elf_header_refusal bytes) (program_header_refusal bytes) (then_some (exceeds_image_limits (loading_headers bytes)) TooLarge) (overlap_refusal (loading_headers bytes)) e h i)

pub refused_size : (bytes : List ℕ) → None ≡ elf_header_refusal bytes → None ≡ program_header_refusal bytes → exceeds_image_limits (loading_headers bytes) ≡ true → GivesImage (Err TooLarge) (image_of_file bytes)
unfolding image_refusal
refused_size bytes h i j = refused bytes TooLarge (third (elf_header_refusal bytes) (program_header_refusal bytes) (then_some (exceeds_image_limits (loading_headers bytes)) TooLarge) (overlap_refusal (loading_headers bytes)) TooLarge h i (ap (λ b. then_some b TooLarge) (sym j)))

pub refused_loads : (bytes : List ℕ) (e : ImageErr) → None ≡ elf_header_refusal bytes → None ≡ program_header_refusal bytes → (e ≡ NoMemory) ⊎ ((e ≡ TooLarge) × (exceeds_image_limits (loading_headers bytes) ≡ true)) → GivesImage (Err e) (image_of_file bytes)
refused_loads bytes e h i (inl j) = rw j tt
refused_loads bytes e h i (inr j) = rw j.0 (refused_size bytes h i j.1)

pub refused_overlap : (bytes : List ℕ) (e : ImageErr) → None ≡ elf_header_refusal bytes → None ≡ program_header_refusal bytes → exceeds_image_limits (loading_headers bytes) ≡ false → (loads : List Header) → loads ≡ loading_headers bytes → Some e ≡ overlap_refusal loads → GivesImage (Err e) (image_of_file bytes)
unfolding image_refusal
refused_overlap bytes e h i j loads l k = refused bytes e (fourth (elf_header_refusal bytes) (program_header_refusal bytes) (then_some (exceeds_image_limits (loading_headers bytes)) TooLarge) (overlap_refusal (loading_headers bytes)) (Some e) h i (ap (λ b. then_some b TooLarge) (sym j)) (k ∙ ap overlap_refusal l))

-- the image if there is no refusal
pub image_of-loaded : (bytes : List ℕ) (entry : ℕ) (ss : List SegmentData) → None ≡ elf_header_refusal bytes → None ≡ program_header_refusal bytes → exceeds_image_limits (loading_headers bytes) ≡ false → None ≡ overlap_refusal (loading_headers bytes) → entry ≡ e_entry bytes → ss ≡ map (loaded_segment bytes) (loading_headers bytes) → image_of_file bytes ≡ Ok (record { entry = entry; segments = ss })
unfolding image_refusal image_of_file image_of_loading_headers
image_of-loaded bytes entry ss h i j k e f =
    let none = fourth (elf_header_refusal bytes) (program_header_refusal bytes) (then_some (exceeds_image_limits (loading_headers bytes)) TooLarge) (overlap_refusal (loading_headers bytes)) None h i (ap (λ b. then_some b TooLarge) (sym j)) k in
    ap (λ o. image_unless_refused o (image_of_loading_headers bytes)) none ∙ rw (e, f) refl
