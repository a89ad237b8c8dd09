-- The place of a name, which no other place has, and lists with an item for each place.
use Rattle.std.proofs.Common.{◌≡◌, ◌<◌, ◌+◌, ◌∷◌, ◌++◌, ◌||◌, [], ℕ, zero, suc, Bool, true, false, not, cond, ltb, List, length, map, set, get_or, Some, None, refl, sym, ap, ◌∙◌, arith}
use Rattle.std.specs.Prelude.{position}
use Rattle.std.specs.List.{position_or_len}
use Rattle.std.specs.Str.{bytes_eq}
use Rattle.std.proofs.lemmas.Bool.{lt-ltb, ltb-false}
use Rattle.std.proofs.lemmas.List.Folds.{list_any-append, list_any_at, list_any_none}
use Rattle.std.proofs.lemmas.List.Sums.{fails_before_first}
use Rattle.std.proofs.lemmas.List.Quantifiers.{position-Some}
use Rattle.std.proofs.lemmas.Slice.Eq.{bytes_eq-Decides}
use Rattle.tc_object.specs.Objects.{AllInTurn, SectionData}
use Rattle.tc_object.proofs.UsedLaws.{bytes_eq-sym}
use Rattle.tc_link.specs.Layouts.{PlaceData, IsPlaceAfter, has_place_for, place_data}

pub or_false : (a b : Bool) → (a || b) ≡ false → (a ≡ false) × (b ≡ false)
or_false true b e = cc
or_false false b e = (refl, e)

pub or_right : (a : Bool) → ((a || true) ≡ true) × ((a || false) ≡ a)
or_right true = (refl, refl)
or_right false = (refl, refl)

-- no place after one of this name has it too
later : (name : List ℕ) (before ps : List PlaceData) → AllInTurn IsPlaceAfter before ps → has_place_for before name ≡ true → has_place_for ps name ≡ false
later name before [] turn e = refl
later name before (p ∷ ps) turn e =
    by_name (bytes_eq name p.section) refl (later name (before ++ p ∷ []) ps turn.1 (list_any-append (λ q. bytes_eq name q.section) before (p ∷ []) ∙ ap (λ b. b || (bytes_eq name p.section || false)) e))
  where
    by_name : (b : Bool) → bytes_eq name p.section ≡ b → has_place_for ps name ≡ false → (b || has_place_for ps name) ≡ false
    by_name true t rest = let no : true ≡ false = sym e ∙ ap (has_place_for before) ((bytes_eq-Decides name p.section).0 t) ∙ turn.0.new in cc
    by_name false t rest = rest

after_one : (name : List ℕ) (before ps : List PlaceData) (p : PlaceData) → AllInTurn IsPlaceAfter before (p ∷ ps) → bytes_eq name p.section ≡ true → has_place_for ps name ≡ false
after_one name before ps p turn e =
    later name (before ++ p ∷ []) ps turn.1 (list_any-append (λ q. bytes_eq name q.section) before (p ∷ []) ∙ ap (λ b. has_place_for before name || (b || false)) e ∙ (or_right (has_place_for before name)).0)

-- the place with this number is the only one of the name
abbrev pub IsOnly : List ℕ → List PlaceData → ℕ → Type 0
IsOnly name [] i = ⊥
IsOnly name (p ∷ ps) zero = (bytes_eq name p.section ≡ true) × (has_place_for ps name ≡ false)
IsOnly name (p ∷ ps) (suc i) = (bytes_eq name p.section ≡ false) × IsOnly name ps i

only : (name : List ℕ) (before ps : List PlaceData) (i : ℕ) (d : PlaceData) → AllInTurn IsPlaceAfter before ps → i < length ps → bytes_eq name (get_or ps i d).section ≡ true → IsOnly name ps i
only name before [] i d turn h e = absurd (omega arith)
only name before (p ∷ ps) zero d turn h e = (e, after_one name before ps p turn e)
only name before (p ∷ ps) (suc i) d turn h e = (by_name (bytes_eq name p.section) refl, only name (before ++ p ∷ []) ps i d turn.1 (omega arith) e)
  where
    by_name : (b : Bool) → bytes_eq name p.section ≡ b → b ≡ false
    by_name true t = sym (list_any_at (λ q. bytes_eq name q.section) ps i d (omega arith) e) ∙ after_one name before ps p turn t
    by_name false t = refl

first_only : (name : List ℕ) (ps : List PlaceData) (i : ℕ) → IsOnly name ps i → position_or_len (λ p. bytes_eq name p.section) ps ≡ i
first_only name [] i o = absurd o
first_only name (p ∷ ps) zero o = ap (λ b. cond (not b) (1 + position_or_len (λ q. bytes_eq name q.section) ps) 0) o.0
first_only name (p ∷ ps) (suc i) o =
    let rest : position_or_len (λ q. bytes_eq name q.section) ps ≡ i = first_only name ps i o.1 in
    ap (λ b. cond (not b) (1 + position_or_len (λ q. bytes_eq name q.section) ps) 0) o.0 ∙ omega (arith, rest)

-- a place with the name is the first
pub named_position : (name : List ℕ) (ps : List PlaceData) (i : ℕ) (d : PlaceData) → AllInTurn IsPlaceAfter [] ps → i < length ps → bytes_eq name (get_or ps i d).section ≡ true → Some i ≡ position (λ p. bytes_eq name p.section) ps
named_position name ps i d turn h e =
    sym (ap (λ n. cond (ltb n (length ps)) (Some n) None) (first_only name ps i (only name [] ps i d turn h e)) ∙ ap (λ b. cond b (Some i) None) (lt-ltb i (length ps) h))

-- the place that a name has is the only one
pub the_only : (name : List ℕ) (ps : List PlaceData) (i : ℕ) → AllInTurn IsPlaceAfter [] ps → position (λ q. bytes_eq name q.section) ps ≡ Some i → IsOnly name ps i
the_only name ps i turn e =
    let at = position-Some (λ q. bytes_eq name q.section) ps i (place_data [] 0 0) e in
    only name [] ps i (place_data [] 0 0) turn at.0 at.1

pub none_from : (b : Bool) (n : ℕ) → cond b (Some n) None ≡ None → b ≡ false
none_from true n e = cc
none_from false n e = refl

-- a name without a number has no place
pub not_found : (name : List ℕ) (ps : List PlaceData) → position (λ q. bytes_eq name q.section) ps ≡ None → has_place_for ps name ≡ false
not_found name ps e =
    let f : PlaceData → Bool = λ q. bytes_eq name q.section in
    list_any_none f ps (λ k d h. fails_before_first f ps k d (omega (arith, h, ltb-false _ _ (none_from (ltb (position_or_len f ps) (length ps)) (position_or_len f ps) e))))

-- a name with a number has one
pub is_found : (name : List ℕ) (ps : List PlaceData) (i : ℕ) → position (λ q. bytes_eq name q.section) ps ≡ Some i → has_place_for ps name ≡ true
is_found name ps i e =
    let at = position-Some (λ q. bytes_eq name q.section) ps i (place_data [] 0 0) e in
    list_any_at (λ q. bytes_eq name q.section) ps i (place_data [] 0 0) at.0 at.1

-- ---- an item for each place, which a further section of its name changes
abbrev pub Grows : {A : Type 0} → (List SectionData → PlaceData → A) → (A → SectionData → A) → Type 0
Grows item more = (ss : List SectionData) (s : SectionData) (p : PlaceData) → item (ss ++ s ∷ []) p ≡ cond (bytes_eq p.section s.name) (more (item ss p) s) (item ss p)

grown : {A : Type 0} (item : List SectionData → PlaceData → A) (more : A → SectionData → A) (ss : List SectionData) (s : SectionData) (p : PlaceData) (b : Bool) → Grows item more → bytes_eq s.name p.section ≡ b → item (ss ++ s ∷ []) p ≡ cond b (more (item ss p) s) (item ss p)
grown item more ss s p b step e = step ss s p ∙ ap (λ c. cond c (more (item ss p) s) (item ss p)) (bytes_eq-sym p.section s.name ∙ e)

-- a section without a place changes none
pub each_kept : {A : Type 0} (item : List SectionData → PlaceData → A) (more : A → SectionData → A) → Grows item more → (ss : List SectionData) (s : SectionData) (ps : List PlaceData) → has_place_for ps s.name ≡ false → map (item (ss ++ s ∷ [])) ps ≡ map (item ss) ps
each_kept item more step ss s [] e = refl
each_kept {A} item more step ss s (p ∷ ps) e =
    let parts = or_false (bytes_eq s.name p.section) (has_place_for ps s.name) e in
    ap (λ (x : A). x ∷ map (item (ss ++ s ∷ [])) ps) (grown item more ss s p false step parts.0) ∙ ap (λ (l : List A). item ss p ∷ l) (each_kept item more step ss s ps parts.1)

-- one in a place changes that of its place
pub each_grown : {A : Type 0} (item : List SectionData → PlaceData → A) (more : A → SectionData → A) → Grows item more → (ss : List SectionData) (s : SectionData) (ps : List PlaceData) (i : ℕ) (d : A) → IsOnly s.name ps i
    → map (item (ss ++ s ∷ [])) ps ≡ set (map (item ss) ps) i (more (get_or (map (item ss) ps) i d) s)
each_grown item more step ss s [] i d o = absurd o
each_grown {A} item more step ss s (p ∷ ps) zero d o = ap (λ (x : A). x ∷ map (item (ss ++ s ∷ [])) ps) (grown item more ss s p true step o.0) ∙ ap (λ (l : List A). more (item ss p) s ∷ l) (each_kept item more step ss s ps o.1)
each_grown {A} item more step ss s (p ∷ ps) (suc i) d o = ap (λ (x : A). x ∷ map (item (ss ++ s ∷ [])) ps) (grown item more ss s p false step o.0) ∙ ap (λ (l : List A). item ss p ∷ l) (each_grown item more step ss s ps i d o.1)
