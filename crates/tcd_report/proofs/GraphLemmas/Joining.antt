-- Text that grows by the lines of one element after another.
use Rattle.std.proofs.Common.{◌≡◌, ℕ, ◌+◌, ◌<◌, ◌≤◌, List, [], ◌∷◌, ◌++◌, length, get_or, take, sym, ap, ◌∙◌, subst, append_assoc, append-nil}
use Rattle.std.specs.List.{flat_map}
use Rattle.std.proofs.lemmas.Grind.{flat_map-append}
use Rattle.std.proofs.lemmas.List.{take_all, take_more}
use Rattle.tcd_report.specs.Graphs.{AreLineParts, AreJoinedLines}
use Rattle.tcd_report.specs.Texts.{GrowsByLines}

parts_more : {A : Type 0} (Has : A → List (List ℕ) → Type 0) (xs : List A) (ps : List (List (List ℕ))) (x : A) (p : List (List ℕ)) → AreLineParts Has xs ps → Has x p → AreLineParts Has (xs ++ x ∷ []) (ps ++ p ∷ [])
parts_more Has [] [] x p h at = (at, tt)
parts_more Has [] (q ∷ qs) x p h at = absurd h
parts_more Has (y ∷ ys) [] x p h at = absurd h
parts_more Has (y ∷ ys) (q ∷ qs) x p h at = (h.0, parts_more Has ys qs x p h.1 at)

joined_more : {A : Type 0} (Has : A → List (List ℕ) → Type 0) (xs : List A) (lines : List (List ℕ)) (x : A) (p : List (List ℕ)) → AreJoinedLines Has xs lines → Has x p → AreJoinedLines Has (xs ++ x ∷ []) (lines ++ p)
joined_more Has xs lines x p j at =
    record {
      parts = j.parts ++ p ∷ [];
      each = parts_more Has xs j.parts x p j.each at;
      are = ap (λ l. l ++ p) j.are ∙ ap (λ l. flat_map (λ q. q) j.parts ++ l) (sym (append-nil p)) ∙ sym (flat_map-append (λ q. q) j.parts (p ∷ []));
    }

-- text that has the lines of some elements, and then those of one more
pub grown_push : {A : Type 0} (Has : A → List (List ℕ) → Type 0) (xs : List A) (x : A) (before text after : List ℕ) → GrowsByLines (AreJoinedLines Has xs) before text → GrowsByLines (Has x) text after → GrowsByLines (AreJoinedLines Has (xs ++ x ∷ [])) before after
grown_push Has xs x before text after g h =
    record {
      lines = g.lines ++ h.lines;
      are = joined_more Has xs g.lines x h.lines g.are h.are;
      grown =
          h.grown
          ∙ ap (λ l. l ++ flat_map (λ q. q) h.lines) g.grown
          ∙ append_assoc before (flat_map (λ q. q) g.lines) (flat_map (λ q. q) h.lines)
          ∙ ap (λ l. before ++ l) (sym (flat_map-append (λ q. q) g.lines h.lines));
    }

-- text that has the lines of the first elements, with one more of them
pub grown_more : {A : Type 0} (Has : A → List (List ℕ) → Type 0) (xs : List A) (i : ℕ) (x : A) (before text after : List ℕ) → i < length xs → x ≡ get_or xs i x → GrowsByLines (AreJoinedLines Has (take i xs)) before text → GrowsByLines (Has x) text after
    → GrowsByLines (AreJoinedLines Has (take (i + 1) xs)) before after
grown_more Has xs i x before text after lt at g h =
    let same : take i xs ++ x ∷ [] ≡ take (i + 1) xs = ap (λ y. take i xs ++ y ∷ []) at ∙ sym (take_more xs i x lt) in
    subst (λ ys. GrowsByLines (AreJoinedLines Has ys) before after) same (grown_push Has (take i xs) x before text after g h)

-- text that has the lines of all elements
pub grown_all : {A : Type 0} (Has : A → List (List ℕ) → Type 0) (xs : List A) (i : ℕ) (before after : List ℕ) → length xs ≤ i → GrowsByLines (AreJoinedLines Has (take i xs)) before after → GrowsByLines (AreJoinedLines Has xs) before after
grown_all Has xs i before after ge g = subst (λ ys. GrowsByLines (AreJoinedLines Has ys) before after) (take_all i xs ge) g
