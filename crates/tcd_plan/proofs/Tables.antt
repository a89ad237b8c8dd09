-- Tables of the code, compared with the lists of specs/.
use Rattle.std.proofs.Common.{◌≡◌, ℕ, ◌<◌, List, length, get_or, map, Some, slice_get, Bor, option_map, sym, ap, ◌∙◌}
use Rattle.std.proofs.lemmas.Option.{slice_get-map, slice_get-get_or}

-- the text at a place of a table of texts
pub slice_get-texts : (texts : List (Bor (List ℕ))) (list : List (List ℕ)) (i : ℕ) (d : Bor (List ℕ)) → map (λ t. t.now) texts ≡ list → i < length texts → slice_get list i ≡ Some (get_or texts i d).now
slice_get-texts texts list i d same within =
    ap (λ ts. slice_get ts i) (sym same) ∙ slice_get-map (λ t. t.now) texts i ∙ ap (option_map (λ t. t.now)) (slice_get-get_or texts i d within)
