-- Names in a map, counted.
use Rattle.std.proofs.Common.{◌≡◌, ◌+◌, ◌<◌, ◌∷◌, [], ℕ, zero, suc, Bool, true, false, cond, ◌&&◌, eqb, ltb, List, length, take, get_or, Option, Some, None, refl, sym, ap, ◌∙◌, subst, arith, add-zero}
use Rattle.std.specs.Prelude.{is_some, IfSome}
use Rattle.std.specs.Option.{option_map}
use Rattle.std.specs.List.{flat_map, count_by}
use Rattle.std.specs.Str.{bytes_eq}
use Rattle.std.proofs.lemmas.Bool.Decides.{nat_tests}
use Rattle.std.proofs.lemmas.Slice.Eq.{bytes_eq-Decides}
use Rattle.std.proofs.lemmas.List.{take_more, append-nil}
use Rattle.std.proofs.lemmas.List.Concat.{flat_map-append}
use Rattle.std.proofs.lemmas.List.Sums.{sum_by-append, sum_by_more}
use Rattle.tc_object.specs.Objects.{SymbolData, ObjectData}
use Rattle.tc_link.specs.declared.definitions.Definition.{Definition}
use Rattle.tc_link.specs.GlobalSymbols.{twice_of_count, has_global_name, count_globals_named}
use Rattle.tc_object.proofs.UsedLaws.{bytes_eq-sym}

-- a name that n symbols have, and a further symbol
kept_more : (n : ℕ) → Some (is_some (twice_of_count n)) ≡ twice_of_count (n + 1)
kept_more zero = refl
kept_more (suc n) = grind (arith, nat_tests)

pub add_one : (old : List ℕ → Option Bool) (name q : List ℕ) (n : ℕ) (seen : Bool) (new : Option Bool)
    → seen ≡ is_some (old name) → new ≡ cond (bytes_eq name q) (Some seen) (old q) → old q ≡ twice_of_count n → new ≡ twice_of_count (n + cond (bytes_eq q name) 1 0)
add_one old name q n seen new s u e = by_test (bytes_eq name q) refl
  where
    by_test : (b : Bool) → bytes_eq name q ≡ b → new ≡ twice_of_count (n + cond (bytes_eq q name) 1 0)
    by_test true t =
        u ∙ ap (λ b. cond b (Some seen) (old q)) t
        ∙ ap (λ (b : Bool). Some b) (s ∙ ap (λ (x : List ℕ). is_some (old x)) ((bytes_eq-Decides name q).0 t) ∙ ap is_some e)
        ∙ kept_more n
        ∙ ap (λ b. twice_of_count (n + cond b 1 0)) (sym (bytes_eq-sym q name ∙ t))
    by_test false t =
        u ∙ ap (λ b. cond b (Some seen) (old q)) t ∙ e
        ∙ ap twice_of_count (sym (add-zero n))
        ∙ ap (λ b. twice_of_count (n + cond b 1 0)) (sym (bytes_eq-sym q name ∙ t))

not_zero : (n : ℕ) → eqb (suc n) 0 ≡ false
not_zero n = grind (arith, nat_tests)

kept_suc : (n : ℕ) → twice_of_count (suc n) ≡ Some (ltb 1 (suc n))
kept_suc n = ap (λ b. cond {A = Option Bool} b None (Some (ltb 1 (suc n)))) (not_zero n)

-- a name for which the map has at most one symbol
single_of : (n : ℕ) (o : Option Bool) → o ≡ twice_of_count n → IfSome o (λ t. t ≡ false) → ltb 1 n ≡ false
single_of zero o e h = refl
single_of (suc n) o e h = subst (λ (x : Option Bool). IfSome x (λ t. t ≡ false)) (e ∙ kept_suc n) h

pub single_at : (n : ℕ) (o : Option Definition) → option_map (λ d. d.is_twice) o ≡ twice_of_count n → IfSome o (λ d. d.is_twice ≡ false) → ltb 1 n ≡ false
single_at n None e h = single_of n None e tt
single_at n (Some d) e h = single_of n (Some d.is_twice) e h

pub named_on : (b c : Bool) (n : ℕ) (new : Option Bool) → b ≡ true → new ≡ twice_of_count (n + cond c 1 0) → new ≡ twice_of_count (n + cond (b && c) 1 0)
named_on b c n new t e = e ∙ ap (λ (x : Bool). twice_of_count (n + cond (x && c) 1 0)) (sym t)

-- a further symbol
pub symbols_more : (symbols : List SymbolData) (i : ℕ) (x : SymbolData) (q : List ℕ) (n : ℕ) → i < length symbols → x ≡ get_or symbols i x
    → n + count_by (has_global_name q) (take i symbols) + cond (has_global_name q x) 1 0 ≡ n + count_by (has_global_name q) (take (i + 1) symbols)
symbols_more symbols i x q n h is =
    let more : count_by (has_global_name q) (take (i + 1) symbols) ≡ count_by (has_global_name q) (take i symbols) + cond (has_global_name q (get_or symbols i x)) 1 0 = sum_by_more (λ s. cond (has_global_name q s) 1 0) symbols i x h in
    let same : cond {A = ℕ} (has_global_name q x) 1 0 ≡ cond (has_global_name q (get_or symbols i x)) 1 0 = ap (λ (s : SymbolData). cond {A = ℕ} (has_global_name q s) 1 0) is in
    omega (arith, more, same)

globals_next : (objects : List ObjectData) (i : ℕ) (d : ObjectData) (q : List ℕ) → i < length objects
    → count_globals_named (take i objects) q + count_by (has_global_name q) (get_or objects i d).symbols ≡ count_globals_named (take (i + 1) objects) q
unfolding count_globals_named
globals_next objects i d q h =
    let f : ObjectData → List SymbolData = λ o. o.symbols in
    sym (ap (λ (os : List ObjectData). count_by (has_global_name q) (flat_map f os)) (take_more objects i d h)
    ∙ ap (count_by (has_global_name q)) (flat_map-append f (take i objects) (get_or objects i d ∷ []))
    ∙ sum_by-append (λ s. cond (has_global_name q s) 1 0) (flat_map f (take i objects)) (flat_map f (get_or objects i d ∷ []))
    ∙ ap (λ (ss : List SymbolData). count_by (has_global_name q) (flat_map f (take i objects)) + count_by (has_global_name q) ss) (append-nil (get_or objects i d).symbols))

-- the symbols of one object more
pub globals_more : (objects : List ObjectData) (i : ℕ) (x : ObjectData) (q : List ℕ) → i < length objects → x ≡ get_or objects i x
    → count_globals_named (take i objects) q + count_by (has_global_name q) x.symbols ≡ count_globals_named (take (i + 1) objects) q
globals_more objects i x q h is = ap (λ (o : ObjectData). count_globals_named (take i objects) q + count_by (has_global_name q) o.symbols) is ∙ globals_next objects i x q h
