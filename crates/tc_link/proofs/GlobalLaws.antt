-- Addresses of global symbols in a map: the first of each name.
use Rattle.std.proofs.Common.{◌≡◌, ◌<◌, ◌∷◌, ◌++◌, [], ◌+◌, ℕ, Bool, true, false, cond, List, length, take, get_or, map, Option, Some, None, refl, sym, ap, ◌∙◌, append_assoc}
use Rattle.std.specs.Prelude.{is_some, find, filter}
use Rattle.std.specs.Option.{option_map, option_or}
use Rattle.std.specs.List.{flat_map}
use Rattle.std.specs.Str.{bytes_eq}
use Rattle.std.proofs.lemmas.Slice.Eq.{bytes_eq-Decides}
use Rattle.std.proofs.lemmas.List.{take_more, append-nil, map-append}
use Rattle.std.proofs.lemmas.List.Folds.{find-append}
use Rattle.std.proofs.lemmas.List.Concat.{flat_map-append}
use Rattle.std.proofs.lemmas.List.Elements.{filter-append}
use Rattle.tc_object.specs.Objects.{SymbolData}
use Rattle.tc_link.specs.Placing.{PlacedData}
use Rattle.tc_link.specs.GlobalSymbols.{GlobalData, is_global, global_data, globals_of, first_global_address}
use Rattle.tc_object.proofs.UsedLaws.{bytes_eq-sym}

map_or : {A B : Type 0} (f : A → B) (a b : Option A) → option_map f (option_or a b) ≡ option_or (option_map f a) (option_map f b)
map_or f None b = refl
map_or f (Some x) b = refl

pub or_none : {A : Type 0} (a : Option A) → a ≡ option_or a None
or_none None = refl
or_none (Some x) = refl

one_global : (b : Bool) (g : GlobalData) → option_map (λ (x : GlobalData). x.address) (cond b (Some g) None) ≡ cond b (Some g.address) None
one_global true g = refl
one_global false g = refl

-- a further global symbol
pub global_push : (before : List GlobalData) (g : GlobalData) (q : List ℕ) → first_global_address (before ++ g ∷ []) q ≡ option_or (first_global_address before q) (cond (bytes_eq q g.name) (Some g.address) None)
global_push before g q =
    let p : GlobalData → Bool = λ x. bytes_eq q x.name in
    let f : GlobalData → ℕ = λ x. x.address in
    ap (option_map f) (find-append p before (g ∷ []))
    ∙ map_or f (find p before) (find p (g ∷ []))
    ∙ ap (option_or (option_map f (find p before))) (one_global (bytes_eq q g.name) g)

some_or : {A : Type 0} (a b : Option A) → is_some a ≡ true → a ≡ option_or a b
some_or None b e = cc
some_or (Some x) b e = refl

none_or : {A : Type 0} (a b : Option A) → is_some a ≡ false → b ≡ option_or a b
none_or None b e = refl
none_or (Some x) b e = cc

-- a name in the map keeps its address
pub keep_global : (old : List ℕ → Option ℕ) (name : List ℕ) (address : ℕ) (q : List ℕ) → is_some (old name) ≡ true → old q ≡ option_or (old q) (cond (bytes_eq q name) (Some address) None)
keep_global old name address q there = by_test (bytes_eq q name) refl
  where
    by_test : (b : Bool) → bytes_eq q name ≡ b → old q ≡ option_or (old q) (cond b (Some address) None)
    by_test true t = some_or (old q) (Some address) (ap (λ (x : List ℕ). is_some (old x)) ((bytes_eq-Decides q name).0 t) ∙ there)
    by_test false t = or_none (old q)

-- a name that isn't gets one
pub put_global : (old : List ℕ → Option ℕ) (name : List ℕ) (address : ℕ) (q : List ℕ) (new : Option ℕ) → is_some (old name) ≡ false → new ≡ cond (bytes_eq name q) (Some address) (old q)
    → new ≡ option_or (old q) (cond (bytes_eq q name) (Some address) None)
put_global old name address q new none u = by_test (bytes_eq q name) refl
  where
    by_test : (b : Bool) → bytes_eq q name ≡ b → new ≡ option_or (old q) (cond b (Some address) None)
    by_test true t =
        u ∙ ap (λ b. cond b (Some address) (old q)) (bytes_eq-sym name q ∙ t)
        ∙ none_or (old q) (Some address) (ap (λ (x : List ℕ). is_some (old x)) ((bytes_eq-Decides q name).0 t) ∙ none)
    by_test false t = u ∙ ap (λ b. cond b (Some address) (old q)) (bytes_eq-sym name q ∙ t) ∙ or_none (old q)

-- a fact of a value that is put at a name
pub map_cond : {A B : Type 0} (f : A → B) (b : Bool) (x : A) (o : Option A) → option_map f (cond b (Some x) o) ≡ cond b (Some (f x)) (option_map f o)
map_cond f true x o = refl
map_cond f false x o = refl

-- of two values at a name the later one counts
pub put_twice : {A : Type 0} (b : Bool) (x y old new last : Option A) → new ≡ cond b x old → last ≡ cond b y new → last ≡ cond b y old
put_twice true x y old new last e f = f
put_twice false x y old new last e f = f ∙ e

-- putting the value of a name again changes nothing
pub same_global : (old : List ℕ → Option ℕ) (name q : List ℕ) (a : ℕ) → old name ≡ Some a → cond (bytes_eq name q) (Some a) (old q) ≡ old q
same_global old name q a h = by_test (bytes_eq name q) refl
  where
    by_test : (b : Bool) → bytes_eq name q ≡ b → cond b (Some a) (old q) ≡ old q
    by_test true t = sym h ∙ ap old ((bytes_eq-Decides name q).0 t)
    by_test false t = refl

-- the globals of one object more
pub globals_next : (placed : List PlacedData) (i : ℕ) (p : PlacedData) → i < length placed → p ≡ get_or placed i p
    → globals_of (take i placed) ++ map (global_data p.bases) (filter is_global p.object.symbols) ≡ globals_of (take (i + 1) placed)
unfolding globals_of
globals_next placed i p h is =
    let f : PlacedData → List GlobalData = λ x. map (global_data x.bases) (filter is_global x.object.symbols) in
    ap (λ (x : PlacedData). flat_map f (take i placed) ++ f x) is
    ∙ ap (λ (gs : List GlobalData). flat_map f (take i placed) ++ gs) (sym (append-nil (f (get_or placed i p))))
    ∙ sym (ap (flat_map f) (take_more placed i p h) ∙ flat_map-append f (take i placed) (get_or placed i p ∷ []))

-- the globals of one symbol more
pub symbols_next : (before : List GlobalData) (bases : List ℕ) (symbols : List SymbolData) (i : ℕ) (x : SymbolData) → i < length symbols → x ≡ get_or symbols i x
    → (before ++ map (global_data bases) (filter is_global (take i symbols))) ++ map (global_data bases) (filter is_global (x ∷ [])) ≡ before ++ map (global_data bases) (filter is_global (take (i + 1) symbols))
symbols_next before bases symbols i x h is =
    let g : SymbolData → GlobalData = global_data bases in
    append_assoc before (map g (filter is_global (take i symbols))) (map g (filter is_global (x ∷ [])))
    ∙ ap (λ (gs : List GlobalData). before ++ gs) (
    sym (map-append g (filter is_global (take i symbols)) (filter is_global (x ∷ [])))
    ∙ ap (map g) (sym (filter-append is_global (take i symbols) (x ∷ [])))
    ∙ ap (λ (ss : List SymbolData). map g (filter is_global ss)) (ap (λ (y : SymbolData). take i symbols ++ y ∷ []) is ∙ sym (take_more symbols i x h))
    )
