-- The map of symbols, as a list.
use Rattle.std.proofs.Common.{◌≡◌, ℕ, Bool, true, false, cond, List, [], ◌∷◌, map, Option, Some, None, refl, ap, sym, ◌∙◌}
use Rattle.std.specs.Prelude.{find, option_map, position, is_some, unwrap_or}
use Rattle.std.specs.Borrow.{Bor}
use Rattle.std.specs.Str.{bytes_eq}
use Rattle.std.proofs.lemmas.Slice.Eq.{bytes_eq-Decides}
use Rattle.std.specs.Map.{lookup, keys_of}
use Rattle.indexmap.specs.IndexMap.{insert_entry}
use Rattle.tc_lex.proofs.Mapped.{position-map}
use Rattle.tc_asm.specs.declared.symbols.Entry.{Entry}
use Rattle.tc_asm.specs.Symbols.{SymbolData, symbol, undefined_entry, entry_in, entry_or_undefined, with_symbol_entry, with_name, with_symbol_label, entry_of_new_label, entry_with_label}
use Rattle.tc_asm.specs.declared.symbols.Place.{Place}

abbrev pub Key : Type 0
Key = Bor (List ℕ)

abbrev pub same_key : Key → Key → Bool
same_key x y = bytes_eq x.now y.now

abbrev pub known_of : Key × Entry → SymbolData
known_of p = record { name = p.0.now; entry = p.1 }

chosen : (b : Bool) (x : SymbolData) (o : Option Entry) (q : Option SymbolData) → o ≡ option_map (λ (s : SymbolData). s.entry) q
    → cond b (Some x.entry) o ≡ option_map (λ (s : SymbolData). s.entry) (cond b (Some x) q)
chosen true x o q e = refl
chosen false x o q e = e

pub lookup-known : (es : List (Key × Entry)) (k : Key) → lookup (same_key k) es ≡ entry_in (map known_of es) k.now
lookup-known [] k = refl
lookup-known (e ∷ es) k = chosen (bytes_eq k.now e.0.now) (known_of e) (lookup (same_key k) es) (find (λ s. bytes_eq k.now s.name) (map known_of es)) (lookup-known es k)

put : (b : Bool) (k : Key) (v : Entry) (e : Key × Entry) (es fs : List (Key × Entry)) (ss : List SymbolData) → map known_of fs ≡ ss
    → map known_of (cond b ((e.0, v) ∷ es) (e ∷ fs)) ≡ cond b (symbol e.0.now v ∷ map known_of es) (known_of e ∷ ss)
put true k v e es fs ss h = refl
put false k v e es fs ss h = ap (λ (us : List SymbolData). known_of e ∷ us) h

pub insert-known : (es : List (Key × Entry)) (k : Key) (v : Entry) → map known_of (insert_entry same_key es k v) ≡ with_symbol_entry (map known_of es) k.now v
insert-known [] k v = refl
insert-known (e ∷ es) k v = put (bytes_eq k.now e.0.now) k v e es (insert_entry same_key es k v) (with_symbol_entry (map known_of es) k.now v) (insert-known es k v)

pub position-known : (es : List (Key × Entry)) (k : Key) → position (same_key k) (keys_of es) ≡ position (λ (s : SymbolData). bytes_eq k.now s.name) (map known_of es)
position-known es k =
    sym (position-map (same_key k) (λ (e : Key × Entry). e.0) es)
    ∙ position-map (λ (s : SymbolData). bytes_eq k.now s.name) known_of es

-- ---- a name that is used
put_same : (ss : List SymbolData) (name : List ℕ) (e : Entry) → entry_in ss name ≡ Some e → with_symbol_entry ss name e ≡ ss
put_same [] name e h = cc
put_same (s ∷ ss) name e h = by (bytes_eq name s.name) (λ k. put_same ss name e k) h
  where
    by : (b : Bool) → (entry_in ss name ≡ Some e → with_symbol_entry ss name e ≡ ss) → option_map (λ (x : SymbolData). x.entry) (cond b (Some s) (find (λ (x : SymbolData). bytes_eq name x.name) ss)) ≡ Some e
        → cond b (symbol s.name e ∷ ss) (s ∷ with_symbol_entry ss name e) ≡ s ∷ ss
    by true rec h = let same : e ≡ s.entry = cc in ap (λ (x : Entry). symbol s.name x ∷ ss) same
    by false rec h = ap (λ (xs : List SymbolData). s ∷ xs) (rec h)

-- a known name changes nothing
pub seen_known : (ss : List SymbolData) (name : List ℕ) (o : Option Entry) → o ≡ entry_in ss name → is_some o ≡ true → ss ≡ with_name ss name
unfolding with_name
seen_known ss name None is h = cc
seen_known ss name (Some e) is h =
    let known : entry_or_undefined ss name ≡ e = ap (λ (o : Option Entry). unwrap_or o undefined_entry) (sym is) in
    sym (ap (with_symbol_entry ss name) known ∙ put_same ss name e (sym is))

-- a new name gets the entry of an undefined name
pub seen_new : (ss next : List SymbolData) (name : List ℕ) (o : Option Entry) → o ≡ entry_in ss name → is_some o ≡ false → next ≡ with_symbol_entry ss name undefined_entry → next ≡ with_name ss name
unfolding with_name
seen_new ss next name None is h e = e ∙ ap (with_symbol_entry ss name) (sym (ap (λ (o : Option Entry). unwrap_or o undefined_entry) (sym is)))
seen_new ss next name (Some x) is h e = cc

-- ---- a name that gets its label
-- the second of two entries for a name replaces the first
pub put_again : (ss : List SymbolData) (name : List ℕ) (e f : Entry) → with_symbol_entry (with_symbol_entry ss name e) name f ≡ with_symbol_entry ss name f
put_again [] name e f = ap (λ (q : Bool). cond q (symbol name f ∷ []) (symbol name e ∷ symbol name f ∷ [])) ((bytes_eq-Decides name name).1 refl)
put_again (s ∷ ss) name e f = by (bytes_eq name s.name) refl (put_again ss name e f)
  where
    by : (b : Bool) → bytes_eq name s.name ≡ b → with_symbol_entry (with_symbol_entry ss name e) name f ≡ with_symbol_entry ss name f
        → with_symbol_entry (cond b (symbol s.name e ∷ ss) (s ∷ with_symbol_entry ss name e)) name f ≡ cond b (symbol s.name f ∷ ss) (s ∷ with_symbol_entry ss name f)
    by true t rec = ap (λ (q : Bool). cond q (symbol s.name f ∷ ss) (symbol s.name e ∷ with_symbol_entry ss name f)) t
    by false t rec =
        ap (λ (q : Bool). cond q (symbol s.name f ∷ with_symbol_entry ss name e) (s ∷ with_symbol_entry (with_symbol_entry ss name e) name f)) t
        ∙ ap (λ (xs : List SymbolData). s ∷ xs) rec

pub labelled_new : (ss next : List SymbolData) (name : List ℕ) (place : Place) (o : Option Entry) → o ≡ entry_in ss name → o ≡ None → next ≡ with_symbol_entry ss name (entry_of_new_label place) → next ≡ with_symbol_label ss name place
unfolding with_symbol_label
labelled_new ss next name place o is none e =
    e ∙ ap (λ (x : Option Entry). with_symbol_entry ss name (entry_with_label (unwrap_or x undefined_entry) place)) (sym none ∙ is)

pub labelled_known : (ss mid next : List SymbolData) (name : List ℕ) (place : Place) (o : Option Entry) (old : Entry) → o ≡ entry_in ss name → o ≡ Some old
    → mid ≡ with_symbol_entry ss name (entry_of_new_label place) → next ≡ with_symbol_entry mid name (entry_with_label old place) → next ≡ with_symbol_label ss name place
unfolding with_symbol_label
labelled_known ss mid next name place o old is some e f =
    f
    ∙ ap (λ (x : List SymbolData). with_symbol_entry x name (entry_with_label old place)) e
    ∙ put_again ss name (entry_of_new_label place) (entry_with_label old place)
    ∙ ap (λ (x : Option Entry). with_symbol_entry ss name (entry_with_label (unwrap_or x undefined_entry) place)) (sym some ∙ is)
