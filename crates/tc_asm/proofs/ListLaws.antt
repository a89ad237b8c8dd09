-- Lists in which each item is valid given the earlier ones, and changes of one section.
use Rattle.std.proofs.Common.{◌≡◌, ◌<◌, ◌≤◌, ◌+◌, ◌++◌, ◌||◌, ℕ, zero, suc, Bool, true, false, cond, List, [], ◌∷◌, length, set, Option, None, Some, refl, ap, sym, subst, ◌∙◌, append_assoc, append-nil, arith}
use Rattle.std.specs.Prelude.{slice_get, option_map, find, unwrap_or, position, not}
use Rattle.std.proofs.lemmas.List.Sums.{sum_by-cons}
use Rattle.std.specs.Option.{option_map_or}
use Rattle.std.specs.List.{list_any, position_or_len, All}
use Rattle.std.proofs.lemmas.List.Elements.{All-nil, All-cons}
use Rattle.std.proofs.lemmas.Bool.{lt-ltb}
use Rattle.std.specs.Str.{bytes_eq}
use Rattle.tc_object.specs.Objects.{AllInTurn}
use Rattle.tc_stmt.proofs.Cases.{by_test}
use Rattle.tc_asm.specs.declared.symbols.Entry.{Entry}
use Rattle.tc_asm.specs.Symbols.{SymbolData, symbol, with_symbol_entry, symbol_names}
use Rattle.tc_asm.specs.Drafts.{UseData, DraftSectionData, draft_section_names, count_of_uses, draft_section_size_at}
use Rattle.tc_asm.specs.DraftInvariants.{EachInDraft, is_drafted_name, AreUsesDisjoint}

pub each_weaker : {A : Type 0} (P Q : A → Type 0) → ((x : A) → P x → Q x) → (xs : List A) → EachInDraft P xs → EachInDraft Q xs
each_weaker P Q f [] h = h
each_weaker P Q f (x ∷ xs) h = (f x h.0, each_weaker P Q f xs h.1)

pub each_push : {A : Type 0} (P : A → Type 0) (xs : List A) (y : A) → EachInDraft P xs → P y → EachInDraft P (xs ++ y ∷ [])
each_push P [] y h p = (p, tt)
each_push P (x ∷ xs) y h p = (h.0, each_push P xs y h.1 p)

pub in_turn_push : {A : Type 0} (good : List A → A → Type 0) (before xs : List A) (y : A) → AllInTurn good before xs → good (before ++ xs) y → AllInTurn good before (xs ++ y ∷ [])
in_turn_push good before [] y h g = (subst (λ bs. good bs y) (append-nil before) g, tt)
in_turn_push {A} good before (x ∷ xs) y h g =
    let moved : before ++ (x ∷ xs) ≡ (before ++ x ∷ []) ++ xs = sym (append_assoc before (x ∷ []) xs) in
    (h.0, in_turn_push good (before ++ x ∷ []) xs y h.1 (subst (λ (bs : List A). good bs y) moved g))

-- ---- names
pub among_push : (names : List (List ℕ)) (m n : List ℕ) → is_drafted_name names n ≡ true → is_drafted_name (names ++ m ∷ []) n ≡ true
among_push [] m n h = cc
among_push (x ∷ xs) m n h = by (bytes_eq n x) h (among_push xs m n)
  where
    by : (b : Bool) → (b || is_drafted_name xs n) ≡ true → (is_drafted_name xs n ≡ true → is_drafted_name (xs ++ m ∷ []) n ≡ true) → (b || is_drafted_name (xs ++ m ∷ []) n) ≡ true
    by true e rest = refl
    by false e rest = rest e

pub among_last : (names : List (List ℕ)) (n : List ℕ) → bytes_eq n n ≡ true → is_drafted_name (names ++ n ∷ []) n ≡ true
among_last [] n same = rw same refl
among_last (x ∷ xs) n same = by (bytes_eq n x) (among_last xs n same)
  where
    by : (b : Bool) → is_drafted_name (xs ++ n ∷ []) n ≡ true → (b || is_drafted_name (xs ++ n ∷ []) n) ≡ true
    by true rest = refl
    by false rest = rest

-- the names after a symbol is put
pub names_put : (ss : List SymbolData) (name : List ℕ) (e : Entry)
    → symbol_names (with_symbol_entry ss name e) ≡ cond (is_drafted_name (symbol_names ss) name) (symbol_names ss) (symbol_names ss ++ name ∷ [])
names_put [] name e = refl
names_put (s ∷ ss) name e = by (bytes_eq name s.name) (is_drafted_name (symbol_names ss) name) (names_put ss name e)
  where
    by : (b a : Bool) → symbol_names (with_symbol_entry ss name e) ≡ cond a (symbol_names ss) (symbol_names ss ++ name ∷ [])
        → symbol_names (cond b (symbol s.name e ∷ ss) (s ∷ with_symbol_entry ss name e)) ≡ cond (b || a) (s.name ∷ symbol_names ss) (s.name ∷ (symbol_names ss ++ name ∷ []))
    by true a h = refl
    by false true h = ap (λ (ns : List (List ℕ)). s.name ∷ ns) h
    by false false h = ap (λ (ns : List (List ℕ)). s.name ∷ ns) h

pub each_put : (P : Entry → Type 0) (ss : List SymbolData) (name : List ℕ) (e : Entry) → EachInDraft (λ (s : SymbolData). P s.entry) ss → P e
    → EachInDraft (λ (s : SymbolData). P s.entry) (with_symbol_entry ss name e)
each_put P [] name e h p = (p, tt)
each_put P (s ∷ ss) name e h p =
    by_test (λ (us : List SymbolData). EachInDraft (λ (t : SymbolData). P t.entry) us) (bytes_eq name s.name) (symbol s.name e ∷ ss) (s ∷ with_symbol_entry ss name e)
    (λ b. (p, h.1)) (λ b. (h.0, each_put P ss name e h.1 p))

-- a property of each entry holds of the entry of a name
pub entry_has : (P : Entry → Type 0) (ss : List SymbolData) (name : List ℕ) (none : Entry) → EachInDraft (λ (s : SymbolData). P s.entry) ss → P none
    → P (unwrap_or (option_map (λ (s : SymbolData). s.entry) (find (λ s. bytes_eq name s.name) ss)) none)
entry_has P [] name none h p = p
entry_has P (s ∷ ss) name none h p = by (bytes_eq name s.name) (entry_has P ss name none h.1 p)
  where
    by : (b : Bool) → P (unwrap_or (option_map (λ (t : SymbolData). t.entry) (find (λ t. bytes_eq name t.name) ss)) none) → P (unwrap_or (option_map (λ (t : SymbolData). t.entry) (cond b (Some s) (find (λ t. bytes_eq name t.name) ss))) none)
    by true rest = h.0
    by false rest = rest

pub known_among : (ss : List SymbolData) (name : List ℕ) → find (λ (s : SymbolData). bytes_eq name s.name) ss ≡ None → is_drafted_name (symbol_names ss) name ≡ false
known_among [] name h = refl
known_among (s ∷ ss) name h = by (bytes_eq name s.name) h (known_among ss name)
  where
    by : (b : Bool) → cond b (Some s) (find (λ (t : SymbolData). bytes_eq name t.name) ss) ≡ None
        → (find (λ (t : SymbolData). bytes_eq name t.name) ss ≡ None → is_drafted_name (symbol_names ss) name ≡ false) → (b || is_drafted_name (symbol_names ss) name) ≡ false
    by true e rest = cc
    by false e rest = rest e

pub among_known : (ss : List SymbolData) (name : List ℕ) (s : SymbolData) → find (λ (t : SymbolData). bytes_eq name t.name) ss ≡ Some s → is_drafted_name (symbol_names ss) name ≡ true
among_known [] name s h = cc
among_known (x ∷ ss) name s h = by (bytes_eq name x.name) h (among_known ss name s)
  where
    by : (b : Bool) → cond b (Some x) (find (λ (t : SymbolData). bytes_eq name t.name) ss) ≡ Some s
        → (find (λ (t : SymbolData). bytes_eq name t.name) ss ≡ Some s → is_drafted_name (symbol_names ss) name ≡ true) → (b || is_drafted_name (symbol_names ss) name) ≡ true
    by true e rest = refl
    by false e rest = rest e

-- ---- a change of one section
abbrev pub changed : (DraftSectionData → DraftSectionData) → List DraftSectionData → ℕ → List DraftSectionData
changed f [] i = []
changed f (p ∷ ps) zero = f p ∷ ps
changed f (p ∷ ps) (suc i) = p ∷ changed f ps i

pub changed-set : (f : DraftSectionData → DraftSectionData) (parts : List DraftSectionData) (i : ℕ) → option_map_or (λ p. set parts i (f p)) (slice_get parts i) parts ≡ changed f parts i
changed-set f [] i = refl
changed-set f (p ∷ ps) zero = refl
changed-set f (p ∷ ps) (suc i) = pulled (slice_get ps i) ∙ ap (λ (qs : List DraftSectionData). p ∷ qs) (changed-set f ps i)
  where
    pulled : (o : Option DraftSectionData) → option_map_or (λ q. p ∷ set ps i (f q)) o (p ∷ ps) ≡ p ∷ option_map_or (λ q. set ps i (f q)) o ps
    pulled None = refl
    pulled (Some q) = refl

pub changed-changed : (f g : DraftSectionData → DraftSectionData) (parts : List DraftSectionData) (i : ℕ) → changed g (changed f parts i) i ≡ changed (λ p. g (f p)) parts i
changed-changed f g [] i = refl
changed-changed f g (p ∷ ps) zero = refl
changed-changed f g (p ∷ ps) (suc i) = ap (λ (qs : List DraftSectionData). p ∷ qs) (changed-changed f g ps i)

pub length-changed : (f : DraftSectionData → DraftSectionData) (parts : List DraftSectionData) (i : ℕ) → length (changed f parts i) ≡ length parts
length-changed f [] i = refl
length-changed f (p ∷ ps) zero = refl
length-changed f (p ∷ ps) (suc i) = ap suc (length-changed f ps i)

pub names-changed : (f : DraftSectionData → DraftSectionData) → ((p : DraftSectionData) → (f p).name ≡ p.name) → (parts : List DraftSectionData) (i : ℕ) → draft_section_names (changed f parts i) ≡ draft_section_names parts
names-changed f h [] i = refl
names-changed f h (p ∷ ps) zero = ap (λ (n : List ℕ). n ∷ draft_section_names ps) (h p)
names-changed f h (p ∷ ps) (suc i) = ap (λ (ns : List (List ℕ)). p.name ∷ ns) (names-changed f h ps i)

pub size-changed : (f : DraftSectionData → DraftSectionData) → ((p : DraftSectionData) → length p.bytes ≤ length (f p).bytes) → (parts : List DraftSectionData) (i n : ℕ) → draft_section_size_at parts n ≤ draft_section_size_at (changed f parts i) n
size-changed f h [] i n = omega arith
size-changed f h (p ∷ ps) zero zero = h p
size-changed f h (p ∷ ps) zero (suc n) = omega arith
size-changed f h (p ∷ ps) (suc i) zero = omega arith
size-changed f h (p ∷ ps) (suc i) (suc n) = size-changed f h ps i n

pub each_changed : (P Q : DraftSectionData → Type 0) (f : DraftSectionData → DraftSectionData) (parts : List DraftSectionData) (i : ℕ) → ((p : DraftSectionData) → P p → Q p) → ((p : DraftSectionData) → length p.bytes ≡ draft_section_size_at parts i → P p → Q (f p))
    → EachInDraft P parts → EachInDraft Q (changed f parts i)
each_changed P Q f [] i other here h = tt
each_changed P Q f (p ∷ ps) zero other here h = (here p refl h.0, each_weaker P Q other ps h.1)
each_changed P Q f (p ∷ ps) (suc i) other here h = (other p h.0, each_changed P Q f ps i other here h.1)

pub count-changed : (f : DraftSectionData → DraftSectionData) (k : ℕ) → ((p : DraftSectionData) → length (f p).uses ≡ length p.uses + k) → (parts : List DraftSectionData) (i : ℕ) → i < length parts → count_of_uses (changed f parts i) ≡ count_of_uses parts + k
count-changed f k h [] i less = absurd (omega arith)
count-changed f k h (p ∷ ps) zero less = let here = h p in count_cons (f p) ps ∙ omega (arith, here, count_cons p ps)
  where
    count_cons : (q : DraftSectionData) (qs : List DraftSectionData) → count_of_uses (q ∷ qs) ≡ length q.uses + count_of_uses qs
    count_cons q qs = sum_by-cons (λ (r : DraftSectionData). length r.uses) q qs
count-changed f k h (p ∷ ps) (suc i) less =
    let rest : count_of_uses (changed f ps i) ≡ count_of_uses ps + k = count-changed f k h ps i (omega arith) in
    sum_by-cons (λ (r : DraftSectionData). length r.uses) p (changed f ps i) ∙ omega (arith, rest, sum_by-cons (λ (r : DraftSectionData). length r.uses) p ps)

-- ---- a further section
pub size-push : (parts : List DraftSectionData) (p : DraftSectionData) (n : ℕ) → draft_section_size_at parts n ≤ draft_section_size_at (parts ++ p ∷ []) n
size-push [] p n = omega arith
size-push (q ∷ qs) p zero = omega arith
size-push (q ∷ qs) p (suc n) = size-push qs p n

pub size_at-get : (parts : List DraftSectionData) (n : ℕ) → option_map_or (λ (p : DraftSectionData). length p.bytes) (slice_get parts n) 0 ≡ draft_section_size_at parts n
size_at-get [] n = refl
size_at-get (p ∷ ps) zero = refl
size_at-get (p ∷ ps) (suc n) = size_at-get ps n

-- ---- uses
pub spaced_longer : (low : ℕ) (us : List UseData) (m n : ℕ) → m ≤ n → AreUsesDisjoint low us m → AreUsesDisjoint low us n
spaced_longer low [] m n h s = omega arith
spaced_longer low (u ∷ us) m n h s = (s.0, spaced_longer (u.offset + 4) us m n h s.1)

pub spaced_push : (low : ℕ) (us : List UseData) (m n : ℕ) (u : UseData) → m ≤ u.offset → u.offset + 4 ≤ n → AreUsesDisjoint low us m → AreUsesDisjoint low (us ++ u ∷ []) n
spaced_push low [] m n u h k s = (omega arith, k)
spaced_push low (x ∷ us) m n u h k s = (s.0, spaced_push (x.offset + 4) us m n u h k s.1)

pub spaced_end : (low : ℕ) (us : List UseData) (size : ℕ) → AreUsesDisjoint low us size → low ≤ size
spaced_end low [] size h = h
spaced_end low (u ∷ us) size h = let more = spaced_end (u.offset + 4) us size h.1 in let le = h.0 in omega arith

pub all_from_each : {A : Type 0} (P : A → Type 0) (xs : List A) → EachInDraft P xs → All P xs
all_from_each P [] h = All-nil P
all_from_each P (x ∷ xs) h = All-cons P x xs h.0 (all_from_each P xs h.1)

-- ---- the first that passes
pub any_first : {A : Type 0} (p : A → Bool) (xs : List A) → list_any p xs ≡ true → position_or_len p xs < length xs
any_first p [] h = cc
any_first p (x ∷ xs) h = by (p x) h (any_first p xs)
  where
    by : (b : Bool) → (b || list_any p xs) ≡ true → (list_any p xs ≡ true → position_or_len p xs < length xs) → cond (not b) (1 + position_or_len p xs) 0 < length (x ∷ xs)
    by true e more = omega arith
    by false e more = let rest : position_or_len p xs < length xs = more e in omega arith

pub position_first : {A : Type 0} (p : A → Bool) (xs : List A) → list_any p xs ≡ true → position p xs ≡ Some (position_or_len p xs)
position_first p xs h = ap (λ b. cond b (Some (position_or_len p xs)) None) (lt-ltb _ _ (any_first p xs h))
