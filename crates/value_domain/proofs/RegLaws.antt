-- Lists of values and of flags.
use Rattle.std.proofs.Common.{◌≡◌, ℕ, zero, suc, ◌+◌, ◌<◌, ◌≤◌, inl, inr, Bool, false, ◌&&◌, List, [], ◌∷◌, ◌++◌, length, refl, sym, ap, ◌∙◌, subst, arith, take, drop, get_or, set, add-one, IsTrue}
use Rattle.std.proofs.lemmas.Bool.{cases_lt}
use Rattle.std.proofs.lemmas.List.{take_more, take_more_set, get_or-set_other}
use Rattle.std.proofs.Math.Seq.{drop-cons}
use Rattle.value_domain.specs.declared.values.Val.{Val}
use Rattle.value_domain.specs.Limits.{Limits}
use Rattle.value_domain.specs.Values.{IsInLattice, IsBelow, members, any_val, join_of}
use Rattle.value_domain.proofs.CoverLaws.{cover-same}
use Rattle.value_domain.proofs.ExtentLaws.{among_append, append_left}
use Rattle.value_domain.specs.State.{FlagsImply, joined_regs, joined_locals}

-- an element that is read at a place
pub read_at : (vs : List Val) (i : ℕ) (v d : Val) → i < length vs → v ≡ get_or vs i v → get_or vs i d ≡ v
read_at [] i v d h e = absurd (omega arith)
read_at (u ∷ vs) zero v d h e = sym e
read_at (u ∷ vs) (suc i) v d h e = read_at vs i v d (omega arith) e

pub below_more : (vs ws : List Val) (i : ℕ) → ((r : ℕ) → r < i → IsBelow (get_or vs r any_val) (get_or ws r any_val)) → IsBelow (get_or vs i any_val) (get_or ws i any_val)
    → (r : ℕ) → r < i + 1 → IsBelow (get_or vs r any_val) (get_or ws r any_val)
below_more vs ws i before here r h =
    elim (cases_lt r i) [
      | inl lt ↦ before r lt
      | inr ge ↦ let e : i ≡ r = omega arith in subst (λ (n : ℕ). IsBelow (get_or vs n any_val) (get_or ws n any_val)) e here
    ]

pub get_or-joined : (b : Limits) (vs ws : List Val) (i : ℕ) (v w d : Val) → i < length vs → i < length ws → v ≡ get_or vs i v → w ≡ get_or ws i w
    → get_or (joined_regs b vs ws) i d ≡ join_of b v w
unfolding joined_regs
get_or-joined b [] ws i v w d h k e f = absurd (omega arith)
get_or-joined b (x ∷ vs) [] i v w d h k e f = absurd (omega arith)
get_or-joined b (x ∷ vs) (y ∷ ws) zero v w d h k e f = rw (e, f) refl
get_or-joined b (x ∷ vs) (y ∷ ws) (suc i) v w d h k e f = get_or-joined b vs ws i v w d (omega arith) (omega arith) e f

pub length-joined : (b : Limits) (vs ws : List Val) → length vs ≡ length ws → length (joined_regs b vs ws) ≡ length vs
unfolding joined_regs
length-joined b [] ws e = refl
length-joined b (x ∷ vs) [] e = absurd (omega arith)
length-joined b (x ∷ vs) (y ∷ ws) e = ap suc (length-joined b vs ws (omega arith))

pub regs_more : (b : Limits) (vs ws out : List Val) (i : ℕ) (v w : Val) → i < length vs → length vs ≡ length ws → length out ≡ length vs → v ≡ get_or vs i v → w ≡ get_or ws i w
    → take i out ≡ take i (joined_regs b vs ws) → take (i + 1) (set out i (join_of b v w)) ≡ take (i + 1) (joined_regs b vs ws)
regs_more b vs ws out i v w h same len e f inv =
    take_more_set out i (join_of b v w) (omega arith)
    ∙ ap (λ (l : List Val). l ++ join_of b v w ∷ []) inv
    ∙ ap (λ (u : Val). take i (joined_regs b vs ws) ++ u ∷ []) (sym (get_or-joined b vs ws i v w any_val h (omega arith) e f))
    ∙ sym (take_more (joined_regs b vs ws) i any_val (omega (arith, length-joined b vs ws same)))

-- what is left to join stays
pub regs_left : (vs out : List Val) (i : ℕ) (v : Val) → ((k : ℕ) → i ≤ k → get_or out k any_val ≡ get_or vs k any_val)
    → (k : ℕ) → i + 1 ≤ k → get_or (set out i v) k any_val ≡ get_or vs k any_val
regs_left vs out i v left k h = get_or-set_other out i k v any_val (λ e. omega arith) ∙ left k (omega arith)

-- two equal values are joined already
pub regs_same : (b : Limits) (vs ws out : List Val) (i : ℕ) (v w : Val) → i < length vs → length vs ≡ length ws → length out ≡ length vs → v ≡ get_or vs i v → w ≡ get_or ws i w
    → v ≡ w → IsInLattice b v → take i out ≡ take i (joined_regs b vs ws) → get_or out i any_val ≡ get_or vs i any_val → take (i + 1) out ≡ take (i + 1) (joined_regs b vs ws)
regs_same b vs ws out i v w h same len e f eq value inv left =
    let here : get_or out i any_val ≡ v = left ∙ read_at vs i v any_val h e in
    let joined : join_of b v w ≡ v =
    ap (λ (u : Val). join_of b v u) (sym eq)
    ∙ cover-same b (members v ++ members v) (members v) (λ z i. elim (among_append z (members v) (members v) i) [ inl j ↦ j | inr j ↦ j ])
    (λ z i. append_left z (members v) (members v) i)
    ∙ value.own
    in
    take_more out i any_val (omega arith)
    ∙ ap (λ (l : List Val). l ++ get_or out i any_val ∷ []) inv
    ∙ ap (λ (u : Val). take i (joined_regs b vs ws) ++ u ∷ []) (here ∙ sym joined ∙ sym (get_or-joined b vs ws i v w any_val h (omega arith) e f))
    ∙ sym (take_more (joined_regs b vs ws) i any_val (omega (arith, length-joined b vs ws same)))

-- flags
pub implied_length : (xs ys : List Bool) → FlagsImply xs ys → length xs ≡ length ys
implied_length [] [] h = refl
implied_length [] (y ∷ ys) h = absurd h
implied_length (x ∷ xs) [] h = absurd h
implied_length (x ∷ xs) (y ∷ ys) h = ap suc (implied_length xs ys h.1)

pub implied_at : (xs ys : List Bool) (i : ℕ) → i < length xs → i < length ys
    → (FlagsImply (drop i xs) (drop i ys) → (IsTrue (get_or xs i false) → IsTrue (get_or ys i false)) × FlagsImply (drop (i + 1) xs) (drop (i + 1) ys))
    × ((IsTrue (get_or xs i false) → IsTrue (get_or ys i false)) → FlagsImply (drop (i + 1) xs) (drop (i + 1) ys) → FlagsImply (drop i xs) (drop i ys))
implied_at xs ys i h k =
    rw (add-one, drop-cons xs i false h, drop-cons ys i false k) ((λ a. a), (λ a b. (a, b)))

pub get_or-and : (xs ys : List Bool) (i : ℕ) → i < length xs → length xs ≡ length ys → get_or (joined_locals xs ys) i false ≡ (get_or xs i false && get_or ys i false)
get_or-and [] ys i h e = absurd (omega arith)
get_or-and (x ∷ xs) [] i h e = absurd (omega arith)
get_or-and (x ∷ xs) (y ∷ ys) zero h e = refl
get_or-and (x ∷ xs) (y ∷ ys) (suc i) h e = get_or-and xs ys i (omega arith) (omega arith)

pub length-and : (xs ys : List Bool) → length xs ≡ length ys → length (joined_locals xs ys) ≡ length xs
length-and [] ys e = refl
length-and (x ∷ xs) [] e = absurd (omega arith)
length-and (x ∷ xs) (y ∷ ys) e = ap suc (length-and xs ys (omega arith))

pub locals_more : (xs ys out : List Bool) (i : ℕ) → i < length xs → length xs ≡ length ys → out ≡ take i (joined_locals xs ys)
    → out ++ (get_or xs i false && get_or ys i false) ∷ [] ≡ take (i + 1) (joined_locals xs ys)
locals_more xs ys out i h e inv =
    ap (λ (l : List Bool). l ++ (get_or xs i false && get_or ys i false) ∷ []) inv
    ∙ ap (λ (u : Bool). take i (joined_locals xs ys) ++ u ∷ []) (sym (get_or-and xs ys i h e))
    ∙ sym (take_more (joined_locals xs ys) i false (omega (arith, length-and xs ys e)))
