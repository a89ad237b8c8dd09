-- Sparse lists of values.
use Rattle.std.proofs.Common.{◌≡◌, ◌∙◌, ℕ, zero, suc, ◌+◌, ◌-◌, ◌<◌, ◌≤◌, inl, inr, List, [], ◌∷◌, ◌++◌, length, take, drop, get_or, replicate, set, All, refl, subst, sym, ap, arith}
use Rattle.std.specs.List.{flat_map, insert}
use Rattle.std.proofs.lemmas.Bool.{cases_lt}
use Rattle.std.proofs.lemmas.List.Concat.{flat_map-append}
use Rattle.std.proofs.lemmas.List.{append-nil, append_assoc, drop-set, drop_more, get_or-append-add, get_or-append_right, get_or-replicate, get_or_append_left, get_or_at, get_or_past, get_or_default, length-append, length-replicate, length-take-le, length_push, replicate-append-replicate, replicate_more, set-get_or, set_at, set_past, set_split, take-append-drop, take-set, take_all, take_more}
use Rattle.value_domain.specs.declared.values.Val.{Val}
use Rattle.value_domain.specs.Limits.{Limits}
use Rattle.value_domain.specs.State.{AreBelow, AreInLattice, AreWellFormed, joined_regs}
use Rattle.value_domain.specs.Values.{join_of, IsBelow, IsInLattice, IsWellFormed, any_val}
use Rattle.value_domain.proofs.RangeLaws.{below_any}
use Rattle.value_domain.proofs.RegLaws.{get_or-joined, length-joined}
use Rattle.depth_cert.specs.Spelling.{bytes_of_value}
use Rattle.small_states.specs.declared.values.SpacedValue.{SpacedValue}
use Rattle.small_states.specs.CompactForms.{values_to_last_known, spaced_values, values_from}
use Rattle.small_states.proofs.SameValues.{join_all}

-- all values
abbrev pub all : List SpacedValue → ℕ → List Val
all known rest = values_to_last_known known ++ replicate rest any_val

pub all_few : (known : List SpacedValue) (rest : ℕ) → length (values_to_last_known known) + rest ≡ length (all known rest)
all_few known rest = omega (arith, length-append (values_to_last_known known) (replicate rest any_val), length-replicate rest any_val)

pub more_anys : (known : List SpacedValue) (rest count : ℕ) → all known (rest + count) ≡ all known rest ++ replicate count any_val
more_anys known rest count =
    ap (λ (l : List Val). values_to_last_known known ++ l) (sym (replicate-append-replicate rest count any_val))
    ∙ sym (append_assoc (values_to_last_known known) (replicate rest any_val) (replicate count any_val))

-- one more known value after some
pub all_parts : (xs ys : List SpacedValue) (s : SpacedValue) (rest : ℕ) → all (xs ++ s ∷ ys) rest ≡ values_to_last_known xs ++ (replicate s.anys any_val ++ s.value ∷ (values_to_last_known ys ++ replicate rest any_val))
all_parts xs ys s rest =
    ap (λ (l : List Val). l ++ replicate rest any_val) (flat_map-append spaced_values xs (s ∷ ys))
    ∙ append_assoc (values_to_last_known xs) (spaced_values s ++ values_to_last_known ys) (replicate rest any_val)
    ∙ ap (λ (l : List Val). values_to_last_known xs ++ l)
    (append_assoc (spaced_values s) (values_to_last_known ys) (replicate rest any_val) ∙ append_assoc (replicate s.anys any_val) (s.value ∷ []) (values_to_last_known ys ++ replicate rest any_val))

-- ---- a value that is known
module _ (known : List SpacedValue) (rest n : ℕ) (here : SpacedValue) (lt : n < length known) (is : here ≡ get_or known n here) where
  abbrev before : List Val
  before = values_to_last_known (take n known)

  abbrev after : List Val
  after = values_to_last_known (drop (n + 1) known) ++ replicate rest any_val

  abbrev anys : List Val
  anys = replicate here.anys any_val

  split : known ≡ take n known ++ here ∷ drop (n + 1) known
  split =
      sym (take-append-drop n known)
      ∙ ap (λ (l : List SpacedValue). take n known ++ l) (drop_more known n here lt ∙ ap (λ (s : SpacedValue). s ∷ drop (n + 1) known) (sym is))

  all-split : all known rest ≡ before ++ (anys ++ here.value ∷ after)
  all-split = ap (λ (l : List SpacedValue). all l rest) split ∙ all_parts (take n known) (drop (n + 1) known) here rest

  pub front_more : values_to_last_known (take (n + 1) known) ≡ before ++ (anys ++ here.value ∷ [])
  front_more =
      ap (λ (l : List SpacedValue). values_to_last_known l) (take_more known n here lt ∙ ap (λ (s : SpacedValue). take n known ++ s ∷ []) (sym is))
      ∙ flat_map-append spaced_values (take n known) (here ∷ [])
      ∙ ap (λ (l : List Val). before ++ l) (append-nil (spaced_values here))

  pub length-front : length (values_to_last_known (take (n + 1) known)) ≡ length (values_to_last_known (take n known)) + here.anys + 1
  length-front =
      ap (λ (l : List Val). length l) front_more ∙ omega (arith, length-append before (anys ++ here.value ∷ []), length_push anys here.value, length-replicate here.anys any_val)

  pub is_within : length (values_to_last_known (take n known)) + here.anys < length (all known rest)
  is_within =
      omega (
        arith,
        ap (λ (l : List Val). length l) all-split,
        length-append before (anys ++ here.value ∷ after),
        length-append anys (here.value ∷ after),
        length-replicate here.anys any_val,
      )

  pub value_there : get_or (all known rest) (length (values_to_last_known (take n known)) + here.anys) any_val ≡ here.value
  value_there =
      ap (λ (l : List Val). get_or l (length before + here.anys) any_val) all-split
      ∙ get_or-append-add before (anys ++ here.value ∷ after) here.anys any_val
      ∙ get_or_at anys here.value after any_val here.anys (length-replicate here.anys any_val)

  pub any_there : (r : ℕ) → length (values_to_last_known (take n known)) ≤ r → r < length (values_to_last_known (take n known)) + here.anys → get_or (all known rest) r any_val ≡ any_val
  any_there r ge lt2 =
      ap (λ (l : List Val). get_or l r any_val) all-split
      ∙ get_or-append_right before (anys ++ here.value ∷ after) (length before) r any_val refl ge
      ∙ get_or_append_left anys (here.value ∷ after) any_val (r - length before) (omega (arith, length-replicate here.anys any_val))
      ∙ get_or-replicate here.anys (r - length before) any_val any_val (omega arith)

-- past the last known value
replicate_any : (rest i : ℕ) → get_or (replicate rest any_val) i any_val ≡ any_val
replicate_any rest i =
    elim (cases_lt i rest) [
      | inl lt ↦ get_or-replicate rest i any_val any_val lt
      | inr past ↦ get_or_past (replicate rest any_val) i any_val (omega (arith, length-replicate rest any_val))
    ]

pub any_behind : (known : List SpacedValue) (rest r : ℕ) → length (values_to_last_known known) ≤ r → get_or (all known rest) r any_val ≡ any_val
any_behind known rest r ge =
    get_or-append_right (values_to_last_known known) (replicate rest any_val) (length (values_to_last_known known)) r any_val refl ge ∙ replicate_any rest (r - length (values_to_last_known known))

-- a known value, if the numbers of values and of places before it are at hand
pub known_place : (known : List SpacedValue) (rest n : ℕ) (here : SpacedValue) → n < length known → here ≡ get_or known n here → (at : ℕ) → at ≡ length (values_to_last_known (take n known)) → get_or (all known rest) (at + here.anys) any_val ≡ here.value
known_place known rest n here lt is at up_to = ap (λ (m : ℕ). get_or (all known rest) (m + here.anys) any_val) up_to ∙ value_there known rest n here lt is

-- ---- parts
pub length-values_from : (vs : List Val) (from count : ℕ) → length (values_from vs from count) ≡ count
unfolding values_from
length-values_from vs from zero = refl
length-values_from vs from (suc count) = ap suc (length-values_from vs (from + 1) count)

-- no value yet
pub none_yet : (vs old : List Val) (from : ℕ) → old ≡ old ++ values_from vs from (from - from)
unfolding values_from
none_yet vs old from = let e : 0 ≡ from - from = omega arith in sym (append-nil old) ∙ ap (λ (m : ℕ). old ++ values_from vs from m) e

-- unknown values and one after them
pub part_behind : (old part anys : List Val) (v : Val) → ((old ++ part) ++ anys) ++ v ∷ [] ≡ old ++ ((part ++ anys) ++ v ∷ [])
part_behind old part anys v =
    append_assoc (old ++ part) anys (v ∷ [])
    ∙ append_assoc old part (anys ++ v ∷ [])
    ∙ ap (λ (l : List Val). old ++ l) (sym (append_assoc part anys (v ∷ [])))

-- one value more
values_more : (vs : List Val) (from count : ℕ) → values_from vs from (suc count) ≡ values_from vs from count ++ get_or vs (from + count) any_val ∷ []
unfolding values_from
values_more vs from zero = let e : from ≡ from + zero = omega arith in ap (λ (m : ℕ). get_or vs m any_val ∷ []) e
values_more vs from (suc count) =
    let e : from + 1 + count ≡ from + suc count = omega arith in
    ap (λ (l : List Val). get_or vs from any_val ∷ l) (values_more vs (from + 1) count)
    ∙ ap (λ (m : ℕ). get_or vs from any_val ∷ (values_from vs (from + 1) count ++ get_or vs m any_val ∷ [])) e

-- more unknown values
values_anys : (vs : List Val) (from k count : ℕ) → ((r : ℕ) → from + k ≤ r → r < from + k + count → get_or vs r any_val ≡ any_val)
    → values_from vs from (k + count) ≡ values_from vs from k ++ replicate count any_val
values_anys vs from k zero none = let e : k + zero ≡ k = omega arith in ap (λ (m : ℕ). values_from vs from m) e ∙ sym (append-nil (values_from vs from k))
values_anys vs from k (suc count) none =
    let e : k + suc count ≡ suc (k + count) = omega arith in
    let f : count + 1 ≡ suc count = omega arith in
    ap (λ (m : ℕ). values_from vs from m) e
    ∙ values_more vs from (k + count)
    ∙ ap (λ (v : Val). values_from vs from (k + count) ++ v ∷ []) (none (from + (k + count)) (omega arith) (omega arith))
    ∙ ap (λ (l : List Val). l ++ any_val ∷ []) (values_anys vs from k count (λ r ge lt. none r ge (omega arith)))
    ∙ append_assoc (values_from vs from k) (replicate count any_val) (any_val ∷ [])
    ∙ ap (λ (l : List Val). values_from vs from k ++ l) (replicate_more count any_val ∙ ap (λ (m : ℕ). replicate m any_val) f)

-- a part without known values from a place on
anys_from : (vs : List Val) (from done end : ℕ) → from ≤ done → done ≤ end → ((r : ℕ) → done ≤ r → r < end → get_or vs r any_val ≡ any_val)
    → values_from vs from (done - from) ++ replicate (end - done) any_val ≡ values_from vs from (end - from)
anys_from vs from done end h k none =
    let e : (done - from) + (end - done) ≡ end - from = omega arith in
    sym (values_anys vs from (done - from) (end - done) (λ r ge lt. none r (omega arith) (omega arith))) ∙ ap (λ (m : ℕ). values_from vs from m) e

pub part_rest : (known : List SpacedValue) (rest from done end : ℕ) → length (values_to_last_known known) ≤ done → from ≤ done → done ≤ end
    → values_from (all known rest) from (done - from) ++ replicate (end - done) any_val ≡ values_from (all known rest) from (end - from)
part_rest known rest from done end past h k = anys_from (all known rest) from done end h k (λ r ge lt. any_behind known rest r (omega arith))

module _ (known : List SpacedValue) (rest n : ℕ) (here : SpacedValue) (lt : n < length known) (is : here ≡ get_or known n here) (at : ℕ) (up_to : at ≡ length (values_to_last_known (take n known))) (from done : ℕ) (past : at ≤ done) (begun : from ≤ done) where
  -- up to before the known value
  pub part_gap : (end : ℕ) → done ≤ end → end ≤ at + here.anys → values_from (all known rest) from (done - from) ++ replicate (end - done) any_val ≡ values_from (all known rest) from (end - from)
  part_gap end h k = anys_from (all known rest) from done end begun h (λ r ge lt2. any_there known rest n here lt is r (omega (arith, up_to)) (omega (arith, up_to)))

  -- and with it
  pub part_more : done ≤ at + here.anys
      → (values_from (all known rest) from (done - from) ++ replicate (at + here.anys - done) any_val) ++ here.value ∷ [] ≡ values_from (all known rest) from (at + here.anys + 1 - from)
  part_more h =
      let vs = all known rest in
      let place : ℕ = at + here.anys in
      let e : suc (place - from) ≡ place + 1 - from = omega arith in
      let f : place ≡ from + (place - from) = omega arith in
      ap (λ (l : List Val). l ++ here.value ∷ []) (part_gap place h (omega arith))
      ∙ ap (λ (v : Val). values_from vs from (place - from) ++ v ∷ []) (sym (known_place known rest n here lt is at up_to) ∙ ap (λ (m : ℕ). get_or vs m any_val) f)
      ∙ sym (values_more vs from (place - from))
      ∙ ap (λ (m : ℕ). values_from vs from m) e

-- a part after the first values, if it continues them
pub part_joins : (ws vs : List Val) (k from count : ℕ) → k + count ≤ length ws → ((r : ℕ) → r < count → get_or ws (k + r) any_val ≡ get_or vs (from + r) any_val)
    → take k ws ++ values_from vs from count ≡ take (k + count) ws
unfolding values_from
part_joins ws vs k from zero h same = let e : k ≡ k + zero = omega arith in append-nil (take k ws) ∙ ap (λ (m : ℕ). take m ws) e
part_joins ws vs k from (suc count) h same =
    let e : k + 1 + count ≡ k + suc count = omega arith in
    let f : k ≡ k + 0 = omega arith in
    let g : from + 0 ≡ from = omega arith in
    let first : get_or ws k any_val ≡ get_or vs from any_val = ap (λ (m : ℕ). get_or ws m any_val) f ∙ same 0 (omega arith) ∙ ap (λ (m : ℕ). get_or vs m any_val) g in
    sym (append_assoc (take k ws) (get_or vs from any_val ∷ []) (values_from vs (from + 1) count))
    ∙ ap (λ (l : List Val). l ++ values_from vs (from + 1) count)
    (ap (λ (v : Val). take k ws ++ v ∷ []) (sym first) ∙ sym (take_more ws k any_val (omega arith)))
    ∙ part_joins ws vs (k + 1) (from + 1) count (omega arith)
    (λ r lt.
    let i : k + 1 + r ≡ k + suc r = omega arith in
    let j : from + suc r ≡ from + 1 + r = omega arith in
    ap (λ (m : ℕ). get_or ws m any_val) i ∙ same (suc r) (omega arith) ∙ ap (λ (m : ℕ). get_or vs m any_val) j)
    ∙ ap (λ (m : ℕ). take m ws) e

-- ---- comparing
module _ (known : List SpacedValue) (rest : ℕ) (ws : List Val) (long : length (all known rest) ≡ length ws) (well : AreWellFormed ws) where
  -- below up to the last known value, so everywhere
  pub covered_all : ((r : ℕ) → r < length (values_to_last_known known) → IsBelow (get_or ws r any_val) (get_or (all known rest) r any_val)) → AreBelow ws (all known rest)
  covered_all so_far r lt =
      elim (cases_lt r (length (values_to_last_known known))) [
        | inl h ↦ so_far r h
        | inr ge ↦ subst (λ (v : Val). IsBelow (get_or ws r any_val) v) (sym (any_behind known rest r ge)) (below_any (get_or ws r any_val) (well r lt))
      ]

  module _ (n : ℕ) (here : SpacedValue) (lt : n < length known) (is : here ≡ get_or known n here) (at : ℕ) (up_to : at ≡ length (values_to_last_known (take n known))) where
    pub place_there : get_or (all known rest) (at + here.anys) any_val ≡ here.value
    place_there = known_place known rest n here lt is at up_to

    pub place_within : at + here.anys < length ws
    place_within = omega (arith, is_within known rest n here lt is)

    pub covered_here : AreBelow ws (all known rest) → IsBelow (get_or ws (at + here.anys) any_val) here.value
    covered_here below = subst (λ (v : Val). IsBelow (get_or ws (at + here.anys) any_val) v) place_there (below (at + here.anys) place_within)

    pub covered_more : ((r : ℕ) → r < at → IsBelow (get_or ws r any_val) (get_or (all known rest) r any_val)) → IsBelow (get_or ws (at + here.anys) any_val) here.value
        → (r : ℕ) → r < at + here.anys + 1 → IsBelow (get_or ws r any_val) (get_or (all known rest) r any_val)
    covered_more so_far covers r h =
        elim (cases_lt r at) [
          | inl lt2 ↦ so_far r lt2
          | inr ge ↦ elim (cases_lt r (at + here.anys)) [
            | inl lt2 ↦
                subst (λ (v : Val). IsBelow (get_or ws r any_val) v) (sym (any_there known rest n here lt is r (omega arith) (omega arith)))
                (below_any (get_or ws r any_val) (well r (omega (arith, place_within))))
            | inr ge2 ↦
                let e : at + here.anys ≡ r = omega arith in
                subst (λ (m : ℕ). IsBelow (get_or ws m any_val) (get_or (all known rest) m any_val)) e
                (subst (λ (v : Val). IsBelow (get_or ws (at + here.anys) any_val) v) (sym place_there) covers)
          ]
        ]

-- ---- joining
-- unknown values one after another
pub take_anys : (vs : List Val) (at k : ℕ) → at + k ≤ length vs → ((r : ℕ) → at ≤ r → r < at + k → get_or vs r any_val ≡ any_val) → take (at + k) vs ≡ take at vs ++ replicate k any_val
take_anys vs at zero h none = let e : at + zero ≡ at = omega arith in ap (λ (m : ℕ). take m vs) e ∙ sym (append-nil (take at vs))
take_anys vs at (suc k) h none =
    let e : at + suc k ≡ at + k + 1 = omega arith in
    let f : k + 1 ≡ suc k = omega arith in
    ap (λ (m : ℕ). take m vs) e
    ∙ take_more vs (at + k) any_val (omega arith)
    ∙ ap (λ (v : Val). take (at + k) vs ++ v ∷ []) (none (at + k) (omega arith) (omega arith))
    ∙ ap (λ (l : List Val). l ++ any_val ∷ []) (take_anys vs at k (omega arith) (λ r ge lt. none r ge (omega arith)))
    ∙ append_assoc (take at vs) (replicate k any_val) (any_val ∷ [])
    ∙ ap (λ (l : List Val). take at vs ++ l) (replicate_more k any_val ∙ ap (λ (m : ℕ). replicate m any_val) f)

module _ (b : Limits) (known : List SpacedValue) (rest : ℕ) (ws : List Val) (long : length (all known rest) ≡ length ws) (left : AreInLattice b (all known rest)) (right : AreInLattice b ws) where
  abbrev joins : List Val
  joins = joined_regs b (all known rest) ws

  length-joins : length joins ≡ length (all known rest)
  length-joins = length-joined b (all known rest) ws long

  join_at : (r : ℕ) (v : Val) → r < length (all known rest) → get_or (all known rest) r any_val ≡ v → get_or joins r any_val ≡ join_of b v (get_or ws r any_val)
  join_at r v lt is =
      get_or-joined b (all known rest) ws r (get_or (all known rest) r any_val) (get_or ws r any_val) any_val lt (omega (arith, long)) (get_or_default (all known rest) r any_val (get_or (all known rest) r any_val) lt)
      (get_or_default ws r any_val (get_or ws r any_val) (omega (arith, long)))
      ∙ ap (λ (u : Val). join_of b u (get_or ws r any_val)) is

  -- the join is unknown too
  join_any : (r : ℕ) → r < length (all known rest) → get_or (all known rest) r any_val ≡ any_val → get_or joins r any_val ≡ any_val
  join_any r lt is =
      join_at r any_val lt is
      ∙ join_all b any_val (get_or ws r any_val) refl (subst (λ (v : Val). IsInLattice b v) is (left r lt)) (right r (omega (arith, long))).well

  joined_all : length (values_to_last_known known) + rest ≡ length joins
  joined_all = omega (arith, length-joins, all_few known rest)

  pub joined_rest : take (length (values_to_last_known known)) joins ++ replicate rest any_val ≡ joins
  joined_rest =
      sym (take_anys joins (length (values_to_last_known known)) rest (omega (arith, joined_all)) (λ r ge lt. join_any r (omega (arith, joined_all, length-joins)) (any_behind known rest r ge)))
      ∙ take_all (length (values_to_last_known known) + rest) joins (omega (arith, joined_all))

  module _ (n : ℕ) (here : SpacedValue) (lt : n < length known) (is : here ≡ get_or known n here) (at : ℕ) (up_to : at ≡ length (values_to_last_known (take n known))) where
    within : at + here.anys < length (all known rest)
    within = omega (arith, is_within known rest n here lt is)

    pub joined_more : take (at + here.anys + 1) joins ≡ (take at joins ++ replicate here.anys any_val) ++ join_of b here.value (get_or ws (at + here.anys) any_val) ∷ []
    joined_more =
        take_more joins (at + here.anys) any_val (omega (arith, within, length-joins))
        ∙ ap (λ (v : Val). take (at + here.anys) joins ++ v ∷ [])
        (join_at (at + here.anys) here.value within (known_place known rest n here lt is at up_to))
        ∙ ap (λ (l : List Val). l ++ join_of b here.value (get_or ws (at + here.anys) any_val) ∷ [])
        (take_anys joins at here.anys (omega (arith, within, length-joins))
        (λ r ge lt2. join_any r (omega (arith, within)) (any_there known rest n here lt is r (omega arith) (omega arith))))

-- the joined values so far are as many as the places passed
pub joined_few : (b : Limits) (known : List SpacedValue) (rest : ℕ) (ws : List Val) → length (all known rest) ≡ length ws → (vs : List Val) (at : ℕ) → at ≤ length (all known rest)
    → vs ≡ take at (joined_regs b (all known rest) ws) → length vs ≡ at
joined_few b known rest ws long vs at h e =
    ap (λ (l : List Val). length l) e ∙ length-take-le at (joined_regs b (all known rest) ws) (omega (arith, length-joined b (all known rest) ws long))

-- ---- spelling
pub bytes_of_anys : (n : ℕ) → flat_map bytes_of_value (replicate n any_val) ≡ replicate n 0
unfolding bytes_of_value
bytes_of_anys zero = refl
bytes_of_anys (suc n) = ap (λ (l : List ℕ). 0 ∷ l) (bytes_of_anys n)

-- ---- a value put at a place
-- among unknown values
put_anys : (xs ys : List Val) (k p m : ℕ) (v : Val) → m ≡ k + 1 + p → set (xs ++ (replicate m any_val ++ ys)) (length xs + k) v ≡ xs ++ (replicate k any_val ++ v ∷ (replicate p any_val ++ ys))
put_anys xs ys k p m v e =
    let f : m ≡ k + suc p = omega (arith, e) in
    let anys = replicate k any_val in
    let more = replicate p any_val ++ ys in
    ap (λ (l : List Val). set (xs ++ (l ++ ys)) (length xs + k) v) (ap (λ (i : ℕ). replicate i any_val) f ∙ sym (replicate-append-replicate k (suc p) any_val))
    ∙ ap (λ (l : List Val). set (xs ++ l) (length xs + k) v) (append_assoc anys (any_val ∷ replicate p any_val) ys)
    ∙ ap (λ (l : List Val). set l (length xs + k) v) (sym (append_assoc xs anys (any_val ∷ more)))
    ∙ set_at (xs ++ anys) any_val more v (length xs + k) (length-append xs anys ∙ ap (λ (i : ℕ). length xs + i) (length-replicate k any_val))
    ∙ append_assoc xs anys (v ∷ more)

-- after the last known value
pub put_last : (known : List SpacedValue) (rest k p : ℕ) (s : SpacedValue) → s.anys ≡ k → rest ≡ k + 1 + p → all (known ++ s ∷ []) p ≡ set (all known rest) (length (values_to_last_known known) + k) s.value
put_last known rest k p s e f =
    all_parts known [] s p
    ∙ ap (λ (i : ℕ). values_to_last_known known ++ (replicate i any_val ++ s.value ∷ replicate p any_val)) e
    ∙ ap (λ (l : List Val). values_to_last_known known ++ (replicate k any_val ++ s.value ∷ l)) (sym (append-nil (replicate p any_val)))
    ∙ sym (put_anys (values_to_last_known known) [] k p rest s.value f)
    ∙ ap (λ (l : List Val). set (values_to_last_known known ++ l) (length (values_to_last_known known) + k) s.value) (append-nil (replicate rest any_val))

-- past all places
pub put_past : (known : List SpacedValue) (rest k : ℕ) (v : Val) → rest ≤ k → set (all known rest) (length (values_to_last_known known) + k) v ≡ all known rest
put_past known rest k v h = set_past (all known rest) (length (values_to_last_known known) + k) v (omega (arith, all_few known rest))

-- an unknown value over an unknown one
pub put_any_last : (known : List SpacedValue) (rest k : ℕ) (v : Val) → v ≡ any_val → set (all known rest) (length (values_to_last_known known) + k) v ≡ all known rest
put_any_last known rest k v e =
    let i = length (values_to_last_known known) + k in
    ap (λ (u : Val). set (all known rest) i u) (e ∙ sym (any_behind known rest i (omega arith))) ∙ set-get_or (all known rest) i any_val

module _ (known : List SpacedValue) (rest n : ℕ) (here : SpacedValue) (lt : n < length known) (is : here ≡ get_or known n here) where
  -- over a known value
  pub put_known : (k : ℕ) (s : SpacedValue) → s.anys ≡ here.anys → k ≡ here.anys → all (set known n s) rest ≡ set (all known rest) (length (values_to_last_known (take n known)) + k) s.value
  put_known k s e f =
      let xs = values_to_last_known (take n known) in
      let ys = drop (n + 1) known in
      let anys = replicate here.anys any_val in
      let after = values_to_last_known ys ++ replicate rest any_val in
      let g : suc n ≡ n + 1 = omega arith in
      ap (λ (l : List SpacedValue). all l rest) (set_split known n s lt ∙ ap (λ (m : ℕ). take n known ++ s ∷ drop m known) g)
      ∙ all_parts (take n known) ys s rest
      ∙ ap (λ (m : ℕ). xs ++ (replicate m any_val ++ s.value ∷ after)) e
      ∙ sym (append_assoc xs anys (s.value ∷ after))
      ∙ sym (set_at (xs ++ anys) here.value after s.value (length xs + k) (length-append xs anys ∙ ap (λ (m : ℕ). length xs + m) (length-replicate here.anys any_val ∙ sym f)))
      ∙ ap (λ (l : List Val). set l (length xs + k) s.value) (append_assoc xs anys (here.value ∷ after) ∙ sym (all-split known rest n here lt is))

  -- between the known value and those before it
  pub put_gap :
      (k p : ℕ) (s t : SpacedValue) → s.anys ≡ k → t.anys ≡ p → t.value ≡ here.value → here.anys ≡ k + 1 + p
      → all (insert (set known n t) n s) rest ≡ set (all known rest) (length (values_to_last_known (take n known)) + k) s.value
  put_gap k p s t e f g h =
      let xs = values_to_last_known (take n known) in
      let ys = drop (n + 1) known in
      let after = values_to_last_known ys ++ replicate rest any_val in
      ap (λ (l : List SpacedValue). all l rest)
      (ap (λ (l : List SpacedValue). l ++ s ∷ drop n (set known n t)) (take-set known n t) ∙ ap (λ (l : List SpacedValue). take n known ++ s ∷ l) (drop-set known n t lt))
      ∙ all_parts (take n known) (t ∷ ys) s rest
      ∙ ap (λ (m : ℕ). xs ++ (replicate m any_val ++ s.value ∷ (values_to_last_known (t ∷ ys) ++ replicate rest any_val))) e
      ∙ ap (λ (l : List Val). xs ++ (replicate k any_val ++ s.value ∷ l))
      (all_parts [] ys t rest ∙ ap (λ (m : ℕ). replicate m any_val ++ t.value ∷ after) f ∙ ap (λ (u : Val). replicate p any_val ++ u ∷ after) g)
      ∙ sym (put_anys xs (here.value ∷ after) k p here.anys s.value h)
      ∙ ap (λ (l : List Val). set l (length xs + k) s.value) (sym (all-split known rest n here lt is))

  pub put_any_gap : (k : ℕ) (v : Val) → v ≡ any_val → k < here.anys → set (all known rest) (length (values_to_last_known (take n known)) + k) v ≡ all known rest
  put_any_gap k v e h =
      let i = length (values_to_last_known (take n known)) + k in
      ap (λ (u : Val). set (all known rest) i u) (e ∙ sym (any_there known rest n here lt is i (omega arith) (omega arith))) ∙ set-get_or (all known rest) i any_val

-- ---- a place that is searched for
module _ (known : List SpacedValue) (rest n : ℕ) (here : SpacedValue) (lt : n < length known) (is : here ≡ get_or known n here) (i left : ℕ) (up_to : i ≡ length (values_to_last_known (take n known)) + left) where
  pub found_any : left < here.anys → get_or (all known rest) i any_val ≡ any_val
  found_any h = any_there known rest n here lt is i (omega (arith, up_to)) (omega (arith, up_to))

  pub found_value : here.anys ≡ left → here.value ≡ get_or (all known rest) i any_val
  found_value h =
      let e : length (values_to_last_known (take n known)) + here.anys ≡ i = omega (arith, up_to) in
      sym (value_there known rest n here lt is) ∙ ap (λ (m : ℕ). get_or (all known rest) m any_val) e

  pub found_further : here.anys < left → i ≡ length (values_to_last_known (take (n + 1) known)) + (left - here.anys - 1)
  found_further further = omega (arith, up_to, further, length-front known rest n here lt is)

-- ---- a known value that is written or spelled after those before it
module _ (known : List SpacedValue) (rest n : ℕ) (here : SpacedValue) (lt : n < length known) (is : here ≡ get_or known n here) where
  pub spelled_more : (old : List ℕ)
      → ((old ++ flat_map bytes_of_value (values_to_last_known (take n known))) ++ replicate here.anys 0) ++ bytes_of_value here.value ≡ old ++ flat_map bytes_of_value (values_to_last_known (take (n + 1) known))
  spelled_more old =
      let so_far = flat_map bytes_of_value (values_to_last_known (take n known)) in
      let value = bytes_of_value here.value in
      append_assoc (old ++ so_far) (replicate here.anys 0) value
      ∙ append_assoc old so_far (replicate here.anys 0 ++ value)
      ∙ ap (λ (l : List ℕ). old ++ l)
      (ap (λ (l : List ℕ). so_far ++ (l ++ value)) (sym (bytes_of_anys here.anys))
      ∙ ap (λ (l : List ℕ). so_far ++ (flat_map bytes_of_value (replicate here.anys any_val) ++ l)) (sym (append-nil value))
      ∙ ap (λ (l : List ℕ). so_far ++ l) (sym (flat_map-append bytes_of_value (replicate here.anys any_val) (here.value ∷ [])))
      ∙ sym (flat_map-append bytes_of_value (values_to_last_known (take n known)) (replicate here.anys any_val ++ here.value ∷ []))
      ∙ ap (λ (l : List Val). flat_map bytes_of_value l) (sym (front_more known rest n here lt is)))

  pub written_more : (values_to_last_known (take n known) ++ replicate here.anys any_val) ++ here.value ∷ [] ≡ values_to_last_known (take (n + 1) known)
  written_more = append_assoc (values_to_last_known (take n known)) (replicate here.anys any_val) (here.value ∷ []) ∙ sym (front_more known rest n here lt is)

pub spelled_all : (known : List SpacedValue) (rest : ℕ) (old : List ℕ) → (old ++ flat_map bytes_of_value (values_to_last_known known)) ++ replicate rest 0 ≡ old ++ flat_map bytes_of_value (all known rest)
spelled_all known rest old =
    append_assoc old (flat_map bytes_of_value (values_to_last_known known)) (replicate rest 0)
    ∙ ap (λ (l : List ℕ). old ++ l)
    (ap (λ (l : List ℕ). flat_map bytes_of_value (values_to_last_known known) ++ l) (sym (bytes_of_anys rest)) ∙ sym (flat_map-append bytes_of_value (values_to_last_known known) (replicate rest any_val)))

-- a known value is one of all
pub known_well : (known : List SpacedValue) (rest n : ℕ) (here : SpacedValue) → n < length known → here ≡ get_or known n here → All IsWellFormed (all known rest) → IsWellFormed here.value
known_well known rest n here lt is well =
    subst IsWellFormed (value_there known rest n here lt is) (well (length (values_to_last_known (take n known)) + here.anys) any_val (is_within known rest n here lt is))
