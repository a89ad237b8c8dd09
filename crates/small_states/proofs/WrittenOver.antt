-- Values that are written over others with the same gaps.
use Rattle.std.proofs.Common.{◌≡◌, ◌∙◌, ℕ, ◌+◌, ◌<◌, ◌≤◌, List, [], ◌∷◌, ◌++◌, length, drop, take, get_or, replicate, set, refl, sym, ap, arith}
use Rattle.std.proofs.lemmas.List.{append-nil, append_assoc, drop_all, drop_more, length-append, length-replicate, set_at, take_all, take_more}
use Rattle.value_domain.specs.declared.values.Val.{Val}
use Rattle.value_domain.specs.Values.{any_val}
use Rattle.small_states.specs.declared.values.SpacedValue.{SpacedValue}
use Rattle.small_states.specs.CompactForms.{values_to_last_known}
use Rattle.small_states.proofs.SparseLemmas.{all, all_few, all_parts, is_within, length-front}

-- the last values after the first n known ones were written over them
pub record IsWrittenTo (known last : List SpacedValue) (rest n at : ℕ) (regs : List Val) : Type 0 where
  pub are : regs ≡ all (take n known ++ drop n last) rest
  pub up_to : at ≡ length (values_to_last_known (take n known))

pub none_written : (known last : List SpacedValue) (rest : ℕ) (regs : List Val) → regs ≡ all last rest → IsWrittenTo known last rest 0 0 regs
none_written known last rest regs are = record { are = are; up_to = refl }

-- one value over another with the same gap
over : (xs ys : List SpacedValue) (k here : SpacedValue) (rest : ℕ) → k.anys ≡ here.anys
    → set (all (xs ++ k ∷ ys) rest) (length (values_to_last_known xs) + here.anys) here.value ≡ all ((xs ++ here ∷ []) ++ ys) rest
over xs ys k here rest e =
    let i = length (values_to_last_known xs) + here.anys in
    let anys = replicate here.anys any_val in
    let after = values_to_last_known ys ++ replicate rest any_val in
    ap (λ (l : List Val). set l i here.value)
    (all_parts xs ys k rest ∙ ap (λ (m : ℕ). values_to_last_known xs ++ (replicate m any_val ++ k.value ∷ after)) e ∙ sym (append_assoc (values_to_last_known xs) anys (k.value ∷ after)))
    ∙ set_at (values_to_last_known xs ++ anys) k.value after here.value i (length-append (values_to_last_known xs) anys ∙ ap (λ (m : ℕ). length (values_to_last_known xs) + m) (length-replicate here.anys any_val))
    ∙ append_assoc (values_to_last_known xs) anys (here.value ∷ after)
    ∙ sym (all_parts xs ys here rest)
    ∙ ap (λ (l : List SpacedValue). all l rest) (sym (append_assoc xs (here ∷ []) ys))

-- the same value instead of another
equal : (xs ys : List SpacedValue) (k here : SpacedValue) (rest : ℕ) → k.anys ≡ here.anys → k.value ≡ here.value → all (xs ++ k ∷ ys) rest ≡ all ((xs ++ here ∷ []) ++ ys) rest
equal xs ys k here rest e v =
    let after = values_to_last_known ys ++ replicate rest any_val in
    all_parts xs ys k rest
    ∙ ap (λ (m : ℕ). values_to_last_known xs ++ (replicate m any_val ++ k.value ∷ after)) e
    ∙ ap (λ (u : Val). values_to_last_known xs ++ (replicate here.anys any_val ++ u ∷ after)) v
    ∙ sym (all_parts xs ys here rest)
    ∙ ap (λ (l : List SpacedValue). all l rest) (sym (append_assoc xs (here ∷ []) ys))

module _ (known last : List SpacedValue) (rest n at : ℕ) (regs : List Val) (here before : SpacedValue) (lt : n < length known) (is : here ≡ get_or known n here) (lt_last : n < length last) (was : before ≡ get_or last n before) (gap : before.anys ≡ here.anys) (so_far : IsWrittenTo known last rest n at regs) where
  abbrev xs : List SpacedValue
  xs = take n known

  abbrev ys : List SpacedValue
  ys = drop (n + 1) last

  up_to_next : take (n + 1) known ≡ xs ++ here ∷ []
  up_to_next = take_more known n here lt ∙ ap (λ (s : SpacedValue). xs ++ s ∷ []) (sym is)

  left : drop n last ≡ before ∷ ys
  left = drop_more last n before lt_last ∙ ap (λ (s : SpacedValue). s ∷ ys) (sym was)

  were : regs ≡ all (xs ++ before ∷ ys) rest
  were = so_far.are ∙ ap (λ (l : List SpacedValue). all (xs ++ l) rest) left

  next : at + here.anys + 1 ≡ length (values_to_last_known (take (n + 1) known))
  next = omega (arith, so_far.up_to, length-front known rest n here lt is)

  pub one_written : IsWrittenTo known last rest (n + 1) (at + here.anys + 1) (set regs (at + here.anys) here.value)
  one_written = record {
    are =
        ap (λ (l : List Val). set l (at + here.anys) here.value) were
        ∙ ap (λ (m : ℕ). set (all (xs ++ before ∷ ys) rest) (m + here.anys) here.value) so_far.up_to
        ∙ over xs ys before here rest gap
        ∙ ap (λ (l : List SpacedValue). all (l ++ ys) rest) (sym up_to_next);
    up_to = next;
  }

  pub one_kept : before.value ≡ here.value → IsWrittenTo known last rest (n + 1) (at + here.anys + 1) regs
  one_kept same = record {
    are = were ∙ equal xs ys before here rest gap same ∙ ap (λ (l : List SpacedValue). all (l ++ ys) rest) (sym up_to_next);
    up_to = next;
  }

pub place_within : (known : List SpacedValue) (rest n at : ℕ) (here : SpacedValue) → n < length known → here ≡ get_or known n here → at ≡ length (values_to_last_known (take n known)) → length (all known rest) ≡ 27
    → at + here.anys < 27
place_within known rest n at here lt is up_to long = omega (arith, up_to, long, is_within known rest n here lt is)

-- all values written
pub all_written : (known last : List SpacedValue) (own rest n at : ℕ) (regs : List Val) → length known ≤ n → length last ≡ length known → IsWrittenTo known last own n at regs
    → length regs ≡ length (all known rest) → regs ≡ all known rest
all_written known last own rest n at regs past long h e =
    let none : take n known ++ drop n last ≡ known =
    ap (λ (l : List SpacedValue). take n known ++ l) (drop_all n last (omega (arith, past, long)))
    ∙ append-nil (take n known)
    ∙ take_all n known past
    in
    let regs_are : regs ≡ all known own = h.are ∙ ap (λ (l : List SpacedValue). all l own) none in
    let same : own ≡ rest = omega (arith, ap (λ (l : List Val). length l) regs_are, e, all_few known own, all_few known rest) in
    regs_are ∙ ap (λ (m : ℕ). all known m) same
