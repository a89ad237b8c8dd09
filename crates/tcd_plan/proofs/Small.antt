-- Facts on tests, options and lists that the lemmas on plans share.
use Rattle.std.proofs.Common.{◌≡◌, ℕ, suc, zero, ◌+◌, ◌<◌, ◌≤◌, Bool, true, false, not, ◌&&◌, cond, List, [], ◌∷◌, length, get_or, Option, Some, None, option_map, unwrap_or, refl, arith}
use Rattle.std.specs.List.{find, list_all, list_any, position, prefix_len}
use Rattle.std.specs.Option.{option_or}
use Rattle.std.proofs.lemmas.Bool.{and_from, or_parts, ltb-false}
use Rattle.tcd_plan.specs.ValueForms.{is_some_and}
use Rattle.tcd_plan.specs.PlanData.{first_some, key_unless}
use Rattle.tcd_plan.specs.PlanReader.{refusal_if}
use Rattle.tcd_plan.specs.declared.plans.PlanErr.{PlanErr}

pub option_or_none : {T : Type 0} (a b : Option T) → option_or a b ≡ None → (a ≡ None) × (b ≡ None)
option_or_none None b e = (refl, e)
option_or_none (Some x) b e = cc

pub first_some_none : {T : Type 0} (os : List (Option T)) (i : ℕ) → first_some os ≡ None → i < length os → get_or os i None ≡ None
first_some_none [] i e within = absurd (omega arith)
first_some_none (o ∷ os) zero e within = (option_or_none o (first_some os) e).0
first_some_none (o ∷ os) (suc i) e within = first_some_none os i (option_or_none o (first_some os) e).1 (omega arith)

pub option_map_none : {X Y : Type 0} (f : X → Y) (o : Option X) → option_map f o ≡ None → o ≡ None
option_map_none f None e = refl
option_map_none f (Some x) e = cc

pub where_none : (b : Bool) (err : PlanErr) → refusal_if (not b) err ≡ None → b ≡ true
where_none true err e = refl
where_none false err e = cc

pub key_none : (b : Bool) (key : ℕ) → key_unless b key ≡ None → b ≡ true
key_none true key e = refl
key_none false key e = cc

-- a value that passes is there, or the default
pub passes-unwrap_or : {T : Type 0} (test : T → Bool) (o : Option T) (d : T) → is_some_and test o ≡ true → test (unwrap_or o d) ≡ true
passes-unwrap_or test None d e = cc
passes-unwrap_or test (Some x) d e = e

pub not_found : {T : Type 0} (test : T → Bool) (xs : List T) (i : ℕ) (d : T) → find test xs ≡ None → i < length xs → test (get_or xs i d) ≡ false
not_found test [] i d e within = absurd (omega arith)
not_found test (x ∷ xs) zero d e within = elim (test x) as (λ b. cond b (Some x) (find test xs) ≡ None → b ≡ false) [ true ↦ λ h. cc | false ↦ λ h. refl ] e
not_found test (x ∷ xs) (suc i) d e within =
    not_found test xs i d (elim (test x) as (λ b. cond b (Some x) (find test xs) ≡ None → find test xs ≡ None) [ true ↦ λ h. cc | false ↦ λ h. h ] e) (omega arith)

-- if no element fails, each passes
pub none_fails : {T : Type 0} (test : T → Bool) (xs : List T) → list_any (λ x. not (test x)) xs ≡ false → list_all test xs ≡ true
none_fails test [] e = refl
none_fails test (x ∷ xs) e =
    let parts = or_parts (not (test x)) _ e in
    and_from (test x) _ (elim (test x) as (λ b. not b ≡ false → b ≡ true) [ true ↦ λ h. refl | false ↦ λ h. cc ] parts.0) (none_fails test xs parts.1)

prefix_all : {T : Type 0} (test : T → Bool) (xs : List T) → length xs ≤ prefix_len (λ x. not (not (test x))) xs → list_all test xs ≡ true
prefix_all test [] e = refl
prefix_all test (x ∷ xs) e =
    elim (test x) as (λ b. suc (length xs) ≤ cond (not (not b)) (1 + prefix_len (λ y. not (not (test y))) xs) 0 → (b && list_all test xs) ≡ true)
    [ true ↦ λ h. prefix_all test xs (omega arith) | false ↦ λ h. absurd (omega arith) ] e

cond_some : {T : Type 0} (b : Bool) (x : T) → cond b (Some x) None ≡ None → b ≡ false
cond_some true x e = cc
cond_some false x e = refl

pub no_position : {T : Type 0} (test : T → Bool) (xs : List T) → position (λ x. not (test x)) xs ≡ None → list_all test xs ≡ true
no_position test xs e = prefix_all test xs (ltb-false _ _ (cond_some _ _ e))
