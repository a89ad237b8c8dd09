use Rattle.std.proofs.Common.{◌≡◌, ◌||◌, Bool, true, false, cond, Option, Some, refl, sym, ap, ◌∙◌, map, arith}
use Rattle.std.specs.Prelude.{is_some, string_bytes}
use Rattle.std.specs.Str.{bytes_eq}
use Rattle.std.proofs.lemmas.Map.Text.{hash_map_updates_str}
use Rattle.tc_object.specs.Used.{is_used_name}
use Rattle.tcd_driver.proofs.DistinctNames.{are_new_names, all_new, names_left, name_seen, name_again}
use Rattle.tcd_driver.proofs.distinct_names.are_distinct_by_map.Goals as goal

chosen : {X : Type 0} (b : Bool) (x : X) (o : Option X) → is_some (cond b (Some x) o) ≡ (b || is_some o)
chosen true x o = refl
chosen false x o = refl

pub loop-rest-init : goal.loop-rest-init
loop-rest-init c = all_new (is_used_name c.new-seen.result) (map string_bytes c.args.names.now) (λ q. rw (c.new-seen.ensures.empty) refl)

pub returns-then-is_some : goal.returns-then-is_some
returns-then-is_some c =
    sym (c.loop-rest.invariant
    ∙ ap (are_new_names (is_used_name c.loop-rest.seen)) (names_left string_bytes c.loop-rest.rest.now c.name-item.result c.as_str.result.now (omega (arith, c.in-len1-up.len_at_least)) c.name-item.is c.as_str.ensures.value)
    ∙ name_again c.as_str.result.now _ (is_used_name c.loop-rest.seen) (ap is_some (sym c.in_ok-earlier.ensures.old) ∙ sym c.is_some.ensures ∙ c.if-is_some.true))

pub loop-rest-preserved : goal.loop-rest-preserved
loop-rest-preserved c =
    c.loop-rest.invariant
    ∙ ap (are_new_names (is_used_name c.loop-rest.seen)) (names_left string_bytes c.loop-rest.rest.now c.name-item.result c.as_str.result.now (omega (arith, c.in-len1-up.len_at_least)) c.name-item.is c.as_str.ensures.value)
    ∙ name_seen c.as_str.result.now _ (is_used_name c.loop-rest.seen) (is_used_name c.insert.new.self) (ap is_some (sym c.in_ok-earlier.ensures.old) ∙ sym c.is_some.ensures ∙ c.if-is_some.false)
    (λ q. ap is_some (hash_map_updates_str c.as_str.result.now c.loop-rest.seen c.insert.new.self _ c.in_ok-earlier.ensures.updates q) ∙ chosen (bytes_eq c.as_str.result.now q) _ _)
