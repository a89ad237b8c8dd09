use Rattle.std.proofs.Common.{◌≡◌, ◌∙◌, ◌+◌, ◌++◌, ◌∷◌, [], ℕ, Bool, true, false, cond, map, Option, Some, None, sym, ap, arith}
use Rattle.std.specs.Prelude.{is_some, filter}
use Rattle.std.specs.Option.{option_map, option_or}
use Rattle.std.specs.Str.{bytes_eq}
use Rattle.std.proofs.lemmas.Grind.{common_steps}
use Rattle.std.proofs.lemmas.Map.Text.{hash_map_updates_str}
use Rattle.tc_object.specs.Objects.{SymbolData}
use Rattle.tc_link.specs.declared.definitions.Definition.{Definition}
use Rattle.tc_link.specs.GlobalSymbols.{is_global, global_data, first_global_address, global_at_name, has_global_name, twice_at, twice_of_count, global_symbol_address}
use Rattle.tc_link.specs.Placing.{definition_address}
use Rattle.tc_link.proofs.CountLaws.{add_one, named_on}
use Rattle.tc_link.proofs.GlobalLaws.{global_push, keep_global, put_global, map_cond, put_twice, same_global}
use Rattle.tc_link.proofs.PlacedLaws.{symbol_globals}
use Rattle.tc_link.proofs.global_symbols.add_symbol_if_global.Goals as goal

pub returns-in_default-clause-counts : goal.returns-in_default-clause-counts
returns-in_default-clause-counts c = λ q n e.
    let v : SymbolData = record { name = c.symbol.inside.name.now; kind = c.symbol.inside.kind; section = c.symbol.inside.section; offset = c.symbol.inside.offset } in
    let twice : Definition → Bool = λ d. d.is_twice in
    named_on (is_global v) (bytes_eq q v.name) n (twice_at c.insert.new.self q) (grind (arith, common_steps, c.if-not-is_global.false))
    (add_one (twice_at c.args.names.now) v.name q n false (twice_at c.insert.new.self q)
    (sym (ap (λ (o : Option Definition). is_some (option_map twice o)) (sym c.in_ok-first.ensures.old ∙ c.in_default.is)))
    (ap (option_map twice) (hash_map_updates_str v.name c.args.names.now c.insert.new.self _ c.in_ok-first.ensures.updates q)
    ∙ map_cond twice (bytes_eq v.name q) _ (global_at_name c.args.names.now q))
    e)
    ∙ ap (λ (s : SymbolData). twice_of_count (n + cond (has_global_name q s) 1 0)) c.symbol.view_is

pub returns-in_default-clause-globals : goal.returns-in_default-clause-globals
returns-in_default-clause-globals c = λ placed p before at rel q.
    let v : SymbolData = record { name = c.symbol.inside.name.now; kind = c.symbol.inside.kind; section = c.symbol.inside.section; offset = c.symbol.inside.offset } in
    let is : is_global v ≡ true = grind (arith, common_steps, c.if-not-is_global.false) in
    let d : Definition = record { object = c.args.object; section = v.section; offset = v.offset; is_twice = false } in
    let f : Definition → ℕ = definition_address placed in
    put_global (global_symbol_address c.args.names.now placed) v.name (f d) q (global_symbol_address c.insert.new.self placed q)
    (ap (λ (o : Option Definition). is_some (option_map f o)) (sym c.in_ok-first.ensures.old ∙ c.in_default.is))
    (ap (option_map f) (hash_map_updates_str v.name c.args.names.now c.insert.new.self _ c.in_ok-first.ensures.updates q)
    ∙ map_cond f (bytes_eq v.name q) d (global_at_name c.args.names.now q))
    ∙ ap (λ (o : Option ℕ). option_or o (cond (bytes_eq q v.name) (Some (f d)) None)) (rel q)
    ∙ sym (global_push before (record { name = v.name; address = f d }) q)
    ∙ symbol_globals placed p c.args.object v before q at is
    ∙ ap (λ (s : SymbolData). first_global_address (before ++ map (global_data p.bases) (filter is_global (s ∷ []))) q) c.symbol.view_is

pub returns-clause-counts : goal.returns-clause-counts
returns-clause-counts c = λ q n e.
    let v : SymbolData = record { name = c.symbol.inside.name.now; kind = c.symbol.inside.kind; section = c.symbol.inside.section; offset = c.symbol.inside.offset } in
    let twice : Definition → Bool = λ d. d.is_twice in
    named_on (is_global v) (bytes_eq q v.name) n (twice_at c.insert-2.new.self q) (grind (arith, common_steps, c.if-not-is_global.false))
    (add_one (twice_at c.args.names.now) v.name q n true (twice_at c.insert-2.new.self q)
    (sym (ap (λ (o : Option Definition). is_some (option_map twice o)) (sym c.in_ok-first.ensures.old ∙ c.in-Some.is)))
    (ap (option_map twice) (put_twice (bytes_eq v.name q) _ _ (global_at_name c.args.names.now q) (global_at_name c.insert.new.self q) (global_at_name c.insert-2.new.self q)
    (hash_map_updates_str v.name c.args.names.now c.insert.new.self _ c.in_ok-first.ensures.updates q)
    (hash_map_updates_str v.name c.insert.new.self c.insert-2.new.self _ c.in_ok-insert.ensures.updates q))
    ∙ map_cond twice (bytes_eq v.name q) _ (global_at_name c.args.names.now q))
    e)
    ∙ ap (λ (s : SymbolData). twice_of_count (n + cond (has_global_name q s) 1 0)) c.symbol.view_is

pub returns-clause-globals : goal.returns-clause-globals
returns-clause-globals c = λ placed p before at rel q.
    let v : SymbolData = record { name = c.symbol.inside.name.now; kind = c.symbol.inside.kind; section = c.symbol.inside.section; offset = c.symbol.inside.offset } in
    let is : is_global v ≡ true = grind (arith, common_steps, c.if-not-is_global.false) in
    let d : Definition = record { object = c.args.object; section = v.section; offset = v.offset; is_twice = false } in
    let f : Definition → ℕ = definition_address placed in
    let some : global_at_name c.args.names.now v.name ≡ Some c.in-Some.first = sym c.in_ok-first.ensures.old ∙ c.in-Some.is in
    ap (option_map f) (put_twice (bytes_eq v.name q) _ _ (global_at_name c.args.names.now q) (global_at_name c.insert.new.self q) (global_at_name c.insert-2.new.self q)
    (hash_map_updates_str v.name c.args.names.now c.insert.new.self _ c.in_ok-first.ensures.updates q)
    (hash_map_updates_str v.name c.insert.new.self c.insert-2.new.self _ c.in_ok-insert.ensures.updates q))
    ∙ map_cond f (bytes_eq v.name q) _ (global_at_name c.args.names.now q)
    ∙ same_global (global_symbol_address c.args.names.now placed) v.name q (f c.in-Some.first) (ap (option_map f) some)
    ∙ keep_global (global_symbol_address c.args.names.now placed) v.name (f d) q (ap (λ (o : Option Definition). is_some (option_map f o)) some)
    ∙ ap (λ (o : Option ℕ). option_or o (cond (bytes_eq q v.name) (Some (f d)) None)) (rel q)
    ∙ sym (global_push before (record { name = v.name; address = f d }) q)
    ∙ symbol_globals placed p c.args.object v before q at is
    ∙ ap (λ (s : SymbolData). first_global_address (before ++ map (global_data p.bases) (filter is_global (s ∷ []))) q) c.symbol.view_is
