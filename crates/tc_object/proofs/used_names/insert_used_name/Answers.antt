use Rattle.std.proofs.Common.{◌≡◌, Bool, true, false, ◌||◌, cond, Option, Some, refl, ap, ◌∙◌}
use Rattle.std.specs.Prelude.{is_some}
use Rattle.std.specs.Str.{bytes_eq}
use Rattle.std.proofs.lemmas.Map.Text.{hash_map_updates_str}
use Rattle.tc_object.proofs.used_names.insert_used_name.Goals as goal

chosen : {X : Type 0} (b : Bool) (x : X) (o : Option X) → is_some (cond b (Some x) o) ≡ (b || is_some o)
chosen true x o = refl
chosen false x o = refl

pub returns-clause-names : goal.returns-clause-names
returns-clause-names c = λ q.
    ap is_some (hash_map_updates_str c.args.name.now c.args.names.now c.insert.new.self _ c.in_ok-old.ensures.updates q)
    ∙ chosen (bytes_eq c.args.name.now q) _ _
