-- Reading many items, one after another: their first fault.
use Rattle.std.proofs.Common.{◌≡◌, ℕ, ◌-◌, ◌<◌, List, [], Result}
use Rattle.tcd_base.specs.declared.errors.FormErr.{FormErr}
use Rattle.tcd_base.specs.Place.{Place}
use Rattle.tcd_base.specs.FieldReaders.{many_fields_at}
use Rattle.tcd_base.proofs.ManyLaws.{many_fail}
use Rattle.tc_object.specs.declared.errors.ObjErr.{ObjErr}
use Rattle.tc_object.specs.declared.errors.ObjErr.TheVariants.{Bad, NoMemory}
use Rattle.tc_object.specs.Faults.{IsFaultOf}

-- the first fault of an item, as an error says it
pub many_fault : {A : Type 0} (item : List A → Place → Result (A × Place) FormErr) (n i : ℕ) (before : List A) (start p : Place) (e : ObjErr) → i < n
    → many_fields_at item n [] start ≡ many_fields_at item (n - i) before p → IsFaultOf (item before p) e → IsFaultOf (many_fields_at item n [] start) e
many_fault item n i before start p (Bad e) h inv f = many_fail item n i before start p e h inv f
many_fault item n i before start p NoMemory h inv f = tt
