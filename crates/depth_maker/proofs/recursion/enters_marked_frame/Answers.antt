use Rattle.std.proofs.Common.{◌≡◌, ℕ, Bool, true, false, List, Contains, ap, sym, subst}
use Rattle.std.specs.Prelude.{IsTrue}
use Rattle.std.specs.Option.{option_map}
use Rattle.frame_places.specs.NodeGraph.{IsNodeMarked}
use Rattle.depth_maker.specs.TableView.{view_of_table}
use Rattle.depth_maker.proofs.RecursSteps.{none_marked, row_marked}
use Rattle.depth_maker.proofs.RowSteps.{number_there}
use Rattle.depth_maker.proofs.recursion.enters_marked_frame.Goals as goal

abbrev SaysMarked : List Bool → Bool → List ℕ → Type 0
SaysMarked marks r l = (IsTrue r → (t : ℕ) × Contains l t × IsNodeMarked marks t) × (((t : ℕ) × Contains l t × IsNodeMarked marks t) → IsTrue r)

pub returns-in_default : goal.returns-in_default
unfolding view_of_table
returns-in_default c = (
  (λ y. absurd (let f : false ≡ true = y in cc)),
  (λ e. absurd (none_marked c.args.source.now c.requires c.args.marks.now c.args.key c.args.addr (ap (option_map (λ m. m.value)) (sym c.in_default.ensures.value)) e)),
)

pub point_row-requires-clause-at : goal.point_row-requires-clause-at
point_row-requires-clause-at c =
    let at = sym c.in-Some.ensures.value in
    record { known = at; node = number_there c.args.source.now c.requires c.args.key c.args.addr c.in-Some.known.now _ at c.frame_number.ensures }

pub returns : goal.returns
returns c =
    row_marked c.args.source.now c.requires c.args.marks.now c.args.key c.args.addr c.in_ok-row.row c.in_ok-row.ensures c.has_marked_node.result
    (subst (SaysMarked c.args.marks.now c.has_marked_node.result) c.as_slice.ensures.value c.has_marked_node.ensures)
