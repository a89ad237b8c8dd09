use Rattle.std.proofs.Common.{◌∙◌, sym, ap}
use Rattle.std.specs.Prelude.{option_map}
use Rattle.depth_cert.proofs.ManyLaws.{last_of-map}
use Rattle.packed_cert.specs.declared.places.NodePlaces.{NodePlaces}
use Rattle.packed_cert.proofs.node_reader.last_key_number.Goals as goal

pub returns-in-None : goal.returns-in-None
returns-in-None c =
    ap (option_map (λ (n : NodePlaces). n.number)) (rw c.in-None.is at c.last.ensures.value) ∙ sym (last_of-map (λ (n : NodePlaces). n.number) c.args.nodes.now)

pub returns-in-Some : goal.returns-in-Some
returns-in-Some c =
    ap (option_map (λ (n : NodePlaces). n.number)) (rw c.in-Some.is at c.last.ensures.value) ∙ sym (last_of-map (λ (n : NodePlaces). n.number) c.args.nodes.now)
