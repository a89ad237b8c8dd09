use Rattle.std.proofs.Common.{arith, refl, ◌∙◌, ap, subst, sym, ◌++◌, ℕ, List, length}
use Rattle.tcd_base.specs.Bytes.{bytes_of_half}
use Rattle.std.proofs.lemmas.List.Sorted.{length_permutation}
use Rattle.std.specs.List.Sorted.{IsPermutation, IsNonDecreasingBy}
use Rattle.depth_cert.specs.declared.keys.Key.{Key}
use Rattle.depth_cert.specs.Keys.{number_of_key}
use Rattle.depth_maker.specs.SpelledCert.{IsOrderedCertSource}
use Rattle.frame_places.specs.PointEntries.{ArePointEntries, places_of_entries, points_in}
use Rattle.frame_places.specs.declared.ordering.PointEntry.{PointEntry}
use Rattle.depth_maker.specs.declared.spelling.Ordered.{Ordered}
use Rattle.depth_maker.proofs.CountedLemmas.{few_spots}
use Rattle.depth_maker.proofs.OutLemmas.{spelled_is, writes_cert}
use Rattle.depth_maker.proofs.spelling.serialize_cert.Goals as goal

pub overflow_cast-frames : goal.overflow_cast-frames
overflow_cast-frames c =
    let t = c.args.source.now.table.now in
    let few = few_spots t.points.items t.frames.items (((c.requires.source).done).counted).few in
    let same = length_permutation c.as_slice.result.now c.in_ok-frames.frames.items c.in_ok-frames.ensures.same in
    record { fits = omega (arith, few.1, same, ap (λ (l : List Key). length l) c.as_slice.ensures.value, ap (λ (l : List Key). length l) c.as_slice-frames.ensures.value) }

pub returns : goal.returns
returns c =
    let o : Ordered = record { source = c.args.source; needs = c.args.needs; points = c.as_slice-2.result } in
    let places = c.args.source.now.table.now.places in
    let ordered : IsOrderedCertSource o = record {
      source = c.requires.source;
      needs = c.requires.needs;
      unique = c.sorted_points.ensures.unique;
      points = subst (λ (l : List PointEntry). IsPermutation (points_in places) (places_of_entries places l)) (sym c.as_slice-2.ensures.value) c.in_ok-points.ensures.same;
      rising = subst (λ (l : List PointEntry). IsNonDecreasingBy (λ (x : PointEntry). x.order) l) (sym c.as_slice-2.ensures.value) c.in_ok-points.ensures.rising;
      entries = subst (ArePointEntries places) (sym c.as_slice-2.ensures.value) c.in_ok-points.ensures.entries;
    } in
    let frames =
    subst (λ (l : List Key). IsPermutation l c.as_slice-frames.result.now) c.as_slice.ensures.value
    (subst (IsPermutation c.as_slice.result.now) (sym c.as_slice-frames.ensures.value) c.in_ok-frames.ensures.same)
    in
    let rising = subst (IsNonDecreasingBy (λ (k : Key). number_of_key k)) (sym c.as_slice-frames.ensures.value) c.in_ok-frames.ensures.rising in
    spelled_is o c.args.version c.as_slice-frames.result.now _ c.append_table_nodes.new.out.items ordered frames rising c.requires.known c.requires.limits
    (writes_cert o c.args.version _ c.as_slice-frames.result.now c.new-out.result.items c.put_u32.new.out.items c.put_u16.new.out.items c.put_u16-2.new.out.items c.append_table_nodes.new.out.items
    c.new-out.ensures.items refl c.in_ok-put_u32.ensures.ok
    (c.in_ok-put_u16.ensures ∙ ap (λ (n : ℕ). c.put_u32.new.out.items ++ bytes_of_half n) c.from.ensures) c.in_ok-put_u16-2.ensures c.in_ok-append_table_nodes.ensures)
    c.in_ok-append_table_nodes.ensures
