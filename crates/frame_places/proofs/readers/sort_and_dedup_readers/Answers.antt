use Rattle.frame_places.proofs.ReaderLemmas.{fewer_same, ordered_same}
use Rattle.frame_places.proofs.readers.sort_and_dedup_readers.Goals as goal

pub returns-then-len : goal.returns-then-len
returns-then-len c =
    fewer_same c.args.list.now.items c.sort_by_key.new.self.items c.as_slice.result.now c.in_ok-out.out.items c.sort_by_key.ensures.permutation c.as_slice.ensures.value c.in_ok-out.ensures

pub returns-else-len : goal.returns-else-len
returns-else-len c = ordered_same c.args.list.now.items c.sort_by_key.new.self.items c.sort_by_key.ensures.permutation
