-- Saving and restoring contexts (manual, volume 1, context management).
use Rattle.std.specs.Prelude.{ℕ, Bool, not, ◌==◌, if◌then◌else◌, List, [], ◌∷◌, map}
use Rattle.csa_chain.specs.MemoryBytes.{Memory, with_words}
use Rattle.csa_chain.specs.Chain.{link_in, link_address, is_area_mapped, area_word, word_with_link}
use Rattle.csa_chain.specs.ContextWords.{pcxi_word_of, ul_of, upper_context_words, lower_context_words, d_after_upper_restore, a_after_upper_restore, d_after_lower_restore, a_after_lower_restore}
use Rattle.tc_machine.specs.declared.events.Cause.TheVariants.{Fcd, Fcu, Csu, Ctyp, NoArea}
use Rattle.tc_machine.specs.declared.state.Machine.{Machine}
use Rattle.tc_machine.specs.Machine.{dead_machine}

-- the 16 words of the upper context, or of the lower one if the Bool is false
abbrev pub context_of : Machine → Bool → List ℕ
context_of m upper = if upper then upper_context_words m.pcxi m.psw m.d m.a else lower_context_words m.pcxi m.d m.a

-- The machine after a context was saved to the first free area. Word 0 of that area was the link of
-- the next free one.
abbrev pub with_context_saved : Machine → Bool → Machine
with_context_saved m upper =
    let free = link_in m.fcx in
    record m {
      mem = with_words m.mem (link_address free) (context_of m upper);
      pcxi = pcxi_word_of m.core m.ccpn m.ie upper free;
      fcx = word_with_link m.fcx (link_in (area_word m.mem free 0));
    }

-- A save. The machine dies if the free list is empty or its first area isn't mapped. After the save
-- it dies if the limit of the list is reached.
unfoldable pub save : Machine → Bool → Machine
save m upper =
    if link_in m.fcx == 0 then dead_machine Fcu m
    else if is_area_mapped m.mem (link_in m.fcx) then
    (if link_in m.fcx == link_in m.lcx then dead_machine Fcd (with_context_saved m upper) else with_context_saved m upper)
    else dead_machine NoArea m

-- the last saved context is an upper one (true) or a lower one, as asked, by the bit UL of PCXI
abbrev pub is_last_context_of_kind : Machine → Bool → Bool
is_last_context_of_kind m upper = if upper then ul_of m.core m.pcxi else not (ul_of m.core m.pcxi)

-- the machine after the area that PCXI names was moved to the front of the free list
abbrev pub with_area_released : Machine → Machine
with_area_released m =
    let used = link_in m.pcxi in
    record m {
      pcxi = area_word m.mem used 0;
      mem = with_words m.mem (link_address used) (m.fcx ∷ []);
      fcx = word_with_link m.fcx used;
    }

-- the 16 words in the area of a link, from which the machine restores a context
abbrev pub saved_area_words : Memory → ℕ → List ℕ
saved_area_words mem link = map (area_word mem link) (0 ∷ 1 ∷ 2 ∷ 3 ∷ 4 ∷ 5 ∷ 6 ∷ 7 ∷ 8 ∷ 9 ∷ 10 ∷ 11 ∷ 12 ∷ 13 ∷ 14 ∷ 15 ∷ [])

-- the 16 words of the area that PCXI names
abbrev pub last_context : Machine → List ℕ
last_context m = saved_area_words m.mem (link_in m.pcxi)

-- the machine after the upper context, PSW included, was restored from the area that PCXI names
abbrev pub with_upper_restored : Machine → Machine
with_upper_restored m = record (with_area_released m) {
  psw = area_word m.mem (link_in m.pcxi) 1;
  d = d_after_upper_restore (last_context m) m.d;
  a = a_after_upper_restore (last_context m) m.a;
}

-- the machine after the lower context was restored from the area that PCXI names
abbrev pub with_lower_restored : Machine → Machine
with_lower_restored m = record (with_area_released m) {
  d = d_after_lower_restore (last_context m) m.d;
  a = a_after_lower_restore (last_context m) m.a;
}

-- the machine after the upper or the lower context was restored from the area that PCXI names
abbrev pub with_context_restored : Machine → Bool → Machine
with_context_restored m upper = if upper then with_upper_restored m else with_lower_restored m

-- a restore: the machine dies if there is no context, if it is of the other kind, or if its area
-- isn't mapped
unfoldable pub restore : Machine → Bool → Machine
restore m upper =
    if link_in m.pcxi == 0 then dead_machine Csu m
    else if is_last_context_of_kind m upper then
    (if is_area_mapped m.mem (link_in m.pcxi) then with_context_restored m upper else dead_machine NoArea m)
    else dead_machine Ctyp m
