-- One step of a view keeps its levels: if its newest frame has priority 0 and isn't on the
-- interrupt stack, CCPN is the start's.
use Rattle.std.proofs.Common.{◌≡◌, ◌≢◌, ℕ, ◌-◌, ◌<◌, ◌⊎◌, Bool, true, false, List, [], ◌∷◌, length, get_or, refl, sym, ap, ◌∙◌, subst, arith}
use Rattle.csa_chain.specs.MemoryBytes.{Memory, with_words}
use Rattle.csa_chain.specs.Chain.{link_in, link_address, area_word}
use Rattle.csa_chain.specs.ContextWords.{ul_of, pcpn_of}
use Rattle.csa_chain.proofs.ChainLaws.{Links, SameAreas, Avoids, Links-same, used_after_save, used_after_restore}
use Rattle.csa_chain.proofs.ContextLaws.{link_in-pcxi_word, link_in-lt}
use Rattle.tcd_base.specs.declared.core_version.Core.{Core}
use Rattle.tcd_plan.specs.PlanData.{PlanData, IsPlan}
use Rattle.tc_machine.specs.declared.events.Event.{Event}
use Rattle.tc_machine.specs.declared.events.End.TheVariants.{Running}
use Rattle.tc_machine.specs.declared.state.Machine.{Machine}
use Rattle.tc_machine.specs.SavesAndRestores.{context_of, with_context_saved, save, with_area_released}
use Rattle.tc_machine.specs.Machine.{IsMachine}
use Rattle.tc_machine.proofs.Saves.{save-is, length-context_of}
use Rattle.tc_machine.proofs.Areas.{Areas, HasFree, has_free, is_freed}
use Rattle.depth_cert.specs.declared.keys.Key.{Key}
use Rattle.cfg_recover.specs.Frames.{RunFrame}
use Rattle.task_chains.proofs.Levels.{IsBase, Levels, AtLevel, Levels-same, Levels-lower, Levels-upper, Levels-lower_back, Levels-upper_back}

-- the keys of frames
abbrev pub keys_of : List RunFrame → List Key
keys_of [] = []
keys_of (f ∷ fs) = f.key ∷ keys_of fs

-- the levels of a state in these frames, along its chain
pub record Leveled (level : ℕ) (v : Machine) (fs : List RunFrame) : Type 0 where
  pub seen : List ℕ
  pub links : Links v.mem v.pcxi seen
  pub at : AtLevel level v.ccpn (keys_of fs)
  pub levels : Levels v.core level v.mem v.pcxi seen (keys_of fs)

-- levels of equal things are equal
Links-to : (ls : List ℕ) {m n : Memory} {w x : ℕ} → n ≡ m → x ≡ w → Links m w ls → Links n x ls
Links-to ls {m = m} {n = n} {w = w} {x = x} e f h = subst (λ y. Links y x ls) (sym e) (subst (λ y. Links m y ls) (sym f) h)

Levels-to : (level : ℕ) (ls : List ℕ) {c d : Core} {m n : Memory} {w x : ℕ} {ks js : List Key} → d ≡ c → n ≡ m → x ≡ w → js ≡ ks → Levels c level m w ls ks → Levels d level n x ls js
Levels-to level ls {c = c} {d = d} {m = m} {n = n} {w = w} {x = x} {ks = ks} {js = js} a e f g h =
    subst (λ y. Levels y level n x ls js) (sym a) (subst (λ y. Levels c level y x ls js) (sym e) (subst (λ y. Levels c level m y ls js) (sym f) (subst (Levels c level m w ls) (sym g) h)))

AtLevel-to : (level : ℕ) {c d : ℕ} {ks js : List Key} → d ≡ c → js ≡ ks → AtLevel level c ks → AtLevel level d js
AtLevel-to level {c = c} {d = d} {ks = ks} {js = js} e g h = subst (λ y. AtLevel level y js) (sym e) (subst (AtLevel level c) (sym g) h)

module _ {plan : PlanData} (ok : IsPlan plan) (level : ℕ) (v : Machine) (words : IsMachine v) (running : v.end ≡ Running) (f : RunFrame) (fs : List RunFrame) (l : Leveled level v (f ∷ fs)) (free : List ℕ) (areas : Areas plan v.mem v.fcx v.lcx (l.seen) free) (e : Event) where
  -- ---- saves
  module _ (room : length (l.seen) < plan.areas - plan.reserve) where
    has : HasFree plan v.mem v.fcx v.lcx (l.seen)
    has = has_free ok (plan.areas - plan.reserve) (omega arith) v.mem v.fcx v.lcx (l.seen) free areas room

    pub stands : (upper : Bool) → save v upper ≡ with_context_saved v upper
    stands upper = let h = has in save-is v upper h.some h.area h.not_last

    first_word : (upper : Bool) → get_or (context_of v upper) 0 0 ≡ v.pcxi
    first_word true = refl
    first_word false = refl

    saved_links : (upper : Bool) → Links (with_context_saved v upper).mem (with_context_saved v upper).pcxi (link_in v.fcx ∷ l.seen)
    saved_links upper =
        let h = has in
        used_after_save v.mem v.pcxi (link_in v.fcx) l.seen (context_of v upper) (with_context_saved v upper).pcxi l.links h.some h.area h.avoids_used (length-context_of v upper) (first_word upper) words.pcxi
        (link_in-pcxi_word v.core v.ccpn v.ie upper (link_in v.fcx) (link_in-lt v.fcx))

    -- a lower context: the frames stay
    pub leveled_lower : (x : Machine) (gs : List RunFrame) → x.mem ≡ (with_context_saved v false).mem → x.pcxi ≡ (with_context_saved v false).pcxi → x.core ≡ v.core → keys_of gs ≡ keys_of (f ∷ fs) → (IsBase f.key → x.ccpn ≡ v.ccpn) → Leveled level x gs
    leveled_lower x gs mem_is pcxi_is core_is keys_are ccpn_is =
        let h = has in
        record {
          seen = link_in v.fcx ∷ l.seen;
          links = Links-to (link_in v.fcx ∷ l.seen) mem_is pcxi_is (saved_links false);
          at = AtLevel-to level {c = x.ccpn} refl keys_are (λ base. ccpn_is base ∙ l.at base);
          levels = Levels-to level (link_in v.fcx ∷ l.seen) core_is mem_is pcxi_is keys_are
              (Levels-lower v.core level v.mem v.pcxi (link_in v.fcx) l.seen (context_of v false) refl refl words.pcxi h.area h.avoids_used (link_in-lt v.fcx) v.ccpn words.ccpn v.ie (keys_of (f ∷ fs)) l.levels);
        }

    -- an upper one: a frame begins
    pub leveled_upper : (x : Machine) (gs : List RunFrame) (new : Key) → x.mem ≡ (with_context_saved v true).mem → x.pcxi ≡ (with_context_saved v true).pcxi → x.core ≡ v.core → keys_of gs ≡ new ∷ keys_of (f ∷ fs)
        → (new.kind ≡ 1 → IsBase f.key → IsBase new) → (IsBase new → (x.ccpn ≡ v.ccpn) × IsBase f.key) → Leveled level x gs
    leveled_upper x gs new mem_is pcxi_is core_is keys_are called base_is =
        let h = has in
        record {
          seen = link_in v.fcx ∷ l.seen;
          links = Links-to (link_in v.fcx ∷ l.seen) mem_is pcxi_is (saved_links true);
          at = AtLevel-to level {c = x.ccpn} {ks = new ∷ keys_of (f ∷ fs)} refl keys_are (λ base. (base_is base).0 ∙ l.at (base_is base).1);
          levels = Levels-to level (link_in v.fcx ∷ l.seen) core_is mem_is pcxi_is keys_are
              (Levels-upper v.core level v.mem v.pcxi (link_in v.fcx) l.seen (context_of v true) refl refl words.pcxi h.area h.avoids_used (link_in-lt v.fcx) v.ccpn words.ccpn v.ie new f.key (keys_of fs) called l.at l.levels);
        }

  -- ---- restores
  -- if the chain has a first area
  module _ (j : ℕ) (rest : List ℕ) (is : l.seen ≡ j ∷ rest) where
    links_is : Links v.mem v.pcxi (j ∷ rest)
    links_is = subst (Links v.mem v.pcxi) is l.links

    levels_is : Levels v.core level v.mem v.pcxi (j ∷ rest) (keys_of (f ∷ fs))
    levels_is = subst (λ ss. Levels v.core level v.mem v.pcxi ss (keys_of (f ∷ fs))) is l.levels

    apart_is : Avoids j rest
    apart_is = (is_freed v.mem v.fcx v.lcx j rest free (subst (λ ss. Areas plan v.mem v.fcx v.lcx ss free) is areas)).avoids_used

    here : link_in v.pcxi ≡ j
    here = links_is.1

    released_links : Links (with_area_released v).mem (with_area_released v).pcxi rest
    released_links = Links-to rest (ap (λ y. with_words v.mem (link_address y) (v.fcx ∷ [])) here) (ap (λ y. area_word v.mem y 0) here) (used_after_restore v.mem v.pcxi j rest v.fcx links_is apart_is)

    pub leveled_lower_back : (x : Machine) (gs : List RunFrame) → x.mem ≡ (with_area_released v).mem → x.pcxi ≡ (with_area_released v).pcxi → x.core ≡ v.core → x.ccpn ≡ v.ccpn → keys_of gs ≡ keys_of (f ∷ fs) → ul_of v.core v.pcxi ≡ false → Leveled level x gs
    leveled_lower_back x gs mem_is pcxi_is core_is ccpn_is keys_are ul = record {
      seen = rest;
      links = Links-to rest mem_is pcxi_is released_links;
      at = AtLevel-to level ccpn_is keys_are l.at;
      levels = Levels-to level rest core_is (mem_is ∙ ap (λ y. with_words v.mem (link_address y) (v.fcx ∷ [])) here) (pcxi_is ∙ ap (λ y. area_word v.mem y 0) here) keys_are (Levels-lower_back v.core level v.mem v.pcxi j rest v.fcx apart_is (keys_of (f ∷ fs)) ul levels_is);
    }

    pub leveled_upper_back : (x : Machine) (gs : List RunFrame) → x.mem ≡ (with_area_released v).mem → x.pcxi ≡ (with_area_released v).pcxi → x.core ≡ v.core → keys_of gs ≡ keys_of fs → ul_of v.core v.pcxi ≡ true
        → ((f.key).kind ≡ 1 → x.ccpn ≡ v.ccpn) → ((f.key).kind ≢ 1 → x.ccpn ≡ pcpn_of v.core v.pcxi) → ((f.key).kind ≡ 1) ⊎ ((f.key).kind ≢ 1) → Leveled level x gs
    leveled_upper_back x gs mem_is pcxi_is core_is keys_are ul returned left kinds =
        let back = Levels-upper_back v.core level v.mem v.pcxi j rest v.fcx apart_is f.key (keys_of fs) ul levels_is v.ccpn x.ccpn l.at returned left kinds in
        record {
          seen = rest;
          links = Links-to rest mem_is pcxi_is released_links;
          at = AtLevel-to level {c = x.ccpn} refl keys_are back.0;
          levels = Levels-to level rest core_is (mem_is ∙ ap (λ y. with_words v.mem (link_address y) (v.fcx ∷ [])) here) (pcxi_is ∙ ap (λ y. area_word v.mem y 0) here) keys_are back.1;
        }

  -- ---- else: the chain's areas and PCXI stay
  pub leveled_plain : (x : Machine) (gs : List RunFrame) → SameAreas v.mem x.mem (l.seen) → x.pcxi ≡ v.pcxi → x.core ≡ v.core → x.ccpn ≡ v.ccpn → keys_of gs ≡ keys_of (f ∷ fs) → Leveled level x gs
  leveled_plain x gs same pcxi_is core_is ccpn_is keys_are = record {
    seen = l.seen;
    links = Links-to l.seen refl pcxi_is (Links-same v.mem x.mem v.pcxi l.seen same l.links);
    at = AtLevel-to level ccpn_is keys_are l.at;
    levels = Levels-to level l.seen core_is refl pcxi_is keys_are (Levels-same v.core level v.mem x.mem v.pcxi l.seen (keys_of (f ∷ fs)) same l.levels);
  }
