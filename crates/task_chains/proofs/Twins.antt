-- A machine that several tasks share, compared with the view of the task that runs: the contexts
-- are the same, at whatever addresses.
use Rattle.std.proofs.Common.{◌≡◌, ◌≢◌, ℕ, zero, suc, ◌+◌, ◌-◌, ◌/◌, ◌^◌, ◌<◌, ◌≤◌, Bool, true, false, List, [], ◌∷◌, ◌++◌, length, get_or, refl, sym, ap, ◌∙◌, subst, arith, inl, inr}
use Rattle.std.proofs.lemmas.Bool.{cases_eq}
use Rattle.csa_chain.specs.MemoryBytes.{Memory, with_words, HasOnlyBytes}
use Rattle.csa_chain.specs.Chain.{link_in, link_address, is_area_mapped, area_word, word_with_link}
use Rattle.csa_chain.specs.ContextWords.{pcxi_word_of}
use Rattle.csa_chain.specs.ContextWordLaws.{IsListOfWords}
use Rattle.csa_chain.proofs.WordLaws.{area_word-lt}
use Rattle.csa_chain.proofs.ChainLaws.{Links, SameAreas, Avoids, Distinct, area_word_same, SameAreas-written, area_word-written, used_after_save, used_after_restore}
use Rattle.csa_chain.proofs.ContextLaws.{link_in-with_link, with_link-lt, link_in-lt, link_in-pcxi_word, pcxi_word-lt}
use Rattle.tcd_base.specs.declared.core_version.Core.{Core}
use Rattle.tcd_base.specs.declared.core_version.Core.TheVariants.{V13, V16}
use Rattle.tcd_plan.specs.PlanData.{PlanData, IsPlan}
use Rattle.tc_machine.specs.PlanAreas.{consecutive_links, first_link, plan_areas}
use Rattle.tc_machine.proofs.PlanLaws.{length-links_up, Distinct-links_up}
use Rattle.tc_machine.proofs.Areas.{Areas, HasFree, has_free, Areas-saved, is_freed, Areas-restored}
use Rattle.csa_chain.specs.SeveralChains.{occurrences_of, sum_of_first, with_chain, with_chain_word, ChainsPartitionAreas, AreLinksDistinct}
use Rattle.csa_chain.proofs.SeveralLaws.{cond_same, AllLinks, first_avoids, first_avoids_rest, Share-saved, saved_links, saved_free, times-there, times-other, owned_avoids_rest, Share-restored, restored_links, restored_free}

-- ---- contexts
-- The contexts of a chain and those of the view's chain: as many; each is named by words that
-- differ at most in their links, and has the same words except for the link in the first.
abbrev pub SameContexts : Memory → ℕ → List ℕ → Memory → ℕ → List ℕ → Type 0
SameContexts m word [] v word2 [] = word / 2 ^ 20 ≡ word2 / 2 ^ 20
SameContexts m word (l ∷ ls) v word2 (k ∷ ks) =
    (word / 2 ^ 20 ≡ word2 / 2 ^ 20) × ((i : ℕ) → i < 15 → area_word m l (suc i) ≡ area_word v k (suc i)) × SameContexts m (area_word m l 0) ls v (area_word v k 0) ks
SameContexts m word [] v word2 (k ∷ ks) = ⊥
SameContexts m word (l ∷ ls) v word2 [] = ⊥

-- they are unchanged if their areas are
pub SameContexts-kept : (m n v x : Memory) (word word2 : ℕ) (ls ks : List ℕ) → SameAreas m n ls → SameAreas v x ks → SameContexts m word ls v word2 ks → SameContexts n word ls x word2 ks
SameContexts-kept m n v x word word2 [] [] same seen h = h
SameContexts-kept m n v x word word2 (l ∷ ls) (k ∷ ks) same seen h = (
  h.0,
  λ i lt. area_word_same same.0 (suc i) (omega arith) ∙ h.1 i lt ∙ sym (area_word_same seen.0 (suc i) (omega arith)),
  rw (area_word_same same.0 0 (omega arith), area_word_same seen.0 0 (omega arith)) (SameContexts-kept m n v x (area_word m l 0) (area_word v k 0) ls ks same.1 seen.1 h.2),
)
SameContexts-kept m n v x word word2 [] (k ∷ ks) same seen h = absurd h
SameContexts-kept m n v x word word2 (l ∷ ls) [] same seen h = absurd h

pub SameContexts-length : (m v : Memory) (word word2 : ℕ) (ls ks : List ℕ) → SameContexts m word ls v word2 ks → length ls ≡ length ks
SameContexts-length m v word word2 [] [] h = refl
SameContexts-length m v word word2 (l ∷ ls) (k ∷ ks) h = ap suc (SameContexts-length m v (area_word m l 0) (area_word v k 0) ls ks h.2)
SameContexts-length m v word word2 [] (k ∷ ks) h = absurd h
SameContexts-length m v word word2 (l ∷ ls) [] h = absurd h

-- the words of PCXI with the same fields differ at most in their links
pub same_high : (core : Core) (pcpn : ℕ) (pie ul : Bool) (f k : ℕ) → f < 2 ^ 20 → k < 2 ^ 20 → pcxi_word_of core pcpn pie ul f / 2 ^ 20 ≡ pcxi_word_of core pcpn pie ul k / 2 ^ 20
same_high V13 pcpn false false f k lf lk = omega arith
same_high V13 pcpn false true f k lf lk = omega arith
same_high V13 pcpn true false f k lf lk = omega arith
same_high V13 pcpn true true f k lf lk = omega arith
same_high V16 pcpn false false f k lf lk = omega arith
same_high V16 pcpn false true f k lf lk = omega arith
same_high V16 pcpn true false f k lf lk = omega arith
same_high V16 pcpn true true f k lf lk = omega arith

-- two lists of words that differ at most in the first
abbrev pub SameBehindFirst : List ℕ → List ℕ → Type 0
SameBehindFirst ws ws2 = (i : ℕ) → i < 15 → get_or ws (suc i) 0 ≡ get_or ws2 (suc i) 0

-- ---- the shared areas
-- each of the plan's areas once
first_of_reserve : (reserve x f : ℕ) → 1 ≤ reserve → Avoids f (consecutive_links x reserve) → f ≢ x
first_of_reserve zero x f some h = absurd (omega arith)
first_of_reserve (suc r) x f some h = λ e. h.0 (sym e)

times-Avoids : (l : ℕ) (ls : List ℕ) → Avoids l ls → occurrences_of l ls ≡ 0
times-Avoids l [] h = refl
times-Avoids l (k ∷ ks) h = let rest = times-Avoids l ks h.1 in let first = times-other l k ks h.0 in omega arith

pub AreOnce-Distinct : (ls : List ℕ) → Distinct ls → AreLinksDistinct ls
AreOnce-Distinct [] h l = omega arith
AreOnce-Distinct (k ∷ ks) h l =
    elim (cases_eq k l) [
      | inl same ↦ let rest = times-Avoids l ks (subst (λ x. Avoids x ks) same h.0) in let first = times-there l k ks same in omega arith
      | inr apart ↦ let rest = AreOnce-Distinct ks h.1 l in let first = times-other l k ks apart in omega arith
    ]

pub areas_once : (plan : PlanData) → AreLinksDistinct (plan_areas plan)
areas_once plan = AreOnce-Distinct (plan_areas plan) (Distinct-links_up (first_link plan) plan.areas)

-- the links of the reserve
abbrev pub reserve_of : PlanData → List ℕ
reserve_of plan = consecutive_links (first_link plan + (plan.areas - plan.reserve)) plan.reserve

-- What n tasks share, one of which owns PCXI, and what the owner's view has.
pub record Twins (plan : PlanData) (n u : ℕ) (word_of : ℕ → ℕ) (chain_of : ℕ → List ℕ) (seen : List ℕ) (mem : Memory) (pcxi fcx lcx : ℕ) (view : Memory) (view_pcxi view_fcx : ℕ) : Type 0 where
  pub own : u < n
  pub first : word_of u ≡ pcxi
  pub links : AllLinks n mem word_of chain_of
  pub free : List ℕ
  pub free_links : Links mem fcx free
  pub share : ChainsPartitionAreas n chain_of free (plan_areas plan)
  pub front : List ℕ
  pub reserved : free ≡ front ++ reserve_of plan
  pub lcx_is : link_in lcx ≡ first_link plan + (plan.areas - plan.reserve)
  pub pcxi_word : pcxi < 2 ^ 32
  pub fcx_word : fcx < 2 ^ 32
  pub same : SameContexts mem pcxi (chain_of u) view view_pcxi seen
  pub view_word : view_pcxi < 2 ^ 32
  pub view_links : Links view view_pcxi seen
  pub view_free : List ℕ
  pub view_areas : Areas plan view view_fcx lcx seen view_free

Avoids-behind : (f : ℕ) (xs ys : List ℕ) → Avoids f (xs ++ ys) → Avoids f ys
Avoids-behind f [] ys h = h
Avoids-behind f (x ∷ xs) ys h = Avoids-behind f xs ys h.1

-- the first free area, if one more can be used
pub record HasShared (plan : PlanData) (n : ℕ) (chain_of : ℕ → List ℕ) (mem : Memory) (fcx lcx : ℕ) : Type 0 where
  pub front : List ℕ
  pub some : link_in fcx ≢ 0
  pub area : is_area_mapped mem (link_in fcx) ≡ true
  pub not_last : link_in fcx ≢ link_in lcx
  pub links : Links mem fcx (link_in fcx ∷ front ++ reserve_of plan)
  pub share : ChainsPartitionAreas n chain_of (link_in fcx ∷ front ++ reserve_of plan) (plan_areas plan)

module _ {plan : PlanData} (ok : IsPlan plan) {n u : ℕ} {word_of : ℕ → ℕ} {chain_of : ℕ → List ℕ} {seen : List ℕ} {mem : Memory} {pcxi fcx lcx : ℕ} {view : Memory} {view_pcxi view_fcx : ℕ}
    (t : Twins plan n u word_of chain_of seen mem pcxi fcx lcx view view_pcxi view_fcx) where
  not_reserved : (f : ℕ) (front : List ℕ) → Avoids f (front ++ reserve_of plan) → f ≢ first_link plan + (plan.areas - plan.reserve)
  not_reserved f front h = first_of_reserve plan.reserve (first_link plan + (plan.areas - plan.reserve)) f ((ok.areas).reserved) (Avoids-behind f front (reserve_of plan) h)

  shared_from : (free front : List ℕ) → free ≡ front ++ reserve_of plan → Links mem fcx free → ChainsPartitionAreas n chain_of free (plan_areas plan) → sum_of_first n (λ w. length (chain_of w)) < plan.areas - plan.reserve
      → HasShared plan n chain_of mem fcx lcx
  shared_from free [] is links share room =
      absurd (omega (arith, share.count, ap length is ∙ length-links_up _ plan.reserve, length-links_up (first_link plan) plan.areas, (ok.areas).reserve_within))
  shared_from free (f ∷ front) is links share room =
      let l : Links mem fcx (f ∷ front ++ reserve_of plan) = subst (Links mem fcx) is links in
      let s : ChainsPartitionAreas n chain_of (f ∷ front ++ reserve_of plan) (plan_areas plan) = subst (λ ls. ChainsPartitionAreas n chain_of ls (plan_areas plan)) is share in
      record {
        front = front;
        some = rw l.1 l.0;
        area = rw l.1 l.2;
        not_last = λ e. not_reserved f front (first_avoids_rest n chain_of f (front ++ reserve_of plan) (plan_areas plan) s (areas_once plan)) (sym l.1 ∙ e ∙ t.lcx_is);
        links = subst (λ x. Links mem fcx (x ∷ front ++ reserve_of plan)) (sym l.1) l;
        share = subst (λ x. ChainsPartitionAreas n chain_of (x ∷ front ++ reserve_of plan) (plan_areas plan)) (sym l.1) s;
      }

  pub has_shared : sum_of_first n (λ w. length (chain_of w)) < plan.areas - plan.reserve → HasShared plan n chain_of mem fcx lcx
  has_shared room = shared_from t.free t.front t.reserved t.free_links t.share room

  -- after a save of the same context on both sides
  module _ (room : sum_of_first n (λ w. length (chain_of w)) < plan.areas - plan.reserve) (view_room : length seen < plan.areas - plan.reserve) (context context2 : List ℕ) (are : IsListOfWords 16 context) (are2 : IsListOfWords 16 context2)
      (is : get_or context 0 0 ≡ pcxi) (is2 : get_or context2 0 0 ≡ view_pcxi) (alike : SameBehindFirst context context2) (core : Core) (ccpn : ℕ) (ie upper : Bool) (small : ccpn < 2 ^ 8) where
    h : HasShared plan n chain_of mem fcx lcx
    h = has_shared room

    v : HasFree plan view view_fcx lcx seen
    v = has_free ok (plan.areas - plan.reserve) (omega arith) view view_fcx lcx seen t.view_free t.view_areas view_room

    -- a word of the context that was saved
    saved_word : (m : Memory) (l i : ℕ) (ws : List ℕ) → IsListOfWords 16 ws → is_area_mapped m l ≡ true → i < 16 → area_word (with_words m (link_address l) ws) l i ≡ get_or ws i 0
    saved_word m l i ws ws_are here lt = let long = ws_are.0 in area_word-written m l ws i (omega arith) here (omega arith) (ws_are.1 i 0 (omega arith))

    avoids_own : Avoids (link_in fcx) (chain_of u)
    avoids_own = first_avoids n chain_of (link_in fcx) ((has_shared room).front ++ reserve_of plan) (plan_areas plan) (has_shared room).share (areas_once plan) u t.own

    same_saved : SameContexts (with_words mem (link_address (link_in fcx)) context) (pcxi_word_of core ccpn ie upper (link_in fcx)) (link_in fcx ∷ chain_of u)
        (with_words view (link_address (link_in view_fcx)) context2) (pcxi_word_of core ccpn ie upper (link_in view_fcx)) (link_in view_fcx ∷ seen)
    unfolding v
    same_saved =
        let w1 = saved_word mem (link_in fcx) 0 context are (has_shared room).area (omega arith) in
        let w2 = saved_word view (link_in view_fcx) 0 context2 are2 v.area (omega arith) in (
          same_high core ccpn ie upper (link_in fcx) (link_in view_fcx) (link_in-lt fcx) (link_in-lt view_fcx),
          λ i lt. saved_word mem (link_in fcx) (suc i) context are (has_shared room).area (omega arith) ∙ alike i lt ∙ sym (saved_word view (link_in view_fcx) (suc i) context2 are2 v.area (omega arith)),
          rw (w1, is, w2, is2) (SameContexts-kept mem _ view _ pcxi view_pcxi (chain_of u) seen
              (SameAreas-written mem (link_in fcx) (chain_of u) context (let long = are.0 in omega arith) avoids_own)
              (SameAreas-written view (link_in view_fcx) seen context2 (let long = are2.0 in omega arith) v.avoids_used) t.same),
        )

    pub Twins-saved : Twins plan n u (with_chain_word word_of u (pcxi_word_of core ccpn ie upper (link_in fcx))) (with_chain chain_of u (link_in fcx ∷ chain_of u)) (link_in view_fcx ∷ seen)
        (with_words mem (link_address (link_in fcx)) context) (pcxi_word_of core ccpn ie upper (link_in fcx)) (word_with_link fcx (link_in (area_word mem (link_in fcx) 0))) lcx
        (with_words view (link_address (link_in view_fcx)) context2) (pcxi_word_of core ccpn ie upper (link_in view_fcx)) (word_with_link view_fcx (link_in (area_word view (link_in view_fcx) 0)))
    unfolding v
    Twins-saved =
        let h = has_shared room in
        let pcxi2 = pcxi_word_of core ccpn ie upper (link_in fcx) in
        let fcx2 = word_with_link fcx (link_in (area_word mem (link_in fcx) 0)) in
        let first_word : get_or context 0 0 ≡ word_of u = is ∙ sym t.first in
        let word_lt : word_of u < 2 ^ 32 = subst (λ x. x < 2 ^ 32) (sym t.first) t.pcxi_word in
        let to = link_in-pcxi_word core ccpn ie upper (link_in fcx) (link_in-lt fcx) in
        let next = link_in-with_link fcx (link_in (area_word mem (link_in fcx) 0)) (link_in-lt _) in
        let rest = h.front ++ reserve_of plan in
        record {
          own = t.own;
          first = cond_same u u pcxi2 (word_of u) refl;
          links = saved_links mem n u fcx (link_in fcx) word_of chain_of rest (plan_areas plan) t.links h.links h.share (areas_once plan) t.own word_lt context pcxi2 fcx2 are.0 first_word to next;
          free = rest;
          free_links = saved_free mem n u fcx (link_in fcx) word_of chain_of rest (plan_areas plan) t.links h.links h.share (areas_once plan) t.own word_lt context pcxi2 fcx2 are.0 first_word to next;
          share = Share-saved n u chain_of (link_in fcx) rest (plan_areas plan) t.own h.share;
          front = h.front;
          reserved = refl;
          lcx_is = t.lcx_is;
          pcxi_word = pcxi_word-lt core ccpn ie upper (link_in fcx) (link_in-lt fcx) small;
          fcx_word = with_link-lt fcx (link_in (area_word mem (link_in fcx) 0)) t.fcx_word (link_in-lt _);
          same = subst (λ ls. SameContexts (with_words mem (link_address (link_in fcx)) context) pcxi2 ls (with_words view (link_address (link_in view_fcx)) context2) (pcxi_word_of core ccpn ie upper (link_in view_fcx)) (link_in view_fcx ∷ seen))
              (sym (cond_same u u (link_in fcx ∷ chain_of u) (chain_of u) refl)) same_saved;
          view_word = pcxi_word-lt core ccpn ie upper (link_in view_fcx) (link_in-lt view_fcx) small;
          view_links = used_after_save view view_pcxi (link_in view_fcx) seen context2 (pcxi_word_of core ccpn ie upper (link_in view_fcx)) t.view_links v.some v.area v.avoids_used are2.0 is2 t.view_word (link_in-pcxi_word core ccpn ie upper (link_in view_fcx) (link_in-lt view_fcx));
          view_free = v.rest;
          view_areas = Areas-saved view view_fcx lcx seen t.view_free v t.view_areas context2 are2.0;
        }

-- after a restore on both sides
module _ {plan : PlanData} (ok : IsPlan plan) {n u : ℕ} {word_of : ℕ → ℕ} {chain_of : ℕ → List ℕ} (l : ℕ) (used : List ℕ) (is : chain_of u ≡ l ∷ used) {k : ℕ} {seen : List ℕ} {mem : Memory} {pcxi fcx lcx : ℕ} {view : Memory} {view_pcxi view_fcx : ℕ}
    (bytes : HasOnlyBytes mem) (view_bytes : HasOnlyBytes view) (t : Twins plan n u word_of chain_of (k ∷ seen) mem pcxi fcx lcx view view_pcxi view_fcx) where
  pub same_before : SameContexts mem pcxi (l ∷ used) view view_pcxi (k ∷ seen)
  same_before = subst (λ ls. SameContexts mem pcxi ls view view_pcxi (k ∷ seen)) is t.same

  pub links_before : Links mem (word_of u) (l ∷ used)
  links_before = subst (Links mem (word_of u)) is (t.links u t.own)

  pub named : link_in pcxi ≡ l
  named = subst (λ w. link_in w ≡ l) t.first links_before.1

  small : l < 2 ^ 20
  small = subst (λ x. x < 2 ^ 20) named (link_in-lt pcxi)

  pub Twins-restored : Twins plan n u (with_chain_word word_of u (area_word mem l 0)) (with_chain chain_of u used) seen (with_words mem (link_address l) (fcx ∷ [])) (area_word mem l 0) (word_with_link fcx l) lcx
      (with_words view (link_address k) (view_fcx ∷ [])) (area_word view k 0) (word_with_link view_fcx k)
  Twins-restored =
      let to = link_in-with_link fcx l small in
      let freed = is_freed view view_fcx lcx k seen t.view_free t.view_areas in
      let rest = owned_avoids_rest n chain_of u l used t.free (plan_areas plan) t.share (areas_once plan) t.own is in
      record {
        own = t.own;
        first = cond_same u u (area_word mem l 0) (word_of u) refl;
        links = restored_links mem n u fcx l word_of chain_of used t.free (plan_areas plan) t.links t.free_links t.share (areas_once plan) t.own is t.fcx_word (word_with_link fcx l) to;
        free = l ∷ t.free;
        free_links = restored_free mem n u fcx l word_of chain_of used t.free (plan_areas plan) t.links t.free_links t.share (areas_once plan) t.own is t.fcx_word (word_with_link fcx l) to;
        share = Share-restored n u chain_of l used t.free (plan_areas plan) t.own is t.share;
        front = l ∷ t.front;
        reserved = ap (λ ls. l ∷ ls) t.reserved;
        lcx_is = t.lcx_is;
        pcxi_word = area_word-lt mem bytes l 0;
        fcx_word = with_link-lt fcx l t.fcx_word small;
        same = subst (λ ls. SameContexts (with_words mem (link_address l) (fcx ∷ [])) (area_word mem l 0) ls (with_words view (link_address k) (view_fcx ∷ [])) (area_word view k 0) seen)
            (sym (cond_same u u used (chain_of u) refl))
            (SameContexts-kept mem _ view _ (area_word mem l 0) (area_word view k 0) used seen (SameAreas-written mem l used (fcx ∷ []) (omega arith) rest)
            (SameAreas-written view k seen (view_fcx ∷ []) (omega arith) freed.avoids_used) same_before.2);
        view_word = area_word-lt view view_bytes k 0;
        view_links = used_after_restore view view_pcxi k seen view_fcx t.view_links freed.avoids_used;
        view_free = k ∷ t.view_free;
        view_areas = Areas-restored view view_pcxi view_fcx lcx k seen t.view_free t.view_links t.view_areas (subst (λ x. x < 2 ^ 20) t.view_links.1 (link_in-lt view_pcxi));
      }
