-- If the certificate of a view has no BISR at priority 0, each state of a run that has priority 0
-- and isn't on the interrupt stack has the start's CCPN.
use Rattle.std.proofs.Common.{◌≡◌, ◌≢◌, ℕ, ◌^◌, ◌<◌, ◌⊎◌, inl, inr, Bool, true, false, List, [], ◌∷◌, length, get_or, refl, sym, ◌∙◌, subst, arith}
use Rattle.csa_chain.specs.MemoryBytes.{Memory, with_words}
use Rattle.csa_chain.specs.Chain.{link_address, is_area_mapped, area_word}
use Rattle.csa_chain.specs.ContextWords.{ul_of, pcpn_of, pcxi_word_of}
use Rattle.csa_chain.proofs.ChainLaws.{SameAreas, Avoids, area_word_same, SameAreas-written, area_word-written}
use Rattle.csa_chain.proofs.ContextLaws.{ul_of-pcxi_word, pcpn_of-pcxi_word}
use Rattle.tcd_base.specs.declared.core_version.Core.{Core}
use Rattle.depth_cert.specs.declared.keys.Key.{Key}

pub areas_same : (mem : Memory) (ls : List ℕ) → SameAreas mem mem ls
areas_same mem [] = tt
areas_same mem (l ∷ ls) = (record { bytes = λ i lt. refl }, areas_same mem ls)

-- priority 0, and not on the interrupt stack
abbrev pub IsBase : Key → Type 0
IsBase key = (key.prio ≡ 0) × (key.is ≡ false)

-- The level after a frame ends: a handler restores the level of the frame below from its PCXI; a
-- called function has the level of the frame below and doesn't change it.
pub record GivesBack (level pcpn : ℕ) (key below : Key) : Type 0 where
  pub handler : key.kind ≢ 1 → IsBase below → pcpn ≡ level
  pub call : key.kind ≡ 1 → IsBase below → IsBase key

-- an area of an upper context ends the newest of these frames
abbrev pub EndsFrame : ℕ → ℕ → Bool → List Key → Type 0
EndsFrame level pcpn true (key ∷ below ∷ keys) = GivesBack level pcpn key below
EndsFrame level pcpn true _ = ⊥
EndsFrame level pcpn false _ = Unit {0}

abbrev pub frames_under : Bool → List Key → List Key
frames_under true (key ∷ keys) = keys
frames_under true [] = []
frames_under false keys = keys

-- along a chain of areas in use, the frames that their upper contexts end
abbrev pub Levels : Core → ℕ → Memory → ℕ → List ℕ → List Key → Type 0
Levels core level mem word [] keys = Unit {0}
Levels core level mem word (l ∷ ls) keys =
    EndsFrame level (pcpn_of core word) (ul_of core word) keys × Levels core level mem (area_word mem l 0) ls (frames_under (ul_of core word) keys)

-- the running frame's level
abbrev pub AtLevel : ℕ → ℕ → List Key → Type 0
AtLevel level ccpn [] = Unit {0}
AtLevel level ccpn (key ∷ keys) = IsBase key → ccpn ≡ level

pub Levels-same : (core : Core) (level : ℕ) (m n : Memory) (word : ℕ) (ls : List ℕ) (keys : List Key) → SameAreas m n ls → Levels core level m word ls keys → Levels core level n word ls keys
Levels-same core level m n word [] keys same h = tt
Levels-same core level m n word (l ∷ ls) keys same h =
    (h.0, rw (area_word_same same.0 0 (omega arith)) (Levels-same core level m n (area_word m l 0) ls (frames_under (ul_of core word) keys) same.1 h.1))

-- by the kind of the newest context
Levels-at : (core : Core) (level : ℕ) (mem : Memory) (word l : ℕ) (ls : List ℕ) (keys : List Key) (b : Bool) → ul_of core word ≡ b → Levels core level mem word (l ∷ ls) keys
    → EndsFrame level (pcpn_of core word) b keys × Levels core level mem (area_word mem l 0) ls (frames_under b keys)
Levels-at core level mem word l ls keys b is h = subst (λ b. EndsFrame level (pcpn_of core word) b keys × Levels core level mem (area_word mem l 0) ls (frames_under b keys)) is h

Levels-from : (core : Core) (level : ℕ) (mem : Memory) (word l : ℕ) (ls : List ℕ) (keys : List Key) (b : Bool) → ul_of core word ≡ b → EndsFrame level (pcpn_of core word) b keys
    → Levels core level mem (area_word mem l 0) ls (frames_under b keys) → Levels core level mem word (l ∷ ls) keys
Levels-from core level mem word l ls keys b is e h = subst (λ b. EndsFrame level (pcpn_of core word) b keys × Levels core level mem (area_word mem l 0) ls (frames_under b keys)) (sym is) (e, h)

-- ---- saves
module _ (core : Core) (level : ℕ) (mem : Memory) (pcxi k : ℕ) (used : List ℕ) (context : List ℕ) (long : length context ≡ 16) (first : get_or context 0 0 ≡ pcxi) (word : pcxi < 2 ^ 32) (here : is_area_mapped mem k ≡ true) (apart : Avoids k used)
    (small : k < 2 ^ 20) (ccpn : ℕ) (ccpn_lt : ccpn < 2 ^ 8) (ie : Bool) where
  saved_first : area_word (with_words mem (link_address k) context) k 0 ≡ pcxi
  saved_first = area_word-written mem k context 0 (omega arith) here (omega arith) (subst (λ x. x < 2 ^ 32) (sym first) word) ∙ first

  rest : (keys : List Key) → Levels core level mem pcxi used keys → Levels core level (with_words mem (link_address k) context) (area_word (with_words mem (link_address k) context) k 0) used keys
  rest keys h = rw saved_first (Levels-same core level mem (with_words mem (link_address k) context) pcxi used keys (SameAreas-written mem k used context (omega arith) apart) h)

  -- a lower context
  pub Levels-lower : (keys : List Key) → Levels core level mem pcxi used keys → Levels core level (with_words mem (link_address k) context) (pcxi_word_of core ccpn ie false k) (k ∷ used) keys
  Levels-lower keys h = Levels-from core level (with_words mem (link_address k) context) (pcxi_word_of core ccpn ie false k) k used keys false (ul_of-pcxi_word core ccpn ie false k small) tt (rest keys h)

  -- an upper context, with which a frame begins
  pub Levels-upper : (new key : Key) (keys : List Key) → (new.kind ≡ 1 → IsBase key → IsBase new) → AtLevel level ccpn (key ∷ keys) → Levels core level mem pcxi used (key ∷ keys)
      → Levels core level (with_words mem (link_address k) context) (pcxi_word_of core ccpn ie true k) (k ∷ used) (new ∷ key ∷ keys)
  Levels-upper new key keys called at h =
      Levels-from core level (with_words mem (link_address k) context) (pcxi_word_of core ccpn ie true k) k used (new ∷ key ∷ keys) true (ul_of-pcxi_word core ccpn ie true k small)
      (record { handler = λ ne base. pcpn_of-pcxi_word core ccpn ie true k small ccpn_lt ∙ at base; call = called })
      (rest (key ∷ keys) h)

-- ---- restores
module _ (core : Core) (level : ℕ) (mem : Memory) (pcxi l : ℕ) (used : List ℕ) (fcx : ℕ) (apart : Avoids l used) where
  kept : (word : ℕ) (keys : List Key) → Levels core level mem word used keys → Levels core level (with_words mem (link_address l) (fcx ∷ [])) word used keys
  kept word keys h = Levels-same core level mem (with_words mem (link_address l) (fcx ∷ [])) word used keys (SameAreas-written mem l used (fcx ∷ []) (omega arith) apart) h

  pub Levels-lower_back : (keys : List Key) → ul_of core pcxi ≡ false → Levels core level mem pcxi (l ∷ used) keys → Levels core level (with_words mem (link_address l) (fcx ∷ [])) (area_word mem l 0) used keys
  Levels-lower_back keys ul h = kept (area_word mem l 0) keys (Levels-at core level mem pcxi l used keys false ul h).1

  -- a return from a call doesn't change CCPN, and a return from a handler sets it from PCXI: the
  -- frame below is at its level
  pub Levels-upper_back : (key : Key) (keys : List Key) → ul_of core pcxi ≡ true → Levels core level mem pcxi (l ∷ used) (key ∷ keys) → (ccpn ccpn2 : ℕ) → AtLevel level ccpn (key ∷ keys) → (key.kind ≡ 1 → ccpn2 ≡ ccpn)
      → (key.kind ≢ 1 → ccpn2 ≡ pcpn_of core pcxi) → (key.kind ≡ 1) ⊎ (key.kind ≢ 1) → AtLevel level ccpn2 keys × Levels core level (with_words mem (link_address l) (fcx ∷ [])) (area_word mem l 0) used keys
  Levels-upper_back key [] ul h ccpn ccpn2 at returned left kinds = (tt, kept (area_word mem l 0) [] (Levels-at core level mem pcxi l used (key ∷ []) true ul h).1)
  Levels-upper_back key (below ∷ keys) ul h ccpn ccpn2 at returned left kinds =
      let split = Levels-at core level mem pcxi l used (key ∷ below ∷ keys) true ul h in
      let gives = split.0 in (
        λ base. elim kinds [ inl is ↦ returned is ∙ at (gives.call is base) | inr isnt ↦ left isnt ∙ gives.handler isnt base ],
        kept (area_word mem l 0) (below ∷ keys) split.1,
      )
