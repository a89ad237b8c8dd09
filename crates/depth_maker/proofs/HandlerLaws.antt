-- The handlers' frames that a point enters, by their numbers.
use Rattle.std.proofs.Common.{◌≡◌, ℕ, ◌+◌, ◌<◌, Bool, true, false, IsTrue, inl, inr, List, [], ◌∷◌, ◌++◌, length, get_or, take, refl, sym, ap, ◌∙◌, subst, arith, Contains}
use Rattle.std.specs.Prelude.{map, filter, nat_lt, if◌then◌else◌}
use Rattle.std.proofs.lemmas.Bool.{cases_Bool, lt-ltb, ltb-true}
use Rattle.std.proofs.lemmas.List.{append_assoc, map-append, take_more}
use Rattle.std.proofs.lemmas.List.Elements.{Contains-append_right, Contains-push_cases}
use Rattle.tcd_plan.specs.PlanData.{PlanData}
use Rattle.value_domain.specs.declared.states.State.{State}
use Rattle.depth_cert.specs.declared.keys.Key.{Key}
use Rattle.cfg_recover.specs.Duties.{interrupt_duties_of, entered_keys}
use Rattle.cfg_recover.specs.Entries.{possible_irqs_of, irq_key}
use Rattle.cfg_recover.proofs.Members.{contains_first, contains_map}
use Rattle.frame_places.specs.Numbers.{frame_number_in}
use Rattle.depth_maker.specs.InterruptHandlers.{AreHandlersOfIrqs, handler_nodes_above, handler_nodes_if_enabled}
use Rattle.depth_maker.specs.declared.interrupt_handlers.Handler.{Handler}
use Rattle.depth_maker.proofs.EnteredLemmas.{entered_irqs}
use Rattle.depth_maker.proofs.InterruptLaws.{takes}

-- ---- the list
pub handlers_none : (plan : PlanData) (frames : List Key) (hs : List Handler) → hs ≡ [] → AreHandlersOfIrqs plan frames [] hs
handlers_none plan frames hs none = record {
  priorities = ap (λ (l : List Handler). map (λ (h : Handler). h.prio) l) none;
  each = λ h c known. absurd (let n = ap (λ (l : List Handler). length l) none in omega (arith, c.1, n));
}

pub handlers_more : (plan : PlanData) (frames : List Key) (irqs : List ℕ) (i : ℕ) (hs new : List Handler) (h : Handler) → i < length irqs → new ≡ hs ++ h ∷ [] → h.prio ≡ get_or irqs i 0
    → (Contains frames (irq_key plan h.prio) → h.node ≡ frame_number_in frames (irq_key plan h.prio)) → AreHandlersOfIrqs plan frames (take i irqs) hs → AreHandlersOfIrqs plan frames (take (i + 1) irqs) new
handlers_more plan frames irqs i hs new h lt more prio node are = record {
  priorities =
      ap (map (λ (x : Handler). x.prio)) more ∙ map-append (λ (x : Handler). x.prio) hs (h ∷ []) ∙ ap (λ (l : List ℕ). l ++ h.prio ∷ []) are.priorities
      ∙ ap (λ (p : ℕ). take i irqs ++ p ∷ []) prio ∙ sym (take_more irqs i 0 lt);
  each = λ x c known.
      elim (Contains-push_cases hs h x (subst (λ (l : List Handler). Contains l x) more c)) [
        | inl old ↦ are.each x old known
        | inr e ↦ subst (λ (z : Handler). Contains frames (irq_key plan z.prio) → z.node ≡ frame_number_in frames (irq_key plan z.prio)) e node known
      ];
}

-- ---- what is added
nodes_one : (m : ℕ) (hs : List Handler) (h : Handler) → handler_nodes_above m (hs ++ h ∷ []) ≡ handler_nodes_above m hs ++ handler_nodes_above m (h ∷ [])
nodes_one m [] h = refl
nodes_one m (x ∷ xs) h =
    elim (cases_Bool (nat_lt m x.prio)) [
      | inl t ↦ rw t (ap (λ (l : List ℕ). x.node ∷ l) (nodes_one m xs h))
      | inr f ↦ rw f (nodes_one m xs h)
    ]

pub above_more : (m : ℕ) (from into new : List ℕ) (hs : List Handler) (i : ℕ) (d : Handler) → i < length hs → into ≡ from ++ handler_nodes_above m (take i hs) → new ≡ into ++ handler_nodes_above m (get_or hs i d ∷ [])
    → new ≡ from ++ handler_nodes_above m (take (i + 1) hs)
above_more m from into new hs i d lt so more =
    more ∙ ap (λ (l : List ℕ). l ++ handler_nodes_above m (get_or hs i d ∷ [])) so ∙ append_assoc from (handler_nodes_above m (take i hs)) (handler_nodes_above m (get_or hs i d ∷ []))
    ∙ ap (λ (l : List ℕ). from ++ l) (sym (nodes_one m (take i hs) (get_or hs i d)) ∙ ap (handler_nodes_above m) (sym (take_more hs i d lt)))

pub above_one : (m : ℕ) (from new : List ℕ) (h : Handler) → m < h.prio → new ≡ from ++ h.node ∷ [] → new ≡ from ++ handler_nodes_above m (h ∷ [])
above_one m from new h lt more =
    let one : handler_nodes_above m (h ∷ []) ≡ h.node ∷ [] = rw (lt-ltb m h.prio lt) refl in
    more ∙ ap (λ (l : List ℕ). from ++ l) (sym one)

-- ---- what it is
numbers_above : (m : ℕ) (number : ℕ → ℕ) (hs : List Handler) → ((h : Handler) → Contains hs h → nat_lt m h.prio ≡ true → h.node ≡ number h.prio)
    → handler_nodes_above m hs ≡ map number (filter (λ p. nat_lt m p) (map (λ (h : Handler). h.prio) hs))
numbers_above m number [] agree = refl
numbers_above m number (h ∷ hs) agree =
    let rest = numbers_above m number hs (λ x c lt. agree x (Contains-append_right (h ∷ []) hs x c) lt) in
    elim (cases_Bool (nat_lt m h.prio)) [
      | inl t ↦ rw t (ap (λ (n : ℕ). n ∷ handler_nodes_above m hs) (agree h (contains_first h hs) t) ∙ ap (λ (l : List ℕ). number h.prio ∷ l) rest)
      | inr f ↦ rw f rest
    ]

mapped_twice : (f : Key → ℕ) (g : ℕ → Key) (ps : List ℕ) → map (λ p. f (g p)) ps ≡ map f (map g ps)
mapped_twice f g [] = refl
mapped_twice f g (p ∷ ps) = ap (λ (l : List ℕ). f (g p) ∷ l) (mapped_twice f g ps)

taken_by : (on : Bool) (m : ℕ) (number : ℕ → ℕ) (hs : List Handler) (irqs : List ℕ) → map (λ (h : Handler). h.prio) hs ≡ irqs → ((h : Handler) → Contains hs h → IsTrue on → nat_lt m h.prio ≡ true → h.node ≡ number h.prio)
    → (if on then handler_nodes_above m hs else []) ≡ map number (if on then filter (λ p. nat_lt m p) irqs else [])
taken_by true m number hs irqs is agree = numbers_above m number hs (λ h c lt. agree h c refl lt) ∙ ap (λ (l : List ℕ). map number (filter (λ p. nat_lt m p) l)) is
taken_by false m number hs irqs is agree = refl

pub nodes_taken-is : (plan : PlanData) (frames : List Key) (key : Key) (s : State) (hs : List Handler) → AreHandlersOfIrqs plan frames plan.irqs hs → ((k : Key) → Contains (entered_keys (interrupt_duties_of plan key s)) k → Contains frames k)
    → handler_nodes_if_enabled s.ie s.ccpn hs ≡ map (frame_number_in frames) (entered_keys (interrupt_duties_of plan key s))
nodes_taken-is plan frames key s hs are known =
    let keys = entered_irqs plan key s (possible_irqs_of plan s) in
    let member : (h : Handler) → Contains hs h → IsTrue s.ie → nat_lt s.ccpn h.prio ≡ true → Contains frames (irq_key plan h.prio) =
    λ h c on lt.
    known (irq_key plan h.prio)
    (subst (λ (l : List Key). Contains l (irq_key plan h.prio)) (sym keys)
    (contains_map (irq_key plan) (possible_irqs_of plan s) h.prio
    (takes s.ie s.ccpn plan.irqs h.prio on (subst (λ (l : List ℕ). Contains l h.prio) are.priorities (contains_map (λ (x : Handler). x.prio) hs h c)) (ltb-true s.ccpn h.prio lt)))) in
    taken_by s.ie s.ccpn (λ p. frame_number_in frames (irq_key plan p)) hs plan.irqs are.priorities (λ h c on lt. are.each h c (member h c on lt))
    ∙ mapped_twice (frame_number_in frames) (irq_key plan) (possible_irqs_of plan s)
    ∙ ap (map (frame_number_in frames)) (sym keys)
