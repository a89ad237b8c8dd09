-- Why no certificate can be made: faults of derived assignments, the least assignment and its
-- needs.
use Rattle.std.specs.Prelude.{◌≡◌, ◌≤◌, ◌<◌, ◌+◌, ◌-◌, ◌*◌, ◌^◌, ◌⊎◌, ℕ, List, length, Some, None, IsSome, Contains}
use Rattle.std.specs.List.{IsDistinct}
use Rattle.elf_image.specs.Images.{ImageData}
use Rattle.tcd_plan.specs.PlanData.{PlanData}
use Rattle.value_domain.specs.declared.states.State.{State}
use Rattle.value_domain.specs.Limits.{Limits}
use Rattle.value_domain.specs.State.{state_join_if_any}
use Rattle.value_domain.specs.VersionLimits.{limits_for}
use Rattle.depth_cert.specs.declared.keys.Key.{Key}
use Rattle.depth_cert.specs.Keys.{number_of_key, is_same_key}
use Rattle.cfg_recover.specs.Entries.{start_key}
use Rattle.cfg_recover.specs.LocalFaults.{IsLocalFault}
use Rattle.cfg_recover.specs.Assignments.{Place, point, exit, Assignment, is_same_place, AsksFor, Joins, Derived, Closed, EntersInAssignment}
use Rattle.depth_cert.specs.Known.{state}

-- ---- limits
-- the assignment has places of more than 2,048 frames, a limit past which a certificate is refused
pub record HasTooManyNodes (a : Assignment) : Type 0 where
  pub keys : List Key
  pub distinct : IsDistinct is_same_key keys
  pub stand : (k : Key) → Contains keys k → (y : Place) × IsSome (a y) × ((y ≡ exit k) ⊎ ((p : ℕ) × (y ≡ point k p)))
  pub more : 2048 < length keys

-- a reason to refuse a certificate: the assignment knows more than 65,536 points, which is past the
-- limit
pub record HasTooManyPoints (a : Assignment) : Type 0 where
  pub places : List Place
  pub distinct : IsDistinct is_same_place places
  pub stand : (y : Place) → Contains places y → IsSome (a y) × ((k : Key) × (p : ℕ) × (y ≡ point k p))
  pub more : 2 ^ 16 < length places

-- a limit is passed
abbrev pub IsPastCertLimits : Assignment → Type 0
IsPastCertLimits a = HasTooManyNodes a ⊎ HasTooManyPoints a

-- why no certificate can be made: one step of a derivation takes an assignment past a limit of
-- certificates, by the point that it adds
pub record ExceedsCertLimit (b : Limits) (image : ImageData) (plan : PlanData) (k : Key) (p : ℕ) : Type 0 where
  pub before : Assignment
  pub after : Assignment
  pub derived : Derived b image plan before
  pub within : IsPastCertLimits before → ⊥
  pub joins : Joins b image plan before after (point k p)
  pub adds : before (point k p) ≡ None
  pub more : IsPastCertLimits after

-- ---- faults
-- The rule's own part fails at a point, or states with different numbers of locals meet there.
pub data IsFaultInAssignment (b : Limits) (image : ImageData) (plan : PlanData) (a : Assignment) : ℕ → Key → ℕ → Type 0 where
  own : (r : ℕ) (k : Key) (p : ℕ) (s : State) → a (point k p) ≡ Some (state s) → IsLocalFault b image plan k p s r → IsFaultInAssignment b image plan a r k p
  locals :
      (k : Key) (p : ℕ) (s t : State) → a (point k p) ≡ Some (state s) → AsksFor b image plan a (point k p) (state t) → state_join_if_any b s t ≡ None
      → IsFaultInAssignment b image plan a 8 k p

-- a fault of a derived assignment; number 15 is for the limits
pub data IsRefusalFault (b : Limits) (image : ImageData) (plan : PlanData) : ℕ → Key → ℕ → Type 0 where
  derived : (a : Assignment) (r : ℕ) (k : Key) (p : ℕ) → Derived b image plan a → IsFaultInAssignment b image plan a r k p → IsRefusalFault b image plan r k p
  limits : (k : Key) (p : ℕ) → ExceedsCertLimit b image plan k p → IsRefusalFault b image plan 15 k p

-- a certificate isn't refused by a fault: this is the least assignment, derived and closed, and
-- only recursion or too great a need can still be a reason to refuse
pub record IsLeastAssignment (b : Limits) (image : ImageData) (plan : PlanData) (a : Assignment) : Type 0 where
  pub derived : Derived b image plan a
  pub closed : Closed b image plan a
  pub faultless : (r : ℕ) (k : Key) (p : ℕ) → IsRefusalFault b image plan r k p → ⊥

-- ---- needs

-- numbers of areas suffice as needs: at each point for the locals, and at each entry also for one
-- more and the entered frame's need
pub record AreSufficientNeeds (b : Limits) (image : ImageData) (plan : PlanData) (a : Assignment) (need : Key → ℕ) : Type 0 where
  pub locals : (k : Key) (p : ℕ) (s : State) → a (point k p) ≡ Some (state s) → length s.locals.items ≤ need k
  pub entered : (k : Key) (p : ℕ) (s : State) (t : Key) → EntersInAssignment b image plan a k p s t → length s.locals.items + 1 + need t ≤ need k

-- the frame j is reached from the frame k by entries that the assignment's points owe, none or more
pub data IsFrameReachedFrom (b : Limits) (image : ImageData) (plan : PlanData) (a : Assignment) (j : Key) : Key → Type 0 where
  here : IsFrameReachedFrom b image plan a j j
  by_entry : (k : Key) (p : ℕ) (s : State) (t : Key) → EntersInAssignment b image plan a k p s t → IsFrameReachedFrom b image plan a j t → IsFrameReachedFrom b image plan a j k

-- a reason to refuse a certificate: in the assignment, the point p of frame k enters a frame from
-- which k is reached again
pub record EntersRecursion (b : Limits) (image : ImageData) (plan : PlanData) (a : Assignment) (k : Key) (p : ℕ) : Type 0 where
  pub before : State
  pub into : Key
  pub enters : EntersInAssignment b image plan a k p before into
  pub back : IsFrameReachedFrom b image plan a k into

-- the number of a point, by which refusals order points: by key, then address
abbrev pub point_order_number : Key → ℕ → ℕ
point_order_number k p = number_of_key k * 2 ^ 32 + p

-- a reason to refuse a certificate, by K14: this is the first point that enters a frame from which
-- its own is reached again
pub record IsRefusedRecursion (b : Limits) (image : ImageData) (plan : PlanData) (a : Assignment) (k : Key) (p : ℕ) : Type 0 where
  pub recurs : EntersRecursion b image plan a k p
  pub first : (j : Key) (q : ℕ) → EntersRecursion b image plan a j q → point_order_number k p ≤ point_order_number j q

-- ---- the refusal
-- No frame is reached from itself. Whatever numbers meet the needs, the start's is above the areas
-- without the reserve.
pub record IsRefusedNeed (b : Limits) (image : ImageData) (plan : PlanData) (a : Assignment) : Type 0 where
  pub ends : (k : Key) (p : ℕ) → EntersRecursion b image plan a k p → ⊥
  pub above : (need : Key → ℕ) → AreSufficientNeeds b image plan a need → plan.areas - plan.reserve < need (start_key image plan)

-- with these limits, a certificate is refused: by a fault of a derived assignment or, if there is
-- none, by K14 at the least one's first recursion, or at the start if its need is too great
pub data IsRefusalWithLimits (b : Limits) (image : ImageData) (plan : PlanData) : ℕ → Key → ℕ → Type 0 where
  fault : (r : ℕ) (k : Key) (p : ℕ) → IsRefusalFault b image plan r k p → IsRefusalWithLimits b image plan r k p
  recursion : (a : Assignment) (k : Key) (p : ℕ) → IsLeastAssignment b image plan a → IsRefusedRecursion b image plan a k p → IsRefusalWithLimits b image plan 14 k p
  need : (a : Assignment) → IsLeastAssignment b image plan a → IsRefusedNeed b image plan a → IsRefusalWithLimits b image plan 14 (start_key image plan) image.entry

-- a refusal to make a certificate of this format
abbrev pub IsRefusal : ImageData → PlanData → ℕ → ℕ → Key → ℕ → Type 0
IsRefusal image plan version = IsRefusalWithLimits (limits_for plan version) image plan

-- The printed rule and place, one of five:
-- - The rule's own part fails at this very point, for a state that was derived for it.
-- - Two states with unequal numbers of locals meet at this point (K8).
-- - This point passes a limit (15).
-- - This is the first point, in the least assignment, that enters a frame from which its own frame
--   is reached again (14).
-- - This is the start. No frame is reached from itself. Whatever numbers of areas meet the needs,
--   the start frame's is above the plan's areas without the reserve (14).
pub data HasRefusalReason (b : Limits) (image : ImageData) (plan : PlanData) (r : ℕ) (k : Key) (p : ℕ) : Type 0 where
  by_rule :
      (a : Assignment) (s : State) → Derived b image plan a → a (point k p) ≡ Some (state s) → IsLocalFault b image plan k p s r
      → HasRefusalReason b image plan r k p
  by_locals :
      (a : Assignment) (s t : State) → r ≡ 8 → Derived b image plan a → a (point k p) ≡ Some (state s) → AsksFor b image plan a (point k p) (state t)
      → state_join_if_any b s t ≡ None → HasRefusalReason b image plan r k p
  by_limits :
      (before after : Assignment) → r ≡ 15 → Derived b image plan before → (IsPastCertLimits before → ⊥) → before (point k p) ≡ None
      → Joins b image plan before after (point k p) → IsPastCertLimits after → HasRefusalReason b image plan r k p
  by_recursion :
      (a : Assignment) (s : State) (into : Key) → r ≡ 14 → IsLeastAssignment b image plan a → EntersInAssignment b image plan a k p s into → IsFrameReachedFrom b image plan a k into
      → ((j : Key) (q : ℕ) → EntersRecursion b image plan a j q → point_order_number k p ≤ point_order_number j q) → HasRefusalReason b image plan r k p
  by_need :
      (a : Assignment) → r ≡ 14 → k ≡ start_key image plan → p ≡ image.entry → IsLeastAssignment b image plan a
      → ((j : Key) (q : ℕ) → EntersRecursion b image plan a j q → ⊥)
      → ((need : Key → ℕ) → AreSufficientNeeds b image plan a need → plan.areas - plan.reserve < need (start_key image plan))
      → HasRefusalReason b image plan r k p
