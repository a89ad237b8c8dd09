-- Entries of frames that are known to be covered.
use Rattle.std.specs.Prelude.{◌≡◌, ℕ, List, Contains}
use Rattle.tcd_plan.specs.PlanData.{PlanData}
use Rattle.value_domain.specs.Limits.{Limits}
use Rattle.depth_cert.specs.declared.keys.Key.{Key}
use Rattle.depth_cert.specs.Known.{Known}
use Rattle.depth_cert.specs.WellFormed.{IsWellFormedKnown}
use Rattle.cfg_recover.specs.Assignments.{Assignment, AssignmentCovers, point}
use Rattle.depth_maker.specs.InterruptHandlers.{AreContextsCovered}
use Rattle.depth_maker.specs.declared.covered.CoveredEntries.{CoveredEntries}
use Rattle.depth_maker.specs.declared.last_call.LastCall.{LastCall}
use Rattle.depth_cert.specs.Keys.{call_kind}

-- the key of the frame of the function at this address, as a cached call enters it
abbrev pub called_key : LastCall → ℕ → Key
called_key h t = record { kind = call_kind; entry = t; prio = h.prio; is = h.is }

-- the entry points of the functions of this cached call cover the state with which they are called
pub record AreCallsCovered (b : Limits) (a : Assignment) (h : LastCall) : Type 0 where
  pub well_formed : IsWellFormedKnown b h.entry
  pub each : (t : ℕ) → Contains h.targets.items t → AssignmentCovers a (point (called_key h t) t) h.entry

-- a call of these functions, from a frame of this key's priority and stack, with this entry state
pub record IsCallOf (h : LastCall) (k : Key) (ts : List ℕ) (v : Known) : Type 0 where
  pub targets : h.targets.items ≡ ts
  pub prio : h.prio ≡ k.prio
  pub is : h.is ≡ k.is
  pub entry : h.entry ≡ v

-- the entries of the functions of the last calls are covered
abbrev pub AreLastCallsCovered : Limits → Assignment → List LastCall → Type 0
AreLastCallsCovered b a calls = (h : LastCall) → Contains calls h → AreCallsCovered b a h

-- the entries that the maker's table caches as covered are so: those of the last interrupt contexts
-- and of the last calls
abbrev pub AreCachedEntriesCovered : Limits → PlanData → Assignment → CoveredEntries → Type 0
AreCachedEntriesCovered b plan a covered = AreContextsCovered b plan a covered.interrupts × AreLastCallsCovered b a covered.calls.items
