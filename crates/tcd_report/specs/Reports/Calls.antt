-- The calls between the nodes of a certificate, and the longest call chains.
use Rattle.std.specs.Prelude.{◌==◌, ℕ, zero, suc, List, Contains, if◌then◌else◌, []}
use Rattle.std.specs.List.{flat_map}
use Rattle.elf_image.specs.Images.{ImageData}
use Rattle.tcd_plan.specs.PlanData.{PlanData}
use Rattle.tc_isa.specs.declared.shapes.Shape.{Shape}
use Rattle.depth_cert.specs.declared.keys.Key.{Key}
use Rattle.depth_cert.specs.declared.points.Point.{Point}
use Rattle.depth_cert.specs.Nodes.{NodeData}
use Rattle.depth_cert.specs.Certs.{CertData}
use Rattle.cfg_recover.specs.Code.{IsCode}
use Rattle.cfg_recover.specs.Duties.{Owed, duties_of, keys_entered_by_duty}
use Rattle.cfg_recover.specs.RulesHoldOrFail.{limits_of_cert}
use Rattle.tcd_report.specs.Graphs.{call_rule}

-- the keys of the functions that an instruction calls: K5 asks for their entries
abbrev pub called_keys_of : List Owed → List Key
called_keys_of ds = flat_map (λ d. if d.rule == call_rule then keys_entered_by_duty d.duty else []) ds

-- the instruction at a point calls the function with this key
pub record CallsAt (image : ImageData) (plan : PlanData) (cert : CertData) (caller : Key) (point : Point) (key : Key) : Type 0 where
  pub shape : Shape
  pub size : ℕ
  pub code : IsCode image plan point.addr shape size
  pub called : Contains (called_keys_of (duties_of (limits_of_cert plan cert) image plan caller point.addr point.state shape size)) key

-- the instruction at some point of a node calls the function with this key
pub record NodeCalls (image : ImageData) (plan : PlanData) (cert : CertData) (caller : NodeData) (key : Key) : Type 0 where
  pub point : Point
  pub stands : Contains caller.points point
  pub at : CallsAt image plan cert caller.key point key

-- a call chain of this length begins in a node
abbrev pub HasCallChain : ImageData → PlanData → CertData → NodeData → ℕ → Type 0
HasCallChain image plan cert node zero = Unit {0}
HasCallChain image plan cert node (suc n) =
    (callee : NodeData) × (Contains cert.nodes callee × (NodeCalls image plan cert node callee.key × HasCallChain image plan cert callee n))
