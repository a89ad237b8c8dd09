-- A point that is checked, as plain data.
use Rattle.elf_image.specs.Images.{ImageData}
use Rattle.tcd_plan.specs.PlanData.{PlanData}
use Rattle.value_domain.specs.Limits.{Limits}
use Rattle.depth_cert.specs.declared.points.Point.{Point}
use Rattle.depth_cert.specs.Nodes.{NodeData}
use Rattle.depth_cert.specs.Certs.{CertData}

-- a point that is checked, as plain data: the limits, image, plan and certificate, its node, and
-- the point
pub record PointCheckData : Type 0 where
  pub bounds : Limits
  pub image : ImageData
  pub plan : PlanData
  pub cert : CertData
  pub node : NodeData
  pub point : Point
