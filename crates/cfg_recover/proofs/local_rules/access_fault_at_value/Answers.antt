use Rattle.std.proofs.Common.{refl, inl, inr}
use Rattle.cfg_recover.proofs.LocalLaws.{StoresInRange-at, MayAccess-at, ruled_out}
use Rattle.cfg_recover.proofs.local_rules.access_fault_at_value.Goals as goal

pub returns-then-not-stores_in_range_at_value : goal.returns-then-not-stores_in_range_at_value
returns-then-not-stores_in_range_at_value c =
    inl (refl, ruled_out c.stores_in_range_at_value.result (StoresInRange-at c.args.b.now c.args.plan.now c.args.s.now c.args.shape c.write_address_by_shape.new.out c.stores_in_range_at_value.result c.write_address_by_shape.ensures.address c.stores_in_range_at_value.ensures) c.if-not-stores_in_range_at_value.true)

pub returns-then-not-is_access_allowed_at_value : goal.returns-then-not-is_access_allowed_at_value
returns-then-not-is_access_allowed_at_value c =
    inr (
      refl,
      (StoresInRange-at c.args.b.now c.args.plan.now c.args.s.now c.args.shape c.write_address_by_shape.new.out c.stores_in_range_at_value.result c.write_address_by_shape.ensures.address c.stores_in_range_at_value.ensures).0 c.if-not-stores_in_range_at_value.false,
      ruled_out c.is_access_allowed_at_value.result (MayAccess-at c.args.b.now c.args.plan.now c.args.s.now c.args.shape c.write_address_by_shape.new.out c.is_access_allowed_at_value.result c.write_address_by_shape.ensures.address c.is_access_allowed_at_value.ensures) c.if-not-is_access_allowed_at_value.true,
    )

pub returns : goal.returns
returns c = (
  (StoresInRange-at c.args.b.now c.args.plan.now c.args.s.now c.args.shape c.write_address_by_shape.new.out c.stores_in_range_at_value.result c.write_address_by_shape.ensures.address c.stores_in_range_at_value.ensures).0 c.if-not-stores_in_range_at_value.false,
  (MayAccess-at c.args.b.now c.args.plan.now c.args.s.now c.args.shape c.write_address_by_shape.new.out c.is_access_allowed_at_value.result c.write_address_by_shape.ensures.address c.is_access_allowed_at_value.ensures).0 c.if-not-is_access_allowed_at_value.false,
)
