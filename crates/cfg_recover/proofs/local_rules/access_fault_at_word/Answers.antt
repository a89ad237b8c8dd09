use Rattle.std.proofs.Common.{refl, sym, inl, inr}
use Rattle.value_domain.specs.Values.{word_val}
use Rattle.cfg_recover.proofs.LocalLaws.{StoresInRange-at, MayAccess-at, ruled_out}
use Rattle.cfg_recover.proofs.local_rules.access_fault_at_word.Goals as goal

pub returns-then-not-stores_in_range_at_word : goal.returns-then-not-stores_in_range_at_word
returns-then-not-stores_in_range_at_word c b s e =
    inl (refl, ruled_out c.stores_in_range_at_word.result (StoresInRange-at b c.args.plan.now s c.args.shape (word_val c.args.x) c.stores_in_range_at_word.result (sym e) c.stores_in_range_at_word.ensures) c.if-not-stores_in_range_at_word.true)

pub returns-then-not-is_access_allowed_at_word : goal.returns-then-not-is_access_allowed_at_word
returns-then-not-is_access_allowed_at_word c b s e =
    inr (
      refl,
      (StoresInRange-at b c.args.plan.now s c.args.shape (word_val c.args.x) c.stores_in_range_at_word.result (sym e) c.stores_in_range_at_word.ensures).0 c.if-not-stores_in_range_at_word.false,
      ruled_out c.is_access_allowed_at_word.result (MayAccess-at b c.args.plan.now s c.args.shape (word_val c.args.x) c.is_access_allowed_at_word.result (sym e) c.is_access_allowed_at_word.ensures) c.if-not-is_access_allowed_at_word.true,
    )

pub returns : goal.returns
returns c b s e = (
  (StoresInRange-at b c.args.plan.now s c.args.shape (word_val c.args.x) c.stores_in_range_at_word.result (sym e) c.stores_in_range_at_word.ensures).0 c.if-not-stores_in_range_at_word.false,
  (MayAccess-at b c.args.plan.now s c.args.shape (word_val c.args.x) c.is_access_allowed_at_word.result (sym e) c.is_access_allowed_at_word.ensures).0 c.if-not-is_access_allowed_at_word.false,
)
