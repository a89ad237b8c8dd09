use Rattle.std.proofs.Common.{◌≡◌, ◌∙◌, ℕ, ◌<◌, true, false, Some, None, subst, sym}
use Rattle.depth_maker.specs.Recursing.{EntersMarkedFrame, IsFirstRecursiveAddress}
use Rattle.depth_maker.proofs.RecursSteps.{first_other, first_past, first_not, first_here}
use Rattle.depth_maker.proofs.recursion.lesser_recursive_address.Goals as goal
use Rattle.depth_maker.proofs.recursion.lesser_recursive_address.Goals.{in-Some-first+else-other-addr, in_default-first}

pub returns-in_default : goal.returns-in_default
returns-in_default c ys h = first_other c.args.source.now c.args.marks.now c.args.key ys c.args.place c.args.first h (λ p same m. c.in_default.ensures p same)

pub returns-then-other-addr : goal.returns-then-other-addr
returns-then-other-addr c ys h =
    first_past c.args.source.now c.args.marks.now c.args.key ys c.args.place c.in-Some-first.other c.in-Some.addr c.in-Some.ensures
    (subst (IsFirstRecursiveAddress c.args.source.now c.args.marks.now c.args.key ys) c.in-Some-first.is h) c.if-other-addr.true

pub returns-then-branch : goal.returns-then-branch
returns-then-branch c ys h =
    let here = first_here c.args.source.now c.args.marks.now c.args.key ys c.args.place c.in-Some.addr in
    let enters : EntersMarkedFrame c.args.source.now c.args.marks.now c.args.key c.in-Some.addr = c.in_ok-enters_marked_frame.ensures.0 c.if-branch.true in
    elim c.match-first.branch [
      | in-Some-first+else-other-addr w ↦
          here (Some w.in-Some-first.other) c.in-Some.ensures (subst (IsFirstRecursiveAddress c.args.source.now c.args.marks.now c.args.key ys) w.in-Some-first.is h)
          (λ p e. let f : w.in-Some-first.other ≡ p = cc in subst (λ (n : ℕ). c.in-Some.addr < n) f w.if-other-addr.false) enters
      | in_default-first w ↦
          here None c.in-Some.ensures (subst (IsFirstRecursiveAddress c.args.source.now c.args.marks.now c.args.key ys) w.in_default-first.is h)
          (λ p e. absurd (let f : None ≡ Some p = e in cc)) enters
    ]

pub returns-else-branch : goal.returns-else-branch
returns-else-branch c ys h =
    let same : c.match-first.first ≡ c.args.first = elim c.match-first.branch [
      | in-Some-first+else-other-addr w ↦ w.first-is ∙ sym w.in-Some-first.is
      | in_default-first w ↦ w.first-is
    ] in
    first_not c.args.source.now c.args.marks.now c.args.key ys c.args.place c.in-Some.addr c.match-first.first c.in-Some.ensures
    (subst (IsFirstRecursiveAddress c.args.source.now c.args.marks.now c.args.key ys) (sym same) h)
    (λ m. let yes : c.in_ok-enters_marked_frame.field-0 ≡ true = c.in_ok-enters_marked_frame.ensures.1 m in let bad : true ≡ false = sym yes ∙ c.if-branch.false in cc)
