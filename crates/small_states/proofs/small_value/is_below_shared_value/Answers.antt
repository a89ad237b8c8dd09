use Rattle.std.proofs.Common.{◌≡◌, ◌↔◌, ℕ, List, IsTrue, false, true, length, nat_eq, refl, subst, sym}
use Rattle.value_domain.specs.declared.values.Val.{Val}
use Rattle.value_domain.specs.declared.values.Val.TheVariants.{Set}
use Rattle.value_domain.specs.Values.{IsBelow, IsMember, IsWellFormed}
use Rattle.value_domain.specs.Sets.{Among}
use Rattle.value_domain.proofs.ExtentLaws.{append_left}
use Rattle.small_states.proofs.HeldWords.{held_all, past_greatest, set_of}
use Rattle.small_states.proofs.small_value.is_below_shared_value.Goals as goal

pub returns-then-words-end : goal.returns-then-words-end
returns-then-words-end c =
    let ve = set_of c.args.v.now c.in-Some.words.now c.in-Some.ensures in
    let oe = set_of c.args.own.now c.in-Some-words.held.now c.in-Some-words.ensures in (
      (λ t. absurd (let f : false ≡ true = t in cc)),
      (λ below. absurd (past_greatest c.in-Some-words.held.now c.in-Some.words.now (subst IsWellFormed oe c.requires.own).rising (subst IsWellFormed ve c.requires.value).some c.if-words-end.true
          (subst (λ (u : Val). IsBelow (Set c.in-Some.words.now) u) oe (subst (λ (u : Val). IsBelow u c.args.own.now) ve below)))),
    )

pub returns-then-starts_with_words : goal.returns-then-starts_with_words
returns-then-starts_with_words c =
    let words = c.in-Some.words.now in
    let ve = set_of c.args.v.now words c.in-Some.ensures in
    let oe = set_of c.args.own.now c.in-Some-words.held.now c.in-Some-words.ensures in
    let begins = c.starts_with_words.ensures c.if-starts_with_words.true in (
      (λ t z m. subst (IsMember z) (sym oe) (subst (λ (l : List ℕ). Among z l) (sym begins.1) (append_left z words begins.0 (subst (IsMember z) ve m)))),
      (λ below. refl),
    )

pub returns : goal.returns
returns c =
    let ve = set_of c.args.v.now c.in-Some.words.now c.in-Some.ensures in
    let oe = set_of c.args.own.now c.in-Some-words.held.now c.in-Some-words.ensures in
    subst (λ (u : Val). IsTrue (nat_eq c.count_leading_members.result (length c.in-Some.words.now)) ↔ IsBelow u c.args.own.now) (sym ve)
    (subst (λ (u : Val). IsTrue (nat_eq c.count_leading_members.result (length c.in-Some.words.now)) ↔ IsBelow (Set c.in-Some.words.now) u) (sym oe)
    (held_all c.in-Some-words.held.now c.in-Some.words.now c.count_leading_members.result c.count_leading_members.ensures.within c.count_leading_members.ensures.held c.count_leading_members.ensures.missing))
