use Rattle.std.proofs.Common.{◌≡◌, ◌∙◌, arith, length, ap, sym, subst}
use Rattle.std.proofs.lemmas.Bool.{false≢true}
use Rattle.value_domain.specs.declared.values.Val.{Val}
use Rattle.value_domain.specs.Values.{IsMember, members}
use Rattle.value_domain.specs.Sets.{IsExtent}
use Rattle.value_domain.proofs.PutLaws.{with_member, with_room, with_wider, same_words}
use Rattle.value_domain.proofs.lattice.insert_or_widen.Goals as goal
use Rattle.value_domain.proofs.lattice.insert_or_widen.Goals.{in-Set+else-as_slice-most_words, in_default}

pub returns-then-member : goal.returns-then-member
returns-then-member c = with_member c.args.b.now c.args.v.now c.args.x c.requires (c.member.ensures.0 c.if-member.true)

pub returns-then-as_slice-most_words : goal.returns-then-as_slice-most_words
returns-then-as_slice-most_words c =
    rw (c.in-Set.is, c.insert.ensures)
    (with_room c.args.b.now c.in-Set.words c.args.x c.as_slice.ensures.words
    (omega (arith, ap length c.as_slice.ensures.items, c.most_words-most_words.ensures.most_words)))

pub returns : goal.returns
returns c =
    let absent : IsMember c.args.x c.args.v.now → ⊥ = λ m. false≢true (sym c.if-member.false ∙ c.member.ensures.1 m) in
    let family = λ (u : Val). IsExtent (members u) c.extent_of-e.result.least c.extent_of-e.result.greatest c.extent_of-e.result.step in
    elim c.match-v.branch [
      | in-Set+else-as_slice-most_words w ↦
          let same : c.match-v.v ≡ c.args.v.now = cc in
          c.write_span_with_word.ensures
          ∙ with_wider c.args.b.now c.args.v.now c.args.x c.requires absent
          (λ ws e.
          let words : w.in-Set.words ≡ ws = same_words w.in-Set.words ws (sym w.in-Set.is ∙ e) in
          omega (arith, ap length w.as_slice.ensures.items, ap length words, c.most_words-most_words.ensures.most_words, w.if-as_slice-most_words.false))
          (subst family same c.extent_of-e.ensures)
      | in_default w ↦
          let same : c.match-v.v ≡ c.args.v.now = cc in
          c.write_span_with_word.ensures ∙ with_wider c.args.b.now c.args.v.now c.args.x c.requires absent (λ ws e. absurd (w.in_default.not-Set ws e)) (subst family same c.extent_of-e.ensures)
    ]
