use Rattle.std.proofs.Common.{◌≡◌, ℕ, Bool, true, List}
use Rattle.std.specs.List.{filter, list_any}
use Rattle.tc_isa.specs.Arithmetic.{signed_rank}
use Rattle.value_domain.specs.Sets.{Among, AreAmong}
use Rattle.value_domain.proofs.MeetLaws.{among_filter, filter_has, any_among, among_any}
use Rattle.vd_transfer.specs.Relations.{is_related, related_words}
use Rattle.vd_transfer.specs.Signs.{signed_related_words}
use Rattle.vd_transfer.proofs.laws.refinement_laws.Goals as goal

-- the words of vs for which the test holds with some word of ws
module _ (test : ℕ → ℕ → Bool) where
  kept_sound : (vs ws : List ℕ) (x y : ℕ) → Among x vs → Among y ws → test x y ≡ true → Among x (filter (λ x. list_any (test x) ws) vs)
  kept_sound vs ws x y i j e = filter_has (λ x. list_any (test x) ws) x vs i (among_any (test x) y ws j e)

  kept_monotone : (vs ws vs2 ws2 : List ℕ) → AreAmong vs vs2 → AreAmong ws ws2 → AreAmong (filter (λ x. list_any (test x) ws) vs) (filter (λ x. list_any (test x) ws2) vs2)
  kept_monotone vs ws vs2 ws2 there here z k =
      let f = among_filter (λ x. list_any (test x) ws) z vs k in
      let r = any_among (test z) ws f.1 in
      filter_has (λ x. list_any (test x) ws2) z vs2 (there z f.0) (among_any (test z) r.0 ws2 (here r.0 r.1) r.2)

pub returns : goal.returns
unfolding related_words signed_related_words
returns c = λ rel. record {
  sound = kept_sound (is_related rel);
  monotone = kept_monotone (is_related rel);
  signed_sound = kept_sound (λ x y. is_related rel (signed_rank x) (signed_rank y));
  signed_monotone = kept_monotone (λ x y. is_related rel (signed_rank x) (signed_rank y));
}
