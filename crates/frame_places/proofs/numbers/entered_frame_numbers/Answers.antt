use Rattle.std.proofs.Common.{◌∙◌, sym, ap, ℕ, List, [], ◌∷◌, ◌++◌, take}
use Rattle.std.specs.Prelude.{map}
use Rattle.std.proofs.lemmas.List.{take_all, take_more, map-append}
use Rattle.std.proofs.lemmas.List.Elements.{Contains-get_or}
use Rattle.depth_cert.specs.declared.keys.Key.{Key}
use Rattle.frame_places.specs.Numbers.{frame_number_in}
use Rattle.frame_places.proofs.numbers.entered_frame_numbers.Goals as goal

pub loop-key-preserved : goal.loop-key-preserved
loop-key-preserved c frames are all =
    c.in_ok-push.ensures.items
    ∙ ap (λ (l : List ℕ). l ++ c.frame_number.result ∷ []) (c.loop-key.invariant frames are all)
    ∙ ap (λ (n : ℕ). map (frame_number_in frames) (take c.loop-key.key-index c.args.entered.now) ++ n ∷ []) (c.frame_number.ensures frames are (all _ (Contains-get_or c.args.entered.now c.loop-key.key-index _ c.loop-key-test.true)))
    ∙ sym (ap (map (frame_number_in frames)) (take_more c.args.entered.now c.loop-key.key-index _ c.loop-key-test.true) ∙ map-append (frame_number_in frames) (take c.loop-key.key-index c.args.entered.now) (_ ∷ []))

pub returns : goal.returns
returns c frames are all = c.loop-key.invariant frames are all ∙ ap (λ (l : List Key). map (frame_number_in frames) l) (take_all c.loop-key.key-index c.args.entered.now c.loop-key-test.false)
