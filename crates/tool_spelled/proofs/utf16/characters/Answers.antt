use Rattle.std.proofs.Common.{◌∷◌, ◌∙◌, ap}
use Rattle.tool_spelled.proofs.Characters.{characters_to_end, one_character}
use Rattle.tool_spelled.proofs.utf16.characters.Goals as goal

pub loop-first-preserved : goal.loop-first-preserved
loop-first-preserved c =
    one_character c.args.is_big c.args.bytes.now c.loop-first.left.now c.in-Some-split_first.rest.now c.loop-first.text.items c.push.new.self.items
    c.in-Some.first.now c.in-Some-split_first.second.now c.in-Some-character.character
    (c.in-Some.ensures.cases.0 ∙ ap (λ t. c.in-Some.first.now ∷ t) c.in-Some-split_first.ensures.cases.0) c.in-Some-character.ensures
    c.in_ok-push-in-Some-character.ensures.items c.loop-first.invariant

pub returns : goal.returns
returns c =
    characters_to_end c.args.is_big c.args.bytes.now c.loop-first.left.now c.loop-first.text.items c.in_default.ensures.cases c.loop-first.invariant
