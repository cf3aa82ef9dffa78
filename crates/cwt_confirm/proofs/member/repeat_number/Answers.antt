use Rattle.std.specs.Map.{keys_of}
use Rattle.std.specs.Ordering.{int_eq}
use Rattle.std.proofs.Common.{◌∙◌, ap, sym}
use Rattle.coset.specs.Maps.{are_distinct}
use Rattle.coset.specs.Parts.{as_integer}
use Rattle.cwt_confirm.proofs.Lists.{answered}
use Rattle.cwt_confirm.proofs.MapMembers.{gathered, numbers-parts}
use Rattle.cwt_confirm.proofs.member.repeat_number.Goals as goal

pub returns-clause-answer : goal.returns-clause-answer
returns-clause-answer c =
    let ps = c.args.pairs.now in
    let all = c.loop-key.numbers.items in
    let read = numbers-parts ps ∙ gathered as_integer ps c.loop-key.key-index (keys_of all) c.loop-key-test.false c.loop-key.invariant in
    answered c.has_repeats.result _ _ (ap (λ ns. are_distinct int_eq (keys_of ns)) c.deref.ensures.value ∙ ap (are_distinct int_eq) (sym read))
    c.has_repeats.ensures.answer
