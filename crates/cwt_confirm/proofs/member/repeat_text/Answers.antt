use Rattle.std.specs.Borrow.{Bor}
use Rattle.std.specs.Cmp.Lexicographic.{pointwise}
use Rattle.std.specs.Map.{keys_of}
use Rattle.std.proofs.Common.{◌==◌, ◌∙◌, ℕ, List, ap, map, sym}
use Rattle.coset.specs.Maps.{are_distinct}
use Rattle.coset.specs.Parts.{as_text}
use Rattle.cwt_confirm.proofs.Lists.{answered, distinct-map}
use Rattle.cwt_confirm.proofs.MapMembers.{gathered, texts-parts}
use Rattle.cwt_confirm.proofs.member.repeat_text.Goals as goal

pub returns-clause-answer : goal.returns-clause-answer
returns-clause-answer c =
    let ps = c.args.pairs.now in
    let all = c.loop-key.texts.items in
    let now = λ (s : Bor (List ℕ)). s.now in
    let same = pointwise ◌==◌ in
    let read = texts-parts ps ∙ gathered as_text ps c.loop-key.key-index (map now (keys_of all)) c.loop-key-test.false c.loop-key.invariant in
    answered c.has_repeats.result _ _
    (ap (λ ts. are_distinct (λ (a b : Bor (List ℕ)). same a.now b.now) (keys_of ts)) c.deref.ensures.value
    ∙ (distinct-map same now (keys_of all) ∙ ap (are_distinct same) (sym read))) c.has_repeats.ensures.answer
