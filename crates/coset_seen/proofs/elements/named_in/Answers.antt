use Rattle.std.proofs.Common.{◌≡◌, ◌∙◌, [], ap, arith, length, nat_eq, sym, true≢false}
use Rattle.std.proofs.lemmas.Grind.{common_steps}
use Rattle.coset_seen.proofs.Messages.{content_of_header, empty_content}
use Rattle.coset_seen.proofs.elements.named_in.Goals as goal

pub returns-then-is_empty : goal.returns-then-is_empty
returns-then-is_empty c =
    let none : c.args.content.now ≡ [] = grind (arith, common_steps) in
    empty_content c.args.content.now c.nothing.result none c.nothing.ensures

pub returns : goal.returns
returns c =
    content_of_header c.args.content.now c.whole_header.result
    (λ e. true≢false (sym (ap (λ b. nat_eq (length b) 0) e) ∙ (sym c.is_empty.ensures ∙ c.if-is_empty.false))) c.whole_header.ensures
