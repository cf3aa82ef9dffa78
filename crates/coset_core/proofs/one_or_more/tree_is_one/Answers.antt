use Rattle.std.proofs.Common.{rules, sym, subst, false}
use Rattle.coset_value.specs.View.{value_items}
use Rattle.coset_core.specs.OneOrMore.{Begins}
use Rattle.coset_codec.proofs.Lists.{begins_with}
use Rattle.coset_core.proofs.one_or_more.tree_is_one.Goals as goal

pub returns-then-is_some-2 : goal.returns-then-is_some-2
returns-then-is_some-2 c =
    let s = begins_with c.args.elements.now.items c.in-Some.first.now (search rules) in
    subst (λ vs. Begins (value_items vs) false) (sym s.1) (search rules)
