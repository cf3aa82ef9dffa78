use Rattle.std.proofs.Common.{sym, ◌∙◌}
use Rattle.coset_show.proofs.Arguments.{name_and}
use Rattle.coset_show.proofs.only_argument.Goals as goal

pub returns-in-None : goal.returns-in-None
returns-in-None c =
    let rest = c.next-2.new.self in
    name_and _ _ _ c.in_ok-_name._name c.in_ok-first.first c.in_ok-_name.ensures.cases.0 c.in_ok-first.ensures.cases.0
    (sym rest.rest.ok.0 ∙ c.in-None.ensures.cases.0)
