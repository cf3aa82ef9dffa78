use Rattle.std.proofs.Common.{◌∙◌, sym}
use Rattle.std.specs.Cmp.Derive.Mapped.{pointwise-map}
use Rattle.coset_core.specs.Same.{critical_eq}
use Rattle.coset_core.specs.Views.{critical_view}
use Rattle.coset_core.proofs.critical.same_critical.Goals as goal

pub returns : goal.returns
returns c = c.eq.ensures ∙ sym (pointwise-map critical_view critical_eq c.args.a.now.items c.args.b.now.items)
