use Rattle.std.proofs.Common.{◌∙◌, sym}
use Rattle.std.specs.Cmp.Derive.Mapped.{pointwise-map}
use Rattle.coset_label.specs.Same.{entry_eq}
use Rattle.coset_label.specs.Views.{entry_view}
use Rattle.coset_core.proofs.header.same_rest.Goals as goal

pub returns : goal.returns
returns c = c.eq.ensures ∙ sym (pointwise-map entry_view entry_eq c.args.a.now.items c.args.b.now.items)
