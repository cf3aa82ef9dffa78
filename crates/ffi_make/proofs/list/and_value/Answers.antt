use Rattle.std.proofs.Common.{◌∙◌, ap}
use Rattle.coset.specs.View.{value_items}
use Rattle.ffi_make.proofs.Lists.{items_view_push}
use Rattle.ffi_make.proofs.list.and_value.Goals as goal

pub returns-clause-values : goal.returns-clause-values
returns-clause-values c = ap value_items c.in_ok-push.ensures.items ∙ items_view_push c.args.values.items c.args.value
