use Rattle.coset.specs.Elements.{items_left}
use Rattle.coset.specs.Pulls.{pull_item}
use Rattle.ffi_query.proofs.Fitting.{one_string}
use Rattle.ffi_query.proofs.fits.is_one_string.Goals as goal

pub returns-then-is_string : goal.returns-then-is_string
returns-then-is_string c =
    one_string (pull_item c.in-Some.first) (items_left c.args.elements) (items_left c.in-Some.behind) c.is_string.result c.is_end.result
    c.in-Some.ensures c.if-is_string.true c.is_string.ensures c.is_end.ensures
