use Rattle.std.proofs.Common.{Some}
use Rattle.coset.specs.Pulls.{pull_item}
use Rattle.ffi_query.proofs.Fitting.{not_nil}
use Rattle.ffi_query.proofs.fits.is_content.Goals as goal

pub returns-then-is_string : goal.returns-then-is_string
returns-then-is_string c =
    λ t. let x = c.is_string.ensures c.if-is_string.true in (Some x.0, (not_nil (pull_item c.args.place) x.0 x.1, x.1))
