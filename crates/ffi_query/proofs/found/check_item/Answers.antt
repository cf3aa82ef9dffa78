use Rattle.ffi_query.proofs.EachKind.{any_item}
use Rattle.ffi_query.proofs.Fitting.{of_kind}
use Rattle.ffi_query.proofs.found.check_item.Goals as goal

pub returns-then-fits : goal.returns-then-fits
returns-then-fits c = λ w only same under. of_kind c.args.kind c.args.bytes.now w only (c.fits.ensures w same under c.if-fits.true)

pub returns-in-Any : goal.returns-in-Any
returns-in-Any c = λ w only same under. rw c.in-Any.is (any_item c.args.bytes.now w only.0)
