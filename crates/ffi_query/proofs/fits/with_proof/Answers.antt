use Rattle.coset.specs.Pulls.{pull_item}
use Rattle.coset.specs.Shape.{◌then◌, bstr, end}
use Rattle.ffi_query.proofs.Fitting.{begins}
use Rattle.ffi_query.proofs.fits.with_proof.Goals as goal

pub returns-then-is_one_string : goal.returns-then-is_one_string
returns-then-is_one_string c =
    λ t. (
      c.is_in_form.ensures c.if-is_in_form.true,
      begins (bstr then end) (pull_item c.args.item) c.in-Some.three c.are_headers.result t c.in-Some.ensures c.are_headers.ensures
          (c.is_one_string.ensures c.if-is_one_string.true),
    )
