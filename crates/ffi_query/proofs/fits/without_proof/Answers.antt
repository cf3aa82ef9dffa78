use Rattle.coset.specs.Pulls.{pull_item}
use Rattle.coset.specs.Shape.{end}
use Rattle.ffi_query.proofs.Fitting.{begins}
use Rattle.ffi_query.proofs.fits.without_proof.Goals as goal

pub returns-then-is_end : goal.returns-then-is_end
returns-then-is_end c =
    λ t. (
      c.is_in_form.ensures c.if-is_in_form.true,
      begins end (pull_item c.args.item) c.in-Some.three c.are_headers.result t c.in-Some.ensures c.are_headers.ensures
          (c.is_end.ensures c.if-is_end.true),
    )
