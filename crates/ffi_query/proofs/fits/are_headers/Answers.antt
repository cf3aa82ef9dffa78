use Rattle.ffi_query.proofs.fits.are_headers.Goals as goal

pub returns-then-is_protected : goal.returns-then-is_protected
returns-then-is_protected c =
    (λ t. c.is_protected.ensures c.if-is_protected.true, λ t. c.is_unprotected.ensures t, λ t. c.is_content.ensures c.if-is_content.true)
