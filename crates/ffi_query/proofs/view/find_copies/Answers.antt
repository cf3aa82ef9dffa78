use Rattle.ffi_query.proofs.view.find_copies.Goals as goal

pub returns-in_default-clause-copies : goal.returns-in_default-clause-copies
returns-in_default-clause-copies c = λ n t p. (rw c.in_default.is at c.in_ok-signed.ensures.found) p.signed p.is_signed
