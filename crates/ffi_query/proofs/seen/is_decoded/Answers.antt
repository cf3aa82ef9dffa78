use Rattle.ffi_query.proofs.seen.is_decoded.Goals as goal

pub returns-in-Ok-clause-valid : goal.returns-in-Ok-clause-valid
returns-in-Ok-clause-valid c = λ t. rw c.in-Ok.is at c.check_by_decoding.ensures
