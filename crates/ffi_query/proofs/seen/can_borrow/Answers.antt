use Rattle.std.proofs.lemmas.Result.{IfOk-weaker}
use Rattle.ffi_query.proofs.Laid.{is_of}
use Rattle.ffi_query.proofs.seen.can_borrow.Goals as goal

pub returns-in-Mac-clause-valid : goal.returns-in-Mac-clause-valid
returns-in-Mac-clause-valid c =
    λ h.
    IfOk-weaker c.is_decoded.result _ _ (λ t d e. record { laid = h; is_of = d e; is_uncritical = c.if-layout.false }) c.is_decoded.ensures.valid

pub returns-in_default-clause-valid : goal.returns-in_default-clause-valid
returns-in_default-clause-valid c =
    λ h.
    IfOk-weaker c.is_valid.result _ _
    (λ t d e.
    record { laid = h; is_of = is_of c.args.kind c.args.bytes.now c.args.layout.now h (d e); is_uncritical = c.if-layout.false })
    (c.is_valid.ensures.valid h.kind c.args.bytes.now h.lies)
