use Rattle.ffi_query.proofs.Laid.{is_of}
use Rattle.ffi_query.proofs.seen.is_message.Goals as goal

pub returns-in-Ok : goal.returns-in-Ok
returns-in-Ok c =
    let h = c.in-Some.ensures in
    λ t. is_of c.args.kind c.args.bytes.now c.in-Some.layout h (c.in-Ok.ensures.valid h.kind c.args.bytes.now h.lies t)
