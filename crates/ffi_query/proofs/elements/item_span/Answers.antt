use Rattle.std.proofs.Common.{◌∙◌, ap, length, refl, subst, sym}
use Rattle.coset.specs.Results.{IsByteFault}
use Rattle.coset.specs.Pulls.{pull_bytes, pull_item}
use Rattle.coset_cbor.specs.Prefixes.{HasNoItem}
use Rattle.coset_codec.proofs.Whole.{byte_fault}
use Rattle.ffi_query.proofs.Placing.{item_there}
use Rattle.ffi_query.proofs.elements.item_span.Goals as goal

pub returns-in-Ok : goal.returns-in-Ok
returns-in-Ok c =
    let w = pull_item c.in-Ok.item in
    let found = c.in-Ok.ensures.found in (
      w,
      refl,
      item_there c.args.bytes.now c.args.at (pull_bytes c.in-Ok.item) c.in-Ok.field-0-1.now w (length c.slice.result.now) c.if-at-bytes.false
          (sym c.after.ensures ∙ found.0) found.1 (ap length c.slice.ensures.bytes),
    )

pub returns-in-Err : goal.returns-in-Err
returns-in-Err c =
    let s = c.after.result.now in
    let fault = byte_fault s c.in-Err.error c.in-Err.ensures.memory c.in-Err.ensures.fault in (
      subst (λ x. IsByteFault x c.from.result) c.after.ensures (subst (IsByteFault s) (sym c.from.ensures) fault),
      subst HasNoItem c.after.ensures c.in-Err.ensures.refused,
    )
