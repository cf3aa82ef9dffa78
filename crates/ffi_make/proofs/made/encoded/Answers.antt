use Rattle.std.proofs.Common.{◌≡◌, None, Some, option_map, subst, sym}
use Rattle.coset.specs.View.{value_item}
use Rattle.ffi_query.specs.Results.{IsEncodingOf}
use Rattle.ffi_make.specs.Makes.{IsMade, IsMisfit}
use Rattle.ffi_make.proofs.Making.{refused}
use Rattle.ffi_make.proofs.made.encoded.Goals as goal

pub returns-in_err-check-in-Some : goal.returns-in_err-check-in-Some
returns-in_err-check-in-Some c =
    let k = c.args.kind in
    let o = option_map value_item c.args.made in
    let written = subst (IsEncodingOf (Some (value_item c.in-Some.value))) (sym c.deref.ensures.value) c.in_ok-bytes-in-Some.ensures in
    let written_o : IsEncodingOf o c.deref.result.now =
    subst (λ m. IsEncodingOf (option_map value_item m) c.deref.result.now) (sym c.in-Some.is) written in
    refused (λ b. b.items) (IsMade k o) (o ≡ None) (IsMisfit k o) c.in_err-check-in-Some.field-0.0 c.from_residual-in_err-check-in-Some.result
    c.from_residual-in_err-check-in-Some.ensures.1 (λ n. (c.deref.result.now, written_o, c.in_err-check-in-Some.ensures))
