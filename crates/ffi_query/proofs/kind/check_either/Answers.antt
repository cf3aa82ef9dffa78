use Rattle.coset.specs.PerhapsTagged.{perhaps_tagged}
use Rattle.ffi_query.proofs.EachKind.{not_checked}
use Rattle.ffi_query.proofs.kind.check_either.Goals as goal

pub returns-in_err-_value : goal.returns-in_err-_value
returns-in_err-_value g c =
    not_checked (perhaps_tagged g.T.TaggedCborSerializable.TAG g.T.AsCborValue.shape) c.args.bytes.now c.in_err-_value.field-0.0
    c.from_residual.result c.from_residual.ensures.1
    c.in_err-_value.ensures.read c.in_err-_value.ensures.refused

pub returns : goal.returns
returns g c = (g.T.AsCborValue.view c.in_ok-_value._value, c.in_ok-_value.ensures.read)
