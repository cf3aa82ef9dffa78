use Rattle.std.proofs.Common.{◌∙◌, sym}
use Rattle.coset.specs.View.{value_item}
use Rattle.cwt_verify.proofs.TypeNames.{of_integer}
use Rattle.cwt_verify.proofs.types.type_name.Goals as goal

pub returns-in-Some-as_integer : goal.returns-in-Some-as_integer
returns-in-Some-as_integer c =
    c.format_name.ensures ∙ sym (of_integer (value_item c.args.value.now) c.in-Some-as_integer.number (sym c.as_integer.ensures ∙ c.in-Some-as_integer.is))
