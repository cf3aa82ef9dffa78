use Rattle.std.proofs.Common.{subst}
use Rattle.coset.specs.Pulls.{pull_item}
use Rattle.coset.specs.View.{value_item}
use Rattle.ffi_query.specs.Results.{Finds}
use Rattle.ffi_query.specs.Labels.{IsUnder, label_view}
use Rattle.ffi_query.proofs.EachKind.{memory_refuses}
use Rattle.ffi_query.proofs.label.integer_of.Goals as goal

pub returns-in-Ok-Some : goal.returns-in-Ok-Some
returns-in-Ok-Some c =
    let k = c.args.kind in
    let l = label_view c.args.label in
    let v = pull_item c.in-Ok.item in (
      v,
      c.in-Ok.ensures,
      (
        value_item c.in-Ok-Some.value,
        subst (Finds value_item (IsUnder k c.args.map l v)) c.in-Ok-Some.field-0-is c.in-Ok-Some.ensures.value,
        c.in-None.ensures,
      ),
    )

pub returns : goal.returns
returns c = memory_refuses c.args.kind c.args.bytes.now c.in-Err-find_value.error c.in-Err-find_value.ensures.memory
