use mir.Syntax.{w64}
use Rattle.std.proofs.lemmas.Int.{to_z-of_z}
use Rattle.std.proofs.Common.{subst}
use Rattle.coset.specs.LabelData.{number}
use Rattle.ffi_query.specs.Elements.{IsMissedIn}
use Rattle.ffi_query.specs.Located.{located_item}
use Rattle.ffi_query.proofs.Missing.{missed}
use Rattle.ffi_query.proofs.elements.value_span.Goals as goal

pub returns-in-Err-label_located : goal.returns-in-Err-label_located
returns-in-Err-label_located c =
    let v = located_item c.in-Ok.item in
    let r = c.refused_in_chunks.result in
    missed c.args.kind c.args.bytes.now c.args.map (number c.args.label) v c.in-Err-label_located.field-0 r c.in-Ok.ensures.0
    (c.in-Err-label_located.ensures c.args.bytes.now c.in-Ok.ensures.1)
    (subst (λ n. IsMissedIn c.args.kind c.args.map (number n) v r) (to_z-of_z w64 c.args.label c.ranges.label) c.refused_in_chunks.ensures)
