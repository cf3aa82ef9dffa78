use Rattle.std.proofs.Common.{subst, option_map, map, ap, ◌∙◌}
use Rattle.coset_value.specs.Item.{array}
use Rattle.coset_codec.specs.Encoding.{Encodes, two_elements}
use Rattle.coset_codec.specs.Shape.{bstr, images}
use Rattle.coset_codec.proofs.Encoding.{images-mapped}
use Rattle.example_types.specs.Reading.{reading, view as reading_view}
use Rattle.example_types.specs.Report.{view}
use Rattle.example_types.proofs.report.write_report.Goals as goal

pub returns-clause-written : goal.returns-clause-written
returns-clause-written c =
    let r = view c.args.sent.now in
    subst (λ o. Encodes (two_elements (bstr.image r.sender) (option_map array o)) c.args.out.now.items c.encode_two.new.out.items c.encode_two.result)
    (images-mapped reading.image reading_view c.deref.result.now
    ∙ ap (λ xs. images reading.image (map reading_view xs)) c.deref.ensures.value) c.encode_two.ensures.written
