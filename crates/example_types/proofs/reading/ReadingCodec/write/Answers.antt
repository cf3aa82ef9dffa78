use Rattle.std.proofs.Common.{subst, option_map, map, ap, ◌∙◌}
use Rattle.coset_value.specs.Item.{array}
use Rattle.coset_codec.specs.Encoding.{Encodes, three_elements}
use Rattle.coset_codec.specs.Shape.{bstr, int64, or_nil, images}
use Rattle.coset_codec.proofs.Encoding.{images-mapped}
use Rattle.example_types.specs.Reading.{mark_view, view}
use Rattle.example_types.proofs.reading.ReadingCodec.write.Goals as goal

pub returns-clause-written : goal.returns-clause-written
returns-clause-written c =
    let r = view c.args.self.now in
    subst (λ o. Encodes (three_elements (int64.image r.number) ((or_nil bstr).image r.payload)
    (option_map array o)) c.args.out.now.items c.encode_three.new.out.items c.encode_three.result)
    (images-mapped int64.image mark_view c.deref.result.now
    ∙ ap (λ xs. images int64.image (map mark_view xs)) c.deref.ensures.value) c.encode_three.ensures.written
