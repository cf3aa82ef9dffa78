use Rattle.std.proofs.Common.{map, take}
use Rattle.coset_value.specs.View.{value_item}
use Rattle.coset_codec.specs.Encoding.{AppendsAll}
use Rattle.coset_codec.specs.Maps.{labelled_image}
use Rattle.coset_codec.proofs.write.map.write_rest.Given as goal

abbrev pub invariant-loop-label : goal.invariant-loop-label
invariant-loop-label g l = AppendsAll (labelled_image g.L.Encode.image (map (λ e. (e.0, value_item e.1))
    (take l.label-index l.rest))) l.initial.out.items l.out.items
