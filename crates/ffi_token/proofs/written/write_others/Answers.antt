use Rattle.std.proofs.Common.{[], refl, true}
use Rattle.coset_value.specs.View.{value_item}
use Rattle.coset_codec.proofs.EncodingMaps.{map-written, no-field}
use Rattle.coset_label.specs.Labels.{cose_labels, label}
use Rattle.coset_label.specs.Views.{label_view}
use Rattle.ffi_token.proofs.written.write_others.Goals as goal

pub returns-clause-written : goal.returns-clause-written
returns-clause-written c =
    map-written cose_labels label_view value_item c.args.others.now true [] _ _ c.write_rest.result refl
    c.in_ok-write_pairs_head.ensures.fits c.in_ok-write_pairs_head.ensures.ok (no-field label.image c.write_pairs_head.new.out.items)
    c.write_rest.ensures.ok c.write_rest.ensures.refused
