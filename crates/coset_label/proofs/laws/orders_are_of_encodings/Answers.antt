use Rattle.std.specs.Ordering.{nat_cmp}
use Rattle.std.specs.Cmp.Lexicographic.{slice_cmp}
use Rattle.coset_label.specs.LabelData.{label_cmp, canonical_cmp, length_first_cmp}
use Rattle.coset_label.specs.NameOrder.{labels-compare, labels-compare-canonical}
use Rattle.coset_label.proofs.Encodings.{by-encodings}
use Rattle.coset_label.proofs.laws.orders_are_of_encodings.Goals as goal

pub returns : goal.returns
returns c =
    let one = c.least_heads_are_shortest.ensures in
    record {
      bytes = by-encodings one (slice_cmp nat_cmp) label_cmp labels-compare;
      lengths =
          by-encodings one length_first_cmp canonical_cmp labels-compare-canonical;
    }
