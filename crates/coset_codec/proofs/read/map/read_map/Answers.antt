use Rattle.coset_codec.specs.Inputs.{state}
use Rattle.coset_codec.specs.Kinds.{Says, kind}
use Rattle.coset_codec.proofs.Visiting.{all_read, first_stands, is_map, left_behind}
use Rattle.coset_codec.proofs.Walking.{sets_out}
use Rattle.coset_codec.proofs.read.map.read_map.Goals as goal

pub returns-clause-read : goal.returns-clause-read
returns-clause-read g c = λ v z stands.
    let gather = g.V.MapVisitor in
    let laws = g.met.V.MapVisitor in
    let x = gather.view c.read_pairs-all.new.visitor in
    let t = state c.read_pairs-all.new.input in
    let m = c.read_pairs-all.new.pairs in
    let map = c.in_ok-pairs.ensures.enters v z stands in
    let read = c.read_pairs-all.ensures.reads map.0 map.0 z
    (sets_out gather.names laws.lawful_names gather.fields laws.lawful_fields map.0
    (gather.view c.args.visitor.now) c.requires.fields c.requires.rest) map.2 in
    let left = left_behind gather.names laws.lawful_names gather.fields laws.lawful_fields gather.named map.0 x t z m c.read_pairs-all.result read in (
      c.finish.ensures.passes left.0 z left.1,
      all_read gather.names laws.lawful_names gather.fields laws.lawful_fields gather.named map.0 v x t z m
          c.read_pairs-all.result c.first_fault.result map.1 read c.first_fault.ensures.read,
    )

pub returns-clause-refused : goal.returns-clause-refused
returns-clause-refused g c = λ v z stands.
    let gather = g.V.MapVisitor in
    let laws = g.met.V.MapVisitor in
    let x = gather.view c.read_pairs-all.new.visitor in
    let t = state c.read_pairs-all.new.input in
    let m = c.read_pairs-all.new.pairs in
    let map = c.in_ok-pairs.ensures.enters v z stands in
    let read = c.read_pairs-all.ensures.reads map.0 map.0 z
    (sets_out gather.names laws.lawful_names gather.fields laws.lawful_fields map.0
    (gather.view c.args.visitor.now) c.requires.fields c.requires.rest) map.2 in
    let left = left_behind gather.names laws.lawful_names gather.fields laws.lawful_fields gather.named map.0 x t z m c.read_pairs-all.result read in (
      c.finish.ensures.passes left.0 z left.1,
      first_stands gather.names laws.lawful_names gather.fields laws.lawful_fields gather.named map.0 v x t z m
          c.read_pairs-all.result c.first_fault.result map.1 read c.first_fault.ensures.refused,
    )

pub returns-clause-says : goal.returns-clause-says
returns-clause-says g c = λ v z stands.
    let gather = g.V.MapVisitor in
    let laws = g.met.V.MapVisitor in
    let x = gather.view c.read_pairs-all.new.visitor in
    let t = state c.read_pairs-all.new.input in
    let m = c.read_pairs-all.new.pairs in
    let map = c.in_ok-pairs.ensures.enters v z stands in
    let read = c.read_pairs-all.ensures.reads map.0 map.0 z
    (sets_out gather.names laws.lawful_names gather.fields laws.lawful_fields map.0
    (gather.view c.args.visitor.now) c.requires.fields c.requires.rest) map.2 in
    let left = left_behind gather.names laws.lawful_names gather.fields laws.lawful_fields gather.named map.0 x t z m c.read_pairs-all.result read in
    (c.finish.ensures.passes left.0 z left.1, is_map v map.0 (Says (kind v) _) c.first_fault.result map.1)
