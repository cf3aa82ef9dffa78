use Rattle.std.proofs.Common.{inl, rules}
use Rattle.coset_codec.proofs.Placed.{passed_on}
use Rattle.coset_key.specs.Keys.{key, key_view}
use Rattle.coset_key.specs.Reading.{so_far_view}
use Rattle.coset_key.proofs.Finishing.{finished}
use Rattle.coset_key.proofs.key.CoseKeyCodec.read.Goals as goal

pub returns-in_err-read_map-clause-forward : goal.returns-in_err-read_map-clause-forward
unfolding key
returns-in_err-read_map-clause-forward c = record {
  shrinks = search rules;
  strictly = search rules;
  reads = λ v z stands.
      let here = c.in_err-read_map.ensures.refused v z stands in
      (here.0, passed_on key key_view v c.from_residual.result c.in_err-read_map.field-0.0 c.from_residual.ensures.1 (λ n. inl (here.1 n)));
}

pub returns-clause-forward : goal.returns-clause-forward
returns-clause-forward c = record {
  shrinks = search rules;
  strictly = search rules;
  reads = λ v z stands.
      let here = c.in_ok-read_map.ensures.read v z stands in
      (here.0, finished v (so_far_view c.read_map.new.visitor) c.finish.result here.1 c.finish.ensures);
}
