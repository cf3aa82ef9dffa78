use Rattle.std.proofs.Common.{◌∙◌, sym, rules}
use Rattle.coset_label.proofs.Numbers.{is-assigned, is-there}
use Rattle.coset_label.proofs.registered.RegisteredLabelCodec.read.Goals as goal

pub returns-in-Some-from_i64-clause-forward : goal.returns-in-Some-from_i64-clause-forward
returns-in-Some-from_i64-clause-forward g c = record {
  shrinks = search rules;
  strictly = search rules;
  reads = λ v z stands.
      let taken = c.in-Some.ensures.reads v z stands in
      let number = g.T.EnumI64.number in
      let value_of = g.T.EnumI64.value_of in
      let is = g.met.T.EnumI64.number_of_value in
      let back = g.met.T.EnumI64.value_of_number in
      let x = c.in-Some-from_i64.value in
      let assigned = is-assigned number value_of is back v c.in-Some.number _ x (sym taken.0)
      ((search rules) ∙ c.in_ok-try_from-in-Some.ensures.1) c.in-Some-from_i64.ensures
      c.in_ok-try_from-in-Some.ensures.0 in
      (taken.1, (assigned.0, (assigned.1, is-there number value_of is back x)));
}
