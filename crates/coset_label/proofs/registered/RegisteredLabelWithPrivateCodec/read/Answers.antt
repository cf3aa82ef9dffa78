use Rattle.std.proofs.Common.{◌∙◌, sym, rules}
use Rattle.coset_label.proofs.Numbers.{is-assigned, is-held}
use Rattle.coset_label.proofs.registered.RegisteredLabelWithPrivateCodec.read.Goals as goal

pub returns-in-Some-from_i64-clause-forward : goal.returns-in-Some-from_i64-clause-forward
returns-in-Some-from_i64-clause-forward g c = record {
  shrinks = search rules;
  strictly = search rules;
  reads = λ v z stands.
      let taken = c.in-Some.ensures.reads v z stands in
      let number = g.T.EnumI64.number in
      let value_of = g.T.EnumI64.value_of in
      let is = g.met.T.EnumI64.number_of_value in
      let back = g.met.T.EnumI64.value_of_number in
      let x = c.in-Some-from_i64.value in
      let assigned = is-assigned number value_of is back v c.in-Some.number _ x (sym taken.0)
      ((search rules) ∙ c.in_ok-number.ensures.1) c.in-Some-from_i64.ensures
      c.in_ok-number.ensures.0 in
      (taken.1, (assigned.0, (is-held number value_of is back v x assigned.1.0, assigned.1)));
}
