use Rattle.std.proofs.Common.{Some, ap, ◌∙◌, inl, inr, rules}
use Rattle.coset_value.specs.Item.{item}
use Rattle.coset_codec.specs.Inputs.{state}
use Rattle.coset_codec.proofs.Placed.{placed, passed_on}
use Rattle.coset_claims.specs.SuppPub.{supp_pub, supp_pub_view}
use Rattle.coset_claims.proofs.Elements.{other_behind, other_read, other_refused}
use Rattle.coset_claims.proofs.supp_pub.SuppPubInfoCodec.read.Goals as goal

pub returns-in_err-other-clause-forward : goal.returns-in_err-other-clause-forward
returns-in_err-other-clause-forward c = record {
  shrinks = search rules;
  strictly = search rules;
  reads = λ v z stands.
      let array = c.in_ok-elements.ensures.enters v z stands in
      let one = placed (state c.next_required.new.input) (state c.uint-key_data_length.new.self) z c.next_required.new.self
      (c.in_ok-next_required.ensures.place array.0 z array.2) c.uint-key_data_length.ensures.forward.reads in
      let two = placed (state c.next_required-2.new.input) (state c.read-protected.new.input) z c.next_required-2.new.self
      (c.in_ok-next_required-2.ensures.place one.others z one.within) c.read-protected.ensures.forward.reads in
      let other = other_refused two.others (state c.read_other-other.new.input) z c.read_other-other.new.elements c.in_err-other.field-0.0
      (c.in_err-other.ensures.reads two.others z two.within) in
      let end = c.in_ok-end.ensures.end other.0 z other.1 in (
        end.0,
        passed_on supp_pub supp_pub_view v c.from_residual-in_err-other.result c.in_err-other.field-0.0 c.from_residual-in_err-other.ensures.1
            (λ n. inr (_, array.1 ∙ ap Some (one.parts ∙ ap (item one.first) two.parts), inr ((other.2 end.1).0, inr (inr ((other.2 end.1).1 n))))),
      );
}

pub returns-in_err-protected-clause-forward : goal.returns-in_err-protected-clause-forward
returns-in_err-protected-clause-forward c = record {
  shrinks = search rules;
  strictly = search rules;
  reads = λ v z stands.
      let array = c.in_ok-elements.ensures.enters v z stands in
      let one = placed (state c.next_required.new.input) (state c.uint-key_data_length.new.self) z c.next_required.new.self
      (c.in_ok-next_required.ensures.place array.0 z array.2) c.uint-key_data_length.ensures.forward.reads in
      let two = placed (state c.next_required-2.new.input) (state c.read-protected.new.input) z c.next_required-2.new.self
      (c.in_ok-next_required-2.ensures.place one.others z one.within) c.in_err-protected.ensures.forward.reads in
      let other = other_behind two.others (state c.read_other-other.new.input) z c.read_other-other.new.elements c.read_other-other.result
      (c.read_other-other.ensures.reads two.others z two.within) in
      let end = c.in_ok-end.ensures.end other.0 z other.1 in (
        end.0,
        passed_on supp_pub supp_pub_view v c.from_residual-in_err-protected.result c.in_err-protected.field-0.0 c.from_residual-in_err-protected.ensures.1
            (λ n. inr (_, array.1 ∙ ap Some (one.parts ∙ ap (item one.first) two.parts), inr (other.2 end.1, inr (inl (two.read n))))),
      );
}

pub returns-in_err-key_data_length-clause-forward : goal.returns-in_err-key_data_length-clause-forward
returns-in_err-key_data_length-clause-forward c = record {
  shrinks = search rules;
  strictly = search rules;
  reads = λ v z stands.
      let array = c.in_ok-elements.ensures.enters v z stands in
      let one = placed (state c.next_required.new.input) (state c.uint-key_data_length.new.self) z c.next_required.new.self
      (c.in_ok-next_required.ensures.place array.0 z array.2) c.in_err-key_data_length.ensures.forward.reads in
      let two = placed (state c.next_required-2.new.input) (state c.read-protected.new.input) z c.next_required-2.new.self
      (c.in_ok-next_required-2.ensures.place one.others z one.within) c.read-protected.ensures.forward.reads in
      let other = other_behind two.others (state c.read_other-other.new.input) z c.read_other-other.new.elements c.read_other-other.result
      (c.read_other-other.ensures.reads two.others z two.within) in
      let end = c.in_ok-end.ensures.end other.0 z other.1 in (
        end.0,
        passed_on supp_pub supp_pub_view v c.from_residual-in_err-key_data_length.result c.in_err-key_data_length.field-0.0
            c.from_residual-in_err-key_data_length.ensures.1
            (λ n. inr (_, array.1 ∙ ap Some (one.parts ∙ ap (item one.first) two.parts), inr (other.2 end.1, inl (one.read n)))),
      );
}

pub returns-clause-forward : goal.returns-clause-forward
returns-clause-forward c = record {
  shrinks = search rules;
  strictly = search rules;
  reads = λ v z stands.
      let array = c.in_ok-elements.ensures.enters v z stands in
      let one = placed (state c.next_required.new.input) (state c.uint-key_data_length.new.self) z c.next_required.new.self
      (c.in_ok-next_required.ensures.place array.0 z array.2) c.in_ok-key_data_length.ensures.forward.reads in
      let two = placed (state c.next_required-2.new.input) (state c.read-protected.new.input) z c.next_required-2.new.self
      (c.in_ok-next_required-2.ensures.place one.others z one.within) c.in_ok-protected.ensures.forward.reads in
      let other = other_read two.others (state c.read_other-other.new.input) z c.read_other-other.new.elements c.in_ok-other.other
      (c.in_ok-other.ensures.reads two.others z two.within) in
      let end = c.in_ok-end.ensures.end other.0 z other.1 in
      (end.0, (_, array.1 ∙ ap Some (one.parts ∙ ap (item one.first) two.parts), (one.read, (two.read, other.2 end.1))));
}
