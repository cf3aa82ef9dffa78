use Rattle.std.proofs.Common.{ℕ, Some, Ok, ap, ◌∙◌, inl, inr, arith}
use Rattle.coset_value.specs.Item.{item}
use Rattle.coset_codec.specs.Inputs.{state}
use Rattle.coset_codec.proofs.Entered.{moves_on}
use Rattle.coset_codec.proofs.Placed.{placed, passed_on}
use Rattle.coset_core.specs.Messages.{with_headers}
use Rattle.coset_core.proofs.Messages.{others_faulty}
use Rattle.coset_core.proofs.PassedOn.{no_success}
use Rattle.coset_core.proofs.headers.read_with_headers.Goals as goal

pub returns-in_err-second : goal.returns-in_err-second
returns-in_err-second g c = record {
  forward = record {
    shrinks = omega (
      arith,
      c.in_ok-elements.ensures.shrinks,
      c.in_ok-next_required.ensures.shrinks,
      c.fill_protected_header-first.ensures.shrinks,
      c.in_ok-next_required-2.ensures.shrinks,
      c.fill_unprotected_header-second.ensures.shrinks,
      c.in_ok-others.ensures.shrinks,
    );
    strictly = no_success c.from_residual-in_err-second.result c.in_err-second.field-0.0 _ c.from_residual-in_err-second.ensures.1;
    reads = λ v z stands.
        let array = c.in_ok-elements.ensures.enters v z stands in
        let one = placed (state c.next_required.new.input) (state c.fill_protected_header-first.new.input) z c.next_required.new.self
        (c.in_ok-next_required.ensures.place array.0 z array.2) c.fill_protected_header-first.ensures.fills in
        let two = placed (state c.next_required-2.new.input) (state c.fill_unprotected_header-second.new.input) z c.next_required-2.new.self
        (c.in_ok-next_required-2.ensures.place one.others z one.within) c.in_err-second.ensures.fills in
        let more = c.in_ok-others.ensures.reads two.others z two.within in (
          more.0,
          passed_on (with_headers g.P.DecodeElements.elements) _ v c.from_residual-in_err-second.result c.in_err-second.field-0.0
              c.from_residual-in_err-second.ensures.1
              (λ n. inr (
                _,
                array.1 ∙ ap Some (one.parts ∙ ap (item one.first) two.parts),
                inr (g.P.DecodeElements.fits two.others _ more.1, inr (inl (two.read n))),
              )),
        );
  };
}

pub returns-in_err-first : goal.returns-in_err-first
returns-in_err-first g c = record {
  forward = record {
    shrinks = omega (
      arith,
      c.in_ok-elements.ensures.shrinks,
      c.in_ok-next_required.ensures.shrinks,
      c.fill_protected_header-first.ensures.shrinks,
      c.in_ok-next_required-2.ensures.shrinks,
      c.fill_unprotected_header-second.ensures.shrinks,
      c.in_ok-others.ensures.shrinks,
    );
    strictly = no_success c.from_residual-in_err-first.result c.in_err-first.field-0.0 _ c.from_residual-in_err-first.ensures.1;
    reads = λ v z stands.
        let array = c.in_ok-elements.ensures.enters v z stands in
        let one = placed (state c.next_required.new.input) (state c.fill_protected_header-first.new.input) z c.next_required.new.self
        (c.in_ok-next_required.ensures.place array.0 z array.2) c.in_err-first.ensures.fills in
        let two = placed (state c.next_required-2.new.input) (state c.fill_unprotected_header-second.new.input) z c.next_required-2.new.self
        (c.in_ok-next_required-2.ensures.place one.others z one.within) c.in_ok-second.ensures.fills in
        let more = c.in_ok-others.ensures.reads two.others z two.within in (
          more.0,
          passed_on (with_headers g.P.DecodeElements.elements) _ v c.from_residual-in_err-first.result c.in_err-first.field-0.0
              c.from_residual-in_err-first.ensures.1
              (λ n. inr (
                _,
                array.1 ∙ ap Some (one.parts ∙ ap (item one.first) two.parts),
                inr (g.P.DecodeElements.fits two.others _ more.1, inl (one.read n)),
              )),
        );
  };
}

pub returns-in_err-elements : goal.returns-in_err-elements
returns-in_err-elements g c = record {
  forward = record {
    shrinks = c.in_err-elements.ensures.shrinks;
    strictly = no_success c.from_residual.result c.in_err-elements.field-0.0 _ c.from_residual.ensures.1;
    reads = λ v z stands.
        let array = c.in_err-elements.ensures.enters v z stands in (
          array.0,
          passed_on (with_headers g.P.DecodeElements.elements) _ v c.from_residual.result c.in_err-elements.field-0.0
              c.from_residual.ensures.1
              (λ n. inl (array.1, array.2)),
        );
  };
}

pub returns-in_err-next_required : goal.returns-in_err-next_required
returns-in_err-next_required g c = record {
  forward = record {
    shrinks = omega (arith, c.in_ok-elements.ensures.shrinks, c.in_err-next_required.ensures.shrinks);
    strictly = no_success c.from_residual-in_err-next_required.result c.in_err-next_required.field-0.0 _ c.from_residual-in_err-next_required.ensures.1;
    reads = λ v z stands.
        let array = c.in_ok-elements.ensures.enters v z stands in
        let none = c.in_err-next_required.ensures.place array.0 z array.2 in (
          none.1,
          passed_on (with_headers g.P.DecodeElements.elements) _ v c.from_residual-in_err-next_required.result c.in_err-next_required.field-0.0
              c.from_residual-in_err-next_required.ensures.1
              (λ n. inr (_, array.1 ∙ ap Some none.0, inl (tt, none.2.0))),
        );
  };
}

pub returns-in_err-next_required-2 : goal.returns-in_err-next_required-2
returns-in_err-next_required-2 g c = record {
  forward = record {
    shrinks = omega (
      arith,
      c.in_ok-elements.ensures.shrinks,
      c.in_ok-next_required.ensures.shrinks,
      c.fill_protected_header-first.ensures.shrinks,
      c.in_err-next_required-2.ensures.shrinks,
    );
    strictly = no_success c.from_residual-in_err-next_required-2.result c.in_err-next_required-2.field-0.0 _ c.from_residual-in_err-next_required-2.ensures.1;
    reads = λ v z stands.
        let array = c.in_ok-elements.ensures.enters v z stands in
        let one = placed (state c.next_required.new.input) (state c.fill_protected_header-first.new.input) z c.next_required.new.self
        (c.in_ok-next_required.ensures.place array.0 z array.2) c.fill_protected_header-first.ensures.fills in
        let none = c.in_err-next_required-2.ensures.place one.others z one.within in (
          none.1,
          passed_on (with_headers g.P.DecodeElements.elements) _ v c.from_residual-in_err-next_required-2.result c.in_err-next_required-2.field-0.0
              c.from_residual-in_err-next_required-2.ensures.1
              (λ n. inr (_, array.1 ∙ ap Some (one.parts ∙ ap (item one.first) none.0), inl (tt, none.2.0))),
        );
  };
}

pub returns-in_err-others : goal.returns-in_err-others
returns-in_err-others g c = record {
  forward = record {
    shrinks = omega (
      arith,
      c.in_ok-elements.ensures.shrinks,
      c.in_ok-next_required.ensures.shrinks,
      c.fill_protected_header-first.ensures.shrinks,
      c.in_ok-next_required-2.ensures.shrinks,
      c.fill_unprotected_header-second.ensures.shrinks,
      c.in_err-others.ensures.shrinks,
    );
    strictly = no_success c.from_residual-in_err-others.result c.in_err-others.field-0.0 _ c.from_residual-in_err-others.ensures.1;
    reads = λ v z stands.
        let array = c.in_ok-elements.ensures.enters v z stands in
        let one = placed (state c.next_required.new.input) (state c.fill_protected_header-first.new.input) z c.next_required.new.self
        (c.in_ok-next_required.ensures.place array.0 z array.2) c.fill_protected_header-first.ensures.fills in
        let two = placed (state c.next_required-2.new.input) (state c.fill_unprotected_header-second.new.input) z c.next_required-2.new.self
        (c.in_ok-next_required-2.ensures.place one.others z one.within) c.fill_unprotected_header-second.ensures.fills in
        let more = c.in_err-others.ensures.reads two.others z two.within in (
          more.0,
          passed_on (with_headers g.P.DecodeElements.elements) _ v c.from_residual-in_err-others.result c.in_err-others.field-0.0
              c.from_residual-in_err-others.ensures.1
              (λ n. inr (
                _,
                array.1 ∙ ap Some (one.parts ∙ ap (item one.first) two.parts),
                others_faulty g.P.DecodeElements.elements one.first two.first two.others _ (more.1 n),
              )),
        );
  };
}

pub returns : goal.returns
returns g c = record {
  forward = record {
    shrinks = omega (
      arith,
      c.in_ok-elements.ensures.shrinks,
      c.in_ok-next_required.ensures.shrinks,
      c.fill_protected_header-first.ensures.shrinks,
      c.in_ok-next_required-2.ensures.shrinks,
      c.fill_unprotected_header-second.ensures.shrinks,
      c.in_ok-others.ensures.shrinks,
    );
    strictly = moves_on {T = ℕ} {E = ℕ} (Ok 0) (state c.args.input.now) (state c.enter_array.new.self) _ c.in_ok-elements.ensures.strictly
        (omega (
          arith,
          c.in_ok-next_required.ensures.shrinks,
          c.fill_protected_header-first.ensures.shrinks,
          c.in_ok-next_required-2.ensures.shrinks,
          c.fill_unprotected_header-second.ensures.shrinks,
          c.in_ok-others.ensures.shrinks,
        ));
    reads = λ v z stands.
        let array = c.in_ok-elements.ensures.enters v z stands in
        let one = placed (state c.next_required.new.input) (state c.fill_protected_header-first.new.input) z c.next_required.new.self
        (c.in_ok-next_required.ensures.place array.0 z array.2) c.in_ok-first.ensures.fills in
        let two = placed (state c.next_required-2.new.input) (state c.fill_unprotected_header-second.new.input) z c.next_required-2.new.self
        (c.in_ok-next_required-2.ensures.place one.others z one.within) c.in_ok-second.ensures.fills in
        let more = c.in_ok-others.ensures.reads two.others z two.within in (
          more.0,
          (_, array.1 ∙ ap Some (one.parts ∙ ap (item one.first) two.parts), (one.read, (two.read, more.1))),
        );
  };
}
