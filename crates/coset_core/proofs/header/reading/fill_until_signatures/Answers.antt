use Rattle.std.proofs.Common.{refl, ◌∙◌, arith}
use Rattle.coset_codec.specs.Inputs.{state}
use Rattle.coset_codec.proofs.Inputs.{pairs_fewer, pairs_smaller}
use Rattle.coset_label.specs.Views.{label_view}
use Rattle.coset_core.specs.FieldViews.{fields_view}
use Rattle.coset_core.proofs.Filling.{at_held, at_end, at_key, on_value, at_value, stops}
use Rattle.coset_core.proofs.Putting.{of_version}
use Rattle.coset_core.proofs.header.reading.fill_until_signatures.Goals as goal

pub returns-in_err-label-clause-fills : goal.returns-in_err-label-clause-fills
returns-in_err-label-clause-fills c = λ all ps o z walks within.
    let w = c.loop-label.invariant.fills all ps o z walks within in
    stops all o (fields_view c.loop-label.header) (state c.next_key.new.input) z c.next_key.new.self c.from_residual.result c.in_err-label.field-0.0
    c.from_residual.ensures.1
    (at_key all o (fields_view c.loop-label.header) (state c.loop-label.input)
    (state c.next_key.new.input) z c.loop-label.pairs c.next_key.new.self c.in_err-label.field-0.0 w (c.in_err-label.ensures.nexts w.left z w.within))

pub returns-in-Signatures-clause-fills : goal.returns-in-Signatures-clause-fills
returns-in-Signatures-clause-fills c = λ all ps o z walks within.
    let w = c.loop-label.invariant.fills all ps o z walks within in
    let next = rw c.in-Some.is at c.in_ok-label.ensures.nexts in
    at_held c.in-Signatures.version all o (fields_view c.loop-label.header) (state c.loop-label.input)
    (state c.next_key.new.input) z c.loop-label.pairs c.next_key.new.self c.in-Some.label w (next w.left z w.within)
    (of_version (label_view c.in-Some.label) c.in-Signatures.version c.in-Signatures.ensures)

pub loop-label-preserved : goal.loop-label-preserved
loop-label-preserved c = record {
  one_iv = c.in_ok-set_parameter-in-Simple.ensures.one_iv;
  others = c.in_ok-set_parameter-in-Simple.ensures.others ∙ c.loop-label.invariant.others;
  shrinks =
      let taken = c.in_ok-set_parameter-in-Simple.ensures.shrinks in
      let next = c.in_ok-label.ensures.shrinks in
      let before = c.loop-label.invariant.shrinks in
      omega (arith, taken, next, before);
  size =
      let shrinks = c.in_ok-set_parameter-in-Simple.ensures.shrinks in
      let taken = pairs_smaller c.next_key.new.self (state c.next_key.new.input) (state c.set_parameter.new.input) shrinks in
      let next = c.in_ok-label.ensures.size in
      let before = c.loop-label.invariant.size in
      omega (arith, taken, next, before);
  turns =
      let shrinks = c.in_ok-set_parameter-in-Simple.ensures.shrinks in
      let taken = pairs_fewer c.next_key.new.self (state c.next_key.new.input) (state c.set_parameter.new.input) shrinks in
      let some = rw c.in-Some.is at c.in_ok-label.ensures.turns in
      let next = some refl in
      let before = c.loop-label.invariant.turns in
      omega (arith, taken, next, before);
  fills = λ all ps o z walks within.
      let w = c.loop-label.invariant.fills all ps o z walks within in
      let next = rw c.in-Some.is at c.in_ok-label.ensures.nexts in
      on_value all o (fields_view c.loop-label.header) (fields_view c.set_parameter.new.header) (state c.loop-label.input) (state c.next_key.new.input)
      (state c.set_parameter.new.input) z c.loop-label.pairs c.next_key.new.self
      c.in-Some.label w (next w.left z w.within) (c.in_ok-set_parameter-in-Simple.ensures.takes o);
}

pub returns-in_err-set_parameter-in-Simple-clause-fills : goal.returns-in_err-set_parameter-in-Simple-clause-fills
returns-in_err-set_parameter-in-Simple-clause-fills c = λ all ps o z walks within.
    let w = c.loop-label.invariant.fills all ps o z walks within in
    let next = rw c.in-Some.is at c.in_ok-label.ensures.nexts in
    stops all o (fields_view c.set_parameter.new.header) (state c.set_parameter.new.input) z c.next_key.new.self
    c.from_residual-in_err-set_parameter-in-Simple.result
    c.in_err-set_parameter-in-Simple.field-0.0
    c.from_residual-in_err-set_parameter-in-Simple.ensures.1
    (at_value all o (fields_view c.loop-label.header) (fields_view c.set_parameter.new.header) (state c.loop-label.input) (state c.next_key.new.input)
    (state c.set_parameter.new.input) z c.loop-label.pairs c.next_key.new.self
    c.in-Some.label c.in_err-set_parameter-in-Simple.field-0.0 w (next w.left z w.within) c.in_err-set_parameter-in-Simple.ensures.kept
    (c.in_err-set_parameter-in-Simple.ensures.refused o))

pub returns-clause-fills : goal.returns-clause-fills
returns-clause-fills c = λ all ps o z walks within.
    let w = c.loop-label.invariant.fills all ps o z walks within in
    let next = rw c.in_default.is at c.in_ok-label.ensures.nexts in
    at_end all o (fields_view c.loop-label.header) (state c.loop-label.input) (state c.next_key.new.input) z c.loop-label.pairs c.next_key.new.self w
    (next w.left z w.within)
