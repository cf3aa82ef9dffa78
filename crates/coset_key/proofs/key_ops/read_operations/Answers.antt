use Rattle.std.proofs.Common.{map, sym, ◌∙◌, ap, subst, arith}
use Rattle.coset_codec.proofs.Walking.{not_true, not_false}
use Rattle.coset_codec.specs.Inputs.{state}
use Rattle.coset_label.specs.NameOrder.{label_cmp_total}
use Rattle.coset_label.specs.LabelData.{label_cmp}
use Rattle.coset_key.specs.KeyLaws.{names_exact}
use Rattle.coset_key.specs.Keys.{operation, operation_view}
use Rattle.coset_key.specs.Reading.{operations_view}
use Rattle.coset_key.proofs.KeySets.{Midway, none_gathered, one_more, stands_twice, is_refused, all_gathered, insert-view, contains-view}
use Rattle.coset_key.proofs.key_ops.read_operations.Goals as goal

pub loop-alloc-init : goal.loop-alloc-init
loop-alloc-init c = record {
  shrinks = omega arith;
  gathers = λ vs z within. record {
    left = vs;
    gathered =
        rw c.new-operations.ensures.empty (none_gathered label_cmp label_cmp_total names_exact operation vs);
    within = within;
  };
}

pub returns-in_err-read_operation-clause-reads : goal.returns-in_err-read_operation-clause-reads
returns-in_err-read_operation-clause-reads c = λ vs z within.
    let w = c.loop-alloc.invariant.gathers vs z within in
    is_refused label_cmp label_cmp_total names_exact operation operations_view vs (state c.loop-alloc.input) (state c.next.new.input)
    (state c.read_operation.new.input) z c.loop-alloc.elements c.next.new.self (map operation_view c.loop-alloc.operations.keys)
    c.in_err-read_operation.field-0.0 c.from_residual.result w
    (c.loop-alloc-test.ensures.nexts w.left z w.within) c.in_err-read_operation.ensures.forward.reads c.from_residual.ensures.1

pub returns-then-not-branch-clause-reads : goal.returns-then-not-branch-clause-reads
returns-then-not-branch-clause-reads c = λ vs z within.
    let w = c.loop-alloc.invariant.gathers vs z within in
    stands_twice label_cmp label_cmp_total names_exact operation operations_view vs (state c.loop-alloc.input) (state c.next.new.input)
    (state c.read_operation.new.input) z c.loop-alloc.elements c.next.new.self (map operation_view c.loop-alloc.operations.keys)
    (operation_view c.in_ok-read_operation.field-0) _ w (c.loop-alloc-test.ensures.nexts w.left z w.within) c.in_ok-read_operation.ensures.forward.reads
    (sym (contains-view operation_view label_cmp c.loop-alloc.operations.keys c.in_ok-read_operation.field-0)
    ∙ not_false _ _ c.in_ok-insert.ensures.added c.if-not-branch.true) tt

pub loop-alloc-preserved : goal.loop-alloc-preserved
loop-alloc-preserved c = record {
  shrinks =
      let read = c.in_ok-read_operation.ensures.forward.shrinks in
      let next = c.next.ensures.shrinks in
      let before = c.loop-alloc.invariant.shrinks in
      omega (arith, read, next, before);
  gathers = λ vs z within.
      let w = c.loop-alloc.invariant.gathers vs z within in
      subst (Midway label_cmp label_cmp_total names_exact operation vs z c.next.new.self (state c.read_operation.new.input))
      (sym (ap (map operation_view) c.in_ok-insert.ensures.keys
      ∙ insert-view operation_view label_cmp c.loop-alloc.operations.keys c.in_ok-read_operation.field-0))
      (one_more label_cmp label_cmp_total names_exact operation vs (state c.loop-alloc.input) (state c.next.new.input)
      (state c.read_operation.new.input) z c.loop-alloc.elements c.next.new.self (map operation_view c.loop-alloc.operations.keys)
      (operation_view c.in_ok-read_operation.field-0) w (c.loop-alloc-test.ensures.nexts w.left z w.within) c.in_ok-read_operation.ensures.forward.reads
      (sym (contains-view operation_view label_cmp c.loop-alloc.operations.keys c.in_ok-read_operation.field-0)
      ∙ not_true _ _ c.in_ok-insert.ensures.added c.if-not-branch.false));
}

pub returns-clause-reads : goal.returns-clause-reads
returns-clause-reads c = λ vs z within.
    let w = c.loop-alloc.invariant.gathers vs z within in
    all_gathered label_cmp label_cmp_total names_exact operation operations_view vs (state c.loop-alloc.input)
    (state c.next.new.input) z c.loop-alloc.elements c.next.new.self c.loop-alloc.operations w (c.loop-alloc-test.ensures.nexts w.left z w.within)
