use Rattle.std.proofs.Common.{inl}
use Rattle.coset_codec.proofs.Placed.{passed_on}
use Rattle.coset_label.specs.NameOrder.{label_cmp_total}
use Rattle.coset_label.specs.LabelData.{label_cmp}
use Rattle.coset_key.specs.KeyLaws.{names_exact}
use Rattle.coset_key.specs.Keys.{key_ops, operation, operation_view}
use Rattle.coset_key.specs.Reading.{operations_view}
use Rattle.coset_key.proofs.KeySets.{set_refused, set_read, set_empty, no-keys, some-keys}
use Rattle.coset_key.proofs.key_ops.read_key_ops.Goals as goal

pub returns-in_err-elements-clause-reads : goal.returns-in_err-elements-clause-reads
unfolding key_ops
returns-in_err-elements-clause-reads c = λ v z stands.
    let here = c.in_err-elements.ensures.enters v z stands in (
      here.0,
      passed_on key_ops operations_view v c.from_residual.result c.in_err-elements.field-0.0 c.from_residual.ensures.1
          (λ n. inl (inl (inl (here.1, here.2)))),
    )

pub returns-in_err-operations-clause-reads : goal.returns-in_err-operations-clause-reads
unfolding key_ops
returns-in_err-operations-clause-reads c = λ v z stands.
    let here = c.in_ok-elements.ensures.enters v z stands in
    let read = c.in_err-operations.ensures.reads here.0 z here.2 in (
      c.finish.ensures.passes read.0.0 z read.0.1,
      passed_on key_ops operations_view v c.from_residual-in_err-operations.result c.in_err-operations.field-0.0 c.from_residual-in_err-operations.ensures.1
          (set_refused label_cmp label_cmp_total names_exact operation operations_view v here.0 c.in_err-operations.field-0.0 here.1 read.1),
    )

pub returns-then-is_empty-clause-reads : goal.returns-then-is_empty-clause-reads
unfolding key_ops
returns-then-is_empty-clause-reads c = λ v z stands.
    let here = c.in_ok-elements.ensures.enters v z stands in
    let read = c.in_ok-operations.ensures.reads here.0 z here.2 in (
      c.finish.ensures.passes read.0.0 z read.0.1,
      λ n. set_empty label_cmp label_cmp_total names_exact operation operations_view v here.0 c.in_ok-operations.operations _ here.1 read.1
          (no-keys operation_view c.in_ok-operations.operations.keys (c.is_empty.ensures.0 c.if-is_empty.true)) tt,
    )

pub returns-clause-reads : goal.returns-clause-reads
unfolding key_ops
returns-clause-reads c = λ v z stands.
    let here = c.in_ok-elements.ensures.enters v z stands in
    let read = c.in_ok-operations.ensures.reads here.0 z here.2 in (
      c.finish.ensures.passes read.0.0 z read.0.1,
      set_read label_cmp label_cmp_total names_exact operation operations_view v here.0 c.in_ok-operations.operations here.1 read.1
          (some-keys operation_view c.in_ok-operations.operations.keys _ c.is_empty.ensures.1 c.if-is_empty.false),
    )
