use Rattle.std.proofs.Common.{◌∙◌, ap}
use Rattle.ffi_make.proofs.Naming.{next_labels, none_pushed, one_pushed}
use Rattle.ffi_make.proofs.labels.labels_of.Goals.{in-Some+in_ok-push, in_default}
use Rattle.ffi_make.proofs.labels.labels_of.Goals as goal

pub loop-key-preserved : goal.loop-key-preserved
loop-key-preserved c =
    let o = c.label_of.result in
    let old = c.loop-key.labels.items in
    let new = c.match-label_of.labels.items in
    next_labels c.args.pairs.now c.loop-key.key-index c.loop-key-item.result old new o c.loop-key-test.true c.loop-key-item.is c.loop-key.invariant
    c.label_of.ensures
    (elim c.match-label_of.branch [
      | in-Some+in_ok-push w ↦ one_pushed old new o w.in-Some.label (ap (λ v. v.items) w.labels-is ∙ w.in_ok-push.ensures.items) w.in-Some.is
      | in_default w ↦ none_pushed old new o (ap (λ v. v.items) w.labels-is) w.in_default.is
    ])
