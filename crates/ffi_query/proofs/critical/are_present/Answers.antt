use Rattle.std.proofs.Common.{◌≡◌, pos, false, get_or, of_z, to_z, w64, rules, subst}
use Rattle.coset.specs.Pulls.{pull_item}
use Rattle.coset.specs.View.{value_item}
use Rattle.ffi_query.specs.Critical.{IsAbsent}
use Rattle.ffi_query.proofs.Known.{each_more}
use Rattle.ffi_query.proofs.critical.are_present.Goals as goal

pub loop-label-preserved : goal.loop-label-preserved
loop-label-preserved c =
    let ns = c.args.known.now in
    let i = c.loop-label.label-index in
    let n = get_or ns i (pos 0) in
    let absent = IsAbsent c.args.kind (pull_item c.args.item) (value_item c.args.labels.now) in
    let same : to_z w64 (of_z w64 n) ≡ n = search rules in
    let found : absent (to_z w64 (of_z w64 n)) false = subst (absent (to_z w64 (of_z w64 n))) c.if-branch.false c.in_ok-is_absent.ensures.absent in
    each_more (λ m. absent m false) ns i (pos 0) c.loop-label-test.true c.loop-label.invariant (subst (λ m. absent m false) same found)
