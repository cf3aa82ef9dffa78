use Rattle.std.proofs.Common.{◌∙◌, ◌-◌, ap, length, subst, sym}
use Rattle.coset.specs.Pulls.{pull_bytes}
use Rattle.ffi_query.specs.Located.{AreLocated}
use Rattle.ffi_query.proofs.Locating.{located_end}
use Rattle.ffi_query.proofs.located.untagged_located.Goals as goal

pub returns-in-Some-clause-place : goal.returns-in-Some-clause-place
returns-in-Some-clause-place c =
    λ b l.
    let s = pull_bytes c.in-Some.inner in
    let h = c.in-Some.ensures.bytes in
    let size =
    c.saturating_sub-head.ensures
    ∙ (ap (λ y. length y - length c.slice-in-Some.result.now) c.slice.ensures.bytes
    ∙ ap (λ y. length (pull_bytes c.args.whole.item) - length y) c.slice-in-Some.ensures.bytes) in
    subst (AreLocated b s) (sym c.after-rest.ensures)
    (located_end b (pull_bytes c.args.whole.item) h.head s c.args.whole.rest.now c.saturating_sub-head.result h.parts size l)
