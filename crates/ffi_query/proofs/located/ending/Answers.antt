use Rattle.std.proofs.Common.{◌∙◌, ◌-◌, ap, length, subst, sym}
use Rattle.coset.specs.Pulls.{pull_bytes}
use Rattle.ffi_query.specs.Located.{AreLocated}
use Rattle.ffi_query.proofs.Locating.{located_end}
use Rattle.ffi_query.proofs.located.ending.Goals as goal

pub returns-clause-place : goal.returns-clause-place
returns-clause-place c =
    λ b t l x.
    let s = c.args.content.now in
    let size = c.saturating_sub-before.ensures ∙ ap (λ y. length y - length s) c.slice.ensures.bytes in
    subst (AreLocated b s) (sym c.after.ensures)
    (located_end b (pull_bytes c.args.string.item) x.head s c.args.string.rest.now c.saturating_sub-before.result x.ends size l)
