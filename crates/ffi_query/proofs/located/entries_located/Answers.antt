use Rattle.std.proofs.Common.{◌∙◌, ap, drop, subst, sym}
use Rattle.coset.specs.Elements.{pairs_bytes}
use Rattle.coset.specs.Pulls.{pull_bytes}
use Rattle.ffi_query.specs.Located.{AreLocated, head_len}
use Rattle.ffi_query.proofs.Locating.{located_held}
use Rattle.ffi_query.proofs.located.entries_located.Goals as goal

pub returns-in-Some-clause-place : goal.returns-in-Some-clause-place
returns-in-Some-clause-place c =
    λ b l.
    let s = pairs_bytes c.in-Some.pairs in
    let r = c.args.map.rest.now in
    let is = c.after-rest.ensures ∙ ap (λ k. drop k r) (c.head_len.ensures ∙ ap head_len c.slice.ensures.bytes) in
    subst (AreLocated b s) (sym is) (located_held 5 _ b s (pull_bytes c.args.map.item) r l c.in-Some.ensures.bytes)
