use Rattle.std.proofs.Common.{◌∙◌, ap}
use Rattle.coset.specs.Pulls.{pull_bytes, pull_item}
use Rattle.ffi_query.specs.Kinds.{is_under_some, without_tag}
use Rattle.ffi_query.proofs.Finding.{is_found}
use Rattle.ffi_query.proofs.Locating.{whole_located}
use Rattle.ffi_query.proofs.found.found_in.Goals as goal

pub returns-clause-item : goal.returns-clause-item
returns-clause-item c = c.without_tag_located-is_tagged.ensures.item ∙ ap (λ o. without_tag o (pull_item c.args.item)) c.tag.ensures

pub returns-clause-tag : goal.returns-clause-tag
returns-clause-tag c = c.without_tag_located-is_tagged.ensures.tag ∙ ap (λ o. is_under_some o (pull_item c.args.item)) c.tag.ensures

pub returns-clause-found : goal.returns-clause-found
returns-clause-found c =
    λ only same is.
    let b = c.args.bytes.now in
    let taken = c.without_tag_located-is_tagged.ensures in
    is_found c.args.kind b (pull_item c.args.item) c.tag.result _ c.tag.ensures is only taken.item taken.tag
    (taken.place b (whole_located b (pull_bytes c.args.item) same))
