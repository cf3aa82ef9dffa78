use Rattle.std.proofs.Common.{◌∙◌, sym}
use Rattle.std.specs.Option.{option_copied}
use Rattle.ffi_query.specs.Seen.{seen_item}
use Rattle.ffi_query.proofs.Laid.{item_of, once_of, tells_of}
use Rattle.ffi_query.proofs.Lending.{borrowed_of}
use Rattle.ffi_query.proofs.borrowed.find_borrowed.Goals as goal

pub returns-clause-lent : goal.returns-clause-lent
returns-clause-lent c =
    λ i ns.
    let k = c.args.kind in
    let b = c.args.bytes.now in
    let d = option_copied c.args.detached in
    let x = c.in-Some.layout in
    let h = c.in_ok-can_borrow.ensures.valid c.in-Some.ensures c.if-not-branch.false in
    borrowed_of k i c.args.external_aad.now d ns b (seen_item h) x.seen.is_tagged c.borrowed_by.result (item_of k b x h)
    (tells_of k b x h c.one_item.ensures) (once_of k b x h d (sym c.has_both.ensures ∙ c.if-has_both.false))
    (c.borrowed_by.ensures.lent b d i ns (seen_item h) (c.texts_of_seen-texts.ensures.texts k h)) c.borrowed_by.ensures.tagged
