use Rattle.std.proofs.Common.{◌∙◌, refl, subst, sym}
use Rattle.std.specs.Option.{option_copied}
use Rattle.ffi_query.specs.Kinds.{TellsTagOf, tag_of}
use Rattle.ffi_query.specs.Located.{located_item}
use Rattle.ffi_query.specs.View.{HasNoView, IsMessageView}
use Rattle.ffi_query.proofs.Viewed.{viewed}
use Rattle.ffi_query.proofs.view.view_of.Goals as goal

pub returns-then-is_given_twice : goal.returns-then-is_given_twice
returns-then-is_given_twice c =
    λ b f. (located_item c.args.found.now.item, f.is_item, sym c.is_given_twice.ensures ∙ c.if-is_given_twice.true, refl)

pub returns-in-Ok-Some : goal.returns-in-Ok-Some
returns-in-Ok-Some c =
    λ b f.
    let k = c.args.kind in
    let i = c.args.index in
    let aad = c.args.external_aad.now in
    let d = option_copied c.args.detached in
    let ns = c.args.known.now in
    let v = located_item c.args.found.now.item in
    let t = c.in-Ok-Some.copies in
    let says = rw c.in-Ok-Some.field-0-is at c.in-Ok-Some.ensures.copies in
    let tag = rw c.in-Ok-Some.field-0-is at c.in-Ok-Some.ensures.tag in
    viewed k b c.args.out.now c.put_copies.new.out (IsMessageView k i aad d ns b) (HasNoView k i aad d ns) v t.view t.text.items c.put_copies.result
    f.is_item (says, subst (TellsTagOf (tag_of k) b) (sym tag) f.is_tagged, sym c.is_given_twice.ensures ∙ c.if-is_given_twice.false) c.put_copies.ensures

pub returns-in-Ok-None : goal.returns-in-Ok-None
returns-in-Ok-None c =
    λ b f.
    let none = rw c.in-Ok-None.field-0-is at c.in-Ok-None.ensures.copies in
    let once = sym c.is_given_twice.ensures ∙ c.if-is_given_twice.false in
    (located_item c.args.found.now.item, f.is_item, (once, none), refl)
