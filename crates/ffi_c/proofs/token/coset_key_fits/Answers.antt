use mir.Syntax.{w32, w64}
use mir.Val.{of_z, to_z}
use Rattle.std.proofs.Common.{◌≡◌, ◌∙◌, ℤ, rules, subst, sym}
use Rattle.std.proofs.lemmas.Int.{to_z-of_z}
use Rattle.ffi_token.specs.Fits.{ReturnsFit}
use Rattle.ffi_c.specs.Tokens.{RepliesFit, fit_status, parts_of}
use Rattle.ffi_c.proofs.Replying.{replied}
use Rattle.ffi_c.proofs.token.coset_key_fits.Goals as goal

pub returns-in-Some : goal.returns-in-Some
returns-in-Some c =
    let f = c.in-Some.form in
    let id = c.args.key_id.now in
    let iv = c.args.iv.now in
    let partial = c.args.partial_iv.now in
    let proof = c.args.proof.now in
    let old = c.args.out.now in
    let new = c.key_fits.new.out in
    let r = c.key_fits.result in
    let answers : ReturnsFit c.args.key.now (parts_of f c.args.algorithm id iv partial proof) old new r =
    subst (λ (n : ℤ). ReturnsFit c.args.key.now (parts_of f n id iv partial proof) old new r)
    (to_z-of_z w64 c.args.algorithm c.ranges.algorithm) c.key_fits.ensures in
    let status : to_z w32 (of_z w32 c.reply_fit.result) ≡ fit_status r = search rules in
    let same = sym c.in-Some.is ∙ (c.within-2.ensures ∙ (c.within-query.ensures ∙ (c.within.ensures ∙ c.form_of.ensures))) in
    replied
    (λ g. RepliesFit (ReturnsFit c.args.key.now (parts_of g c.args.algorithm id iv partial proof) old new)
    (to_z w32 (of_z w32 c.reply_fit.result)) c.reply_fit.new.len)
    _ _ f same (r, answers, status, c.reply_fit.ensures.number)
