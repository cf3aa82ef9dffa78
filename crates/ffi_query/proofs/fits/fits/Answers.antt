use Rattle.std.proofs.Common.{◌∙◌, ap}
use Rattle.coset.specs.Pulls.{pull_item}
use Rattle.ffi_query.specs.Kinds.{is_under_some, tag_of, without_tag}
use Rattle.ffi_query.proofs.Fitting.{fits_encrypt0, fits_mac0, fits_sign1}
use Rattle.ffi_query.proofs.fits.fits.Goals as goal

pub returns-in-Sign1 : goal.returns-in-Sign1
returns-in-Sign1 c =
    λ v same under found.
    let is = c.in-Sign1.is in
    fits_sign1 c.args.kind c.in-Sign1.form v (pull_item c.args.item) c.args.is_tagged c.with_proof.result is
    (same ∙ ap (λ j. without_tag (tag_of j) v) is) (under ∙ ap (λ j. is_under_some (tag_of j) v) is) c.with_proof.ensures found

pub returns-in-Mac0 : goal.returns-in-Mac0
returns-in-Mac0 c =
    λ v same under found.
    let is = c.in-Mac0.is in
    fits_mac0 c.args.kind c.in-Mac0.form v (pull_item c.args.item) c.args.is_tagged c.with_proof-in-Mac0.result is
    (same ∙ ap (λ j. without_tag (tag_of j) v) is) (under ∙ ap (λ j. is_under_some (tag_of j) v) is) c.with_proof-in-Mac0.ensures found

pub returns-in-Encrypt0 : goal.returns-in-Encrypt0
returns-in-Encrypt0 c =
    λ v same under found.
    let is = c.in-Encrypt0.is in
    fits_encrypt0 c.args.kind c.in-Encrypt0.form v (pull_item c.args.item) c.args.is_tagged c.without_proof.result is
    (same ∙ ap (λ j. without_tag (tag_of j) v) is) (under ∙ ap (λ j. is_under_some (tag_of j) v) is) c.without_proof.ensures found
