use Rattle.std.proofs.Common.{◌≡◌, ◌∙◌, ap, get_or, map, sym}
use Rattle.std.specs.Option.{option_copied}
use Rattle.ffi_token.proofs.Texts.{none_more, one_more}
use Rattle.ffi_token.proofs.text.names.Goals as goal
use Rattle.ffi_token.proofs.text.names.Goals.{in-Some+in_ok-push, in_default}

pub loop-text-preserved : goal.loop-text-preserved
loop-text-preserved c =
    let ts = c.args.texts.now in
    let i = c.loop-text.text-index in
    elim c.match-text_in.branch [
      | in-Some+in_ok-push w ↦
          ap (map (λ s. s.now)) (ap (λ v. v.items) w.names-is ∙ w.in_ok-push.ensures.items)
          ∙ one_more ts i _ c.loop-text.names.items w.in-Some.name c.loop-text-test.true
          (ap option_copied (sym w.in-Some.is) ∙ c.text_in.ensures) c.loop-text.invariant
      | in_default w ↦
          ap (λ v. map (λ s. s.now) v.items) w.names-is
          ∙ none_more ts i _ c.loop-text.names.items c.loop-text-test.true (ap option_copied (sym w.in_default.is) ∙ c.text_in.ensures) c.loop-text.invariant
    ]
