use Rattle.std.proofs.Common.{◌∙◌, is_some, rules, sym, tests}
use Rattle.std.proofs.lemmas.Iterator.{YieldsList-from_slice}
use Rattle.std.proofs.lemmas.Iterator.Search.{all_from_yields_List}
use Rattle.std.proofs.lemmas.List.Folds.{list_all-map}
use Rattle.ffi_token.specs.Texts.{text_in}
use Rattle.ffi_token.specs.declared.text.Text.{Text}
use Rattle.ffi_token.proofs.text.are_texts.Goals as goal

pub returns : goal.returns
returns c =
    let all = c.args.texts.now in
    let found = all_from_yields_List (λ (t : Text). is_some (text_in t.bytes.now)) _ _ _ c.all.ensures.ran
    (YieldsList-from_slice all cc) (λ x b q h. search (rules, tests)) in
    found ∙ sym (list_all-map (λ b. is_some (text_in b)) (λ (t : Text). t.bytes.now) all)
