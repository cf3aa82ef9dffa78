use Rattle.std.proofs.Common.{rules, tests}
use Rattle.std.proofs.lemmas.Iterator.{YieldsList-from_slice}
use Rattle.std.proofs.lemmas.Iterator.Search.{all_from_yields_List}
use Rattle.ffi_token.specs.Opened.{has_text}
use Rattle.ffi_token.proofs.opened.OpenedLayers.have_texts.Goals as goal

pub returns : goal.returns
returns c =
    let k = c.args.self.now in
    all_from_yields_List (has_text k.bytes.now) _ _ _ c.all.ensures.ran
    (YieldsList-from_slice k.layers.now cc) (λ x b q h. search (rules, tests))
