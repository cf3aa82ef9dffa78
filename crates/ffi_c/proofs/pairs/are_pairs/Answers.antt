use Rattle.std.proofs.Common.{◌∙◌, rules, sym, tests}
use Rattle.std.proofs.lemmas.Iterator.{YieldsList-from_slice}
use Rattle.std.proofs.lemmas.Iterator.Search.{all_from_yields_List}
use Rattle.std.specs.Prelude.{is_some}
use Rattle.ffi_c.specs.PairsGiven.{pair_of}
use Rattle.ffi_c.proofs.Pairing.{all_pairs}
use Rattle.ffi_c.proofs.pairs.are_pairs.Goals as goal

pub returns : goal.returns
returns c =
    let s = c.args.bytes.now in
    let ps = c.args.pairs.now in
    let found = all_from_yields_List (λ p. is_some (pair_of s p)) _ _ _ c.all.ensures.ran (YieldsList-from_slice ps cc)
    (λ x b q k. search (rules, tests)) in
    found ∙ sym (all_pairs s ps)
