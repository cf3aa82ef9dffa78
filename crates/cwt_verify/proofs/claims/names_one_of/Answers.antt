use Rattle.std.proofs.Common.{◌∙◌, map, rules, sym, tests}
use Rattle.std.specs.Prelude.{string_bytes}
use Rattle.std.proofs.lemmas.Iterator.{YieldsList-from_slice}
use Rattle.std.proofs.lemmas.Iterator.Search.{any_from_yields_List}
use Rattle.cwt_verify.specs.Claims.{is_name}
use Rattle.cwt_verify.proofs.Opened.{any-map}
use Rattle.cwt_verify.proofs.claims.names_one_of.Goals as goal

pub returns : goal.returns
returns c =
    let names = map (λ s. s.now) c.args.names.now in
    let found = any_from_yields_List (λ s. is_name names (string_bytes s)) _ _ _ c.any.ensures.ran (YieldsList-from_slice c.args.audience.now cc)
    (λ x b q h. search (rules, tests)) in
    found ∙ sym (any-map (is_name names) string_bytes c.args.audience.now)
