use Rattle.std.proofs.Common.{◌∙◌, rules, sym, tests}
use Rattle.std.specs.Str.{str_eq_ignore_ascii_case}
use Rattle.std.proofs.lemmas.Iterator.{YieldsList-from_slice}
use Rattle.std.proofs.lemmas.Iterator.Search.{any_from_yields_List}
use Rattle.std.specs.Borrow.{Bor}
use Rattle.std.specs.Prelude.{List, ℕ}
use Rattle.cwt_verify.proofs.Opened.{any-map}
use Rattle.cwt_verify.proofs.types.is_one_of.Goals as goal

pub returns : goal.returns
returns c =
    let found = any_from_yields_List (λ (t : Bor (List ℕ)). str_eq_ignore_ascii_case c.args.name.now t.now) _ _ _ c.any.ensures.ran
    (YieldsList-from_slice c.args.types.now cc) (λ x b q h. search (rules, tests)) in
    found ∙ sym (any-map (λ t. str_eq_ignore_ascii_case c.args.name.now t) (λ s. s.now) c.args.types.now)
