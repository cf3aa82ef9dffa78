use Rattle.std.proofs.Common.{◌==◌, ◌∙◌, rules, sym, tests}
use Rattle.std.specs.Borrow.{Bor}
use Rattle.std.specs.Cmp.Lexicographic.{pointwise}
use Rattle.std.specs.Prelude.{List, ℕ}
use Rattle.std.proofs.lemmas.Iterator.{YieldsList-from_slice}
use Rattle.std.proofs.lemmas.Iterator.Search.{any_from_yields_List}
use Rattle.cwt_verify.proofs.Opened.{any-map}
use Rattle.cwt_verify.proofs.claims.is_name.Goals as goal

pub returns : goal.returns
returns c =
    let found = any_from_yields_List (λ (n : Bor (List ℕ)). pointwise ◌==◌ c.args.named.now n.now) _ _ _ c.any.ensures.ran
    (YieldsList-from_slice c.args.names.now cc) (λ x b q h. search (rules, tests)) in
    found ∙ sym (any-map (λ n. pointwise ◌==◌ c.args.named.now n) (λ s. s.now) c.args.names.now)
