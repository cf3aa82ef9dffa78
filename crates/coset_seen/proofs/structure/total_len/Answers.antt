use Rattle.std.proofs.Common.{[], ℕ, List, Bor, arith}
use Rattle.std.proofs.lemmas.List.Folds.{length-flat_map-take}
use Rattle.coset_seen.proofs.structure.total_len.Goals as goal

pub returns-in_default : goal.returns-in_default
returns-in_default c =
    let texts = c.args.texts.now in
    let d : Bor (List ℕ) = record { ref_ptr = (0, 0); now = [] } in
    let fits = length-flat_map-take (λ (t : Bor (List ℕ)). t.now) texts c.loop-text.text-index d c.loop-text-test.true in
    omega (arith, fits, c.loop-text.invariant, c.in_default.ensures)
