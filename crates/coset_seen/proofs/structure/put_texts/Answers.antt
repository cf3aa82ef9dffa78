use Rattle.std.proofs.Common.{◌∙◌, [], ℕ, List, Bor, length, take, drop, ap, arith}
use Rattle.std.proofs.lemmas.List.{length-append, length-drop}
use Rattle.std.proofs.lemmas.List.Folds.{length-flat_map-take}
use Rattle.std.specs.List.{flat_map}
use Rattle.coset_seen.proofs.structure.put_texts.Goals as goal

pub split_at_mut-front-requires : goal.split_at_mut-front-requires
split_at_mut-front-requires c =
    let i = c.loop-text.text-index in
    let texts = c.args.texts.now in
    let d : Bor (List ℕ) = record { ref_ptr = (0, 0); now = [] } in
    let old = c.args.out.now in
    let front = flat_map (λ (t : Bor (List ℕ)). t.now) (take i texts) in
    let fits = length-flat_map-take (λ (t : Bor (List ℕ)). t.now) texts i d c.loop-text-test.true in
    let long = ap length c.loop-text.invariant.written ∙ length-append front (drop c.loop-text.at old) in
    let rest = length-drop c.loop-text.at old in
    omega (arith, fits, long, rest, c.in-Some.ensures, c.if-out-len.false, c.split_at_mut-rest.ensures.back_len, c.loop-text.invariant.at)
