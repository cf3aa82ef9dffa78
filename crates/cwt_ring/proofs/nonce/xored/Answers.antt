use Rattle.std.proofs.Common.{◌∙◌, ◌<◌, ◌≤◌, arith, bit_xor, get_or, length, take}
use Rattle.std.proofs.lemmas.List.{get_or-take, length-take-le}
use Rattle.std.proofs.lemmas.List.FromFn.{fill_by_all}
use Rattle.cwt_ring.specs.Nonce.{padded}
use Rattle.cwt_ring.proofs.nonce.xored.Goals as goal

pub returns : goal.returns
returns c =
    let n = length c.args.base_iv.now in
    let bytes = c.loop-place.bytes in
    let room : n ≤ length bytes = omega (arith, c.loop-place.invariant.0, c.requires.within) in
    fill_by_all (λ k. bit_xor (get_or c.args.base_iv.now k 0) (padded c.args.partial_iv.now n k)) (take n bytes) n 0 (length-take-le n bytes room)
    (λ k lt. let reached : k < c.loop-place.place = omega (arith, lt, c.loop-place-test.false) in
    get_or-take n bytes k 0 lt ∙ c.loop-place.invariant.1 k reached)
