use Rattle.std.proofs.Common.{◌≡◌, filter, length, take, ap, ◌∙◌, arith}
use Rattle.std.proofs.Math.Seq.{take-length}
use Rattle.coset_codec.proofs.write.map.count_true.Goals as goal

pub returns : goal.returns
returns c =
    let all : c.loop-b.b-index ≡ length c.args.there.now = omega (arith, c.loop-b.auto.b-index-end, c.loop-b-test.false) in
    c.loop-b.invariant.0 ∙ ap (λ n. length (filter (λ b. b) (take n c.args.there.now))) all
    ∙ ap (λ bs. length (filter (λ b. b) bs)) (take-length c.args.there.now)
