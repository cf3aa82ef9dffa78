use Rattle.std.proofs.Common.{take, sym, subst, arith}
use Rattle.coset_codec.proofs.Encoding.{one_taken}
use Rattle.cwt_verify.specs.Pairs.{AreEncoded}
use Rattle.cwt_verify.proofs.Among.{one-encoded}
use Rattle.cwt_verify.proofs.pairs.encodings.Goals as goal

pub loop-pair-preserved : goal.loop-pair-preserved
loop-pair-preserved c =
    let all = c.args.pairs.now in
    let i = c.loop-pair.pair-index in
    subst (λ ps. AreEncoded ps c.insert.new.self) (sym (one_taken all i c.pair-item.result (omega arith) c.pair-item.is))
    (one-encoded (take i all) c.pair-item.result c.loop-pair.found c.insert.new.self c.in_ok-encoded.field-0 c.loop-pair.invariant
    c.in_ok-encoded.ensures.encoded
    c.in_ok-insert.ensures.keys)
