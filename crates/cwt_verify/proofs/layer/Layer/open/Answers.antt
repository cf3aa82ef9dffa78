use Rattle.std.proofs.Common.{sym, subst}
use Rattle.cwt_verify.specs.Opening.{Opens}
use Rattle.cwt_verify.specs.Layers.{layer_view}
use Rattle.cwt_verify.specs.Policy.{policy_view}
use Rattle.cwt_verify.proofs.layer.Layer.open.Goals as goal

pub returns-in-Sign1 : goal.returns-in-Sign1
returns-in-Sign1 g c =
    let k = g.K.Keys.view c.args.keys.now in
    let p = policy_view c.args.policy.now in
    subst (λ l. Opens k p (layer_view l) c.open_signed.result) (sym c.in-Sign1.is) (c.open_signed.ensures p)

pub returns-in-Mac0 : goal.returns-in-Mac0
returns-in-Mac0 g c =
    let k = g.K.Keys.view c.args.keys.now in
    let p = policy_view c.args.policy.now in
    subst (λ l. Opens k p (layer_view l) c.open_macced.result) (sym c.in-Mac0.is) (c.open_macced.ensures p)

pub returns-in-Encrypt0 : goal.returns-in-Encrypt0
returns-in-Encrypt0 g c =
    let k = g.K.Keys.view c.args.keys.now in
    let p = policy_view c.args.policy.now in
    subst (λ l. Opens k p (layer_view l) c.open_encrypted.result) (sym c.in-Encrypt0.is) (c.open_encrypted.ensures p)

pub returns-in-Sign : goal.returns-in-Sign
returns-in-Sign g c =
    let k = g.K.Keys.view c.args.keys.now in
    let p = policy_view c.args.policy.now in
    subst (λ l. Opens k p (layer_view l) c.open_signed_by.result) (sym c.in-Sign.is) c.open_signed_by.ensures

pub returns-in-Mac : goal.returns-in-Mac
returns-in-Mac g c =
    let k = g.K.Keys.view c.args.keys.now in
    let p = policy_view c.args.policy.now in
    subst (λ l. Opens k p (layer_view l) c.open_macced_for.result) (sym c.in-Mac.is) (c.open_macced_for.ensures p)

pub returns-in-Encrypt : goal.returns-in-Encrypt
returns-in-Encrypt g c =
    let k = g.K.Keys.view c.args.keys.now in
    let p = policy_view c.args.policy.now in
    subst (λ l. Opens k p (layer_view l) c.open_encrypted_for.result) (sym c.in-Encrypt.is) (c.open_encrypted_for.ensures p)
