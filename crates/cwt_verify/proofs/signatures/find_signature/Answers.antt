use Rattle.std.proofs.Common.{◌≡◌, ◌∙◌, ◌++◌, ◌∷◌, List, [], ap, map, subst, sym}
use Rattle.std.proofs.lemmas.List.{map-append}
use Rattle.std.specs.Vec.Iter.{into_iter_items}
use Rattle.coset.specs.CoseSignature.{CoseSignature}
use Rattle.coset.specs.Views.{protected_view, signature_view}
use Rattle.cwt_keys.specs.Keys.{name_view}
use Rattle.cwt_verify.specs.Policy.{policy_view}
use Rattle.cwt_verify.specs.Signatures.{IsFirst}
use Rattle.cwt_verify.proofs.Trying.{found, moved, one_more, stopped}
use Rattle.cwt_verify.proofs.signatures.find_signature.Goals as goal

pub returns-in-Ok : goal.returns-in-Ok
returns-in-Ok g c =
    let k = g.K.Keys.view c.args.keys.now in
    let p = policy_view c.args.policy.now in
    let body = protected_view c.args.message.now.protected in
    let before = c.loop-signature.yielded in
    let are = sym (ap (λ (ss : List CoseSignature). before ++ ss) (sym c.in-Some.ensures.steps.0) ∙ c.loop-signature.invariant.0) in
    let all : into_iter_items c.into_iter-signature-iterator.result ≡ c.args.signatures.items = c.into_iter-signature-iterator.ensures.into_iter_gives.0 in
    let same = ap (map signature_view) (sym all) in
    let n = name_view c.in-Ok.accepted.1 in
    let ss = map signature_view c.args.signatures.items in
    subst (λ v. IsFirst k p body c.args.content.now ss v n) (sym c.in-Ok.ensures.0)
    (found k p body c.args.content.now ss _ before _ c.in-Some.signature n c.loop-signature.refused are same c.loop-signature.invariant.1
    c.in-Ok.ensures.1)

pub returns-then-is_message : goal.returns-then-is_message
returns-then-is_message g c =
    let k = g.K.Keys.view c.args.keys.now in
    let p = policy_view c.args.policy.now in
    let body = protected_view c.args.message.now.protected in
    let before = c.loop-signature.yielded in
    let are = sym (ap (λ (ss : List CoseSignature). before ++ ss) (sym c.in-Some.ensures.steps.0) ∙ c.loop-signature.invariant.0) in
    let all : into_iter_items c.into_iter-signature-iterator.result ≡ c.args.signatures.items = c.into_iter-signature-iterator.ensures.into_iter_gives.0 in
    let same = ap (map signature_view) (sym all) in
    stopped k p body c.args.content.now (map signature_view c.args.signatures.items) _ before _ c.in-Some.signature c.in-Err.error are same
    (sym c.is_message.ensures ∙ c.if-is_message.true) c.in-Err.ensures

pub loop-signature-preserved : goal.loop-signature-preserved
loop-signature-preserved g c =
    let k = g.K.Keys.view c.args.keys.now in
    let p = policy_view c.args.policy.now in
    let body = protected_view c.args.message.now.protected in
    let ss = c.loop-signature.yielded in
    let s = c.in-Some.signature in (
      moved ss s _ _ _ c.loop-signature.invariant.0 c.in-Some.ensures.steps.0,
      one_more k p body c.args.content.now (map signature_view ss) (map signature_view (ss ++ s ∷ [])) (signature_view s) c.loop-signature.refused
          c.in-Err.error (map-append signature_view ss (s ∷ [])) c.loop-signature.invariant.1 (sym c.is_message.ensures ∙ c.if-is_message.false)
          c.in-Err.ensures,
    )
