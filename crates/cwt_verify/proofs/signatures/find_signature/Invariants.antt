use Rattle.std.proofs.Common.{◌≡◌, ◌++◌, map}
use Rattle.std.specs.Vec.Iter.{into_iter_items}
use Rattle.coset.specs.Views.{protected_view, signature_view}
use Rattle.cwt_verify.specs.Policy.{policy_view}
use Rattle.cwt_verify.specs.Signatures.{RefusesSignatures}
use Rattle.cwt_verify.proofs.signatures.find_signature.Given as goal

-- Each of the signatures so far is refused.
abbrev pub invariant-loop-signature : goal.invariant-loop-signature
invariant-loop-signature g l =
    (l.yielded ++ into_iter_items l.signature-iterator ≡ into_iter_items l.initial.signature-iterator)
    × RefusesSignatures (g.K.Keys.view l.keys) (policy_view l.policy) (protected_view l.message.protected) l.content (map signature_view l.yielded) l.refused
