-- Views of messages with one more signature.
use Rattle.std.proofs.Common.{◌≡◌, [], ◌∷◌, ◌++◌, map, Vec, Global, ap, ◌∙◌}
use Rattle.std.proofs.lemmas.List.{map_push}
use Rattle.coset_core.specs.Headers.{SignatureView}
use Rattle.coset_core.specs.Views.{signature_view}
use Rattle.coset_core.specs.declared.signature.CoseSignature.{CoseSignature}
use Rattle.coset_sign.specs.Sign.{sign_view, push_signature}
use Rattle.coset_sign.specs.declared.sign.CoseSign.{CoseSign}

-- Pushing one more signature.
pub signature_pushed :
    (m : CoseSign) (all : Vec CoseSignature Global) (s : CoseSignature) (x : SignatureView) → all.items ≡ m.signatures.items ++ s ∷ [] → signature_view s ≡ x
    → sign_view (record m { signatures = all }) ≡ push_signature x (sign_view m)
signature_pushed m all s x pushed view =
    ap (λ ss. record (sign_view m) { signatures = ss }) (ap (map signature_view) pushed ∙ map_push signature_view m.signatures.items s)
    ∙ ap (λ y. push_signature y (sign_view m)) view
