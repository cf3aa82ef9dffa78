use Rattle.std.proofs.Common.{◌∙◌, ap, sym}
use Rattle.cwt_verify.specs.Layers.{layer_view, protected_of}
use Rattle.cwt_verify.specs.declared.layer.Layer.{Layer}
use Rattle.cwt_verify.proofs.Opened.{protected_opened}
use Rattle.cwt_verify.proofs.layer.Layer.protected.Goals as goal

pub returns-in-Sign1 : goal.returns-in-Sign1
returns-in-Sign1 c =
    sym (protected_opened c.in-Sign1.message.protected) ∙ sym (ap (λ (l : Layer). (protected_of (layer_view l)).header) c.in-Sign1.is)

pub returns-in-Mac0 : goal.returns-in-Mac0
returns-in-Mac0 c =
    sym (protected_opened c.in-Mac0.message.protected) ∙ sym (ap (λ (l : Layer). (protected_of (layer_view l)).header) c.in-Mac0.is)

pub returns-in-Encrypt0 : goal.returns-in-Encrypt0
returns-in-Encrypt0 c =
    sym (protected_opened c.in-Encrypt0.message.protected) ∙ sym (ap (λ (l : Layer). (protected_of (layer_view l)).header) c.in-Encrypt0.is)

pub returns-in-Sign : goal.returns-in-Sign
returns-in-Sign c =
    sym (protected_opened c.in-Sign.message.protected) ∙ sym (ap (λ (l : Layer). (protected_of (layer_view l)).header) c.in-Sign.is)

pub returns-in-Mac : goal.returns-in-Mac
returns-in-Mac c =
    sym (protected_opened c.in-Mac.message.protected) ∙ sym (ap (λ (l : Layer). (protected_of (layer_view l)).header) c.in-Mac.is)

pub returns-in-Encrypt : goal.returns-in-Encrypt
returns-in-Encrypt c =
    sym (protected_opened c.in-Encrypt.message.protected) ∙ sym (ap (λ (l : Layer). (protected_of (layer_view l)).header) c.in-Encrypt.is)
