-- A structure determines its context and its parts, because they can be read back from it.
use Rattle.std.proofs.Common.{◌≡◌, ℕ, List, [], ◌∷◌, Some, None, Bool, true, false, cond, eqb, refl, sym, ap, ◌∙◌}
use Rattle.std.specs.Prelude.{sum}
use Rattle.coset_value.specs.Item.{Item, Items, no_items, item, array, bytes, text}
use Rattle.coset_sign.specs.Countersigned.{countersign_text}
use Rattle.coset_sign.specs.SignatureStructure.{context_text}
use Rattle.coset_core.specs.Structure.{byte_strings_and}
use Rattle.coset_sign.specs.declared.signature.SignatureContext.{SignatureContext}
use Rattle.coset_sign.specs.declared.signature.SignatureContext.TheVariants as signatures
use Rattle.coset_msg.specs.EncStructure.{enc_text}
use Rattle.coset_msg.specs.MacStructure.{mac_text}
use Rattle.coset_recipient.specs.AnyStructure.{AnyStructure, signed, authenticated, encrypted, countersigned, structure_of}
use Rattle.coset_msg.specs.declared.enc_structure.EncryptionContext.{EncryptionContext}
use Rattle.coset_msg.specs.declared.enc_structure.EncryptionContext.TheVariants as encryptions
use Rattle.coset_msg.specs.declared.mac_structure.MacContext.{MacContext}
use Rattle.coset_msg.specs.declared.mac_structure.MacContext.TheVariants as macs

-- All twelve contexts, and their texts.
data Context : Type 0 where
  of_signature : SignatureContext → Context
  of_mac : MacContext → Context
  of_encryption : EncryptionContext → Context
  of_countersignature : Bool → Context

abbrev text_of : Context → List ℕ
text_of (of_signature c) = context_text c
text_of (of_mac c) = mac_text c
text_of (of_encryption c) = enc_text c
text_of (of_countersignature b) = countersign_text b

-- The sums of their texts tell the contexts apart.
abbrev is_sum : List ℕ → Context → Context → Context
is_sum t c d = cond (eqb (sum t) (sum (text_of c))) c d

abbrev context_of : List ℕ → Context
context_of t =
    is_sum t (of_signature signatures.CoseSignature)
    (is_sum t (of_signature signatures.CoseSign1)
    (is_sum t (of_signature signatures.CounterSignature)
    (is_sum t (of_mac macs.CoseMac)
    (is_sum t (of_mac macs.CoseMac0)
    (is_sum t (of_encryption encryptions.CoseEncrypt)
    (is_sum t (of_encryption encryptions.CoseEncrypt0)
    (is_sum t (of_encryption encryptions.EncRecipient)
    (is_sum t (of_encryption encryptions.MacRecipient)
    (is_sum t (of_encryption encryptions.RecRecipient)
    (is_sum t (of_countersignature true) (of_countersignature false)))))))))))

context_again : (c : Context) → context_of (text_of c) ≡ c
context_again (of_signature signatures.CoseSignature) = refl
context_again (of_signature signatures.CoseSign1) = refl
context_again (of_signature signatures.CounterSignature) = refl
context_again (of_mac macs.CoseMac) = refl
context_again (of_mac macs.CoseMac0) = refl
context_again (of_encryption encryptions.CoseEncrypt) = refl
context_again (of_encryption encryptions.CoseEncrypt0) = refl
context_again (of_encryption encryptions.EncRecipient) = refl
context_again (of_encryption encryptions.MacRecipient) = refl
context_again (of_encryption encryptions.RecRecipient) = refl
context_again (of_countersignature true) = refl
context_again (of_countersignature false) = refl

-- The byte strings of a structure, and the byte strings in the list at its end.
abbrev strings_in : Items → List (List ℕ)
strings_in (item (bytes s) vs) = s ∷ strings_in vs
strings_in vs = []

abbrev others_in : Items → List (List ℕ)
others_in (item (bytes s) vs) = others_in vs
others_in (item (array ws) vs) = strings_in ws
others_in vs = []

strings-again : (ss : List (List ℕ)) → strings_in (byte_strings_and ss no_items) ≡ ss
strings-again [] = refl
strings-again (s ∷ ss) = ap (λ (x : List (List ℕ)). s ∷ x) (strings-again ss)

-- The context with these parts.
abbrev from_parts : Context → List (List ℕ) → List (List ℕ) → AnyStructure
from_parts (of_signature c) (p ∷ a ∷ l ∷ []) os = signed c p None a l
from_parts (of_signature c) (p ∷ s ∷ a ∷ l ∷ ps) os = signed c p (Some s) a l
from_parts (of_mac c) (p ∷ a ∷ l ∷ ps) os = authenticated c p a l
from_parts (of_encryption c) (p ∷ a ∷ ps) os = encrypted c p a
from_parts (of_countersignature true) (p ∷ s ∷ a ∷ l ∷ ps) os = countersigned p (Some s) a l os
from_parts (of_countersignature false) (p ∷ a ∷ l ∷ ps) os = countersigned p None a l os
from_parts c ps os = encrypted encryptions.CoseEncrypt [] []

abbrev read_back : Item → AnyStructure
read_back (array (item (text t) vs)) = from_parts (context_of t) (strings_in vs) (others_in vs)
read_back v = encrypted encryptions.CoseEncrypt [] []

-- Reading a structure back returns its context and parts.
round_trip : (x : AnyStructure) → read_back (structure_of x) ≡ x
round_trip (signed c p None a l) = ap (λ (d : Context). from_parts d (p ∷ a ∷ l ∷ []) []) (context_again (of_signature c))
round_trip (signed c p (Some s) a l) = ap (λ (d : Context). from_parts d (p ∷ s ∷ a ∷ l ∷ []) []) (context_again (of_signature c))
round_trip (authenticated c p a l) = ap (λ (d : Context). from_parts d (p ∷ a ∷ l ∷ []) []) (context_again (of_mac c))
round_trip (encrypted c p a) = ap (λ (d : Context). from_parts d (p ∷ a ∷ []) []) (context_again (of_encryption c))
round_trip (countersigned p None a l os) = ap (λ (d : Context). from_parts d (p ∷ a ∷ l ∷ []) (strings_in (byte_strings_and os no_items)))
    (context_again (of_countersignature false)) ∙ ap (λ xs. countersigned p None a l xs) (strings-again os)
round_trip (countersigned p (Some s) a l os) = ap (λ (d : Context). from_parts d (p ∷ s ∷ a ∷ l ∷ []) (strings_in (byte_strings_and os no_items)))
    (context_again (of_countersignature true)) ∙ ap (λ xs. countersigned p (Some s) a l xs) (strings-again os)

-- Therefore equal structures have the same context and parts.
pub same_structured : (x y : AnyStructure) → structure_of x ≡ structure_of y → x ≡ y
same_structured x y e = sym (round_trip x) ∙ (ap read_back e ∙ round_trip y)
