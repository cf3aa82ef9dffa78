-- The laws of the shapes of headers, protected headers and signatures, for any number of layers.
use Rattle.std.proofs.Common.{ℕ, zero, suc, refl}
use Rattle.coset_codec.specs.ShapeLaws.{Lawful, mapped_laws}
use Rattle.coset_codec.specs.SerializedLaws.{serialized_laws}
use Rattle.coset_core.specs.Headers.{HeaderView, ProtectedView, SignatureView, empty_header, is_empty_header, layered_header, protected_of, both_of}
use Rattle.coset_core.specs.Headers.{layered_protected, signature_of, elements_of, layered_signature, LAYERS, header, protected, signature}
use Rattle.coset_core.specs.HeaderUnique.{header_same}
use Rattle.coset_core.specs.HeaderSound.{header_faultless}
use Rattle.coset_core.specs.HeaderAgain.{header_again, signed_laws}

pub layered_header_laws : (k : ℕ) → Lawful HeaderView (layered_header k)
unfolding layered_header
layered_header_laws k =
    record {
      unique = λ v x y p q. header_same x y k v p q;
      again = λ v x p. let a = header_again x k v p in record { image = a.image; is_image = a.is_image; described = a.described; shallow = a.shallow };
      sound = λ v x e p f. header_faultless k v x e p f.0 f.1;
    }

pub layered_protected_laws : (k : ℕ) → Lawful ProtectedView (layered_protected k)
unfolding layered_protected
layered_protected_laws zero = record { unique = λ v x y p q. absurd p; again = λ v x p. absurd p; sound = λ v x e p f. p }
layered_protected_laws (suc k) = mapped_laws protected_of both_of (λ x. refl) _
    (serialized_laws empty_header is_empty_header (layered_header k) (layered_header_laws k))

pub layered_signature_laws : (k : ℕ) → Lawful SignatureView (layered_signature k)
layered_signature_laws k =
    mapped_laws signature_of elements_of (λ x. refl) _
    (signed_laws (layered_protected k) (layered_header k) (layered_protected_laws k) (layered_header_laws k))

-- The laws for the number of layers that decoding accepts.
pub header_laws : Lawful HeaderView header
header_laws = layered_header_laws LAYERS

pub protected_laws : Lawful ProtectedView protected
protected_laws = layered_protected_laws LAYERS

pub signature_laws : Lawful SignatureView signature
signature_laws = layered_signature_laws LAYERS
