-- The images of headers, by the images of their parts.
use Rattle.std.proofs.Common.{◌≡◌, ℕ, zero, suc, List, [], ◌∷◌, Option, Some, None, option_map, refl, ap, ◌∙◌}
use Rattle.coset_value.specs.Item.{bytes, item}
use Rattle.coset_codec.specs.Shape.{both, images}
use Rattle.coset_codec.specs.Serialized.{content_bytes}
use Rattle.coset_core.specs.Headers.{HeaderView, ProtectedView, SignatureView, signatures_of, is_empty_header, signature_item, signatures_image, header_image}
use Rattle.coset_core.specs.Headers.{protected_bytes, layered_header, layered_protected, layered_signature}

-- The image of a header is the same for any number of layers.
pub header_image_is : (k : ℕ) (h : HeaderView) → (layered_header k).image h ≡ header_image h
unfolding layered_header
header_image_is k h = refl

-- The image of a protected header is the byte string of the bytes that represent it.
pub protected_image_is : (k : ℕ) (p : ProtectedView) → (layered_protected k).image p ≡ option_map bytes (protected_bytes p)
unfolding layered_protected layered_header
protected_image_is zero p = refl
protected_image_is (suc k) p = refl

-- The image of a signature, from the images of its elements.
pub signature_image_is : (k : ℕ) (x : SignatureView) → (layered_signature k).image x
    ≡ signature_item (option_map bytes (protected_bytes x.protected)) (header_image x.unprotected) x.signature
signature_image_is k x = rw (protected_image_is k x.protected, header_image_is k x.unprotected) refl

-- The bytes that represent a protected header depend on the image of no other header.
kept_parts : (o : Option (List ℕ)) (h : HeaderView) → content_bytes is_empty_header header_image o h ≡ content_bytes is_empty_header (λ g. header_image h) o h
kept_parts (Some b) h = refl
kept_parts None h = refl

-- The images of several signatures, one after the other.
pub images_signatures : (k : ℕ) (xs : List SignatureView) → images (layered_signature k).image xs ≡ signatures_image (signatures_of xs)
images_signatures k [] = refl
images_signatures k (x ∷ xs) =
    let first = signature_image_is k x ∙ ap (λ o. signature_item (option_map bytes o) (header_image x.unprotected) x.signature)
    (kept_parts x.protected.original x.protected.header) in
    λ i. both item (first i) (images_signatures k xs i)
