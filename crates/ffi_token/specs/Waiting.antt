-- The view of a layer that waits to be opened.
use Rattle.std.specs.Prelude.{◌≡◌, ◌++◌, ℕ, List, [], ◌∷◌, length}
use Rattle.coset.specs.Headers.{fields_in}
use Rattle.cwt_keys.specs.Sealed.{SealView, iv_of, key_id_of, partial_iv_of}
use Rattle.cwt_verify.specs.Policy.{number_in}
use Rattle.ffi_query.specs.declared.view.KeyIdPlace.{KeyIdPlace}
use Rattle.ffi_query.specs.declared.view.KeyIdPlace.TheVariants as places
use Rattle.ffi_token.specs.declared.layer.Layer as declared
use Rattle.ffi_token.specs.declared.layer.Waiting.{Waiting}
use Rattle.ffi_token.specs.declared.layer.Waiting.TheVariants.{Layer, OutOfMemory}

-- The header that has the key identifier, by the identifiers in the protected and in the unprotected header.
abbrev pub place_of : List ℕ → List ℕ → KeyIdPlace
place_of (b ∷ bs) u = places.Protected
place_of [] (b ∷ bs) = places.Unprotected
place_of [] [] = places.Absent

-- l has the view and the texts of a layer with the parts s.
pub record IsLayer (s : SealView) (l : declared.Layer) : Type 0 where
  pub form : l.view.form ≡ s.form
  pub algorithm : l.view.algorithm ≡ number_in (fields_in s.protected.header).alg
  pub key_id_place : l.view.key_id_place ≡ place_of (fields_in s.protected.header).key_id (fields_in s.unprotected).key_id
  pub structure_len : l.view.structure_len ≡ length s.structure
  pub proof_len : l.view.proof_len ≡ length s.proof
  pub key_id_len : l.view.key_id_len ≡ length (key_id_of s)
  pub iv_len : l.view.iv_len ≡ length (iv_of s)
  pub partial_iv_len : l.view.partial_iv_len ≡ length (partial_iv_of s)
  pub len : l.view.len ≡ length l.text.items
  pub text : l.text.items ≡ s.structure ++ (s.proof ++ (key_id_of s ++ (iv_of s ++ partial_iv_of s)))

-- The layer waits, or an allocation failed.
abbrev pub IsWaiting : SealView → Waiting → Type 0
IsWaiting s (Layer l) = IsLayer s l
IsWaiting s OutOfMemory = Unit {0}
