-- Keys of a set, found by their identifier.
use Rattle.std.specs.Prelude.{◌≡◌, ◌≢◌, ◌==◌, ◌⊎◌, ℕ, List, [], ◌∷◌, Option, Some, None, Result, Err}
use Rattle.std.specs.List.{filter, find}
use Rattle.std.specs.Cmp.Lexicographic.{pointwise}
use Rattle.coset_codec.specs.Results.{Describes}
use Rattle.coset_label.specs.declared.ordering.CborOrdering.{CborOrdering}
use Rattle.coset_key.specs.Canonical.{IsCanonicalOf}
use Rattle.coset_key.specs.Keys.{KeyView, key_set}
use Rattle.coset_key.specs.declared.key.CoseKey.{CoseKey}
use Rattle.example_uses.specs.declared.cipher.Refused.{Refused}
use Rattle.example_uses.specs.declared.cipher.Refused.TheVariants.{Rejected}

-- The first key with this identifier.
abbrev pub first_with : List ℕ → List KeyView → Option KeyView
first_with key_id = find (λ k. pointwise ◌==◌ k.key_id key_id)

-- The keys with this identifier, in order.
abbrev pub keys_with : List ℕ → List CoseKey → List CoseKey
keys_with key_id = filter (λ k. pointwise ◌==◌ k.key_id.items key_id)

-- The result of trying keys in order, by the results for each of them. A rejected key is followed by the next one.
-- Without a next one, the result is `Rejected`.
abbrev pub TriesInOrder : {T : Type 0} → (CoseKey → Result T Refused → Type 0) → List CoseKey → Result T Refused → Type 0
TriesInOrder Returns [] r = r ≡ Err Rejected
TriesInOrder Returns (k ∷ ks) r = (Returns k r × (r ≢ Err Rejected)) ⊎ (Returns k (Err Rejected) × TriesInOrder Returns ks r)

-- The bytes are a set of keys, and the result is its first key with this identifier. c is that key with its parameters
-- in order.
abbrev pub IsKeyOf : CborOrdering → List ℕ → List ℕ → Option KeyView → Type 0
IsKeyOf o bytes key_id None = (s : List KeyView) × Describes key_set bytes s × (first_with key_id s ≡ None)
IsKeyOf o bytes key_id (Some c) = (s : List KeyView) × (k : KeyView) × Describes key_set bytes s × (first_with key_id s ≡ Some k) × IsCanonicalOf o k c
