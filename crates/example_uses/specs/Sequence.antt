-- CBOR sequences (RFC 8742).
use Rattle.std.specs.Prelude.{◌≡◌, ℕ, List, [], ◌∷◌, ◌++◌}
use Rattle.coset_value.specs.Item.{Item}
use Rattle.coset_cbor.specs.Grammar.{IsItem}

-- The bytes are encodings of these items, one after another, and nothing else.
abbrev pub IsSequence : List Item → List ℕ → Type 0
IsSequence [] s = s ≡ []
IsSequence (v ∷ vs) s = (b : List ℕ) × (rest : List ℕ) × (s ≡ b ++ rest) × IsItem b v × IsSequence vs rest
