-- Items at the front of bytes (RFC 8949, section 3).
use Rattle.std.specs.Prelude.{◌≡◌, ◌+◌, ◌*◌, ℕ, List, ◌∷◌, ◌++◌, Option, Some, None}
use Rattle.coset.specs.Item.{Item}
use Rattle.coset.specs.Grammar.{IsEncoding, IsHeaded}
use Rattle.coset_seen.specs.declared.forward.Ahead.{Ahead}

-- The bytes b begin with an encoding of the item v, and s follows it.
abbrev pub Begins : Item → List ℕ → List ℕ → Type 0
Begins v s b = (c : List ℕ) × IsEncoding v c × (b ≡ c ++ s)

-- The bytes b end with those of t, and then with what is behind t.
pub record IsAhead (b : List ℕ) (t : Ahead) : Type 0 where
  pub before : List ℕ
  pub parts : b ≡ before ++ (t.bytes.now ++ t.behind.now)

-- The bytes b begin with a head of major type m, and s follows it. The head announces that many elements, or an indefinite
-- length (RFC 8949, section 3.2.2).
abbrev pub Opens : ℕ → Option ℕ → List ℕ → List ℕ → Type 0
Opens m (Some n) s b = IsHeaded m n s b
Opens m None s b = b ≡ (32 * m + 31) ∷ s

-- After the last element, the bytes b begin with the end of its array or map, and s follows it.
abbrev pub Closes : Option ℕ → List ℕ → List ℕ → Type 0
Closes (Some n) b s = s ≡ b
Closes None b s = b ≡ 255 ∷ s
