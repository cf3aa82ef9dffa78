-- The shortest encoding of a value (RFC 8949, section 4.2.1). The keys of a map keep the value's own order. Each float
-- keeps its own width, which is part of the value.
use Rattle.std.specs.Prelude.{◌≡◌, ◌≤◌, ℕ, List, ◌++◌, length}
use Rattle.coset_value.specs.Item.{Item}
use Rattle.coset_cbor.specs.Definite.{IsDefiniteEncoding}

-- b is a definite encoding of v, and none is shorter.
pub record IsShortest (b : List ℕ) (v : Item) : Type 0 where
  pub definite : IsDefiniteEncoding v b
  pub least : (c : List ℕ) → IsDefiniteEncoding v c → length b ≤ length c

-- new is old, followed by the shortest encoding of v.
pub record AppendsShortest (old new : List ℕ) (v : Item) : Type 0 where
  pub encoding : List ℕ
  pub is_shortest : IsShortest encoding v
  pub parts : new ≡ old ++ encoding
