-- The bytes that a store keeps of a key.
use Rattle.std.specs.Prelude.{ℕ, List}
use Rattle.coset_codec.specs.Results.{Describes}
use Rattle.coset_codec.specs.ReadAgain.{IsWritten}
use Rattle.coset_label.specs.declared.ordering.CborOrdering.{CborOrdering}
use Rattle.coset_key.specs.Canonical.{IsCanonicalOf}
use Rattle.coset_key.specs.Keys.{KeyView, key}

-- The encoding of a key that was read, after its parameters are put in order.
pub record IsStored (o : CborOrdering) (bytes held : List ℕ) : Type 0 where
  pub read : KeyView
  pub ordered : KeyView
  pub is_read : Describes key bytes read
  pub is_ordered : IsCanonicalOf o read ordered
  pub is_written : IsWritten key ordered held
