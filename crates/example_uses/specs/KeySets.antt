-- The bytes that a store keeps of a set of keys.
use Rattle.std.specs.Prelude.{ℕ, List}
use Rattle.coset_codec.specs.Results.{Describes}
use Rattle.coset_codec.specs.Lists.{EachWith}
use Rattle.coset_codec.specs.ReadAgain.{IsWritten}
use Rattle.coset_label.specs.declared.ordering.CborOrdering.{CborOrdering}
use Rattle.coset_key.specs.Canonical.{IsCanonicalOf}
use Rattle.coset_key.specs.Keys.{KeyView, key, key_set}

-- The encoding of a key, after its parameters are put in order.
pub record IsHeldOf (o : CborOrdering) (k : KeyView) (held : List ℕ) : Type 0 where
  pub ordered : KeyView
  pub is_ordered : IsCanonicalOf o k ordered
  pub is_written : IsWritten key ordered held

-- The encodings of the keys of a set that was read, one by one, after the parameters of each are put in order.
pub record AreStored (o : CborOrdering) (bytes : List ℕ) (held : List (List ℕ)) : Type 0 where
  pub read : List KeyView
  pub is_read : Describes key_set bytes read
  pub each : EachWith (IsHeldOf o) read held

-- The bytes are a set of keys.
abbrev pub IsKeySet : List ℕ → Type 0
IsKeySet bytes = (ks : List KeyView) × Describes key_set bytes ks
