-- Definite encodings of an item: no level has an indefinite length (RFC 8949, section 4.2.1, its second rule).
use Rattle.std.specs.Prelude.{◌≡◌, ℕ, true, false, List, [], ◌∷◌, ◌++◌}
use Rattle.coset_value.specs.Item.{Item, integer, bytes, float, text, boolean, null, tag, array, dict, Items, no_items, item, Pairs, no_pairs, pair}
use Rattle.coset_value.specs.Item.{items_count, pairs_count}
use Rattle.coset_cbor.specs.Grammar.{IsHeaded, IsDefinite, IsIntegerEncoding, IsFloatEncoding, IsBoolEncoding}

abbrev mutual
  -- b is a definite encoding of v.
  pub IsDefiniteEncoding : Item → List ℕ → Type 0
  IsDefiniteEncoding (integer n) b = IsIntegerEncoding n b
  IsDefiniteEncoding (bytes s) b = IsDefinite false s b
  IsDefiniteEncoding (float x) b = IsFloatEncoding x b
  IsDefiniteEncoding (text s) b = IsDefinite true s b
  IsDefiniteEncoding (boolean x) b = IsBoolEncoding x b
  IsDefiniteEncoding null b = b ≡ 0xF6 ∷ []
  IsDefiniteEncoding (tag t v) b = (c : List ℕ) × IsDefiniteEncoding v c × IsHeaded 6 t c b
  IsDefiniteEncoding (array vs) b = (c : List ℕ) × AreDefiniteEncodings vs c × IsHeaded 4 (items_count vs) c b
  IsDefiniteEncoding (dict ps) b = (c : List ℕ) × AreDefinitePairs ps c × IsHeaded 5 (pairs_count ps) c b

  -- b consists of definite encodings of the items, one after the other.
  pub AreDefiniteEncodings : Items → List ℕ → Type 0
  AreDefiniteEncodings no_items b = b ≡ []
  AreDefiniteEncodings (item v vs) b = (c : List ℕ) × (d : List ℕ) × IsDefiniteEncoding v c × AreDefiniteEncodings vs d × (b ≡ c ++ d)

  -- b consists of definite encodings of the keys and values, pair by pair.
  pub AreDefinitePairs : Pairs → List ℕ → Type 0
  AreDefinitePairs no_pairs b = b ≡ []
  AreDefinitePairs (pair k v ps) b = (c : List ℕ) × (d : List ℕ) × (e : List ℕ) × IsDefiniteEncoding k c × IsDefiniteEncoding v d × AreDefinitePairs ps e
      × (b ≡ c ++ (d ++ e))
