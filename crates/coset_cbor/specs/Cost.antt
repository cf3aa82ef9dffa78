-- The steps that reading an encoding takes. Each head of an item or a chunk is one step, and so is each closing break.
-- Each byte of a text string's content is one step, because it is tested for UTF-8. The bytes of a byte string are
-- skipped. The cost of an item includes the costs of its parts.
use Rattle.std.specs.Prelude.{◌≡◌, ℕ, suc, ◌+◌, ◌⊎◌, Bool, true, false, List, [], ◌∷◌, ◌++◌, length}
use Rattle.coset_value.specs.Item.{Item, integer, bytes, float, text, boolean, null, tag, array, dict, Items, no_items, item, Pairs, no_pairs, pair}
use Rattle.coset_value.specs.Item.{items_count, pairs_count}
use Rattle.coset_cbor.specs.Grammar.{IsHeaded, IsIndefinite, EachInOrder, joined_chunks, string_type, IsDefinite, IsIntegerEncoding, IsFloatEncoding}
use Rattle.coset_cbor.specs.Grammar.{IsBoolEncoding}

-- The steps of a string's content.
abbrev pub content_cost : Bool → List ℕ → ℕ
content_cost false s = 0
content_cost true s = length s

-- The steps of chunks, each with its head.
abbrev pub chunks_cost : Bool → List (List ℕ) → ℕ
chunks_cost is_text [] = 0
chunks_cost is_text (s ∷ ss) = suc (content_cost is_text s + chunks_cost is_text ss)

-- b encodes the string s, whole or in chunks up to a break, and reading b takes k steps.
abbrev pub IsStringCost : Bool → List ℕ → List ℕ → ℕ → Type 0
IsStringCost is_text s b k = (IsDefinite is_text s b × (k ≡ suc (content_cost is_text s)))
    ⊎ ((ss : List (List ℕ)) × (c : List ℕ) × (joined_chunks ss ≡ s) × EachInOrder (IsDefinite is_text) ss c × IsIndefinite (string_type is_text) c b
    × (k ≡ 2 + chunks_cost is_text ss))

-- b is the content s after a head, or between an initial byte and a break. Reading s takes j steps, and reading b takes
-- k.
abbrev pub IsContentCost : ℕ → ℕ → List ℕ → List ℕ → ℕ → ℕ → Type 0
IsContentCost m n s b j k = (IsHeaded m n s b × (k ≡ suc j)) ⊎ (IsIndefinite m s b × (k ≡ 2 + j))

abbrev mutual
  -- b is an encoding of the item, and reading b takes k steps.
  pub IsCost : Item → List ℕ → ℕ → Type 0
  IsCost (integer n) b k = IsIntegerEncoding n b × (k ≡ 1)
  IsCost (bytes s) b k = IsStringCost false s b k
  IsCost (float x) b k = IsFloatEncoding x b × (k ≡ 1)
  IsCost (text s) b k = IsStringCost true s b k
  IsCost (boolean x) b k = IsBoolEncoding x b × (k ≡ 1)
  IsCost null b k = (b ≡ 0xF6 ∷ []) × (k ≡ 1)
  IsCost (tag t v) b k = (c : List ℕ) × (j : ℕ) × IsCost v c j × IsHeaded 6 t c b × (k ≡ suc j)
  IsCost (array vs) b k = (c : List ℕ) × (j : ℕ) × AreCosts vs c j × IsContentCost 4 (items_count vs) c b j k
  IsCost (dict ps) b k = (c : List ℕ) × (j : ℕ) × ArePairCosts ps c j × IsContentCost 5 (pairs_count ps) c b j k

  -- b encodes the items one after the other, and reading b takes k steps.
  pub AreCosts : Items → List ℕ → ℕ → Type 0
  AreCosts no_items b k = (b ≡ []) × (k ≡ 0)
  AreCosts (item v vs) b k = (c : List ℕ) × (d : List ℕ) × (i : ℕ) × (j : ℕ) × IsCost v c i × AreCosts vs d j × (b ≡ c ++ d) × (k ≡ i + j)

  -- b encodes the keys and values pair by pair, and reading b takes k steps.
  pub ArePairCosts : Pairs → List ℕ → ℕ → Type 0
  ArePairCosts no_pairs b k = (b ≡ []) × (k ≡ 0)
  ArePairCosts (pair x v ps) b k = (c : List ℕ) × (d : List ℕ) × (e : List ℕ) × (h : ℕ) × (i : ℕ) × (j : ℕ)
      × IsCost x c h × IsCost v d i × ArePairCosts ps e j × (b ≡ c ++ (d ++ e)) × (k ≡ h + (i + j))
