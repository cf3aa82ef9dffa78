-- The places in bytes to which steps lead, by the grammar of CBOR (RFC 8949, section 3).
use Rattle.std.specs.Prelude.{◌≡◌, ◌≢◌, ◌⊎◌, ◌<◌, ◌+◌, ◌*◌, ℕ, suc, List, [], ◌∷◌, ◌++◌, length, Some, None}
use Rattle.coset.specs.Item.{Item, Items, items_count}
use Rattle.coset.specs.Grammar.{AreEncodings, IsHead, IsItem}
use Rattle.coset.specs.Head.{Head}
use Rattle.coset.specs.Heads.{major_type_number}
use Rattle.coset.specs.ReadHeads.{head_number}
use Rattle.tool_fault.specs.declared.step.Step.{Step}
use Rattle.tool_fault.specs.declared.step.Step.TheVariants.{Element, Key, Value, TagContent, ByteChunk, TextChunk, Content, After}

-- An item is at the front of t, and P holds of its bytes and of it.
abbrev pub IsEncodedAtFront : (List ℕ → Item → Type 0) → List ℕ → Type 0
IsEncodedAtFront P t = (b : List ℕ) × (rest : List ℕ) × (v : Item) × (t ≡ b ++ rest) × IsItem b v × P b v

abbrev pub IsAtFront : (Item → Type 0) → List ℕ → Type 0
IsAtFront P t = IsEncodedAtFront (λ b v. P v) t

-- `count` items are at the front of b, followed by s.
pub record BeginsWithItems (b : List ℕ) (count : ℕ) (s : List ℕ) : Type 0 where
  pub items : Items
  pub encodings : List ℕ
  pub are : AreEncodings items encodings
  pub number : items_count items ≡ count
  pub parts : b ≡ encodings ++ s

-- h is a head of major type m. It announces more than i items, or has an indefinite length. Keys and values of a map
-- count one each.
abbrev pub Opening : ℕ → ℕ → List ℕ → Type 0
Opening m i h = ((n : ℕ) × IsHead m n h × (((m ≡ 4) × (i < n)) ⊎ ((m ≡ 5) × (i < 2 * n)))) ⊎ (h ≡ (32 * m + 31) ∷ [])

-- o is the head of an array (major type 4), a map (5) or an indefinite-length string (2, 3), and then i elements. The
-- head announces more than these, or has an indefinite length.
pub record Opens (m i : ℕ) (o : List ℕ) : Type 0 where
  pub head : List ℕ
  pub opening : Opening m i head
  pub members : List ℕ
  pub passes : BeginsWithItems members i []
  pub parts : o ≡ head ++ members

-- The head announces an element at index i, or has an indefinite length.
abbrev pub Announces : Head → ℕ → Type 0
Announces h i =
    (head_number h ≡ None)
    ⊎ ((n : ℕ) × (head_number h ≡ Some n)
    × (((major_type_number h.major_type ≡ 4) × (i < n)) ⊎ ((major_type_number h.major_type ≡ 5) × (i < 2 * n))))

-- b is o followed by s. P holds of o, which has n bytes.
abbrev pub Splits : (List ℕ → Type 0) → List ℕ → ℕ → List ℕ → Type 0
Splits P b n s = (o : List ℕ) × (b ≡ o ++ s) × (length o ≡ n) × P o

-- o is the head of a tag.
abbrev pub Encloses : List ℕ → Type 0
Encloses o = (t : ℕ) × IsHead 6 t o

-- o is an item, and something follows it.
abbrev pub IsFront : List ℕ → List ℕ → Type 0
IsFront s o = ((v : Item) × IsItem o v) × (s ≢ [])

-- b begins with a definite-length byte string. Its head has n bytes, and its content is s.
abbrev pub Holds : List ℕ → ℕ → List ℕ → Type 0
Holds b n s = (o : List ℕ) × (rest : List ℕ) × (b ≡ o ++ (s ++ rest)) × (length o ≡ n) × IsHead 2 (length s) o

-- From the item at the front of b, the step leads n bytes on, to the front of s.
abbrev pub StepTo : Step → List ℕ → ℕ → List ℕ → Type 0
StepTo (Element i) b n s = Splits (Opens 4 i) b n s
StepTo (Key i) b n s = Splits (Opens 5 (i * 2)) b n s
StepTo (Value i) b n s = Splits (Opens 5 (i * 2 + 1)) b n s
StepTo TagContent b n s = Splits Encloses b n s
StepTo (ByteChunk i) b n s = Splits (Opens 2 i) b n s
StepTo (TextChunk i) b n s = Splits (Opens 3 i) b n s
StepTo Content b n s = Holds b n s
StepTo After b n s = Splits (IsFront s) b n s

-- From the front of b, the steps lead n bytes on, one after another, to the front of t.
abbrev pub PathTo : List Step → List ℕ → ℕ → List ℕ → Type 0
PathTo [] b n t = (n ≡ 0) × (t ≡ b)
PathTo (step ∷ steps) b n t = (k : ℕ) × (m : ℕ) × (s : List ℕ) × StepTo step b k s × PathTo steps s m t × (n ≡ k + m)

-- ---- depth

-- The number of steps into arrays, maps, tags and indefinite-length strings. A step into the content of a byte string
-- resets it to 0.
abbrev pub levels_from : ℕ → List Step → ℕ
levels_from n [] = n
levels_from n (Content ∷ steps) = levels_from 0 steps
levels_from n (After ∷ steps) = levels_from n steps
levels_from n (step ∷ steps) = levels_from (suc n) steps

abbrev pub levels : List Step → ℕ
levels steps = levels_from 0 steps

-- The number of steps into the content of a byte string.
abbrev pub layers : List Step → ℕ
layers [] = 0
layers (Content ∷ steps) = suc (layers steps)
layers (step ∷ steps) = layers steps
