-- The algorithm and the key identifier of a plain header, and where they are in the input.
use Rattle.std.specs.Prelude.{◌≡◌, ◌≢◌, ◌++◌, ℕ, ℤ, pos, negsuc, List, Option, Some, None, Bool, true, false, IfSome, option_map, if◌then◌else◌, ⊤}
use Rattle.std.specs.Ordering.{int_eq}
use Rattle.coset.specs.Item.{Item, Pairs, no_pairs, pair, bytes, depth, integer, pairs_count, pairs_depth}
use Rattle.coset.specs.Parts.{as_integer}
use Rattle.coset.specs.Grammar.{ArePairEncodings}
use Rattle.coset.specs.Headers.{HeaderView, layered_header}
use Rattle.coset.specs.Results.{Describes}
use Rattle.coset_seen.specs.declared.header.Named.{Named}
use Rattle.coset_seen.specs.declared.header.Parameter as parameters
use Rattle.coset_seen.specs.declared.header.Parameter.TheVariants.{Algorithm, Flat, KeyId, Other}
use Rattle.coset_seen.specs.Begins.{Begins, IsAhead}
use Rattle.coset_seen.specs.Plain.{ArePlain, IsPlainValue}

-- There is a value, and it equals x.
abbrev pub is_same : {A : Type 0} → (A → A → Bool) → Option A → A → Bool
is_same eq None x = false
is_same eq (Some y) x = eq y x

-- The value of the first pair whose key passes the test.
abbrev pub first_value : (Item → Bool) → Pairs → Option Item
first_value test no_pairs = None
first_value test (pair k v ps) = if test k then Some v else first_value test ps

-- The value of the first pair whose key is the integer n.
abbrev pub value_of : ℤ → Pairs → Option Item
value_of n = first_value (λ k. is_same int_eq (as_integer k) n)

-- The parameter is that of this label and value. The value of a flat one has no item in it.
abbrev pub Says : ℤ → Item → parameters.Parameter → Type 0
Says l v (Algorithm n) = (l ≡ pos 1) × (v ≡ integer n)
Says l v (KeyId t) = (l ≡ pos 4) × (v ≡ bytes t.bytes.now)
Says l v Flat = (l ≢ pos 1) × (l ≢ pos 4) × (depth v ≡ 0)
Says l v Other = (l ≢ pos 1) × (l ≢ pos 4)

-- A key identifier is in b.
abbrev pub IsPlaced : List ℕ → parameters.Parameter → Type 0
IsPlaced b (KeyId t) = IsAhead b t
IsPlaced b p = ⊤

-- The bytes b begin with a plain value of the label l, and s follows it. The value is the parameter p.
pub record IsParameter (l : ℤ) (b : List ℕ) (p : parameters.Parameter) (s : List ℕ) : Type 0 where
  pub value : Item
  pub begins : Begins value s b
  pub is_plain : IsPlainValue l value
  pub says : Says l value p
  pub placed : IsPlaced b p

-- The names with that of one more parameter.
abbrev pub with_parameter : Named → parameters.Parameter → Named
with_parameter n (Algorithm m) = record n { algorithm = Some m }
with_parameter n (KeyId t) = record n { key_id = Some t }
with_parameter n Flat = n
with_parameter n Other = record n { is_flat = false }

-- n has the values of the pairs under the labels 1 (alg) and 4 (kid).
pub record AreNamed (ps : Pairs) (n : Named) : Type 0 where
  pub algorithm : value_of (pos 1) ps ≡ option_map integer n.algorithm
  pub key_id : value_of (pos 4) ps ≡ option_map (λ t. bytes t.bytes.now) n.key_id

-- The bytes b begin with that many plain pairs, which name n, and s follows them.
pub record BeginsPlain (count : ℕ) (b : List ℕ) (n : Named) (s : List ℕ) : Type 0 where
  pub pairs : Pairs
  pub encoding : List ℕ
  pub parts : b ≡ encoding ++ s
  pub are_encoded : ArePairEncodings pairs encoding
  pub counted : pairs_count pairs ≡ count
  pub are_plain : ArePlain (negsuc 0) pairs
  pub named : AreNamed pairs n
  pub flat : n.is_flat ≡ true → pairs_depth pairs ≡ 0
  pub placed : IfSome n.key_id (IsAhead b)

-- The bytes describe a header, within any number of layers.
abbrev pub DescribesHeader : List ℕ → Type 0
DescribesHeader b = (k : ℕ) → (x : HeaderView) × Describes (layered_header k) b x
