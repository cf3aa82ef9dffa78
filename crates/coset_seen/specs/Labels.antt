-- The values under alg, crit and kid in a header (RFC 8152, section 3.1). The header may be invalid.
use Rattle.std.specs.Prelude.{◌≡◌, ◌++◌, ◌∷◌, ℕ, ℤ, pos, negsuc, List, Option, Some, None, Bool, true, false, IfSome, option_map, if◌then◌else◌, FitsSigned}
use Rattle.std.specs.Int.{w64}
use Rattle.std.specs.Option.{option_or}
use Rattle.std.specs.Ordering.{int_eq}
use Rattle.coset.specs.Grammar.{ArePairEncodings, IsItem}
use Rattle.coset.specs.Item.{Item, Pairs, bytes, dict, pairs_count, pairs_depth}
use Rattle.coset.specs.Parts.{as_integer}
use Rattle.coset_seen.specs.declared.forward.Ahead.{Ahead}
use Rattle.coset_seen.specs.declared.header.Named.{Named}
use Rattle.coset_seen.specs.declared.labels.Header.{Header}
use Rattle.coset_seen.specs.Begins.{Begins, IsAhead}
use Rattle.coset_seen.specs.Named.{is_same, value_of}
use Rattle.coset_seen.specs.Plain.{ArePlain}

-- The item is the integer n, in the range of `i64`.
abbrev pub IsNumber : Item → ℤ → Type 0
IsNumber v n = (as_integer v ≡ Some n) × FitsSigned w64 n

-- The item is no such integer.
abbrev pub IsNoNumber : Item → Type 0
IsNoNumber v = (n : ℤ) → IsNumber v n → ⊥

-- The algorithm that the value of alg names, if there is one. It is a number, or if t is true it isn't.
abbrev pub NamesAlgorithm : Option Item → Option ℤ → Bool → Type 0
NamesAlgorithm o (Some n) t = (w : Item) × (o ≡ Some w) × IsNumber w n
NamesAlgorithm o None true = (w : Item) × (o ≡ Some w) × IsNoNumber w
NamesAlgorithm o None false = o ≡ None

-- There is a value of alg.
abbrev pub names_algorithm : Option ℤ → Bool → Bool
names_algorithm (Some n) t = true
names_algorithm None t = t

-- The key identifier as an item.
abbrev pub key_id_item : Named → Option Item
key_id_item n = option_map (λ t. bytes t.bytes.now) n.key_id

-- The header is plain, and no value in it has an item in it.
abbrev pub IsFlat : Header → Type 0
IsFlat h = (h.is_plain ≡ true) × (h.named.is_flat ≡ true)

-- h has the values of the pairs under the labels 1 (alg), 2 (crit) and 4 (kid).
pub record Has (ps : Pairs) (h : Header) : Type 0 where
  pub algorithm : NamesAlgorithm (value_of (pos 1) ps) h.named.algorithm h.has_text
  pub critical : h.is_critical ≡ false → value_of (pos 2) ps ≡ None
  pub key_id : value_of (pos 4) ps ≡ key_id_item h.named
  pub plain : h.is_plain ≡ true → ArePlain (negsuc 0) ps × (h.has_text ≡ false)
  pub flat : IsFlat h → pairs_depth ps ≡ 0

-- ---- one more pair

-- The header has no parameters.
pub record TakesNone (plain : Bool) (h : Header) : Type 0 where
  pub algorithm : h.named.algorithm ≡ None
  pub has_text : h.has_text ≡ false
  pub is_critical : h.is_critical ≡ false
  pub key_id : h.named.key_id ≡ None
  pub is_plain : h.is_plain ≡ plain

-- The value, if the test is true.
abbrev pub value_if : Bool → Item → Option Item
value_if t v = if t then Some v else None

-- There is no number.
abbrev pub is_text : Option ℤ → Bool
is_text (Some n) = false
is_text None = true

-- The header x is h with this algorithm.
pub record TakesNumber (h : Header) (a : Option ℤ) (x : Header) : Type 0 where
  pub algorithm : x.named.algorithm ≡ a
  pub has_text : x.has_text ≡ is_text a
  pub key_id : x.named.key_id ≡ h.named.key_id
  pub is_critical : x.is_critical ≡ h.is_critical
  pub is_plain : x.is_plain ≡ h.is_plain

-- The header x is h with the value v under alg.
pub record TakesAlgorithm (h : Header) (v : Item) (x : Header) : Type 0 where
  pub algorithm : (o : Option Item) → NamesAlgorithm o h.named.algorithm h.has_text → NamesAlgorithm (option_or o (Some v)) x.named.algorithm x.has_text
  pub key_id : x.named.key_id ≡ h.named.key_id
  pub is_critical : x.is_critical ≡ h.is_critical
  pub is_plain : x.is_plain ≡ h.is_plain

-- The header x is h with the bytes t under kid.
pub record TakesKeyId (h : Header) (t : Ahead) (x : Header) : Type 0 where
  pub key_id : x.named.key_id ≡ option_or h.named.key_id (Some t)
  pub algorithm : x.named.algorithm ≡ h.named.algorithm
  pub has_text : x.has_text ≡ h.has_text
  pub is_critical : x.is_critical ≡ h.is_critical
  pub is_plain : x.is_plain ≡ h.is_plain

-- The key is the integer n.
abbrev pub is_key : ℤ → Item → Bool
is_key n k = is_same int_eq (as_integer k) n

-- The header x is h with one more pair. The bytes b begin with its value.
pub record Takes (b : List ℕ) (k v : Item) (h x : Header) : Type 0 where
  pub algorithm :
      (o : Option Item) → NamesAlgorithm o h.named.algorithm h.has_text
      → NamesAlgorithm (option_or o (value_if (is_key (pos 1) k) v)) x.named.algorithm x.has_text
  pub critical : x.is_critical ≡ false → (h.is_critical ≡ false) × (is_key (pos 2) k ≡ false)
  pub key_id : key_id_item x.named ≡ option_or (key_id_item h.named) (value_if (is_key (pos 4) k) v)
  pub placed : (c y : List ℕ) → c ≡ y ++ b → IfSome h.named.key_id (IsAhead c) → IfSome x.named.key_id (IsAhead c)
  pub is_plain : x.is_plain ≡ h.is_plain

-- The bytes b begin with a pair, and s follows it. The header x is h with this pair.
pub record GoesOn (b : List ℕ) (h x : Header) (s : List ℕ) : Type 0 where
  pub key : Item
  pub value : Item
  pub at : List ℕ
  pub begins : Begins key at b
  pub value_begins : Begins value s at
  pub takes : Takes at key value h x

-- ---- headers

-- The bytes b are the elements or pairs c, m of them, and s follows them. Between them is the break, unless the number is
-- announced.
abbrev pub EndsWith : Option ℕ → ℕ → List ℕ → List ℕ → List ℕ → Type 0
EndsWith (Some n) m c s b = (m ≡ n) × (b ≡ c ++ s)
EndsWith None m c s b = b ≡ c ++ (255 ∷ s)

-- The bytes b begin with the pairs of a map and their end. h is the header that they are, and s follows.
pub record BeginsPairs (count : Option ℕ) (b : List ℕ) (h : Header) (s : List ℕ) : Type 0 where
  pub pairs : Pairs
  pub encoding : List ℕ
  pub are_encoded : ArePairEncodings pairs encoding
  pub ends : EndsWith count (pairs_count pairs) encoding s b
  pub has : Has pairs h
  pub placed : IfSome h.named.key_id (IsAhead b)

-- The bytes b begin with a map, which is the header h, and s follows it.
pub record BeginsHeader (b : List ℕ) (h : Header) (s : List ℕ) : Type 0 where
  pub pairs : Pairs
  pub begins : Begins (dict pairs) s b
  pub has : Has pairs h
  pub placed : IfSome h.named.key_id (IsAhead b)

-- The bytes b are one map, which is the header h.
pub record IsHeader (b : List ℕ) (h : Header) : Type 0 where
  pub pairs : Pairs
  pub is_item : IsItem b (dict pairs)
  pub has : Has pairs h
  pub placed : IfSome h.named.key_id (IsAhead b)
