-- Parts of the input. Each comes with the bytes from its first byte to the end of the input.
use Rattle.std.specs.Prelude.{◌≡◌, ◌⊎◌, ◌==◌, ◌%◌, ℕ, List, [], ◌∷◌, ◌++◌, Some, None, Bool, false, true, if◌then◌else◌}
use Rattle.std.specs.Borrow.{Bor}
use Rattle.coset.specs.Elements.{items_bytes, items_left, pairs_bytes, pairs_left}
use Rattle.coset.specs.Item.{Item, Items, Pairs}
use Rattle.coset_cbor.specs.StringChunks.{as_string}
use Rattle.coset.specs.Pulls.{pull_bytes, pull_item}
use Rattle.ffi_query.specs.declared.located.Elements.{Elements}
use Rattle.ffi_query.specs.declared.located.Entries.{Entries}
use Rattle.ffi_query.specs.declared.located.Located.{Located}
use Rattle.ffi_query.specs.declared.located.Text.{Text}
use Rattle.ffi_query.specs.Places.{string_in}

abbrev pub located_item : Located → Item
located_item l = pull_item l.item

-- r are the last bytes of b, and begin with s.
pub record AreLocated (b s r : List ℕ) : Type 0 where
  pub before : List ℕ
  pub behind : List ℕ
  pub ends : b ≡ before ++ r
  pub begins : r ≡ s ++ behind

-- The item is in b. The same for a text.
abbrev pub IsLocated : List ℕ → Located → Type 0
IsLocated b l = AreLocated b (pull_bytes l.item) l.rest.now

abbrev pub IsTextIn : List ℕ → Text → Type 0
IsTextIn b t = AreLocated b t.bytes.now t.rest.now

-- The remaining elements, and their place in b.
abbrev pub elements_left : Elements → Items
elements_left e = items_left e.members

abbrev pub AreElementsIn : List ℕ → Elements → Type 0
AreElementsIn b e = AreLocated b (items_bytes e.members) e.rest.now

-- The remaining pairs, and their place in b.
abbrev pub entries_left : Entries → Pairs
entries_left e = pairs_left e.pairs

abbrev pub AreEntriesIn : List ℕ → Entries → Type 0
AreEntriesIn b e = AreLocated b (pairs_bytes e.pairs) e.rest.now

-- The length of a head with this additional information, and of the head that the bytes begin with (RFC 8949, section
-- 3).
abbrev pub head_len_by : ℕ → ℕ
head_len_by info = if info == 24 then 2 else (if info == 25 then 3 else (if info == 26 then 5 else (if info == 27 then 9 else 1)))

abbrev pub head_len : List ℕ → ℕ
head_len [] = 0
head_len (x ∷ xs) = head_len_by (x % 32)

-- The bytes begin a text string or a byte string of indefinite length (RFC 8949, section 3.2.3).
abbrev pub opens_chunks : Bool → List ℕ → Bool
opens_chunks is_text [] = false
opens_chunks is_text (x ∷ xs) = x == (if is_text then 0x7F else 0x5F)

-- The string v of this type is encoded as b and has the content s. The bytes b end with s.
pub record IsString (is_text : Bool) (b : List ℕ) (v : Item) (s : List ℕ) : Type 0 where
  pub head : List ℕ
  pub ends : b ≡ head ++ s
  pub holds : as_string is_text v ≡ Some s

abbrev pub IsContentOf : Bool → List ℕ → Item → Bor (List ℕ) → Type 0
IsContentOf is_text b v s = IsString is_text b v s.now

-- v isn't a string of this type, or its encoding b is in chunks.
abbrev pub IsNoString : Bool → List ℕ → Item → Type 0
IsNoString is_text b v = (as_string is_text v ≡ None) ⊎ (opens_chunks is_text b ≡ true)

-- v isn't a string of either type, or its encoding b is in chunks.
abbrev pub IsNoContent : List ℕ → Item → Type 0
IsNoContent b v = (string_in v ≡ None) ⊎ (opens_chunks false b ≡ true) ⊎ (opens_chunks true b ≡ true)
