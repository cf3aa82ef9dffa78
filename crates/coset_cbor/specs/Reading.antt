-- Reading from left to right, as a function on lists. It gives the value and the bytes left, or the first fault. Only
-- contracts of private functions cite this file. The function agrees with the grammar, as proofs/ proves.
use Rattle.std.specs.Prelude.{◌≡◌, ℕ, zero, suc, ◌/◌, ◌%◌, List, [], ◌∷◌, length, take, drop, Bool, true, false, not, Option, Some, None, Result, Ok, Err}
use Rattle.std.specs.Prelude.{nat_lt, ◌==◌, if◌then◌else◌, pos, negsuc}
use Rattle.std.specs.Int.{Width, w8, w16, w32, w64, from_be_bytes}
use Rattle.std.specs.Str.{is_utf8}
use Rattle.coset_cbor.specs.declared.fault.Fault.{Fault}
use Rattle.coset_cbor.specs.declared.fault.Fault.TheVariants.{End, Syntax, Simple, Deep}
use Rattle.coset_cbor.specs.declared.fault.ReadError.{ReadError}
use Rattle.coset_cbor.specs.declared.fault.ReadError.TheVariants as errors
use Rattle.coset_cbor.specs.declared.head.MajorType.{MajorType}
use Rattle.coset_cbor.specs.declared.head.MajorType.TheVariants as major_types
use Rattle.coset_cbor.specs.Heads.{Argument, HeadView}
use Rattle.coset_cbor.specs.Heads as places
use Rattle.coset_cbor.specs.declared.head.Head.{Head}
use Rattle.coset_value.specs.Item.{half, single, double, Item, integer, bytes, float, text, boolean, null, tag, array, dict}
use Rattle.coset_value.specs.View.{items_of, pairs_of}
use Rattle.coset_cbor.specs.Grammar.{joined_chunks}

infixl 10 ◌>>=◌
abbrev pub ◌>>=◌ : {A B : Type 0} → Result A Fault → (A → Result B Fault) → Result B Fault
(Ok x) >>= f = f x
(Err e) >>= f = Err e

-- The error is the fault of `read`, unless an allocation failed.
abbrev pub FailsAs : {Y : Type 0} → ReadError → Result Y Fault → Type 0
FailsAs errors.Memory read = Unit {0}
FailsAs (errors.Fault f) read = read ≡ Err f

-- The result of a function, seen through `view`, is the result of `read`, unless an allocation failed.
abbrev pub ReturnsUnlessMemory : {X Y : Type 0} → (X → Y) → Result X ReadError → Result Y Fault → Type 0
ReturnsUnlessMemory view (Ok x) read = read ≡ Ok (view x)
ReturnsUnlessMemory view (Err e) read = FailsAs e read

-- The result of a function that allocates nothing, seen through `view`, is the result of `read`.
abbrev pub Returns : {X Y : Type 0} → (X → Y) → Result X Fault → Result Y Fault → Type 0
Returns view (Ok x) read = read ≡ Ok (view x)
Returns view (Err f) read = read ≡ Err f

abbrev pub Parse : Type 0 → Type 0
Parse A = List ℕ → Result (A × List ℕ) Fault

-- The major type with a number from 0 to 7.
abbrev pub major_type_of : ℕ → MajorType
major_type_of n = if n == 0 then major_types.Unsigned else
    (if n == 1 then major_types.Negative else (if n == 2 then major_types.Bytes
    else (if n == 3 then major_types.Text else (if n == 4 then major_types.Array
    else (if n == 5 then major_types.Map else (if n == 6 then major_types.Tag else major_types.Simple))))))

-- The number of an argument, or `None` if there is none.
abbrev pub number_of : Argument → Option ℕ
number_of (places.Within n) = Some n
number_of (places.One n) = Some n
number_of (places.Two n) = Some n
number_of (places.Four n) = Some n
number_of (places.Eight n) = Some n
number_of places.Indefinite = None

-- The argument whose number is n, by the additional information.
abbrev pub argument_from : ℕ → ℕ → Argument
argument_from info n =
    if nat_lt info 24 then places.Within n else
    (if info == 24 then places.One n else
    (if info == 25 then places.Two n else
    (if info == 26 then places.Four n else
    (if info == 27 then places.Eight n else
    places.Indefinite))))

abbrev pub head_from : Head → HeadView
head_from s = record { major_type = s.major_type; argument = argument_from s.info s.number }

-- An argument of k bytes.
abbrev pub argument_at : (ℕ → Argument) → Width → ℕ → Parse Argument
argument_at place w k s = if nat_lt (length s) k then Err End else Ok (place (from_be_bytes w (take k s)), drop k s)

abbrev pub argument_by : ℕ → ℕ → Parse Argument
argument_by info left s =
    if nat_lt info 24 then Ok (places.Within info, s) else
    (if info == 24 then argument_at places.One w8 1 s else
    (if info == 25 then argument_at places.Two w16 2 s else
    (if info == 26 then argument_at places.Four w32 4 s else
    (if info == 27 then argument_at places.Eight w64 8 s else
    (if info == 31 then Ok (places.Indefinite, s) else
    Err (Syntax left))))))

unfoldable pub head_at : Parse HeadView
head_at [] = Err End
head_at (x ∷ s) = argument_by (x % 32) (suc (length s)) s >>= λ a. Ok (record { major_type = major_type_of (x / 32); argument = a.0 }, a.1)

-- ---- strings

abbrev pub is_string_content : Bool → List ℕ → Bool
is_string_content false s = true
is_string_content true s = is_utf8 s

abbrev pub unless_none : {A : Type 0} → ℕ → Option ℕ → (ℕ → Result A Fault) → Result A Fault
unless_none left None read = Err (Syntax left)
unless_none left (Some n) read = read n

-- The next n bytes, which must be UTF-8 if `is_text` is true. `left` counts the bytes from the start of the head.
unfoldable pub string_at : Bool → ℕ → ℕ → Parse (List ℕ)
string_at is_text left n s = if nat_lt (length s) n then Err End
    else (if is_string_content is_text (take n s) then Ok (take n s, drop n s) else Err (Syntax left))

abbrev pub begins_chunk : Bool → MajorType → Bool
begins_chunk is_text major_types.Unsigned = false
begins_chunk is_text major_types.Negative = false
begins_chunk is_text major_types.Bytes = not is_text
begins_chunk is_text major_types.Text = is_text
begins_chunk is_text major_types.Array = false
begins_chunk is_text major_types.Map = false
begins_chunk is_text major_types.Tag = false
begins_chunk is_text major_types.Simple = false

abbrev pub unless_indefinite : {A : Type 0} → ℕ → Argument → (ℕ → Result A Fault) → Result A Fault
unless_indefinite left a read = unless_none left (number_of a) read

-- A definite-length string of the type that `is_text` selects.
unfoldable pub chunk_at : Bool → Parse (List ℕ)
chunk_at is_text s = head_at s >>= λ h.
    if begins_chunk is_text h.0.major_type then unless_indefinite (length s) h.0.argument (λ n. string_at is_text (length s) n h.1) else Err (Syntax (length s))

-- ---- repetition

-- The break is at the start.
abbrev pub begins_break : List ℕ → Bool
begins_break [] = false
begins_break (x ∷ s) = x == 255

-- Reads n times.
unfoldable pub times_at : {A : Type 0} → Parse A → ℕ → Parse (List A)
times_at one zero s = Ok ([], s)
times_at one (suc n) s = one s >>= λ x. times_at one n x.1 >>= λ xs. Ok (x.0 ∷ xs.0, xs.1)

-- Reads up to the break. `turns` bounds the repetitions. The number of bytes is always enough.
unfoldable pub until_at : {A : Type 0} → Parse A → ℕ → Parse (List A)
until_at one zero s = Err End
until_at one (suc turns) s = if begins_break s then Ok ([], drop 1 s) else
    (one s >>= λ x. until_at one turns x.1 >>= λ xs. Ok (x.0 ∷ xs.0, xs.1))

unfoldable pub chunks_at : Bool → Parse (List ℕ)
chunks_at is_text s = until_at (chunk_at is_text) (length s) s >>= λ x. Ok (joined_chunks x.0, x.1)

abbrev pub any_string_by : Bool → ℕ → Option ℕ → Parse (List ℕ)
any_string_by is_text left None s = chunks_at is_text s
any_string_by is_text left (Some n) s = string_at is_text left n s

-- ---- enclosed items

abbrev pub pair_at : Parse Item → Parse (Item × Item)
pair_at one s = one s >>= λ k. one k.1 >>= λ v. Ok ((k.0, v.0), v.1)

abbrev pub array_by : Parse Item → Option ℕ → Parse (List Item)
array_by one None s = until_at one (length s) s
array_by one (Some n) s = if nat_lt (length s) n then Err End else times_at one n s

abbrev pub map_by : Parse Item → Option ℕ → Parse (List (Item × Item))
map_by one None s = until_at (pair_at one) (length s) s
map_by one (Some n) s = if nat_lt (length s / 2) n then Err End else times_at (pair_at one) n s

-- ---- items

abbrev pub simple_at : ℕ → Argument → Parse Item
simple_at left (places.Within n) s = if n == 20 then Ok (boolean false, s)
    else (if n == 21 then Ok (boolean true, s) else (if n == 22 then Ok (null, s) else Err (Simple left)))
simple_at left (places.One n) s = if nat_lt n 32 then Err (Syntax left) else Err (Simple left)
simple_at left (places.Two n) s = Ok (float (half n), s)
simple_at left (places.Four n) s = Ok (float (single n), s)
simple_at left (places.Eight n) s = Ok (float (double n), s)
simple_at left places.Indefinite s = Err (Syntax left)

-- Readers of enclosed items: an array's elements, a map's pairs, or a tag's item.
pub record Inside : Type 0 where
  pub items : Option ℕ → Parse (List Item)
  pub pairs : Option ℕ → Parse (List (Item × Item))
  pub one : Parse Item

unfoldable pub nothing : Inside
nothing = record { items = λ n s. Err Deep; pairs = λ n s. Err Deep; one = λ s. Err Deep }

unfoldable pub things : Parse Item → Inside
things one = record { items = array_by one; pairs = map_by one; one = one }

-- Reads an item after its head, by the major type. `left` counts the bytes from the start of the head.
abbrev pub item_by : Inside → ℕ → Argument → MajorType → Parse Item
item_by inside left a major_types.Unsigned s = unless_indefinite left a (λ n. Ok (integer (pos n), s))
item_by inside left a major_types.Negative s = unless_indefinite left a (λ n. Ok (integer (negsuc n), s))
item_by inside left a major_types.Bytes s = any_string_by false left (number_of a) s >>= λ x. Ok (bytes x.0, x.1)
item_by inside left a major_types.Text s = any_string_by true left (number_of a) s >>= λ x. Ok (text x.0, x.1)
item_by inside left a major_types.Array s = inside.items (number_of a) s >>= λ x. Ok (array (items_of x.0), x.1)
item_by inside left a major_types.Map s = inside.pairs (number_of a) s >>= λ x. Ok (dict (pairs_of x.0), x.1)
item_by inside left a major_types.Tag s = unless_indefinite left a (λ n. inside.one s >>= λ x. Ok (tag n x.0, x.1))
item_by inside left a major_types.Simple s = simple_at left a s

abbrev pub item_from : Inside → Parse Item
item_from inside s = head_at s >>= λ h. item_by inside (length s) h.0.argument h.0.major_type h.1

-- Reads an item in which arrays, maps and tags nest at most that many levels deep.
unfoldable pub item_at : ℕ → Parse Item
item_at zero s = item_from nothing s
item_at (suc d) s = item_from (things (item_at d)) s
