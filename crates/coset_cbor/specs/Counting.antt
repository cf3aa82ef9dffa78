-- The steps of a check on any bytes, even on refused ones, as a function that parallels specs/Reading. Only contracts
-- of private functions cite this file. The function agrees with the cost of an encoding, as proofs/Costs proves.
use Rattle.std.specs.Prelude.{◌≡◌, ℕ, zero, suc, ◌+◌, ◌/◌, Bool, true, false, List, length, Option, Some, None, Result, Ok, Err, nat_lt, if◌then◌else◌}
use Rattle.std.specs.Borrow.{Bor}
use Rattle.coset_value.specs.Item.{Item}
use Rattle.coset_cbor.specs.declared.fault.Fault.{Fault}
use Rattle.coset_cbor.specs.declared.head.MajorType.{MajorType}
use Rattle.coset_cbor.specs.declared.head.MajorType.TheVariants as major_types
use Rattle.coset_cbor.specs.Heads.{Argument}
use Rattle.coset_cbor.specs.Reading.{Parse, number_of, head_at, string_at, begins_chunk, chunk_at, begins_break, pair_at, item_at}
use Rattle.coset_cbor.specs.Cost.{content_cost}

-- The bytes left after reading, or the fault.
abbrev pub left_of : {A : Type 0} → Result (A × List ℕ) Fault → Result (List ℕ) Fault
left_of (Ok x) = Ok x.1
left_of (Err f) = Err f

-- The steps that follow a reading, or none if the reading failed.
abbrev pub after : {A : Type 0} → Result (A × List ℕ) Fault → (A × List ℕ → ℕ) → ℕ
after (Ok x) steps = steps x
after (Err f) steps = 0

-- The steps for an argument's number, or none if it has no number.
abbrev pub if_some : Option ℕ → (ℕ → ℕ) → ℕ
if_some None steps = 0
if_some (Some n) steps = steps n

-- The steps of a definite-length string's content.
unfoldable pub content_steps : Bool → ℕ → ℕ → List ℕ → ℕ
content_steps is_text left n s = after (string_at is_text left n s) (λ x. content_cost is_text x.0)

unfoldable pub chunk_steps : Bool → List ℕ → ℕ
chunk_steps is_text s = after (head_at s) (λ h.
    suc (if begins_chunk is_text h.0.major_type then if_some (number_of h.0.argument) (λ n. content_steps is_text (length s) n h.1) else 0))

-- The steps of reading n times.
unfoldable pub times_steps : {A : Type 0} → Parse A → (List ℕ → ℕ) → ℕ → List ℕ → ℕ
times_steps one steps zero s = 0
times_steps one steps (suc n) s = steps s + after (one s) (λ x. times_steps one steps n x.1)

-- The steps of reading up to the break, and of the break itself. `turns` bounds the repetitions.
unfoldable pub until_steps : {A : Type 0} → Parse A → (List ℕ → ℕ) → ℕ → List ℕ → ℕ
until_steps one steps zero s = 0
until_steps one steps (suc turns) s = if begins_break s then 1 else steps s + after (one s) (λ x. until_steps one steps turns x.1)

abbrev pub string_steps : Bool → ℕ → Option ℕ → List ℕ → ℕ
string_steps is_text left None s = until_steps (chunk_at is_text) (chunk_steps is_text) (length s) s
string_steps is_text left (Some n) s = content_steps is_text left n s

unfoldable pub pair_steps : Parse Item → (List ℕ → ℕ) → List ℕ → ℕ
pair_steps one steps s = steps s + after (one s) (λ k. steps k.1)

abbrev pub array_steps : Parse Item → (List ℕ → ℕ) → Option ℕ → List ℕ → ℕ
array_steps one steps None s = until_steps one steps (length s) s
array_steps one steps (Some n) s = if nat_lt (length s) n then 0 else times_steps one steps n s

abbrev pub map_steps : Parse Item → (List ℕ → ℕ) → Option ℕ → List ℕ → ℕ
map_steps one steps None s = until_steps (pair_at one) (pair_steps one steps) (length s) s
map_steps one steps (Some n) s = if nat_lt (length s / 2) n then 0 else times_steps (pair_at one) (pair_steps one steps) n s

-- The steps of enclosed items: an array's elements, a map's pairs, or a tag's item.
pub record StepsInside : Type 0 where
  pub items : Option ℕ → List ℕ → ℕ
  pub pairs : Option ℕ → List ℕ → ℕ
  pub one : List ℕ → ℕ

unfoldable pub no_steps : StepsInside
no_steps = record { items = λ n s. 0; pairs = λ n s. 0; one = λ s. 0 }

unfoldable pub steps_of : Parse Item → (List ℕ → ℕ) → StepsInside
steps_of one steps = record { items = array_steps one steps; pairs = map_steps one steps; one = steps }

-- The steps of an item after its head, by the major type. `left` counts the bytes from the start of the head.
abbrev pub body_steps : StepsInside → ℕ → Argument → MajorType → List ℕ → ℕ
body_steps inside left a major_types.Unsigned s = 0
body_steps inside left a major_types.Negative s = 0
body_steps inside left a major_types.Bytes s = string_steps false left (number_of a) s
body_steps inside left a major_types.Text s = string_steps true left (number_of a) s
body_steps inside left a major_types.Array s = inside.items (number_of a) s
body_steps inside left a major_types.Map s = inside.pairs (number_of a) s
body_steps inside left a major_types.Tag s = if_some (number_of a) (λ n. inside.one s)
body_steps inside left a major_types.Simple s = 0

abbrev pub steps_from : StepsInside → List ℕ → ℕ
steps_from inside s = after (head_at s) (λ h. suc (body_steps inside (length s) h.0.argument h.0.major_type h.1))

-- The steps of an item in which arrays, maps and tags nest at most that many levels deep.
unfoldable pub item_steps : ℕ → List ℕ → ℕ
item_steps zero s = steps_from no_steps s
item_steps (suc d) s = steps_from (steps_of (item_at d) (item_steps d)) s

-- The result of a function that skips bytes: the bytes left by `read`, or its fault.
abbrev pub SkipsAsRead : {A : Type 0} → Result (Bor (List ℕ)) Fault → Result (A × List ℕ) Fault → Type 0
SkipsAsRead (Ok rest) read = left_of read ≡ Ok rest.now
SkipsAsRead (Err f) read = left_of read ≡ Err f

-- The same for a function with a place for the fault. `rest` is what `read` leaves, if no fault was put there.
abbrev pub SkipsAsReadTo : {A : Type 0} → Option Fault → List ℕ → Result (A × List ℕ) Fault → Type 0
SkipsAsReadTo None rest read = left_of read ≡ Ok rest
SkipsAsReadTo (Some f) rest read = left_of read ≡ Err f
