-- The faults that errors name, at their places.
use Rattle.std.specs.Prelude.{◌≡◌, ◌⊎◌, ◌<◌, ◌<ℤ◌, ◌≤◌, ◌*◌, ◌++◌, ◌-◌, ℕ, ℤ, pos, List, [], ◌∷◌, length, codes, Option, Some, true, false, FitsSigned}
use Rattle.std.specs.Int.{w64}
use Rattle.std.specs.List.{slice_get}
use Rattle.coset.specs.CoseError.{CoseError}
use Rattle.coset.specs.CoseError.TheVariants.{DecodeFailed, DuplicateMapKey, EncodeFailed, ExtraneousData, OutOfRangeIntegerValue, UnexpectedItem}
use Rattle.coset.specs.CoseError.TheVariants.{UnregisteredIanaValue, UnregisteredIanaNonPrivateValue, OutOfMemory}
use Rattle.coset.specs.EndOfFile.{EndOfFile}
use Rattle.coset.specs.Error as decoding
use Rattle.coset.specs.Faults.{Ends, SyntaxAt, NoChunk, IsNotSupported, Nests}
use Rattle.coset.specs.Head.{Head}
use Rattle.coset.specs.Heads.{major_type_number}
use Rattle.coset.specs.Item.{Item}
use Rattle.coset.specs.Label.{Label}
use Rattle.coset.specs.Labels.{label}
use Rattle.coset.specs.LabelData.{LabelView, number}
use Rattle.coset.specs.Parts.{as_bytes, as_integer}
use Rattle.coset.specs.ReadHeads.{head_number}
use Rattle.coset_label.specs.Views.{label_view}
use Rattle.tool_fault.specs.Called.{IsCalled}
use Rattle.tool_fault.specs.Headers.{HeaderFaultIsAt}
use Rattle.tool_fault.specs.Registries.{IsUnassigned, IsUnassignedAndNotPrivate}
use Rattle.tool_fault.specs.Steps.{IsAtFront, IsEncodedAtFront, StepTo, PathTo, layers, levels}
use Rattle.tool_fault.specs.declared.step.Step.{Step}
use Rattle.tool_fault.specs.declared.step.Step.TheVariants.{Element, Key, ByteChunk, TextChunk, After}

-- ---- faults of CBOR

-- The last of the steps.
abbrev pub last_step : List Step → Option Step
last_step steps = slice_get steps (length steps - 1)

-- A string, an array or a map with this head needs more than `left` bytes after it.
abbrev pub AnnouncesMore : Head → ℕ → Type 0
AnnouncesMore h left =
    (n : ℕ) × (head_number h ≡ Some n)
    × (((2 ≤ major_type_number h.major_type) × (major_type_number h.major_type ≤ 4) × (left < n))
    ⊎ ((major_type_number h.major_type ≡ 5) × (left < 2 * n)))

-- The last step leads to a chunk of a string, and the first byte of t is neither its start nor the break.
abbrev pub BeginsNoChunk : Option Step → List ℕ → Type 0
BeginsNoChunk (Some (ByteChunk i)) t = NoChunk false t
BeginsNoChunk (Some (TextChunk i)) t = NoChunk true t
BeginsNoChunk o t = ⊥

-- Nothing well-formed begins like t.
abbrev pub IsSyntaxFault : Option Step → List ℕ → Type 0
IsSyntaxFault last t = SyntaxAt [] t ⊎ BeginsNoChunk last t

abbrev pub IsByteString : Item → Type 0
IsByteString v = (s : List ℕ) × (as_bytes v ≡ Some s)

-- Something too deep begins: the 257th array, map or tag of one item, or the 17th of nested byte strings. Each of these
-- byte strings has an item of its own as its content.
abbrev pub IsTooDeep : List Step → List ℕ → Type 0
IsTooDeep steps t = (Nests t × (levels steps ≡ 256)) ⊎ (IsAtFront IsByteString t × (layers steps ≡ 16))

-- The CBOR fault that the error names is at the front of t, the place of the steps.
abbrev pub IsMalformed : decoding.Error EndOfFile → List Step → List ℕ → Type 0
IsMalformed (decoding.TheVariants.Io x) steps t = Ends t
IsMalformed (decoding.TheVariants.Syntax i) steps t = IsSyntaxFault (last_step steps) t
IsMalformed (decoding.TheVariants.Semantic o s) steps t = IsNotSupported t
IsMalformed decoding.TheVariants.RecursionLimitExceeded steps t = IsTooDeep steps t
IsMalformed decoding.TheVariants.OutOfMemory steps t = ⊥

-- ---- labels that occur twice

-- The first step leads to an earlier element or key than the second, in the same array or map.
abbrev pub IsEarlier : Step → Step → Type 0
IsEarlier (Key i) (Key j) = i < j
IsEarlier (Element i) (Element j) = i < j
IsEarlier x y = ⊥

-- The steps lead to `other` from the front of b. `one` is an earlier element or key of the same array or map.
pub record AreTwo (b : List ℕ) (steps : List Step) (one other : List ℕ) : Type 0 where
  pub front : List Step
  pub first : Step
  pub last : Step
  pub parts : steps ≡ front ++ last ∷ []
  pub earlier : IsEarlier first last
  pub before : ℕ
  pub whole : List ℕ
  pub leads : PathTo front b before whole
  pub first_at : ℕ
  pub last_at : ℕ
  pub goes_first : StepTo first whole first_at one
  pub goes_last : StepTo last whole last_at other

-- R relates the items at the fronts of both.
abbrev pub StandTogether : (Item → Item → Type 0) → List ℕ → List ℕ → Type 0
StandTogether R one other = IsAtFront (λ v. IsAtFront (R v) other) one

-- R relates an earlier element or key to the one at the place of the steps.
abbrev pub Repeats : (Item → Item → Type 0) → List ℕ → List Step → Type 0
Repeats R b steps = (one : List ℕ) × (other : List ℕ) × AreTwo b steps one other × StandTogether R one other

-- The item is this label.
abbrev pub IsLabel : Label → Item → Type 0
IsLabel l v = label.describes v (label_view l)

abbrev pub label_is : ℤ → Item → Type 0
label_is i v = label.describes v (number i)

-- The two items are the same label.
abbrev pub SameLabel : Item → Item → Type 0
SameLabel v w = (l : LabelView) × label.describes v l × label.describes w l

-- The two items are the labels of IV and Partial IV, in either order (RFC 8152, section 3.1).
abbrev pub BothIvs : Item → Item → Type 0
BothIvs v w = (label_is (pos 5) v × label_is (pos 6) w) ⊎ (label_is (pos 6) v × label_is (pos 5) w)

-- ---- one item

-- An integer that doesn't fit a signed 64-bit number, or is negative.
abbrev pub IsOutOfRange : Item → Type 0
IsOutOfRange v = (z : ℤ) × (as_integer v ≡ Some z) × ((FitsSigned w64 z → ⊥) ⊎ (z <ℤ pos 0))

-- Errors give the name `got` to the item at the front of t.
abbrev pub BeginsCalled : List ℕ → List ℕ → Type 0
BeginsCalled got t = IsEncodedAtFront (IsCalled got) t

-- The item at the front of t has the name `got`. Otherwise `got` names a repeated label, or both IV and Partial IV, and
-- the steps lead to the second of the two.
abbrev pub IsUnexpected : List ℕ → List ℕ → List Step → List ℕ → Type 0
IsUnexpected got b steps t =
    BeginsCalled got t
    ⊎ (((got ≡ codes "repeated array entry") × Repeats SameLabel b steps) ⊎ ((got ≡ codes "IV and partial-IV specified") × Repeats BothIvs b steps))

-- ---- places

-- The fault that the error names is at the front of t. The steps lead there from the front of b.
abbrev pub FaultIsAt : CoseError → List ℕ → List Step → List ℕ → Type 0
FaultIsAt (DecodeFailed e) b steps t = IsMalformed e steps t
FaultIsAt ExtraneousData b steps t = last_step steps ≡ Some After
FaultIsAt DuplicateMapKey b steps t = Repeats SameLabel b steps
FaultIsAt OutOfRangeIntegerValue b steps t = IsAtFront IsOutOfRange t
FaultIsAt (UnexpectedItem got want) b steps t = IsUnexpected got.now b steps t
FaultIsAt UnregisteredIanaValue b steps t = IsAtFront IsUnassigned t
FaultIsAt UnregisteredIanaNonPrivateValue b steps t = IsAtFront IsUnassignedAndNotPrivate t
FaultIsAt EncodeFailed b steps t = ⊥
FaultIsAt OutOfMemory b steps t = ⊥

-- The steps lead n bytes on from the front of b. The error's fault is there, or a protected header in an
-- indefinite-length byte string has it.
abbrev pub IsPlace : CoseError → List ℕ → List Step → ℕ → Type 0
IsPlace e b steps n = (t : List ℕ) × PathTo steps b n t × (FaultIsAt e b steps t ⊎ HeaderFaultIsAt e b steps t)
