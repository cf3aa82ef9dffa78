-- How bytes that are not one item are refused, and items that describe no value.
use Rattle.std.proofs.Common.{◌≡◌, ◌⊎◌, ◌<◌, ℕ, List, [], ◌++◌, Some, Result, Ok, Err, length, take, drop, refl, sym, ap, subst, ◌∙◌, inl, inr}
use Rattle.std.proofs.Common.{append-nil, arith}
use Rattle.std.proofs.Common.{take-append-drop, length-take-le}
use Rattle.coset_value.specs.Item.{Item}
use Rattle.coset_cbor.specs.Prefixes.{AreBytes, HasNoItem}
use Rattle.coset_cbor.specs.Grammar.{IsItem}
use Rattle.coset_cbor.specs.ReadErrors.{IsMemory, FaultIn}
use Rattle.coset_cbor.specs.declared.de.EndOfFile.{EndOfFile}
use Rattle.coset_cbor.specs.declared.de.Error.{Error}
use Rattle.coset_codec.specs.declared.error.CoseError.{CoseError}
use Rattle.coset_codec.specs.declared.error.CoseError.TheVariants.{DecodeFailed, DuplicateMapKey, EncodeFailed, ExtraneousData, OutOfRangeIntegerValue}
use Rattle.coset_codec.specs.declared.error.CoseError.TheVariants.{UnexpectedItem, UnregisteredIanaValue, UnregisteredIanaNonPrivateValue, OutOfMemory}
use Rattle.coset_codec.specs.Shape.{Shape, tagged}
use Rattle.coset_codec.specs.Results.{AllocatesForItems, DescribesNothing, IsOnlyItem, IsRefused, IsWholeFault, Reads, ReadsSlice, RefusesItem, SliceFaults}
use Rattle.coset_codec.specs.Errors.{UnlessMemory}
use Rattle.coset_codec.specs.Refusals.{IsNoTag, NamesByteFault, NamesExtraneous, NamesUnexpected, NamesWholeFault}
use Rattle.coset_codec.proofs.Whole.{OneItem, one_of}

-- An error is `OutOfMemory`, or it is not.
memory_or_not : (e : CoseError) → (e ≡ OutOfMemory) ⊎ (e ≡ OutOfMemory → ⊥)
memory_or_not (DecodeFailed x) = inr (λ q. cc)
memory_or_not DuplicateMapKey = inr (λ q. cc)
memory_or_not EncodeFailed = inr (λ q. cc)
memory_or_not ExtraneousData = inr (λ q. cc)
memory_or_not OutOfRangeIntegerValue = inr (λ q. cc)
memory_or_not (UnexpectedItem got want) = inr (λ q. cc)
memory_or_not UnregisteredIanaValue = inr (λ q. cc)
memory_or_not UnregisteredIanaNonPrivateValue = inr (λ q. cc)
memory_or_not OutOfMemory = inl refl

-- If a fault is in bytes, no prefix of them is an item.
abbrev pub NoItemAtFault : Type 0
NoItemAtFault = (s : List ℕ) (e : Error EndOfFile) → AreBytes s → (IsMemory e → ⊥) → FaultIn s e → HasNoItem s

split : (n : ℕ) (s : List ℕ) → s ≡ take n s ++ drop n s
split n s = sym (take-append-drop n s)

-- Bytes with a proper prefix that is an item are not an item themselves.
front_alone : OneItem → (s : List ℕ) (n : ℕ) (v w : Item) → n < length s → IsItem (take n s) v → IsItem s w → ⊥
front_alone one s n v w short front whole =
    let same : s ≡ take n s = (one w v s (take n s) [] (drop n s) whole.0 front.0 (append-nil s ∙ split n s)).1 in
    let long : length s ≡ length (take n s) = ap length same in
    omega (arith, short, long, length-take-le n s (omega (arith, short)))

module _ {A T : Type 0} (shape : Shape A) (view : T → A) (s : List ℕ) where
  no_whole : HasNoItem s → (v : Item) → IsItem s v → ⊥
  no_whole none v is = none v s [] (sym (append-nil s)) is

  names_byte_fault : (r : Result T CoseError) → ReadsSlice shape view s r → AllocatesForItems s r → NamesByteFault s r
  names_byte_fault (Ok x) read memory none = no_whole none read.0 read.1
  names_byte_fault (Err e) read memory none =
      elim (memory_or_not e) [
        | inl m ↦ absurd (no_whole none (memory m).0 (memory m).1)
        | inr m ↦
            elim (read m) [
              | inl f ↦ f
              | inr g ↦ elim g [ inl x ↦ absurd (none x.2 (take x.1 s) (drop x.1 s) (split x.1 s) x.4) | inr x ↦ absurd (no_whole none x.0 x.1) ]
            ]
      ]

  names_extraneous : OneItem → NoItemAtFault → (r : Result T CoseError) → ReadsSlice shape view s r → AllocatesForItems s r → NamesExtraneous s r
  names_extraneous one at_fault (Ok x) read memory bytes n v short front = absurd (front_alone one s n v read.0 short front read.1)
  names_extraneous one at_fault (Err e) read memory bytes n v short front =
      elim (memory_or_not e) [
        | inl m ↦ absurd (front_alone one s n v (memory m).0 short front (memory m).1)
        | inr m ↦
            elim (read m) [
              | inl f ↦ absurd (at_fault s f.0 bytes f.2 f.3 v (take n s) (drop n s) (split n s) front)
              | inr g ↦ elim g [ inl x ↦ ap Err x.0 | inr x ↦ absurd (front_alone one s n v x.0 short front x.1) ]
            ]
      ]

  pub reads_item : OneItem → NoItemAtFault → (v : Item) (r : Result T CoseError) → AreBytes s → IsItem s v → ReadsSlice shape view s r → Reads shape view v r
  reads_item one at_fault v (Ok x) bytes is read = subst (λ w. shape.describes w (view x)) (one_of one s read.0 v read.1 is) read.2
  reads_item one at_fault v (Err e) bytes is read = λ m.
      elim (read m) [
        | inl f ↦ absurd (no_whole (at_fault s f.0 bytes f.2 f.3) v is)
        | inr g ↦
            elim g [
              | inl x ↦ absurd (front_alone one s x.1 x.2 v x.3 x.4 is)
              | inr x ↦ subst (λ w. shape.faults w e) (one_of one s x.0 v x.1 is) x.2
            ]
      ]

  pub names_whole_fault : OneItem → NoItemAtFault → (r : Result T CoseError) → ReadsSlice shape view s r → AllocatesForItems s r → NamesWholeFault s r
  names_whole_fault one at_fault r read memory = (names_byte_fault r read memory, names_extraneous one at_fault r read memory)

-- If no item with a value has a fault, a refused item describes no value, unless the error is `OutOfMemory`.
pub refuses_item :
    {T A : Type 0} (shape : Shape A) → ((v : Item) (x : A) (e : CoseError) → shape.describes v x → shape.faults v e → ⊥)
    → (view : T → A) (v : Item) (r : Result T CoseError) → Reads shape view v r
    → RefusesItem shape v r
refuses_item shape sound view v (Ok x) p = tt
refuses_item shape sound view v (Err e) p = λ n x d. sound v x e d (p n)

-- An item that is no tag of the number is `UnexpectedItem`.
pub names_unexpected :
    {T A : Type 0} (n : ℕ) (shape : Shape A) (view : T → A) (v : Item) (r : Result T CoseError) → IsNoTag n v → Reads (tagged n shape) view v r
    → NamesUnexpected r
names_unexpected n shape view v (Ok x) none read = absurd (none read.0 read.1)
names_unexpected n shape view v (Err e) none read = λ m.
    elim (read m) [
      | inl f ↦ f.1
      | inr f ↦ elim f.3 [ inl g ↦ g.1 | inr g ↦ absurd (none f.1 (f.2 ∙ ap (λ t. Some (t, f.1)) g.0)) ]
    ]

-- ---- bytes that are not one item, or whose item has a fault

module _ {A : Type 0} (shape : Shape A) where
  whole_fault : (s : List ℕ) (e : CoseError) → IsWholeFault s e → SliceFaults shape s e × DescribesNothing shape s
  whole_fault s e (inl f, none) = (inl f, λ x d. none d.0 d.1)
  whole_fault s e (inr f, none) = (inr (inl f), λ x d. none d.0 d.1)

  -- The bytes are not one item.
  pub no_item : (s : List ℕ) (e : CoseError) → UnlessMemory e (IsWholeFault s) → IsRefused shape s e
  no_item s e h = λ k. whole_fault s e (h k)

  -- The bytes are one item, which has a fault.
  pub at_fault :
      ((v : Item) (x : A) (f : CoseError) → shape.describes v x → shape.faults v f → ⊥) → (s : List ℕ) (v : Item) (e : CoseError) → IsOnlyItem s v
      → UnlessMemory e (shape.faults v)
      → IsRefused shape s e
  at_fault sound s v e only h = λ k. (
    inr (inr (v, only.0, h k)),
    λ x d. sound v x e (subst (λ w. shape.describes w x) (only.1 d.0 d.1) d.2) (h k),
  )
