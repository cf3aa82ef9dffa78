-- Faults of protected headers in indefinite-length byte strings (RFC 8152, section 3).
use Rattle.std.specs.Prelude.{◌≡◌, ◌≢◌, ◌⊎◌, ℕ, ℤ, List, [], ◌∷◌, ◌++◌, Some}
use Rattle.coset.specs.CoseError.{CoseError}
use Rattle.coset.specs.Headers.{header}
use Rattle.coset.specs.Item.{Item, Pairs}
use Rattle.coset.specs.Parts.{as_bytes, as_integer, as_map}
use Rattle.coset.specs.Results.{SliceFaults, DescribesNothing}
use Rattle.tool_fault.specs.Alike.{AreAlike}
use Rattle.tool_fault.specs.Steps.{IsAtFront, PathTo, StepTo}
use Rattle.tool_fault.specs.declared.step.Step.{Step}
use Rattle.tool_fault.specs.declared.step.Step.TheVariants.{Element}

abbrev pub IsMap : Item → Type 0
IsMap v = (ps : Pairs) × (as_map v ≡ Some ps)

abbrev pub IsInteger : Item → Type 0
IsInteger v = (z : ℤ) × (as_integer v ≡ Some z)

-- The content s of a protected header's byte string is no header. Decoding it gives an error like e. An empty content
-- is a header without parameters.
abbrev pub HasHeaderFault : CoseError → List ℕ → Type 0
HasHeaderFault e s = (s ≢ []) × (found : CoseError) × AreAlike e found × SliceFaults header s found × DescribesNothing header s

-- The steps lead to an array from the front of b. `one` begins at its first element, and `other` at its second.
pub record AreFirstTwo (b : List ℕ) (steps : List Step) (one other : List ℕ) : Type 0 where
  pub before : ℕ
  pub array : List ℕ
  pub leads : PathTo steps b before array
  pub first_at : ℕ
  pub second_at : ℕ
  pub goes_first : StepTo (Element 0) array first_at one
  pub goes_second : StepTo (Element 1) array second_at other

-- The steps lead to the place of a protected header. It is the first element of an array, and a map follows it (RFC
-- 8152, section 3). Or it is the second element, and an integer precedes it (section 11.2).
pub record IsHeaderPlace (b : List ℕ) (steps : List Step) : Type 0 where
  pub front : List Step
  pub one : List ℕ
  pub other : List ℕ
  pub elements : AreFirstTwo b front one other
  pub place :
      ((steps ≡ front ++ Element 0 ∷ []) × IsAtFront IsMap other)
      ⊎ ((steps ≡ front ++ Element 1 ∷ []) × IsAtFront IsInteger one)

-- The error's fault is in a protected header at the front of t, whose byte string has indefinite length. The steps lead
-- there from the front of b.
abbrev pub HeaderFaultIsAt : CoseError → List ℕ → List Step → List ℕ → Type 0
HeaderFaultIsAt e b steps t =
    IsHeaderPlace b steps × (rest : List ℕ) × (t ≡ 0x5F ∷ rest)
    × IsAtFront (λ v. (s : List ℕ) × (as_bytes v ≡ Some s) × HasHeaderFault e s) t
