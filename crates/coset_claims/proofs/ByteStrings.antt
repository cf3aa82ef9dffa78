-- Reading and writing the byte strings after the four elements of a context.
use Rattle.std.proofs.Common.{◌≡◌, ℕ, List, Option, Some, None, ◌∙◌}
use Rattle.coset_value.specs.Item.{Items}
use Rattle.coset_codec.specs.declared.error.CoseError.{CoseError}
use Rattle.coset_codec.specs.declared.read.decoder.ArrayElements.{ArrayElements}
use Rattle.coset_codec.specs.Inputs.{State, AreWithin}
use Rattle.coset_codec.specs.Encoding.{AppendsElements}
use Rattle.coset_codec.specs.Lists.{Continues}
use Rattle.coset_codec.specs.Shape.{bstr, EachFaults}

-- The items `all` should be byte strings: `xs` were read, and `left` are to come. If one of them had a fault, `all` has
-- that fault, and `all` also has every fault of `left`.
abbrev pub ReadSoFar : Items → List (List ℕ) → Items → Option CoseError → Type 0
ReadSoFar all xs left None = Continues (List ℕ) bstr.describes bstr.faults all xs left
ReadSoFar all xs left (Some e) = EachFaults bstr.faults all e × ((f : CoseError) → EachFaults bstr.faults left f → EachFaults bstr.faults all f)

-- The same, and the items `left` are at the input.
pub record Midway (all : Items) (z : State) (m : ArrayElements) (t : State) (xs : List (List ℕ)) (fault : Option CoseError) : Type 0 where
  pub left : Items
  pub so_far : ReadSoFar all xs left fault
  pub within : AreWithin m left t z

-- The count of appended elements may be replaced by an equal number.
pub as_many : {os : Option Items} {m n : ℕ} {old new : List ℕ} → m ≡ n → AppendsElements os m old new → AppendsElements os n old new
as_many e p = (p.0, p.1, record { count = p.2.count ∙ e; in_range = p.2.in_range; parts = p.2.parts })
