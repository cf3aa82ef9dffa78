-- The results of closures, from the clauses of calls that pass them on.
use Rattle.std.proofs.Common.{◌≡◌, ℕ, List, Option, Some, None, Ok, Err, Vec, refl}
use Rattle.std.specs.Prelude.{IfSome}
use Rattle.std.specs.Fn.{FnOnceReturnsAt}
use Rattle.std.specs.Global.{Global}
use Rattle.coset_value.specs.Item.{Item}
use Rattle.coset_codec.specs.Encoding.{HasNoImage}
use Rattle.coset_codec.specs.declared.error.CallError.{CallError}
use Rattle.coset_codec.specs.declared.error.CallError.TheVariants.{Coset, Caller}
use Rattle.coset_core.specs.Calls.{IsStructure}
use Rattle.example_uses.specs.Asked.{Asker, Declines, Maker, Says}

-- The closure made something from a structure, and it is stored.
abbrev pub Made : {F E : Type 0} → Maker F E → F → Option Item → (Vec ℕ Global → Type 0) → Type 0
Made g f o stores = (t : List ℕ) × (made : Vec ℕ Global) × IsStructure o t × FnOnceReturnsAt g f t (Ok made) × stores made

-- The closure made nothing, or there is no structure, or an allocation failed.
abbrev pub NotMade : {F E : Type 0} → Maker F E → F → Option Item → CallError E → Type 0
NotMade g f o (Coset e) = HasNoImage o e
NotMade g f o (Caller e) = Declines g f o e

-- The closure refused bytes and a structure, or there is no structure, or an allocation failed.
abbrev pub NotSaid : {F U E : Type 0} → Asker F U E → F → List ℕ → Option Item → CallError E → Type 0
NotSaid g f s o (Coset e) = HasNoImage o e
NotSaid {U = U} g f s o (Caller e) = Says g f s o (Err e)

-- A property of an option that is present.
pub when_some : {A : Type 0} (P : A → Type 0) (o : Option A) → (o ≡ None → ⊥) → IfSome o P → (x : A) × (o ≡ Some x) × P x
when_some P None there h = absurd (there refl)
when_some P (Some x) there h = (x, refl, h)
