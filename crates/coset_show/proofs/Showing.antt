-- Output and refusals.
use Rattle.std.proofs.Common.{◌≡◌, Bool, true, false, ℕ, List, [], Some, None, Result, Ok, Err, subst, sym, ap}
use Rattle.std.specs.Prelude.{MatchResult, IsErrAnd, option_map}
use Rattle.coset.specs.Item.{Item, Items, no_items, item}
use Rattle.coset.specs.CoseError.{CoseError}
use Rattle.coset.specs.CoseError.TheVariants.{OutOfMemory}
use Rattle.coset.specs.Errors.{UnlessMemory}
use Rattle.coset.specs.Shape.{Shape, FirstDescribes}
use Rattle.coset.specs.Results.{Describes, SliceFaults, DescribesNothing}
use Rattle.coset.specs.Headers.{ProtectedView, is_empty_header, header_image, layered_protected, protected, protected_bytes}
use Rattle.coset.specs.Serialized.{content_bytes}
use Rattle.coset.specs.SignatureStructure.{signature_structure}
use Rattle.coset.specs.SignatureContext.TheVariants.{CoseSign1}
use Rattle.coset.specs.Sign1.{Sign1View, sign1, sign1_attached, sign1_fields}
use Rattle.coset.specs.Signed.{or_empty}
use Rattle.coset_show.specs.declared.refusal.Refusal.{Refusal}
use Rattle.coset_show.specs.declared.refusal.Refusal.TheVariants.{Cose}
use Rattle.coset_show.specs.Show.{RefusesType, tagged_if}

-- ---- refusals

-- An error that refuses the bytes, and is returned unchanged.
pub passed_on : {T A : Type 0} (shape : Shape A) (b : List ℕ) (e : CoseError) (r : Result T Refusal) (P : T → Type 0) → IsErrAnd r (λ x. x ≡ Cose e)
    → RefusesType shape b (Cose e) → MatchResult r P (RefusesType shape b)
passed_on shape b e (Ok x) P h f = absurd h
passed_on shape b e (Err x) P h f = subst (RefusesType shape b) (sym h) f

-- An error that names a fault in bytes, if they describe no value.
pub refuses_read : {A : Type 0} (shape : Shape A) (b : List ℕ) (e : CoseError) → UnlessMemory e (SliceFaults shape b)
    → UnlessMemory e (λ _. DescribesNothing shape b) → RefusesType shape b (Cose e)
refuses_read shape b e faults none = λ n. (faults n, none n)

-- `OutOfMemory` refuses any bytes.
pub refuses_memory : {A : Type 0} (shape : Shape A) (b : List ℕ) (e : CoseError) → e ≡ OutOfMemory → RefusesType shape b (Cose e)
refuses_memory shape b e is = λ n. absurd (n is)

-- ---- messages

-- A value that bytes describe, tagged or plain, is described by an item.
pub plainly : {A : Type 0} (t : Bool) (n : ℕ) (s : Shape A) (b : List ℕ) (x : A) → Describes (tagged_if t n s) b x → (v : Item) × s.describes v x
plainly true n s b x d = (d.2.0, d.2.2)
plainly false n s b x d = (d.0, d.2)

first_of : {A B : Type 0} (r : Item → A → Type 0) (rs : Items → B → Type 0) (vs : Items) (x : A × B) → FirstDescribes r rs vs x → (v : Item) × r v x.0
first_of r rs no_items x p = absurd p
first_of r rs (item v vs) x p = (v, p.0)

-- A protected header that was read has kept its bytes.
read_keeps : (v : Item) (p : ProtectedView) → protected.describes v p → (b : List ℕ) × (protected_bytes p ≡ Some b)
unfolding layered_protected
read_keeps v p d = (d.0, ap (λ o. content_bytes is_empty_header header_image o p.header) d.2)

-- Therefore a message that was read has a structure to be signed.
pub read_is_signed : (v : Item) (m : Sign1View) → sign1.describes v m → (i : Item) × (sign1_attached m [] ≡ Some i)
read_is_signed v m d =
    let header = first_of protected.describes _ d.0 (sign1_fields m) d.2 in
    let bytes = read_keeps header.0 m.protected header.1 in
    let structure_of : List ℕ → Item = λ b. signature_structure CoseSign1 b None [] (or_empty m.payload) in
    (structure_of bytes.0, ap (option_map structure_of) bytes.1)
