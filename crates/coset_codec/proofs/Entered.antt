-- Arrays that were entered, and whose elements were read.
use Rattle.std.proofs.Common.{◌≡◌, ◌≤◌, arith, map, Some, None, Result, Ok, Err, inr}
use Rattle.std.specs.Global.{Global}
use Rattle.std.specs.Prelude.{IfErr, OnOk, Vec}
use Rattle.coset_value.specs.Item.{Item, Items}
use Rattle.coset_value.specs.Parts.{as_array}
use Rattle.coset_codec.specs.declared.error.CoseError.{CoseError}
use Rattle.coset_codec.specs.Inputs.{State, tree, borrowed, length_left, MovesForward}
use Rattle.coset_codec.specs.Lists.{ReadsEach}
use Rattle.coset_codec.specs.Results.{Reads, ReadsElements}
use Rattle.coset_codec.specs.Shape.{Shape, Elements, array_of, list_of}

-- Reading went on from t to u.
pub moves_on : {T E : Type 0} (r : Result T E) (s t u : State) → MovesForward s t → length_left u ≤ length_left t → OnOk r (MovesForward s u)
moves_on (Ok x) (tree w) t u m h = tt
moves_on (Ok x) (borrowed s) t u m h = omega arith
moves_on (Err e) s t u m h = tt

-- The array's elements were read.
pub array_read : {T A : Type 0} (ps : Elements A) (view : T → A) (v : Item) (vs : Items) (r : Result T CoseError) → as_array v ≡ Some vs
    → ReadsElements ps view vs r → Reads (array_of ps) view v r
array_read ps view v vs (Ok x) is read = (vs, is, read)
array_read ps view v vs (Err e) is read = λ known. inr (vs, is, read known)

-- The list's elements were read one by one.
pub list_read : {T A : Type 0} (s : Shape A) (view : T → A) (v : Item) (vs : Items) (r : Result (Vec T Global) CoseError) → as_array v ≡ Some vs
    → ReadsEach s view vs r → Reads (list_of s) (λ all. map view all.items) v r
list_read s view v vs (Ok all) is read = (vs, is, read)
list_read s view v vs (Err e) is read = λ known. inr (vs, is, inr ((λ no. no), read known))

-- An array is no item of another kind.
pub is_array : {T : Type 0} (v : Item) (vs : Items) (Q : CoseError → Type 0) (r : Result T CoseError) → as_array v ≡ Some vs
    → IfErr r (λ e. as_array v ≡ None → Q e)
is_array v vs Q (Ok x) is = tt
is_array v vs Q (Err e) is = λ none. absurd (cc)
