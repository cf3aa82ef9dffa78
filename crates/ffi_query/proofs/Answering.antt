-- From the part found in an item to the result of the call.
use Rattle.std.proofs.Common.{◌≡◌, ℕ, List, Option, Some, None, Result, Ok, Err, refl, sym, subst}
use Rattle.std.specs.Prelude.{IfOk, IfErr}
use Rattle.coset.specs.Item.{Item}
use Rattle.coset.specs.LabelData.{LabelView}
use Rattle.coset.specs.CoseError.{CoseError}
use Rattle.coset.specs.CoseError.TheVariants.{OutOfMemory}
use Rattle.ffi_query.specs.declared.kind.Kind as kinds
use Rattle.ffi_query.specs.declared.label.Map as maps
use Rattle.ffi_query.specs.declared.refusal.Refusal as refusals
use Rattle.ffi_query.specs.declared.refusal.Refusal.TheVariants.{Short, Absent, WrongType, Empty, Misuse, Cose}
use Rattle.ffi_query.specs.Results.{Answers, ReturnsOr, Finds, HasNoText, PutsString, WritesFound, WritesString}
use Rattle.ffi_query.specs.Kinds.{IsItemOf}
use Rattle.ffi_query.specs.Labels.{HasNoString, IsStringOf, IsUnder}
use Rattle.ffi_query.specs.Places.{string_in}
use Rattle.ffi_query.proofs.EachKind.{memory_refuses}

-- The text that was found is written and returned. If none was found, the reason has property Q.
pub answered_or :
    {T : Type 0} (bytes_of : T → List ℕ) (k : kinds.Kind) (b old new : List ℕ) (P : Item → List ℕ → Type 0)
    (Q : Item → refusals.Refusal → Type 0) (v : Item) (found : Result (Option T) CoseError) (r : Result ℕ refusals.Refusal)
    → (((t : List ℕ) → P v t → ⊥) → Q v Absent) → IsItemOf k b v → IfOk found (Finds bytes_of (P v))
    → IfErr found (λ e. e ≡ OutOfMemory) → WritesFound bytes_of found old new r → ReturnsOr k b P Q old new r
answered_or bytes_of k b old new P Q v (Ok (Some x)) (Ok n) none i f m w = (v, i, (bytes_of x, f, w))
answered_or bytes_of k b old new P Q v (Ok (Some x)) (Err (Short n)) none i f m w = (v, i, (bytes_of x, f, w))
answered_or bytes_of k b old new P Q v (Ok (Some x)) (Err Absent) none i f m w = absurd w
answered_or bytes_of k b old new P Q v (Ok (Some x)) (Err WrongType) none i f m w = absurd w
answered_or bytes_of k b old new P Q v (Ok (Some x)) (Err Empty) none i f m w = absurd w
answered_or bytes_of k b old new P Q v (Ok (Some x)) (Err Misuse) none i f m w = absurd w
answered_or bytes_of k b old new P Q v (Ok (Some x)) (Err (Cose e)) none i f m w = absurd w
answered_or bytes_of k b old new P Q v (Ok None) r none i f m w = subst (ReturnsOr k b P Q old new) (sym w.0) (v, i, none f, w.1)
answered_or bytes_of k b old new P Q v (Err e) r none i f m w = subst (ReturnsOr k b P Q old new) (sym w.0) (memory_refuses k b e m, w.1)

-- The text that was found has property P, and a fact Once holds besides.
pub found_once :
    {T : Type 0} (bytes_of : T → List ℕ) (Once : Type 0) (P : List ℕ → Type 0) (found : Result (Option T) CoseError) → Once
    → IfOk found (Finds bytes_of P) → IfOk found (Finds bytes_of (λ t. Once × P t))
found_once bytes_of Once P (Ok (Some x)) once h = (once, h)
found_once bytes_of Once P (Ok None) once h = λ t p. h t p.1
found_once bytes_of Once P (Err e) once h = h

-- A call that refuses only because there is no text.
pub answered :
    {T : Type 0} (bytes_of : T → List ℕ) (k : kinds.Kind) (b old new : List ℕ) (P : Item → List ℕ → Type 0) (v : Item) (found : Result (Option T) CoseError)
    (r : Result ℕ refusals.Refusal) → IsItemOf k b v → IfOk found (Finds bytes_of (P v)) → IfErr found (λ e. e ≡ OutOfMemory)
    → WritesFound bytes_of found old new r → Answers k b P old new r
answered bytes_of k b old new P v found r i f m w = answered_or bytes_of k b old new P (HasNoText P) v found r (λ none. none) i f m w

-- The value under the label was found. Its content is written if it is a string.
string_put :
    (k : kinds.Kind) (b old new : List ℕ) (m : maps.Map) (l : LabelView) (v w : Item) (o : Option (List ℕ)) (r : Result ℕ refusals.Refusal) → IsItemOf k b v
    → IsUnder k m l v w
    → string_in w ≡ o → PutsString o old new r → ReturnsOr k b (IsStringOf k m l) (HasNoString k m l) old new r
string_put k b old new m l v w (Some t) (Ok n) i u e p = (v, i, (t, (w, u, e), p))
string_put k b old new m l v w (Some t) (Err (Short n)) i u e p = (v, i, (t, (w, u, e), p))
string_put k b old new m l v w (Some t) (Err Absent) i u e p = absurd p
string_put k b old new m l v w (Some t) (Err WrongType) i u e p = absurd p
string_put k b old new m l v w (Some t) (Err Empty) i u e p = absurd p
string_put k b old new m l v w (Some t) (Err Misuse) i u e p = absurd p
string_put k b old new m l v w (Some t) (Err (Cose x)) i u e p = absurd p
string_put k b old new m l v w None r i u e p =
    subst (ReturnsOr k b (IsStringOf k m l) (HasNoString k m l) old new) (sym p.0) (v, i, (w, u, e), p.1)

-- The string under a label, after a value was looked up.
pub string_answered :
    {T : Type 0} (view : T → Item) (k : kinds.Kind) (b old new : List ℕ) (m : maps.Map) (l : LabelView) (v : Item) (found : Result (Option T) CoseError)
    (r : Result ℕ refusals.Refusal) → IsItemOf k b v → IfOk found (Finds view (IsUnder k m l v)) → IfErr found (λ e. e ≡ OutOfMemory)
    → WritesString view found old new r → ReturnsOr k b (IsStringOf k m l) (HasNoString k m l) old new r
string_answered view k b old new m l v (Ok (Some x)) r i f e w = string_put k b old new m l v (view x) (string_in (view x)) r i f refl w
string_answered view k b old new m l v (Ok None) r i f e w =
    subst (ReturnsOr k b (IsStringOf k m l) (HasNoString k m l) old new) (sym w.0) (v, i, f, w.1)
string_answered view k b old new m l v (Err x) r i f e w =
    subst (ReturnsOr k b (IsStringOf k m l) (HasNoString k m l) old new) (sym w.0) (memory_refuses k b x e, w.1)
