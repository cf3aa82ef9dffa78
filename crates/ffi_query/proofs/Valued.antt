-- The values of labels.
use Rattle.std.proofs.Common.{◌≡◌, ◌∙◌, ◌++◌, ℕ, List, [], Option, Some, None, Result, ap, sym, subst, refl, option_map}
use Rattle.std.specs.Prelude.{IfOk}
use Rattle.coset.specs.Item.{Item}
use Rattle.coset.specs.Grammar.{IsEncoding, IsItem}
use Rattle.coset.specs.LabelData.{LabelView}
use Rattle.coset.specs.ShapeLaws.{some-none, some-one}
use Rattle.coset.specs.CoseError.{CoseError}
use Rattle.ffi_query.specs.declared.kind.Kind as kinds
use Rattle.ffi_query.specs.declared.label.Map as maps
use Rattle.ffi_query.specs.declared.label.Map.TheVariants as of
use Rattle.ffi_query.specs.Results.{Finds}
use Rattle.ffi_query.specs.Labels.{IsProtected, IsStringOf, IsUnder, IsUnderIn, value_under}
use Rattle.ffi_query.specs.Places.{bytes_in, string_in}

-- The law of `one_item`.
abbrev pub OneItem : Type 0
OneItem = (v w : Item) (b c x y : List ℕ) → IsEncoding v b → IsEncoding w c → b ++ x ≡ c ++ y → (v ≡ w) × (b ≡ c)

pub same_item : OneItem → (b : List ℕ) (v w : Item) → IsItem b v → IsItem b w → v ≡ w
same_item law b v w x y = (law v w b b [] [] x.0 y.0 refl).0

-- ---- a label has one value

same_within : OneItem → (l : LabelView) (b : List ℕ) (w x : Item) → IsUnderIn l b w → IsUnderIn l b x → w ≡ x
same_within law l b w x p q = some-one p.2 (ap (value_under l) (same_item law b p.0 q.0 p.1 q.1) ∙ q.2)

same_protected : OneItem → (l : LabelView) (o : Option (List ℕ)) (w x : Item) → IsProtected l o w → IsProtected l o x → w ≡ x
same_protected law l None w x p q = absurd p
same_protected law l (Some b) w x p q = same_within law l b w x p q

pub one_value : OneItem → (k : kinds.Kind) (m : maps.Map) (l : LabelView) (v w x : Item) → IsUnder k m l v w → IsUnder k m l v x → w ≡ x
one_value law k of.Protected l v w x p q = same_protected law l (bytes_in 0 v) w x p.1 q.1
one_value law k of.Unprotected l v w x p q = some-one p.1 q.1
one_value law k of.Item l v w x p q = some-one p q

-- ---- strings

pub string_found :
    {T : Type 0} (bytes_of : T → List ℕ) → OneItem → (k : kinds.Kind) (m : maps.Map) (l : LabelView) (v w : Item) (o : Option T) → IsUnder k m l v w
    → option_map bytes_of o ≡ string_in w
    → Finds bytes_of (IsStringOf k m l v) o
string_found bytes_of law k m l v w (Some x) u e = (w, u, sym e)
string_found bytes_of law k m l v w None u e = λ t h. some-none (ap string_in (one_value law k m l v w h.0 u h.1) ∙ h.2) (sym e)

-- ---- in a protected header

pub protected_as : {T : Type 0} (view : T → Item) (l : LabelView) (o : Option (List ℕ)) (b : List ℕ) (r : Result (Option T) CoseError) → Some b ≡ o
    → IfOk r (Finds view (IsUnderIn l b))
    → IfOk r (Finds view (IsProtected l o))
protected_as view l o b r e h = subst (λ p. IfOk r (Finds view (IsProtected l p))) e h
