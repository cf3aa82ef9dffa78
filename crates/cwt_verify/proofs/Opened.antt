-- The parts of a header, in the code and in its view.
use Rattle.std.proofs.Common.{◌≡◌, ◌∙◌, ◌==◌, List, [], ◌∷◌, ◌||◌, ◌&&◌, Bool, Option, Some, None, length}
use Rattle.std.proofs.Common.{map, refl, arith, ap, option_map, is_some}
use Rattle.std.specs.List.{list_any, list_all}
use Rattle.std.proofs.lemmas.Bool.Decides.{nat_tests}
use Rattle.coset.specs.Fields.{FieldsView}
use Rattle.coset.specs.FieldViews.{fields_view}
use Rattle.coset.specs.Headers.{ProtectedView, SignatureView, are_none, fields_in, signatures_of}
use Rattle.coset.specs.LabelData.{RegisteredLabelView}
use Rattle.coset.specs.ProtectedHeader.{ProtectedHeader, out-ProtectedHeader}
use Rattle.coset.specs.ViewLaws.{header-opened, protected-opened}
use Rattle.coset.specs.Views.{critical_view, header_view, protected_view}
use Rattle.coset.specs.Header.{Header, out-Header}

pub opened : (h : Header) → fields_in (header_view h) ≡ fields_view h
opened h = ap fields_in (header-opened h)

-- The view of a protected header contains the view of its header.
pub protected_opened : (p : ProtectedHeader) → (protected_view p).header ≡ header_view (out-ProtectedHeader p).header
protected_opened p = ap (λ (q : ProtectedView). q.header) (protected-opened p)

pub any-map : {A B : Type 0} (f : B → Bool) (g : A → B) (xs : List A) → list_any f (map g xs) ≡ list_any (λ x. f (g x)) xs
any-map f g [] = refl
any-map f g (x ∷ xs) = ap (λ (b : Bool). f (g x) || b) (any-map f g xs)

pub all-map : {A B : Type 0} (f : B → Bool) (g : A → B) (xs : List A) → list_all f (map g xs) ≡ list_all (λ x. f (g x)) xs
all-map f g [] = refl
all-map f g (x ∷ xs) = ap (λ (b : Bool). f (g x) && b) (all-map f g xs)

-- Tests of the critical labels of a header, in the code and in its view.
pub any-critical : (h : Header) (test : RegisteredLabelView → Bool)
    → list_any test (fields_in (header_view h)).crit ≡ list_any (λ l. test (critical_view l)) (out-Header h).crit.items
any-critical h test = ap (λ (f : FieldsView). list_any test f.crit) (opened h) ∙ any-map test critical_view (out-Header h).crit.items

pub all-critical : (h : Header) (test : RegisteredLabelView → Bool)
    → list_all test (fields_in (header_view h)).crit ≡ list_all (λ l. test (critical_view l)) (out-Header h).crit.items
all-critical h test = ap (λ (f : FieldsView). list_all test f.crit) (opened h) ∙ all-map test critical_view (out-Header h).crit.items

pub some-map : {A B : Type 0} (f : A → B) (o : Option A) → is_some (option_map f o) ≡ is_some o
some-map f None = refl
some-map f (Some x) = refl

pub none-of : {A : Type 0} (f : A → SignatureView) (xs : List A) → are_none (signatures_of (map f xs)) ≡ (length xs == 0)
none-of f [] = refl
none-of f (x ∷ xs) = grind (arith, nat_tests)
