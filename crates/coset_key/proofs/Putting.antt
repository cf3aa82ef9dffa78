-- Adding a pair to a partial key, by its label.
use Rattle.std.proofs.Common.{◌≡◌, ℤ, pos, [], ◌∷◌, ◌++◌, Bool, ◌||◌, false, refl, sym, subst, Result, Ok, Err}
use Rattle.std.specs.Ordering.{int_eq}
use Rattle.std.specs.Prelude.{IfErr, OnOk}
use Rattle.coset_value.specs.Item.{Item}
use Rattle.coset_codec.specs.Errors.{UnlessMemory}
use Rattle.coset_codec.specs.Maps.{IfThenElse, Adds, Refuses}
use Rattle.coset_codec.specs.declared.error.CoseError.{CoseError}
use Rattle.coset_label.specs.LabelData.{LabelView, number}
use Rattle.coset_label.proofs.Apart.{numbers_apart}
use Rattle.coset_label.specs.Labels.{cose_labels}
use Rattle.coset_key.specs.Keys.{Parts, fields}
use Rattle.coset_key.specs.Reading.{GoesTo}
use Rattle.coset_key.specs.declared.key.Field.TheVariants.{Params}

-- The field of this label takes the value.
pub adds_at : (l m : LabelView) (v : Item) (r : Result (Unit {0}) CoseError) (x y : Parts) (P : Type 0) → m ≡ l → OnOk r P
    → (P → Adds cose_labels fields l v x y) → OnOk r (Adds cose_labels fields m v x y)
adds_at l m v (Ok u) x y P h t put = subst (λ n. Adds cose_labels fields n v x y) (sym h) (put t)
adds_at l m v (Err e) x y P h t put = t

-- The field of this label refuses the value.
pub refuses_at :
    (l m : LabelView) (v : Item) (r : Result (Unit {0}) CoseError) (x : Parts) (P : CoseError → Type 0) → m ≡ l → IfErr r (λ e. UnlessMemory e P)
    → ((e : CoseError) → P e → Refuses cose_labels fields l v x e)
    → IfErr r (λ e. UnlessMemory e (Refuses cose_labels fields m v x))
refuses_at l m v (Ok u) x P h t because = t
refuses_at l m v (Err e) x P h t because = λ n. subst (λ k. Refuses cose_labels fields k v x e) (sym h) (because e (t n))

-- None of five tests passes.
none : (a b c d e : Bool) → a ≡ false → b ≡ false → c ≡ false → d ≡ false → e ≡ false → (a || (b || (c || (d || (e || false))))) ≡ false
none a b c d e h1 h2 h3 h4 h5 = rw (h1, h2, h3, h4, h5) refl

-- A number that is no field's label goes to the params.
pub other_number :
    (n : ℤ) → int_eq n (pos 1) ≡ false → int_eq n (pos 2) ≡ false → int_eq n (pos 3) ≡ false → int_eq n (pos 4) ≡ false → int_eq n (pos 5) ≡ false
    → GoesTo (number n) Params
other_number n h1 h2 h3 h4 h5 =
    none _ _ _ _ _ (numbers_apart n _ h1) (numbers_apart n _ h2) (numbers_apart n _ h3) (numbers_apart n _ h4) (numbers_apart n _ h5)

-- A pair with no field's label goes to the rest.
pub adds_rest : (m : LabelView) (v : Item) (x y : Parts) → GoesTo m Params → x.0 ≡ y.0 → y.1 ≡ x.1 ++ (m, v) ∷ [] → Adds cose_labels fields m v x y
adds_rest m v x y other same rest =
    subst (λ b. IfThenElse b (fields.takes m v x.0 y.0 × (y.1 ≡ x.1)) ((x.0 ≡ y.0) × (y.1 ≡ x.1 ++ (m, v) ∷ []))) (sym other) (same, rest)
