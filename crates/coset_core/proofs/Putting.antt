-- Adding a pair to a header, by its label.
use Rattle.std.proofs.Common.{◌≡◌, ℕ, ℤ, pos, map, List, [], ◌∷◌, ◌++◌, Option, Bool, ◌||◌}
use Rattle.std.proofs.Common.{false, true, refl, sym, subst, ◌⊎◌, inl, inr, Result, Ok, Err}
use Rattle.std.specs.Ordering.{int_eq}
use Rattle.std.specs.Prelude.{IfErr, OnOk}
use Rattle.coset_value.specs.Item.{Item}
use Rattle.coset_codec.specs.Maps.{Fields, optional, unless_empty, IfThenElse, Adds, Refuses, TakesValue}
use Rattle.coset_codec.specs.Errors.{UnlessMemory}
use Rattle.coset_codec.specs.declared.error.CoseError.{CoseError}
use Rattle.coset_codec.specs.Shape.{any, bstr, some_of, nonempty_bstr}
use Rattle.coset_label.specs.LabelData.{LabelView, number, RegisteredLabelView, same_label}
use Rattle.coset_label.specs.Labels.{algorithm, cose_labels}
use Rattle.coset_label.specs.LabelLaws.{cose_labels_laws}
use Rattle.coset_label.proofs.Apart.{numbers_apart}
use Rattle.coset_core.specs.FieldLabels as labels
use Rattle.coset_core.specs.Headers.{SignatureView, no_signatures, signatures_of}
use Rattle.coset_core.specs.Filling.{GoesTo, label_of}
use Rattle.coset_core.specs.Fields.{critical, content_type, FieldsView, PerVersion, FieldTuple, fields, excludes, parts_of}
use Rattle.coset_core.specs.declared.header.reading.Field.TheVariants.{Rest}
use Rattle.coset_core.specs.declared.header.reading.CountersignatureVersion.{CountersignatureVersion}

abbrev F : Fields LabelView (FieldTuple (Option Item))
F = fields (optional any) (optional any)

-- If all nine tests are false, so is their disjunction.
none :
    (a b c d e f g h i : Bool) → a ≡ false → b ≡ false → c ≡ false → d ≡ false → e ≡ false → f ≡ false → g ≡ false → h ≡ false → i ≡ false
    → (a || (b || (c || (d || (e || (f || (g || (h || (i || false))))))))) ≡ false
none a b c d e f g h i h1 h2 h3 h4 h5 h6 h7 h8 h9 = rw (h1, h2, h3, h4, h5, h6, h7, h8, h9) refl

-- A number that is the label of no field goes to the rest.
pub other_number :
    (n : ℤ) → int_eq n (pos 1) ≡ false → int_eq n (pos 2) ≡ false → int_eq n (pos 3) ≡ false → int_eq n (pos 4) ≡ false → int_eq n (pos 5) ≡ false
    → int_eq n (pos 6) ≡ false → int_eq n (pos 7) ≡ false → int_eq n (pos 11) ≡ false → int_eq n (pos 12) ≡ false → GoesTo (number n) Rest
other_number n h1 h2 h3 h4 h5 h6 h7 h8 h9 =
    none _ _ _ _ _ _ _ _ _ (numbers_apart n _ h1) (numbers_apart n _ h2) (numbers_apart n _ h3) (numbers_apart n _ h4) (numbers_apart n _ h5)
    (numbers_apart n _ h6) (numbers_apart n _ h7) (numbers_apart n _ h8) (numbers_apart n _ h9)

-- A pair whose label has no field is added to the rest.
pub adds_rest :
    (m : LabelView) (v : Item) (x y : FieldTuple (Option Item) × List (LabelView × Item)) → GoesTo m Rest → x.0 ≡ y.0 → y.1 ≡ x.1 ++ (m, v) ∷ []
    → Adds cose_labels (fields (optional any) (optional any)) m v x y
adds_rest m v x y other same rest =
    subst (λ b. IfThenElse b ((fields (optional any) (optional any)).takes m v x.0 y.0 × (y.1 ≡ x.1)) ((x.0 ≡ y.0) × (y.1 ≡ x.1 ++ (m, v) ∷ []))) (sym other)
    (same, rest)

-- ---- the labels of counter signatures

-- A version's label is found by comparing labels.
pub of_version : (m : LabelView) (version : CountersignatureVersion) → m ≡ label_of version → same_label (label_of version) m ≡ true
of_version m version e = rw e (cose_labels_laws.same_self (label_of version))

-- ---- pairs of fields

-- A value is added to the field of its label, and the other fields stay the same.
adds_at :
    (l m : LabelView) (v : Item) (r : Result (Unit {0}) CoseError) (f g k : FieldsView) (o : PerVersion (Option Item)) (P : Type 0) → m ≡ l → OnOk r P
    → g ≡ k
    → (P → Adds cose_labels F l v (parts_of (f, o)) (parts_of (k, o))) → OnOk r (Adds cose_labels F m v (parts_of (f, o)) (parts_of (g, o)))
adds_at l m v (Ok u) f g k o P h t e put =
    subst (λ n. Adds cose_labels F n v (parts_of (f, o)) (parts_of (g, o))) (sym h)
    (subst (λ x. Adds cose_labels F l v (parts_of (f, o)) (parts_of (x, o))) (sym e) (put t))
adds_at l m v (Err x) f g k o P h t e put = t

pub adds_alg :
    (m : LabelView) (v : Item) (r : Result (Unit {0}) CoseError) (f g : FieldsView) (a : Option RegisteredLabelView) (o : PerVersion (Option Item))
    → m ≡ labels.alg → OnOk r (TakesValue (optional algorithm) v f.alg a)
    → g ≡ record f { alg = a } → OnOk r (Adds cose_labels F m v (parts_of (f, o)) (parts_of (g, o)))
adds_alg m v r f g a o h t e = adds_at labels.alg m v r f g (record f { alg = a }) o (TakesValue (optional algorithm) v f.alg a) h t e
    (λ p. ((p.0, p.1, refl), refl))

pub adds_crit :
    (m : LabelView) (v : Item) (r : Result (Unit {0}) CoseError) (f g : FieldsView) (a : List RegisteredLabelView) (o : PerVersion (Option Item))
    → m ≡ labels.crit → OnOk r (TakesValue (unless_empty (some_of critical)) v f.crit a)
    → g ≡ record f { crit = a } → OnOk r (Adds cose_labels F m v (parts_of (f, o)) (parts_of (g, o)))
adds_crit m v r f g a o h t e = adds_at labels.crit m v r f g (record f { crit = a }) o (TakesValue (unless_empty (some_of critical)) v f.crit a) h t e
    (λ p. ((refl, (p.0, p.1, refl)), refl))

pub adds_content_type :
    (m : LabelView) (v : Item) (r : Result (Unit {0}) CoseError) (f g : FieldsView) (a : Option LabelView) (o : PerVersion (Option Item))
    → m ≡ labels.content_type → OnOk r (TakesValue (optional content_type) v f.content_type a)
    → g ≡ record f { content_type = a } → OnOk r (Adds cose_labels F m v (parts_of (f, o)) (parts_of (g, o)))
adds_content_type m v r f g a o h t e = adds_at labels.content_type m v r f g (record f { content_type = a }) o
    (TakesValue (optional content_type) v f.content_type a) h t e (λ p. ((refl, (refl, (p.0, p.1, refl))), refl))

pub adds_key_id :
    (m : LabelView) (v : Item) (r : Result (Unit {0}) CoseError) (f g : FieldsView) (a : List ℕ) (o : PerVersion (Option Item)) → m ≡ labels.kid
    → OnOk r (TakesValue (unless_empty nonempty_bstr) v f.key_id a)
    → g ≡ record f { key_id = a } → OnOk r (Adds cose_labels F m v (parts_of (f, o)) (parts_of (g, o)))
adds_key_id m v r f g a o h t e = adds_at labels.kid m v r f g (record f { key_id = a }) o (TakesValue (unless_empty nonempty_bstr) v f.key_id a) h t e
    (λ p. ((refl, (refl, (refl, (p.0, p.1, refl)))), refl))

pub adds_iv :
    (m : LabelView) (v : Item) (r : Result (Unit {0}) CoseError) (f g : FieldsView) (a : List ℕ) (o : PerVersion (Option Item)) → m ≡ labels.iv
    → OnOk r (TakesValue (unless_empty nonempty_bstr) v f.iv a)
    → g ≡ record f { iv = a } → OnOk r (Adds cose_labels F m v (parts_of (f, o)) (parts_of (g, o)))
adds_iv m v r f g a o h t e = adds_at labels.iv m v r f g (record f { iv = a }) o (TakesValue (unless_empty nonempty_bstr) v f.iv a) h t e
    (λ p. ((refl, (refl, (refl, (refl, (p.0, p.1, refl))))), refl))

pub adds_partial_iv :
    (m : LabelView) (v : Item) (r : Result (Unit {0}) CoseError) (f g : FieldsView) (a : List ℕ) (o : PerVersion (Option Item)) → m ≡ labels.partial_iv
    → OnOk r (TakesValue (unless_empty nonempty_bstr) v f.partial_iv a)
    → g ≡ record f { partial_iv = a } → OnOk r (Adds cose_labels F m v (parts_of (f, o)) (parts_of (g, o)))
adds_partial_iv m v r f g a o h t e = adds_at labels.partial_iv m v r f g (record f { partial_iv = a }) o
    (TakesValue (unless_empty nonempty_bstr) v f.partial_iv a) h t e (λ p. ((refl, (refl, (refl, (refl, (refl, (p.0, p.1, refl)))))), refl))

pub adds_countersignature0_v2 :
    (m : LabelView) (v : Item) (r : Result (Unit {0}) CoseError) (f g : FieldsView) (a : Option (List ℕ)) (o : PerVersion (Option Item))
    → m ≡ labels.countersignature0_v2 → OnOk r (TakesValue (optional bstr) v f.countersignature0_v2 a)
    → g ≡ record f { countersignature0_v2 = a } → OnOk r (Adds cose_labels F m v (parts_of (f, o)) (parts_of (g, o)))
adds_countersignature0_v2 m v r f g a o h t e =
    adds_at labels.countersignature0_v2 m v r f g (record f { countersignature0_v2 = a }) o (TakesValue (optional bstr) v f.countersignature0_v2 a) h t e
    (λ p. ((refl, (refl, (refl, (refl, (refl, (refl, (refl, (refl, (p.0, p.1, refl))))))))), refl))

-- The reason that a field refuses its value.
pub refuses_at :
    (l m : LabelView) (v : Item) (r : Result (Unit {0}) CoseError) (x : FieldTuple (Option Item) × List (LabelView × Item)) (P : CoseError → Type 0)
    → m ≡ l
    → IfErr r (λ e. UnlessMemory e P)
    → ((e : CoseError) → P e → Refuses cose_labels F l v x e ⊎ excludes m x e)
    → IfErr r (λ e. UnlessMemory e (λ f. Refuses cose_labels F m v x f ⊎ excludes m x f))
refuses_at l m v (Ok u) x P h t because = t
refuses_at l m v (Err e) x P h t because = λ n. elim (because e (t n))
    [ inl g ↦ inl (subst (λ k. Refuses cose_labels F k v x e) (sym h) g) | inr g ↦ inr g ]

pub swapped : {A B : Type 0} → A ⊎ B → B ⊎ A
swapped (inl x) = inr x
swapped (inr x) = inl x

-- Only the empty list has the view of no signatures.
pub none_held : {T : Type 0} (view : T → SignatureView) (xs : List T) → signatures_of (map view xs) ≡ no_signatures → xs ≡ []
none_held view [] e = refl
none_held view (x ∷ xs) e = absurd (cc)
