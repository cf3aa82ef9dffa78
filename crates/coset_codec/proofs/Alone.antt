-- Elements of an array that are read independently of each other.
use Rattle.std.proofs.Common.{◌≡◌, ◌++◌, ◌∙◌, List, [], ◌∷◌, Result, ap, append_assoc, append-nil, refl, subst, sym}
use Rattle.coset_value.specs.Item.{Item, Items, no_items, item}
use Rattle.coset_codec.specs.Alone.{EachReadAlone, IsReadAlone}
use Rattle.coset_codec.specs.Shape.{Shape}
use Rattle.coset_codec.specs.declared.error.CoseError.{CoseError}

module _ {T A : Type 0} (s : Shape A) (view : T → A) where
  -- The results rs, followed by the results of the elements left, are the results of all elements.
  abbrev pub GoesOn : Items → List (Result T CoseError) → Items → Type 0
  GoesOn all rs left = (qs : List (Result T CoseError)) → EachReadAlone s view left qs → EachReadAlone s view all (rs ++ qs)

  pub read_on :
      (all old new : Items) (v : Item) (r : Result T CoseError) (rs ps : List (Result T CoseError)) → GoesOn all rs old → old ≡ item v new
      → IsReadAlone s view v r → ps ≡ rs ++ r ∷ []
      → GoesOn all ps new
  read_on all old new v r rs ps g e d q = λ qs h.
      subst (EachReadAlone s view all) (sym (ap (λ ws. ws ++ qs) q ∙ append_assoc rs (r ∷ []) qs))
      (g (r ∷ qs) (subst (λ us. EachReadAlone s view us (r ∷ qs)) (sym e) (r, qs, refl, d, h)))

  pub all_read : (all left : Items) (rs : List (Result T CoseError)) → GoesOn all rs left → left ≡ no_items → EachReadAlone s view all rs
  all_read all left rs g e = subst (EachReadAlone s view all) (append-nil rs) (g [] (subst (λ us. EachReadAlone s view us []) (sym e) refl))
