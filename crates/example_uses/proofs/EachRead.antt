-- Items that are read each by itself, and one more.
use Rattle.std.proofs.Common.{◌≡◌, ◌++◌, List, [], ◌∷◌, Result, ap, map, refl, subst, sym}
use Rattle.coset_value.specs.View.{value_item}
use Rattle.coset_value.specs.declared.value.Value.{Value}
use Rattle.coset_codec.specs.Alone.{IsReadAlone}
use Rattle.coset_codec.specs.Shape.{Shape}
use Rattle.coset_codec.specs.declared.error.CoseError.{CoseError}
use Rattle.example_uses.specs.ReadableParts.{EachIsRead}

module _ {T A : Type 0} (s : Shape A) (view : T → A) (v : Value) (r : Result T CoseError) (read : IsReadAlone s view (value_item v) r) where
  and_one : (vs : List Value) (rs : List (Result T CoseError)) → EachIsRead s view (map value_item vs) rs
      → EachIsRead s view (map value_item (vs ++ v ∷ [])) (rs ++ r ∷ [])
  and_one [] rs e = (r, [], ap (λ (qs : List (Result T CoseError)). qs ++ r ∷ []) e, read, refl)
  and_one (w ∷ vs) rs (q, qs, e, first, others) =
      (q, qs ++ r ∷ [], ap (λ (all : List (Result T CoseError)). all ++ r ∷ []) e, first, and_one vs qs others)

  pub one_more : (vs : List Value) (old new : List (Result T CoseError)) → EachIsRead s view (map value_item vs) old → new ≡ old ++ r ∷ []
      → EachIsRead s view (map value_item (vs ++ v ∷ [])) new
  one_more vs old new all e = subst (EachIsRead s view (map value_item (vs ++ v ∷ []))) (sym e) (and_one vs old all)
