-- Adding a claim, by its name.
use Rattle.std.proofs.Common.{◌≡◌, List, [], ◌∷◌, ◌++◌, Bool, ◌||◌, true, false, refl, sym, subst, Result, Ok, Err}
use Rattle.std.specs.Prelude.{IfErr, OnOk}
use Rattle.coset_value.specs.Item.{Item}
use Rattle.coset_codec.specs.Errors.{UnlessMemory}
use Rattle.coset_codec.specs.Maps.{Adds, IfThenElse, Refuses, is_core}
use Rattle.coset_codec.specs.declared.error.CoseError.{CoseError}
use Rattle.coset_codec.specs.MapLaws.{flip}
use Rattle.coset_label.specs.LabelData.{RegisteredLabelView}
use Rattle.coset_claims.specs.ClaimLabels as labels
use Rattle.coset_claims.specs.Claims.{FieldTuple, fields, names, same_label}
use Rattle.coset_claims.specs.ClaimsLaws.{names_laws}

-- The field of this claim takes the value.
pub adds_at :
    (l m : RegisteredLabelView) (v : Item) (r : Result (Unit {0}) CoseError) (x y : FieldTuple × List (RegisteredLabelView × Item)) (P : Type 0)
    → same_label l m ≡ true → OnOk r P → (P → Adds names fields l v x y) → OnOk r (Adds names fields m v x y)
adds_at l m v (Ok u) x y P h t put = subst (λ n. Adds names fields n v x y) (names_laws.same_is l m h) (put t)
adds_at l m v (Err e) x y P h t put = t

-- The field of this claim refuses the value.
pub refuses_at :
    (l m : RegisteredLabelView) (v : Item) (r : Result (Unit {0}) CoseError) (x : FieldTuple × List (RegisteredLabelView × Item)) (P : CoseError → Type 0)
    → same_label l m ≡ true → IfErr r (λ e. UnlessMemory e P) → ((e : CoseError) → P e → Refuses names fields l v x e)
    → IfErr r (λ e. UnlessMemory e (Refuses names fields m v x))
refuses_at l m v (Ok u) x P h t because = t
refuses_at l m v (Err e) x P h t because = λ n. subst (λ k. Refuses names fields k v x e) (names_laws.same_is l m h) (because e (t n))

-- None of seven tests passes.
none :
    (a b c d e f g : Bool) → a ≡ false → b ≡ false → c ≡ false → d ≡ false → e ≡ false → f ≡ false → g ≡ false
    → (a || (b || (c || (d || (e || (f || (g || false))))))) ≡ false
none a b c d e f g h1 h2 h3 h4 h5 h6 h7 = rw (h1, h2, h3, h4, h5, h6, h7) refl

-- A claim with no field of its own goes to `rest`.
pub adds_rest :
    (m : RegisteredLabelView) (v : Item) (x y : FieldTuple × List (RegisteredLabelView × Item)) → same_label labels.iss m ≡ false → same_label labels.sub m
    ≡ false
    → same_label labels.aud m ≡ false → same_label labels.exp m ≡ false
    → same_label labels.nbf m ≡ false → same_label labels.iat m ≡ false → same_label labels.cti m ≡ false → x.0 ≡ y.0 → y.1 ≡ x.1 ++ (m, v) ∷ []
    → Adds names fields m v x y
adds_rest m v x y h1 h2 h3 h4 h5 h6 h7 same rest =
    let other : is_core names fields.labels m ≡ false =
    none _ _ _ _ _ _ _ (turn labels.iss h1) (turn labels.sub h2) (turn labels.aud h3) (turn labels.exp h4) (turn labels.nbf h5) (turn labels.iat h6)
    (turn labels.cti h7) in
    subst (λ b. IfThenElse b (fields.takes m v x.0 y.0 × (y.1 ≡ x.1)) ((x.0 ≡ y.0) × (y.1 ≡ x.1 ++ (m, v) ∷ []))) (sym other) (same, rest)
  where
    turn : (l : RegisteredLabelView) → same_label l m ≡ false → same_label m l ≡ false
    turn l h = flip names names_laws l m h
