-- A claims set, as known claims without others.
use Rattle.std.proofs.Common.{◌≡◌, ℕ, List, [], ◌∷◌, Bool, true, false, Option, Some, None, cond}
use Rattle.std.proofs.Common.{ap, inl, inr, refl, subst, sym, ◌∙◌, true≢false}
use Rattle.std.specs.Prelude.{⊤}
use Rattle.std.specs.List.{AllByRecursion, IsDistinct}
use Rattle.std.specs.Map.{keys_of, lookup}
use Rattle.std.proofs.lemmas.Option.{none-some}
use Rattle.coset_value.specs.Item.{Item, Pairs, integer, bytes, float, text, boolean, null, tag, array, dict, no_pairs, pair}
use Rattle.coset_value.specs.Parts.{as_array}
use Rattle.coset_codec.specs.Maps.{AreLabelled, optional}
use Rattle.coset_codec.specs.Results.{Describes, IsOnlyItem}
use Rattle.coset_codec.specs.Shape.{tstr}
use Rattle.coset_label.specs.LabelData.{RegisteredLabelView}
use Rattle.coset_claims.specs.ClaimLabels.{aud}
use Rattle.coset_claims.specs.Claims.{ClaimsView, claim_name, claims, same_label}
use Rattle.coset_claims.specs.ClaimsLaws.{names_laws}
use Rattle.coset_claims.specs.Known.{Splits, aud_array, is_aud, known, only_claims}
use Rattle.coset_claims.proofs.ClaimSplitting.{is_aud_name}

-- A text is no array.
no_text_array : (v : Item) (s : List ℕ) → tstr.describes v s → as_array v ≡ None
no_text_array (integer n) s d = refl
no_text_array (bytes b) s d = refl
no_text_array (float x) s d = refl
no_text_array (text t) s d = refl
no_text_array (boolean b) s d = refl
no_text_array null s d = refl
no_text_array (tag t w) s d = refl
no_text_array (array vs) s d = absurd (none-some s d)
no_text_array (dict ps) s d = refl

present_text : (v : Item) (o : Option (List ℕ)) → (optional tstr).describes (Some v) o → as_array v ≡ None
present_text v None d = absurd d
present_text v (Some s) d = no_text_array v s d

-- A name and its value.
abbrev pub Named : Type 0
Named = RegisteredLabelView × Item

-- The value of each audience is no array.
abbrev pub NoArrays : List Named → Type 0
NoArrays [] = ⊤
NoArrays (e ∷ es) = (same_label aud e.0 ≡ true → as_array e.1 ≡ None) × NoArrays es

none_same : (es : List Named) → AllByRecursion (λ m. same_label aud m ≡ false) (keys_of es) → NoArrays es
none_same [] h = tt
none_same (e ∷ es) h = (λ t. absurd (true≢false (sym t ∙ h.0)), none_same es h.1)

one_more : (e : Named) (es : List Named) (o : Option (List ℕ)) (b : Bool) → same_label aud e.0 ≡ b
    → AllByRecursion (λ m. same_label e.0 m ≡ false) (keys_of es)
    → (optional tstr).describes (cond b (Some e.1) (lookup (same_label aud) es)) o
    → ((optional tstr).describes (lookup (same_label aud) es) o → NoArrays es) → NoArrays (e ∷ es)
one_more e es o true t d h others = (
  λ s. present_text e.1 o h,
  none_same es (subst (λ l. AllByRecursion (λ m. same_label l m ≡ false) (keys_of es)) (sym (names_laws.same_is aud e.0 t)) d),
)
one_more e es o false f d h others = (λ t. absurd (true≢false (sym t ∙ f)), others h)

no_arrays : (es : List Named) (o : Option (List ℕ)) → IsDistinct same_label (keys_of es) → (optional tstr).describes (lookup (same_label aud) es) o
    → NoArrays es
unfolding IsDistinct
no_arrays [] o d h = tt
no_arrays (e ∷ es) o d h = one_more e es o (same_label aud e.0) refl d.0 h (no_arrays es o d.1)

-- A pair with a claim's name isn't an audience in an array.
if_aud : (k v : Item) (m : RegisteredLabelView) (b : Bool) → is_aud k ≡ b → claim_name.describes k m → (same_label aud m ≡ true → as_array v ≡ None)
    → cond b (as_array v) None ≡ None
if_aud k v m false f d h = refl
if_aud k v m true t d h =
    let one : aud ≡ m = names_laws.shape.unique k aud m (is_aud_name k t) d in
    h (subst (λ l. same_label aud l ≡ true) one (names_laws.same_self aud))

all_named : (ps : Pairs) (es : List Named) → AreLabelled claim_name.describes ps es → NoArrays es → Splits ps ps [] []
all_named no_pairs [] l n = (refl, refl, refl)
all_named no_pairs (e ∷ es) l n = absurd l
all_named (pair k v ps) [] l n = absurd l
all_named (pair k v ps) (e ∷ es) l n =
    let alone : aud_array k v ≡ None = if_aud k v e.0 (is_aud k) refl l.0 (λ t. ap as_array l.1 ∙ n.0 t) in
    inr (inl (alone, (e.0, l.0), (ps, refl, all_named ps es l.2 n.1)))

pub only_claims_known : (v : Item) (c : ClaimsView) → claims.describes v c → known.describes v (only_claims c)
unfolding claims
only_claims_known v c d =
    let es = d.2.entries in
    let n = no_arrays es c.audience d.2.distinct d.2.fields.1.1.0 in
    (d.0, d.1, (d.0, [], all_named d.0 es d.2.named n, (d.0, refl, d.2), refl, refl))

-- Bytes that are a claims set are known claims.
pub only_claims_described : (s : List ℕ) (v : Item) (c : ClaimsView) → IsOnlyItem s v → claims.describes v c → Describes known s (only_claims c)
only_claims_described s v c only d = (v, only.0, only_claims_known v c d)
