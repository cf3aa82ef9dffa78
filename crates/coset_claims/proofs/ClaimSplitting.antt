-- Claims that are split by their keys.
use Rattle.std.proofs.Common.{◌≡◌, ◌++◌, ◌∙◌, ℕ, ℤ, pos, List, [], ◌∷◌, Bool, true, false, not, Option, Some, None, Result, Ok, Err, Vec, is_ok, is_some, map}
use Rattle.std.proofs.Common.{ap, ap₂, append_assoc, append-nil, cond, inl, inr, refl, rules, subst, sym, true≢false}
use Rattle.std.proofs.lemmas.List.{map-append}
use Rattle.std.proofs.lemmas.Option.{none-some, same_Some}
use Rattle.std.specs.Cmp.{signed_Decides}
use Rattle.std.specs.Map.{keys_of}
use Rattle.std.specs.Global.{Global}
use Rattle.std.specs.Ordering.{int_eq}
use Rattle.std.specs.Prelude.{IsErrAnd}
use Rattle.coset_value.specs.Item.{Item, Items, Pairs, array, no_pairs, pair, dict}
use Rattle.coset_value.specs.Parts.{as_array, as_integer, as_map}
use Rattle.coset_value.specs.View.{value_item, value_pairs}
use Rattle.coset_value.specs.declared.value.Value.{Value, Map, the_lemmas}
use Rattle.coset_iana.specs.CwtClaimName as claim_names
use Rattle.coset_iana.specs.Registry.{first_numbered}
use Rattle.coset_iana.specs.declared.claims.TheConstants.{CWT_CLAIM_NAMES}
use Rattle.coset_codec.specs.Results.{Describes, IsOnlyItem, IsRefused}
use Rattle.coset_codec.specs.Errors.{UnlessMemory}
use Rattle.coset_codec.specs.MapLaws.{and_pairs-none, and_pairs-with}
use Rattle.coset_codec.specs.Maps.{SomePair, and_pairs, are_distinct, with_pair}
use Rattle.coset_codec.specs.Shape.{tstr}
use Rattle.coset_codec.specs.ShapeLaws.{Lawful, some-none, some-one, some_of_laws, tstr_laws}
use Rattle.coset_codec.specs.declared.error.CoseError.{CoseError}
use Rattle.coset_label.specs.LabelLaws.{label_laws}
use Rattle.coset_label.specs.Labels.{label, cose_labels, is_some_known}
use Rattle.coset_label.specs.LabelData.{LabelView, RegisteredLabelView}
use Rattle.coset_label.specs.Views.{label_view, entry_view}
use Rattle.coset_label.specs.declared.label.Label.{Label}
use Rattle.coset_claims.specs.ClaimLabels.{aud}
use Rattle.coset_claims.specs.Claims.{ClaimsView, claim_name, claims}
use Rattle.coset_claims.specs.ClaimsLaws.{claims_laws}
use Rattle.coset_claims.specs.Known.{AreKnown, AudienceFaults, IsAudience, IsName, IsNamed, IsNoLabel, KnownFaults, KnownView, Others, PartsView, SplitFaults}
use Rattle.coset_claims.specs.Known.{Splits, SplitsOff, aud_array, is_aud, known, texts}
use Rattle.coset_codec.specs.Alone.{IsReadAlone}
use Rattle.coset_codec.proofs.Refusals.{at_fault}

-- ---- pair by pair

-- The split of all pairs consists of `ns`, `auds` and `us`, and then of the split of the pairs `left`.
abbrev pub GoesOn : Pairs → Pairs → List Items → Others → Pairs → Type 0
GoesOn all ns auds us left = (ms : Pairs) (vs : List Items) (ws : Others) → Splits left ms vs ws → Splits all (and_pairs ns ms) (auds ++ vs) (us ++ ws)

-- A faulty key in `left` is a faulty key in `all`.
abbrev pub Blames : Pairs → Pairs → Type 0
Blames all left = (e : CoseError) → SomePair (IsNoLabel e) left → SomePair (IsNoLabel e) all

pub aud_on :
    (all old new ns : Pairs) (auds bs : List Items) (us : Others) (k v : Item) (vs : Items) → GoesOn all ns auds us old → old ≡ pair k v new
    → aud_array k v ≡ Some vs → bs ≡ auds ++ vs ∷ []
    → GoesOn all ns bs us new
aud_on all old new ns auds bs us k v vs g e a q = λ ms rs ws h.
    subst (λ x. Splits all (and_pairs ns ms) x (us ++ ws)) (sym (ap (λ x. x ++ rs) q ∙ append_assoc auds (vs ∷ []) rs))
    (g ms (vs ∷ rs) ws (subst (λ ps. Splits ps ms (vs ∷ rs) ws) (sym e) (inl (vs, rs, a, refl, h))))

pub named_on :
    (all old new ns qs : Pairs) (auds : List Items) (us : Others) (k v : Item) → GoesOn all ns auds us old → old ≡ pair k v new → aud_array k v ≡ None
    → IsName k → qs ≡ with_pair ns k v
    → GoesOn all qs auds us new
named_on all old new ns qs auds us k v g e a n q = λ ms vs ws h.
    subst (λ ps. Splits all ps (auds ++ vs) (us ++ ws)) (sym (ap (λ ps. and_pairs ps ms) q ∙ and_pairs-with ns k v ms))
    (g (pair k v ms) vs ws (subst (λ ps. Splits ps (pair k v ms) vs ws) (sym e) (inr (inl (a, n, (ms, refl, h))))))

pub other_on :
    (all old new ns : Pairs) (auds : List Items) (us rs : Others) (k v : Item) (l : LabelView) → GoesOn all ns auds us old → old ≡ pair k v new
    → (IsName k → ⊥) → label.describes k l → rs ≡ us ++ (l, v) ∷ []
    → GoesOn all ns auds rs new
other_on all old new ns auds us rs k v l g e n d q = λ ms vs ws h.
    subst (Splits all (and_pairs ns ms) (auds ++ vs)) (sym (ap (λ x. x ++ ws) q ∙ append_assoc us ((l, v) ∷ []) ws))
    (g ms vs ((l, v) ∷ ws) (subst (λ ps. Splits ps ms vs ((l, v) ∷ ws)) (sym e) (inr (inr (n, (l, ws, d, refl, h))))))

pub blames_on : (all old new : Pairs) (k v : Item) → Blames all old → old ≡ pair k v new → Blames all new
blames_on all old new k v b e f h = b f (subst (SomePair (IsNoLabel f)) (sym e) (inr h))

pub masked : (all old new : Pairs) (k v : Item) (f : CoseError) → Blames all old → old ≡ pair k v new → (IsName k → ⊥) → label.faults k f
    → SomePair (IsNoLabel f) all
masked all old new k v f b e n h = b f (subst (SomePair (IsNoLabel f)) (sym e) (inl (n, h)))

pub all_split : (all left ns : Pairs) (auds : List Items) (us : Others) → GoesOn all ns auds us left → left ≡ no_pairs → Splits all ns auds us
all_split all left ns auds us g e =
    let h : Splits all (and_pairs ns no_pairs) (auds ++ []) (us ++ []) =
    g no_pairs [] [] (subst (λ ps. Splits ps no_pairs [] []) (sym e) (refl, refl, refl)) in
    subst (λ ps. Splits all ps auds us) (and_pairs-none ns)
    (subst (λ x. Splits all (and_pairs ns no_pairs) x us) (append-nil auds) (subst (Splits all (and_pairs ns no_pairs) (auds ++ [])) (append-nil us) h))

pub value_pairs-with : (ps : List (Value × Value)) (k v : Value) → value_pairs (ps ++ (k, v) ∷ []) ≡ with_pair (value_pairs ps) (value_item k) (value_item v)
value_pairs-with [] k v = refl
value_pairs-with (p ∷ ps) k v = ap (pair (value_item p.0) (value_item p.1)) (value_pairs-with ps k v)

pub pairs_pushed : (old new : List (Value × Value)) (x y : Value) (k v : Item) → new ≡ old ++ (x, y) ∷ [] → value_item x ≡ k → value_item y ≡ v
    → value_pairs new ≡ with_pair (value_pairs old) k v
pairs_pushed old new x y k v e p q = ap value_pairs e ∙ (value_pairs-with old x y ∙ ap₂ (with_pair (value_pairs old)) p q)

pub entries_pushed :
    (old new : List (Label × Value)) (l : Label) (y : Value) (v : Item) → new ≡ old ++ (l, y) ∷ [] → value_item y ≡ v
    → map entry_view new ≡ map entry_view old ++ (label_view l, v) ∷ []
entries_pushed old new l y v e q = ap (map entry_view) e ∙ (map-append entry_view old ((l, y) ∷ []) ∙ ap (λ w. map entry_view old ++ (label_view l, w) ∷ []) q)

pub map_pushed : {A B : Type 0} (f : A → B) (old new : List A) (x : A) → new ≡ old ++ x ∷ [] → map f new ≡ map f old ++ f x ∷ []
map_pushed f old new x e = ap (map f) e ∙ map-append f old (x ∷ [])

-- Reading a key by itself decides whether it is a name.
pub is_named : {T : Type 0} (view : T → RegisteredLabelView) (k : Item) (r : Result T CoseError) (b : Bool) → IsReadAlone claim_name view k r → is_ok r ≡ b
    → IsNamed b k
is_named view k (Err f) b h e = subst (λ x. IsNamed x k) e (λ n. h.2 n.0 n.1)
is_named view k (Ok x) b h e = subst (λ y. IsNamed y k) e (view x, h)

pub not_split :
    {T : Type 0} (ps : Pairs) (view : T → PartsView) (e : CoseError) (r : Result T CoseError) → IsErrAnd r (λ x. x ≡ e)
    → UnlessMemory e (λ f. SomePair (IsNoLabel f) ps) → SplitsOff ps view r
not_split ps view e (Ok x) is h = absurd is
not_split ps view e (Err x) is h = λ n. subst (λ f. SomePair (IsNoLabel f) ps) (sym is) (h (λ m. n (is ∙ m)))

-- ---- known pairs have no fault

-- The number that passes a test.
tested : (f : ℤ → Bool) (o : Option ℤ) → is_some_known f o ≡ true → (i : ℤ) × (o ≡ Some i) × (f i ≡ true)
tested f None e = absurd (true≢false (sym e))
tested f (Some i) e = (i, refl, e)

only_if : (b : Bool) (o : Option Items) (vs : Items) → cond b o None ≡ Some vs → b ≡ true
only_if true o vs e = refl
only_if false o vs e = absurd (none-some vs e)

-- The number of the audience is the name of a claim.
pub is_aud_name : (k : Item) → is_aud k ≡ true → claim_name.describes k aud
unfolding claim_name
is_aud_name k e =
    let h = tested (λ i. int_eq i (pos 3)) (as_integer k) e in
    let three : as_integer k ≡ Some (pos 3) = h.1 ∙ ap Some ((signed_Decides h.0 (pos 3)).0 h.2) in
    (ap is_some three, (ap (is_some_known (λ i. is_some (first_numbered claim_names.number CWT_CLAIM_NAMES i))) three, (three, search rules)))

-- The key of an audience in an array is the name of a claim.
aud_is_name : (k v : Item) (vs : Items) → aud_array k v ≡ Some vs → IsName k
aud_is_name k v vs e = (aud, is_aud_name k (only_if (is_aud k) (as_array v) vs e))

splits_unique : (ps ns ms : Pairs) (auds bs : List Items) (us ws : Others) → Splits ps ns auds us → Splits ps ms bs ws
    → (ns ≡ ms) × (auds ≡ bs) × (us ≡ ws)
splits_unique no_pairs ns ms auds bs us ws p q = (p.0 ∙ sym q.0, p.1 ∙ sym q.1, p.2 ∙ sym q.2)
splits_unique (pair k v ps) ns ms auds bs us ws (inl p) (inl q) =
    let r = splits_unique ps ns ms p.1 q.1 us ws p.4 q.4 in
    let one : p.0 ≡ q.0 = same_Some p.0 q.0 (sym p.2 ∙ q.2) in
    (r.0, p.3 ∙ (ap₂ (λ (x : Items) (y : List Items). x ∷ y) one r.1 ∙ sym q.3), r.2)
splits_unique (pair k v ps) ns ms auds bs us ws (inl p) (inr (inl q)) = absurd (some-none p.2 q.0)
splits_unique (pair k v ps) ns ms auds bs us ws (inl p) (inr (inr q)) = absurd (q.0 (aud_is_name k v p.0 p.2))
splits_unique (pair k v ps) ns ms auds bs us ws (inr (inl p)) (inl q) = absurd (some-none q.2 p.0)
splits_unique (pair k v ps) ns ms auds bs us ws (inr (inl p)) (inr (inl q)) =
    let r = splits_unique ps p.2.0 q.2.0 auds bs us ws p.2.2 q.2.2 in
    (p.2.1 ∙ (ap (pair k v) r.0 ∙ sym q.2.1), r.1, r.2)
splits_unique (pair k v ps) ns ms auds bs us ws (inr (inl p)) (inr (inr q)) = absurd (q.0 p.1)
splits_unique (pair k v ps) ns ms auds bs us ws (inr (inr p)) (inl q) = absurd (p.0 (aud_is_name k v q.0 q.2))
splits_unique (pair k v ps) ns ms auds bs us ws (inr (inr p)) (inr (inl q)) = absurd (p.0 q.1)
splits_unique (pair k v ps) ns ms auds bs us ws (inr (inr p)) (inr (inr q)) =
    let r = splits_unique ps ns ms auds bs p.1.1 q.1.1 p.1.4 q.1.4 in
    let l : p.1.0 ≡ q.1.0 = label_laws.unique k p.1.0 q.1.0 p.1.2 q.1.2 in
    (r.0, r.1, p.1.3 ∙ (ap₂ (λ (x : LabelView) (y : Others). (x, v) ∷ y) l r.2 ∙ sym q.1.3))

labels_sound : (ps ns : Pairs) (auds : List Items) (us : Others) (e : CoseError) → Splits ps ns auds us → SomePair (IsNoLabel e) ps → ⊥
labels_sound no_pairs ns auds us e p h = h
labels_sound (pair k v ps) ns auds us e (inl p) (inl h) = h.0 (aud_is_name k v p.0 p.2)
labels_sound (pair k v ps) ns auds us e (inl p) (inr h) = labels_sound ps ns p.1 us e p.4 h
labels_sound (pair k v ps) ns auds us e (inr (inl p)) (inl h) = h.0 p.1
labels_sound (pair k v ps) ns auds us e (inr (inl p)) (inr h) = labels_sound ps p.2.0 auds us e p.2.2 h
labels_sound (pair k v ps) ns auds us e (inr (inr p)) (inl h) = label_laws.sound k p.1.0 e p.1.2 h.1
labels_sound (pair k v ps) ns auds us e (inr (inr p)) (inr h) = labels_sound ps ns auds p.1.1 e p.1.4 h

texts_laws : Lawful (List (List ℕ)) texts
texts_laws = some_of_laws tstr tstr_laws

audience_unique : (auds : List Items) (text : Option (List ℕ)) (xs ys : List (List ℕ)) → IsAudience auds text xs → IsAudience auds text ys → xs ≡ ys
audience_unique [] text xs ys p q = p ∙ sym q
audience_unique (vs ∷ []) None xs ys p q = texts_laws.unique (array vs) xs ys p q
audience_unique (vs ∷ []) (Some s) xs ys p q = absurd p
audience_unique (vs ∷ ws ∷ auds) text xs ys p q = absurd p

audience_sound : (auds : List Items) (text : Option (List ℕ)) (xs : List (List ℕ)) (e : CoseError) → IsAudience auds text xs → AudienceFaults auds text e → ⊥
audience_sound [] text xs e p f = f
audience_sound (vs ∷ []) None xs e p f = texts_laws.sound (array vs) xs e p f
audience_sound (vs ∷ []) (Some s) xs e p f = p
audience_sound (vs ∷ ws ∷ auds) text xs e p f = p

split_sound :
    (ns : Pairs) (auds : List Items) (x : KnownView) (e : CoseError) → claims.describes (dict ns) x.claims → IsAudience auds x.claims.audience x.audience
    → are_distinct cose_labels.same (keys_of x.others) ≡ true → SplitFaults ns auds x.others e → ⊥
split_sound ns auds x e c a d (inl f) = true≢false (sym d ∙ f.0)
split_sound ns auds x e c a d (inr (inl f)) = claims_laws.sound (dict ns) x.claims e c f
split_sound ns auds x e c a d (inr (inr f)) =
    let one = claims_laws.unique (dict ns) f.0 x.claims f.1 c in
    audience_sound auds x.claims.audience x.audience e a (subst (λ (y : ClaimsView). AudienceFaults auds y.audience e) one f.2)

pairs_sound : (ps : Pairs) (x : KnownView) (e : CoseError) → AreKnown ps x → KnownFaults ps e → ⊥
pairs_sound ps x e k (inl h) = labels_sound ps k.0 k.1 x.others e k.2 h
pairs_sound ps x e k (inr h) =
    let same = splits_unique ps h.0 k.0 h.1 k.1 h.2 x.others h.3 k.2 in
    split_sound k.0 k.1 x e k.3 k.4 k.5
    (subst (λ us. SplitFaults k.0 k.1 us e) same.2
    (subst (λ auds. SplitFaults k.0 auds h.2 e) same.1 (subst (λ ns. SplitFaults ns h.1 h.2 e) same.0 h.4)))

pub known_sound : (v : Item) (x : KnownView) (e : CoseError) → known.describes v x → known.faults v e → ⊥
known_sound v x e d (inl f) = some-none d.1 f.0
known_sound v x e d (inr f) = pairs_sound d.0 x e d.2 (subst (λ ps. KnownFaults ps e) (some-one f.1 d.1) f.2)

-- A view, from its parts.
abbrev pub known_of : ClaimsView → List (List ℕ) → Others → KnownView
known_of c xs us = record { claims = c; audience = xs; others = us }

pairs_unique : (ps : Pairs) (x y : KnownView) → AreKnown ps x → AreKnown ps y → x ≡ y
pairs_unique ps x y p q =
    let same = splits_unique ps p.0 q.0 p.1 q.1 x.others y.others p.2 q.2 in
    let one : x.claims ≡ y.claims =
    claims_laws.unique (dict q.0) x.claims y.claims (subst (λ ns. claims.describes (dict ns) x.claims) same.0 p.3) q.3 in
    let named : IsAudience q.1 y.claims.audience x.audience =
    subst (λ (c : ClaimsView). IsAudience q.1 c.audience x.audience) one
    (subst (λ auds. IsAudience auds x.claims.audience x.audience) same.1 p.4) in
    let names = audience_unique q.1 y.claims.audience x.audience y.audience named q.4 in
    ap (λ (c : ClaimsView). known_of c x.audience x.others) one
    ∙ ap₂ (λ (a : List (List ℕ)) (us : Others). known_of y.claims a us) names same.2

-- An item is at most one set of known claims with others.
pub known_unique : (v : Item) (x y : KnownView) → known.describes v x → known.describes v y → x ≡ y
known_unique v x y d f = pairs_unique d.0 x y d.2 (subst (λ ps. AreKnown ps y) (some-one f.1 d.1) f.2)

-- ---- results

-- The view of a map is that of its pairs.
pub value_item-Map : (ps : Vec (Value × Value) Global) → value_item (Map ps) ≡ dict (value_pairs ps.items)
value_item-Map ps = search (rules, the_lemmas)

-- If `b` is false and the negation of `d`, then `d` is true.
pub told : (b d : Bool) → b ≡ not d → b ≡ false → d ≡ true
told b true e f = refl
told b false e f = absurd (true≢false (sym e ∙ f))

pub told_not : (b d : Bool) → b ≡ not d → b ≡ true → d ≡ false
told_not b false e f = refl
told_not b true e f = absurd (true≢false (sym f ∙ e))

module _ (s : List ℕ) (v : Item) (only : IsOnlyItem s v) (ps : Pairs) (is : as_map v ≡ Some ps) where
  pub no_labels : (e : CoseError) → UnlessMemory e (λ f. SomePair (IsNoLabel f) ps) → IsRefused known s e
  no_labels e h = at_fault known known_sound s v e only (λ n. inr (ps, is, inl (h n)))

  -- The pairs split into these groups, which have a fault.
  pub split_fault : (ns : Pairs) (auds : List Items) (us : Others) → Splits ps ns auds us → (e : CoseError) → UnlessMemory e (SplitFaults ns auds us)
      → IsRefused known s e
  split_fault ns auds us p e h = at_fault known known_sound s v e only (λ n. inr (ps, is, inr (ns, auds, us, p, h n)))

  pub all_known :
      (ns : Pairs) (auds : List Items) (us : Others) (c : ClaimsView) (xs : List (List ℕ)) → Splits ps ns auds us
      → are_distinct cose_labels.same (keys_of us) ≡ true → claims.describes (dict ns) c → IsAudience auds c.audience xs
      → Describes known s (known_of c xs us)
  all_known ns auds us c xs p d h a = (v, only.0, (ps, is, (ns, auds, p, h, a, d)))
