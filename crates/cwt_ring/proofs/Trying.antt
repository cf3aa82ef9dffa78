-- Keys that are tried in order.
use Rattle.std.proofs.Common.{◌≡◌, ◌∙◌, ◌++◌, ◌+◌, ◌<◌, ◌≤◌, ℕ, List, [], ◌∷◌}
use Rattle.std.proofs.Common.{arith, get_or, length, take, drop, map, option_map, Option, Some, None, sym, ap, subst, append_assoc}
use Rattle.std.specs.List.{cons_option}
use Rattle.std.proofs.lemmas.List.{append-nil, length-append, map-append}
use Rattle.std.proofs.lemmas.List.Elements.{All-nil, All-push, filter_map-append}
use Rattle.std.proofs.Math.Seq.{take-append_seam}
use Rattle.std.proofs.lemmas.Grind.{flat_map-append}
use Rattle.cwt_ring.proofs.Lists.{more, whole}
use Rattle.cwt_ring.specs.Attempts.{AllRefused, AreRefused, AreTooMany, Finds, MAX_KEYS, fitting, fitting_of, issuer_view}
use Rattle.coset.specs.CoseKey.{CoseKey}
use Rattle.coset.specs.Keys.{KeyView, key_set_view, key_view}
use Rattle.cwt_keys.specs.Keys.{Name, name_view}
use Rattle.cwt_keys.specs.Sealed.{SealView}
use Rattle.cwt_ring.specs.Fits.{Fitted, fits}
use Rattle.cwt_ring.specs.declared.attempt.Issuer.{Issuer}

-- ---- the keys that fit

-- A key that fits by this nonce, with its issuer's name.
abbrev pub by_nonce : Name → KeyView → List ℕ → Name × Fitted
by_nonce name k n = (name, record { key = k; nonce = n })

-- A key, if it fits.
abbrev pub where_it_fits : SealView → Name → KeyView → Option (Name × Fitted)
where_it_fits l name k = option_map (by_nonce name k) (fits k l)

-- The keys of one more issuer.
pub issuer_more :
    (l : SealView) (is : List Issuer) (n : ℕ) (i : Issuer) → n < length is → i ≡ get_or is n i
    → fitting l (map issuer_view (take (n + 1) is)) ≡ fitting l (map issuer_view (take n is)) ++ fitting_of l (name_view i.name) (key_set_view i.keys.now)
issuer_more l is n i lt at =
    let one = fitting_of l (name_view i.name) (key_set_view i.keys.now) in
    ap (λ js. fitting l (map issuer_view js)) (more is n i lt at)
    ∙ (ap (fitting l) (map-append issuer_view (take n is) (i ∷ []))
    ∙ (flat_map-append (λ j. fitting_of l j.name j.keys) (map issuer_view (take n is)) (issuer_view i ∷ [])
    ∙ ap (λ ks. fitting l (map issuer_view (take n is)) ++ ks) (append-nil one)))

-- One more key, which fits or doesn't.
step :
    (l : SealView) (name : Name) (before : List (Name × Fitted)) (ks : List CoseKey) (n : ℕ) (k : CoseKey) (o : Option (List ℕ))
    → n < length ks → k ≡ get_or ks n k
    → o ≡ fits (key_view k) l
    → before ++ fitting_of l name (map key_view (take (n + 1) ks))
    ≡ (before ++ fitting_of l name (map key_view (take n ks))) ++ cons_option (option_map (by_nonce name (key_view k)) o) []
step l name before ks n k o lt at is =
    let so_far = fitting_of l name (map key_view (take n ks)) in
    ap (λ js. before ++ fitting_of l name (map key_view js)) (more ks n k lt at)
    ∙ (ap (λ js. before ++ fitting_of l name js) (map-append key_view (take n ks) (k ∷ []))
    ∙ (ap (λ js. before ++ js) (filter_map-append (where_it_fits l name) (map key_view (take n ks)) (key_view k ∷ []))
    ∙ (sym (append_assoc before so_far (fitting_of l name (key_view k ∷ [])))
    ∙ ap (λ (p : Option (List ℕ)). (before ++ so_far) ++ cons_option (option_map (by_nonce name (key_view k)) p) []) (sym is))))

-- All keys of an issuer that fit: those before one of them, that key, and those after it.
around_key :
    (l : SealView) (name : Name) (ks : List CoseKey) (n : ℕ) (k : CoseKey) (nonce : List ℕ)
    → n < length ks → k ≡ get_or ks n k → Some nonce ≡ fits (key_view k) l
    → fitting_of l name (map key_view ks)
    ≡ fitting_of l name (map key_view (take n ks)) ++ by_nonce name (key_view k) nonce ∷ fitting_of l name (map key_view (drop (n + 1) ks))
around_key l name ks n k nonce lt at is =
    let rest = map key_view (drop (n + 1) ks) in
    let so_far = fitting_of l name (map key_view (take n ks)) in
    ap (λ js. fitting_of l name (map key_view js)) (whole ks n k lt at)
    ∙ (ap (fitting_of l name) (map-append key_view (take n ks) (k ∷ drop (n + 1) ks))
    ∙ (filter_map-append (where_it_fits l name) (map key_view (take n ks)) (key_view k ∷ rest)
    ∙ ap (λ (p : Option (List ℕ)). so_far ++ cons_option (option_map (by_nonce name (key_view k)) p) (fitting_of l name rest)) (sym is)))

-- The same for all issuers: those before one of them, its keys, and those after it.
around_issuer :
    (l : SealView) (is : List Issuer) (n : ℕ) (i : Issuer) → n < length is → i ≡ get_or is n i
    → fitting l (map issuer_view is)
    ≡ fitting l (map issuer_view (take n is)) ++ (fitting_of l (name_view i.name) (key_set_view i.keys.now) ++ fitting l (map issuer_view (drop (n + 1) is)))
around_issuer l is n i lt at =
    ap (λ js. fitting l (map issuer_view js)) (whole is n i lt at)
    ∙ (ap (fitting l) (map-append issuer_view (take n is) (i ∷ drop (n + 1) is))
    ∙ flat_map-append (λ j. fitting_of l j.name j.keys) (map issuer_view (take n is)) (issuer_view i ∷ map issuer_view (drop (n + 1) is)))

-- All keys that fit: those before one key of one issuer, that key, and those after it. The issuer's keys are `ks`.
around :
    (l : SealView) (is : List Issuer) (m : ℕ) (i : Issuer) (ks : List CoseKey) (n : ℕ) (k : CoseKey) (nonce : List ℕ) → m < length is → i ≡ get_or is m i
    → ks ≡ i.keys.now.0.items → n < length ks → k ≡ get_or ks n k → Some nonce ≡ fits (key_view k) l
    → fitting l (map issuer_view is)
    ≡ (fitting l (map issuer_view (take m is)) ++ fitting_of l (name_view i.name) (map key_view (take n ks)))
    ++ by_nonce (name_view i.name) (key_view k) nonce
    ∷ (fitting_of l (name_view i.name) (map key_view (drop (n + 1) ks)) ++ fitting l (map issuer_view (drop (m + 1) is)))
around l is m i ks n k nonce lt at same lt' at' fit =
    let name = name_view i.name in
    let outer = fitting l (map issuer_view (take m is)) in
    let inner = fitting_of l name (map key_view (take n ks)) in
    let rest = fitting_of l name (map key_view (drop (n + 1) ks)) in
    let others = fitting l (map issuer_view (drop (m + 1) is)) in
    let one = by_nonce name (key_view k) nonce in
    around_issuer l is m i lt at
    ∙ (ap (λ js. outer ++ (fitting_of l name (map key_view js) ++ others)) (sym same)
    ∙ (ap (λ js. outer ++ (js ++ others)) (around_key l name ks n k nonce lt' at' fit)
    ∙ (ap (λ js. outer ++ js) (append_assoc inner (one ∷ rest) others) ∙ sym (append_assoc outer inner (one ∷ rest ++ others)))))

-- ---- what was tried

-- None of these keys is accepted. The error is that of the last one, if there is one.
abbrev pub LastRefused : {E : Type 0} → (Fitted → E → Type 0) → List (Name × Fitted) → Option E → Type 0
LastRefused refuse ks None = ks ≡ []
LastRefused refuse ks (Some e) = AreRefused refuse ks e

-- None of these n keys is accepted, and they are at most 16.
abbrev pub Tried : {E : Type 0} → (Fitted → E → Type 0) → List (Name × Fitted) → Option E → ℕ → Type 0
Tried refuse ks last n = LastRefused refuse ks last × (length ks ≡ n) × (n ≤ MAX_KEYS)

module _ {E : Type 0} (refuse : Fitted → E → Type 0) (l : SealView) where
  all_refused : (ks : List (Name × Fitted)) (last : Option E) → LastRefused refuse ks last → AllRefused refuse ks
  all_refused ks None t = subst (AllRefused refuse) (sym t) (All-nil (λ (k : Name × Fitted). (e : E) × refuse k.1 e))
  all_refused ks (Some e) t =
      subst (AllRefused refuse) (sym t.are) (All-push (λ (k : Name × Fitted). (e : E) × refuse k.1 e) t.before t.last t.refused (e, t.last_refused))

  -- The same error and number, as a loop keeps them.
  pub kept :
      (ks : List (Name × Fitted)) (last last' : Option E) (n n' : ℕ) → last' ≡ last → n' ≡ n → Tried refuse ks last n → Tried refuse ks last' n'
  kept ks last last' n n' e e' t = subst (λ o. Tried refuse ks o n') (sym e) (subst (λ m. Tried refuse ks last m) (sym e') t)

  -- A key that doesn't fit is skipped.
  pub passed_over :
      (name : Name) (before : List (Name × Fitted)) (ks : List CoseKey) (n : ℕ) (k : CoseKey) (last : Option E) (tried : ℕ) → n < length ks
      → k ≡ get_or ks n k
      → None ≡ fits (key_view k) l
      → Tried refuse (before ++ fitting_of l name (map key_view (take n ks))) last tried
      → Tried refuse (before ++ fitting_of l name (map key_view (take (n + 1) ks))) last tried
  passed_over name before ks n k last tried lt at is t =
      subst (λ js. Tried refuse js last tried) (sym (step l name before ks n k None lt at is
      ∙ append-nil (before ++ fitting_of l name (map key_view (take n ks))))) t

  -- A key that fits is refused, after fewer than 16 others.
  pub refused_too :
      (name : Name) (before : List (Name × Fitted)) (ks : List CoseKey) (n : ℕ) (k : CoseKey) (nonce : List ℕ) (last : Option E) (e : E) (tried : ℕ)
      → n < length ks → k ≡ get_or ks n k → Some nonce ≡ fits (key_view k) l → refuse (record { key = key_view k; nonce = nonce }) e
      → (tried ≡ MAX_KEYS → ⊥)
      → Tried refuse (before ++ fitting_of l name (map key_view (take n ks))) last tried
      → Tried refuse (before ++ fitting_of l name (map key_view (take (n + 1) ks))) (Some e) (tried + 1)
  refused_too name before ks n k nonce last e tried lt at is r free t =
      let so_far = before ++ fitting_of l name (map key_view (take n ks)) in
      let one = by_nonce name (key_view k) nonce in
      let are = step l name before ks n k (Some nonce) lt at is in
      let count = ap length are ∙ length-append so_far (one ∷ []) in (
        record {
          before = so_far;
          last = one;
          are = are;
          few = omega (arith, count, t.1, t.2, free);
          refused = all_refused so_far last t.0;
          last_refused = r;
        },
        omega (arith, count, t.1),
        omega (arith, t.2, free),
      )

  -- A key that fits is accepted, after fewer than 16 others. The issuer's keys are `ks`.
  pub found :
      (accept : Fitted → Type 0) (is : List Issuer) (m : ℕ) (i : Issuer) (ks : List CoseKey) (n : ℕ) (k : CoseKey) (nonce : List ℕ) (last : Option E)
      (tried : ℕ) → m < length is → i ≡ get_or is m i → ks ≡ i.keys.now.0.items → n < length ks → k ≡ get_or ks n k → Some nonce ≡ fits (key_view k) l
      → accept (record { key = key_view k; nonce = nonce })
      → (tried ≡ MAX_KEYS → ⊥)
      → Tried refuse (fitting l (map issuer_view (take m is)) ++ fitting_of l (name_view i.name) (map key_view (take n ks))) last tried
      → Finds accept refuse (fitting l (map issuer_view is)) (name_view i.name)
  found accept is m i ks n k nonce last tried lt at same lt' at' fit ok free t =
      let before = fitting l (map issuer_view (take m is)) ++ fitting_of l (name_view i.name) (map key_view (take n ks)) in
      record {
        before = before;
        key = record { key = key_view k; nonce = nonce };
        after = fitting_of l (name_view i.name) (map key_view (drop (n + 1) ks)) ++ fitting l (map issuer_view (drop (m + 1) is));
        are = around l is m i ks n k nonce lt at same lt' at' fit;
        early = omega (arith, t.1, t.2, free);
        refused = all_refused before last t.0;
        accepted = ok;
      }

  -- A key fits, after 16 others.
  pub one_too_many :
      (is : List Issuer) (m : ℕ) (i : Issuer) (ks : List CoseKey) (n : ℕ) (k : CoseKey) (nonce : List ℕ) (last : Option E) (tried : ℕ) → m < length is
      → i ≡ get_or is m i → ks ≡ i.keys.now.0.items → n < length ks → k ≡ get_or ks n k → Some nonce ≡ fits (key_view k) l
      → tried ≡ MAX_KEYS
      → Tried refuse (fitting l (map issuer_view (take m is)) ++ fitting_of l (name_view i.name) (map key_view (take n ks))) last tried
      → AreTooMany refuse (fitting l (map issuer_view is))
  one_too_many is m i ks n k nonce last tried lt at same lt' at' fit full t =
      let before = fitting l (map issuer_view (take m is)) ++ fitting_of l (name_view i.name) (map key_view (take n ks)) in
      let one = by_nonce (name_view i.name) (key_view k) nonce in
      let after = fitting_of l (name_view i.name) (map key_view (drop (n + 1) ks)) ++ fitting l (map issuer_view (drop (m + 1) is)) in
      let are = around l is m i ks n k nonce lt at same lt' at' fit in
      let count = ap length are ∙ length-append before (one ∷ after) in
      let first = ap (take MAX_KEYS) are ∙ (ap (λ j. take j (before ++ one ∷ after)) (sym (t.1 ∙ full)) ∙ take-append_seam before (one ∷ after)) in
      record {
        many = omega (arith, count, t.1, full);
        refused = subst (AllRefused refuse) (sym first) (all_refused before last t.0);
      }
