-- Critical labels. If all of them have a meaning, it is enough to look for the labels that have one.
use Rattle.std.proofs.Common.{◌≡◌, ◌∙◌, ◌&&◌, ◌||◌, ◌++◌, ◌==◌, length, ℤ, pos, Bool, true, false, true≢false, not, List, [], ◌∷◌, map, ap, refl, subst, sym, ⊎_elim}
use Rattle.std.specs.Cmp.{tied_then}
use Rattle.std.specs.List.{list_all, list_any}
use Rattle.std.specs.Ordering.{int_eq, is_eq, nat_cmp}
use Rattle.std.proofs.Math.Bool.{and-or_distrib_right, or-false}
use Rattle.std.proofs.lemmas.Bool.{and_parts, or_cases, or_left, or_right}
use Rattle.std.proofs.lemmas.Bool.Decides.{Decides-int_eq}
use Rattle.std.proofs.lemmas.List.Folds.{list_any-append}
use Rattle.coset.specs.Claims.{same_label}
use Rattle.coset.specs.Headers.{HeaderView, fields_in}
use Rattle.coset.specs.LabelData.{RegisteredLabelView, as_label, assigned, label_cmp, number, private_rank, private_use, text_name}
use Rattle.coset.specs.LabelLaws.{cose_labels_laws}
use Rattle.cwt_verify.specs.Headers.{has_label}
use Rattle.cwt_verify.specs.Policy.{PolicyView, has_meaning, is_known, is_missing, is_one_of, is_type, is_understood, known_labels, knows, own_labels}

-- ---- truth values

or-swap : (a b c d : Bool) → (a || b) || (c || d) ≡ (a || c) || (b || d)
or-swap true b c d = refl
or-swap false true true d = refl
or-swap false true false d = refl
or-swap false false c d = refl

together : (m h l b s : Bool) → (m ≡ true → s ≡ true) → (m && h) && (l && not b) ≡ (m && l) && not ((s && not h) || b)
together false h l b s k = refl
together true true l b s k = subst (λ t. l && not b ≡ l && not ((t && false) || b)) (sym (k refl)) refl
together true false true b s k = subst (λ t. false ≡ not ((t && true) || b)) (sym (k refl)) refl
together true false false b s k = refl

-- ---- any lists

any-or : {A : Type 0} (f g : A → Bool) (xs : List A) → list_any (λ x. f x || g x) xs ≡ list_any f xs || list_any g xs
any-or f g [] = refl
any-or f g (x ∷ xs) = ap (λ b. (f x || g x) || b) (any-or f g xs) ∙ or-swap (f x) (g x) (list_any f xs) (list_any g xs)

any-none : {A : Type 0} (xs : List A) → list_any (λ x. false) xs ≡ false
any-none [] = refl
any-none (x ∷ xs) = any-none xs

module _ {A : Type 0} (same : A → A → Bool) (has : A → Bool) (alike : (m x : A) → same m x ≡ true → has m ≡ has x) where
  -- One of these is the same as `x`, and isn't there: then `x` isn't there.
  missing-head : (x : A) (ms : List A) → list_any (λ m. same m x && not (has m)) ms ≡ list_any (λ m. same m x) ms && not (has x)
  missing-head x [] = refl
  missing-head x (m ∷ ms) = go (same m x) refl (missing-head x ms)
    where
      go : (b : Bool) → same m x ≡ b → list_any (λ n. same n x && not (has n)) ms ≡ list_any (λ n. same n x) ms && not (has x)
          → (same m x && not (has m)) || list_any (λ n. same n x && not (has n)) ms ≡ (same m x || list_any (λ n. same n x) ms) && not (has x)
      go false e rest =
          subst (λ s. (s && not (has m)) || list_any (λ n. same n x && not (has n)) ms ≡ (s || list_any (λ n. same n x) ms) && not (has x)) (sym e) rest
      go true e rest =
          subst (λ s. (s && not (has m)) || list_any (λ n. same n x && not (has n)) ms ≡ (s || list_any (λ n. same n x) ms) && not (has x)) (sym e)
          (ap (λ h. not h || list_any (λ n. same n x && not (has n)) ms) (alike m x e)
          ∙ (ap (λ b. not (has x) || b) rest ∙ absorbed (has x) (list_any (λ n. same n x) ms)))
        where
          absorbed : (h a : Bool) → not h || (a && not h) ≡ not h
          absorbed true true = refl
          absorbed true false = refl
          absorbed false a = refl

  -- Each of `xs` has a meaning and is there exactly if each has a meaning, and none of `ms` that is among them is missing.
  pub all-there : (meant : A → Bool) (ms : List A) → ((x : A) → meant x ≡ true → list_any (λ m. same m x) ms ≡ true) → (xs : List A)
      → list_all (λ x. meant x && has x) xs ≡ list_all meant xs && not (list_any (λ m. list_any (same m) xs && not (has m)) ms)
  all-there meant ms found [] = sym (ap not (any-none ms))
  all-there meant ms found (x ∷ xs) =
      let missing : A → Bool = λ m. list_any (same m) xs && not (has m) in
      let parts : list_any (λ m. (same m x || list_any (same m) xs) && not (has m)) ms ≡ (list_any (λ m. same m x) ms && not (has x)) || list_any missing ms =
      (λ i. list_any (λ m. and-or_distrib_right (same m x) (list_any (same m) xs) (not (has m)) i) ms)
      ∙ (any-or (λ m. same m x && not (has m)) missing ms ∙ ap (λ b. b || list_any missing ms) (missing-head x ms)) in
      ap (λ b. (meant x && has x) && b) (all-there meant ms found xs)
      ∙ (together (meant x) (has x) (list_all meant xs) (list_any missing ms) (list_any (λ m. same m x) ms) (found x)
      ∙ sym (ap (λ b. (meant x && list_all meant xs) && not b) parts))

-- ---- labels

pub same-number : (m x : RegisteredLabelView) → same_label m x ≡ true → as_label m ≡ as_label x
same-number m x e =
    cose_labels_laws.same_is (as_label m) (as_label x)
    (and_parts (is_eq (label_cmp (as_label m) (as_label x))) (is_eq (nat_cmp (private_rank m) (private_rank x)))
    (tied_then (label_cmp (as_label m) (as_label x)) (nat_cmp (private_rank m) (private_rank x)) ∙ e)).0

itself : (n : ℤ) → same_label (assigned n) (assigned n) ≡ true
itself n =
    sym (tied_then (label_cmp (number n) (number n)) (nat_cmp (private_rank (assigned n)) (private_rank (assigned n))))
    ∙ ap (λ b. b && is_eq (nat_cmp (private_rank (assigned n)) (private_rank (assigned n)))) (cose_labels_laws.same_self (number n))

among : (i : ℤ) (ns : List ℤ) → list_any (λ n. int_eq i n) ns ≡ true → list_any (λ m. same_label m (assigned i)) (map assigned ns) ≡ true
among i [] e = absurd (true≢false (sym e))
among i (n ∷ ns) e =
    ⊎_elim
    (λ h. or_left (same_label (assigned n) (assigned i)) (list_any (λ m. same_label m (assigned i)) (map assigned ns))
    (subst (λ k. same_label (assigned n) (assigned k) ≡ true) (sym ((Decides-int_eq i n).0 h)) (itself n)))
    (λ h. or_right (same_label (assigned n) (assigned i)) (list_any (λ m. same_label m (assigned i)) (map assigned ns)) (among i ns h))
    (or_cases (int_eq i n) (list_any (λ k. int_eq i k) ns) e)

own-found : (l : RegisteredLabelView) → is_known l || is_type l ≡ true → list_any (λ m. same_label m l) own_labels ≡ true
own-found (assigned i) e =
    among i (known_labels ++ pos 16 ∷ [])
    (list_any-append (λ n. int_eq i n) known_labels (pos 16 ∷ [])
    ∙ (ap (λ b. list_any (λ n. int_eq i n) known_labels || b) (or-false (int_eq i (pos 16))) ∙ e))
own-found (private_use i) e = absurd (true≢false (sym e))
own-found (text_name s) e = absurd (true≢false (sym e))

-- A label with a meaning is one of those that this crate may understand, or of those of the caller.
found : (p : PolicyView) (l : RegisteredLabelView) → has_meaning p l ≡ true → list_any (λ m. same_label m l) (own_labels ++ p.critical) ≡ true
found p l e =
    let all = list_any (λ m. same_label m l) in
    list_any-append (λ m. same_label m l) own_labels p.critical
    ∙ ⊎_elim
    (λ h. or_left (all own_labels) (all p.critical) (own-found l (⊎_elim
    (or_left (is_known l) (is_type l)) (λ g. or_right (is_known l) (is_type l) (and_parts (is_type l) (not (length p.types == 0)) g).0)
    (or_cases (is_known l) (is_type l && not (length p.types == 0)) h))))
    (or_right (all own_labels) (all p.critical)) (or_cases (knows p l) (is_one_of p.critical l) e)

-- Each critical label is understood exactly if each has a meaning, and none that has one is missing.
pub judged : (p : PolicyView) (h : HeaderView)
    → list_all (is_understood p h) (fields_in h).crit
    ≡ list_all (has_meaning p) (fields_in h).crit && not (list_any (is_missing h) (own_labels ++ p.critical))
judged p h =
    all-there same_label (λ l. has_label h (as_label l)) (λ m x e. ap (has_label h) (same-number m x e)) (has_meaning p) (own_labels ++ p.critical)
    (found p) (fields_in h).crit
