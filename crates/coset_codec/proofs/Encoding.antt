-- Encodings that are written part by part.
use Rattle.std.specs.Prelude.{Result, Ok, Err, IsErrAnd, IfErr, OnOk}
use Rattle.std.proofs.Common.{◌≡◌, ℕ, suc, ◌+◌, ◌<◌, ◌^◌, List, [], ◌∷◌, ◌++◌, length, map, take, drop, get_or, Option, Some, None, option_map, refl, sym, ◌∙◌}
use Rattle.std.proofs.Common.{ap, subst, append-nil, append_assoc, arith}
use Rattle.std.proofs.lemmas.List.{take_more, take-append-drop}
use Rattle.coset_value.specs.Item.{Item, Items, no_items, item, array, tag, items_count}
use Rattle.coset_value.specs.Range.{IsInRange, AreInRange}
use Rattle.coset_cbor.specs.Grammar.{IsEncoding}
use Rattle.coset_cbor.specs.Least.{Extends, least_head, least_encoding, least_encodings}
use Rattle.coset_cbor.specs.Shortest.{IsShortest}
use Rattle.coset_codec.specs.Shape.{both, images}
use Rattle.coset_codec.specs.Encoding.{AppendsImage, AppendsElements, Encodes, HasNoImage}
use Rattle.coset_codec.specs.Errors.{UnlessMemory}
use Rattle.coset_codec.specs.declared.error.CoseError.{CoseError}
use Rattle.coset_codec.specs.declared.error.CoseError.TheVariants.{DuplicateMapKey}

-- ---- bytes that keep their beginning

pub extends-on : (a b c : List ℕ) → Extends a b → Extends b c → Extends a c
extends-on a b c h k = (h.0 ++ k.0, k.1 ∙ (ap (λ x. x ++ k.0) h.1 ∙ append_assoc a h.0 k.0))

pub extends-same : (a b : List ℕ) → b ≡ a → Extends a b
extends-same a b e = ([], e ∙ sym (append-nil a))

-- ---- arrays of elements

pub nothing-put : (s : List ℕ) → AppendsElements (Some no_items) 0 s s
nothing-put s = (no_items, refl, record { count = refl; in_range = tt; parts = sym (append-nil s) })

pub place-put :
    {o : Option Item} {os : Option Items} {n : ℕ} {old mid new : List ℕ} → AppendsImage o old mid → AppendsElements os n mid new
    → AppendsElements (both item o os) (suc n) old new
place-put {o} {os} {n} {old} {mid} {new} p q = (
  item p.0 q.0,
  (λ i. both item (p.1 i) (q.1 i)),
  record {
    count = ap suc q.2.count;
    in_range = (p.2.in_range, q.2.in_range);
    parts = q.2.parts ∙ (ap (λ s. s ++ least_encodings q.0) p.2.parts ∙ append_assoc old (least_encoding p.0) (least_encodings q.0));
  },
)

pub array-put : {os : Option Items} (n : ℕ) {old head new : List ℕ} → n < 2 ^ 64 → head ≡ old ++ least_head 4 n → AppendsElements os n head new
    → AppendsImage (option_map array os) old new
array-put {os} n {old} {head} {new} small first p = (
  array p.0,
  ap (option_map array) p.1,
  record {
    in_range = (subst (λ k. k < 2 ^ 64) (sym p.2.count) small, p.2.in_range);
    parts = p.2.parts ∙ (ap (λ s. s ++ least_encodings p.0) first
        ∙ (append_assoc old (least_head 4 n) (least_encodings p.0) ∙ ap (λ k. old ++ (least_head 4 k ++ least_encodings p.0)) (sym p.2.count)));
  },
)

-- ---- lists

abbrev pub and_items : Items → Items → Items
and_items no_items ws = ws
and_items (item v vs) ws = item v (and_items vs ws)

both-and : (o : Option Item) (p q : Option Items) → both item o (both and_items p q) ≡ both and_items (both item o p) q
both-and (Some v) (Some vs) (Some ws) = refl
both-and (Some v) (Some vs) None = refl
both-and (Some v) None q = refl
both-and None p q = refl

both-nothing : (q : Option Items) → both and_items (Some no_items) q ≡ q
both-nothing (Some vs) = refl
both-nothing None = refl

both-none : (p : Option Items) → both and_items p None ≡ None
both-none (Some vs) = refl
both-none None = refl

module _ {A : Type 0} (f : A → Option Item) where
  -- The images of some elements, followed by those of others.
  pub images-append : (xs ys : List A) → images f (xs ++ ys) ≡ both and_items (images f xs) (images f ys)
  images-append [] ys = sym (both-nothing (images f ys))
  images-append (x ∷ xs) ys = ap (both item (f x)) (images-append xs ys) ∙ both-and (f x) (images f xs) (images f ys)

  -- The images of elements that are seen through `see`.
  pub images-mapped : {B : Type 0} (see : B → A) (xs : List B) → images (λ x. f (see x)) xs ≡ images f (map see xs)
  images-mapped see [] = refl
  images-mapped see (x ∷ xs) = ap (both item (f (see x))) (images-mapped see xs)

  -- If one element has no image, the list has none.
  pub images-missing : (xs ys : List A) (x : A) → f x ≡ None → images f (xs ++ x ∷ ys) ≡ None
  images-missing xs ys x e = images-append xs (x ∷ ys) ∙ rw e (both-none (images f xs))

  -- Appends one more element.
  pub element-put : {n : ℕ} {old mid new : List ℕ} (xs : List A) (x : A) → AppendsElements (images f xs) n old mid → AppendsImage (f x) mid new
      → AppendsElements (images f (xs ++ x ∷ [])) (n + 1) old new
  element-put {n} {old} {mid} {new} xs x p q = (
    and_items p.0 (item q.0 no_items),
    images-append xs (x ∷ []) ∙ (λ i. both and_items (p.1 i) (both item (q.1 i) (Some no_items))),
    record {
      count = counted p.0 ∙ ap (λ k. k + 1) p.2.count;
      in_range = in_range p.0 p.2.in_range;
      parts = q.2.parts ∙ (ap (λ s. s ++ least_encoding q.0) p.2.parts
          ∙ (append_assoc old (least_encodings p.0) (least_encoding q.0) ∙ ap (λ s. old ++ s) (sym (encoded p.0))));
    },
  )
    where
      counted : (vs : Items) → items_count (and_items vs (item q.0 no_items)) ≡ items_count vs + 1
      counted no_items = refl
      counted (item v vs) = let h = counted vs in omega (arith, h)

      in_range : (vs : Items) → AreInRange vs → AreInRange (and_items vs (item q.0 no_items))
      in_range no_items h = (q.2.in_range, tt)
      in_range (item v vs) h = (h.0, in_range vs h.1)

      encoded : (vs : Items) → least_encodings (and_items vs (item q.0 no_items)) ≡ least_encodings vs ++ least_encoding q.0
      encoded no_items = append-nil (least_encoding q.0)
      encoded (item v vs) = ap (λ s. least_encoding v ++ s) (encoded vs) ∙ sym (append_assoc (least_encoding v) (least_encodings vs) (least_encoding q.0))

module _ {A : Type 0} (xs : List A) (i : ℕ) (x : A) (lt : i < length xs) (is : x ≡ get_or xs i x) where
  -- Takes one more element of a list, and splits the list around it.
  pub one_taken : take (i + 1) xs ≡ take i xs ++ x ∷ []
  one_taken = take_more xs i x lt ∙ ap (λ y. take i xs ++ y ∷ []) (sym is)

  pub one_between : xs ≡ take i xs ++ x ∷ drop (i + 1) xs
  one_between = sym (take-append-drop (i + 1) xs) ∙ (ap (λ ys. ys ++ drop (i + 1) xs) one_taken ∙ append_assoc (take i xs) (x ∷ []) (drop (i + 1) xs))

-- A head, followed by the elements.
pub array-encoded : {T : Type 0} (os : Option Items) (n : ℕ) (old head new : List ℕ) (r : Result T CoseError) → n < 2 ^ 64 → head ≡ old ++ least_head 4 n
    → OnOk r (AppendsElements os n head new) → IfErr r (HasNoImage os) → Encodes (option_map array os) old new r
array-encoded os n old head new (Ok x) small first ok refused = array-put n small first ok
array-encoded os n old head new (Err e) small first ok refused = λ m. let none = refused m in (none.0, ap (option_map array) none.1)

-- ---- errors

-- Passes on the error of a part without which there is no item.
pub passes :
    {T : Type 0} (r : Result T CoseError) (old new : List ℕ) {f : CoseError} {P : Type 0} {p : Option Item} → IsErrAnd r (λ e. e ≡ f)
    → UnlessMemory f (λ g. (g ≡ DuplicateMapKey) × P) → (P → p ≡ None) → Encodes p old new r
passes (Ok x) old new same tells none = absurd same
passes (Err e) old new same tells none = λ other. let told = tells (λ m. other (same ∙ m)) in (same ∙ told.0, none told.1)

-- ---- tags

pub tag-put : {o : Option Item} (n : ℕ) {old head new : List ℕ} → n < 2 ^ 64 → head ≡ old ++ least_head 6 n → AppendsImage o head new
    → AppendsImage (option_map (tag n) o) old new
tag-put {o} n {old} {head} {new} small first p = (
  tag n p.0,
  ap (option_map (tag n)) p.1,
  record {
    in_range = (small, p.2.in_range);
    parts = p.2.parts
        ∙ (ap (λ s. s ++ least_encoding p.0) first ∙ append_assoc old (least_head 6 n) (least_encoding p.0));
  },
)

-- ---- whole encodings

pub whole-put :
    ((v : Item) → IsInRange v → IsShortest (least_encoding v) v) → {o : Option Item} {old new : List ℕ} → old ≡ [] → AppendsImage o old new → (v : Item)
    × (o ≡ Some v) × IsShortest new v
whole-put is_shortest {o} {old} {new} e p =
    let spelled : new ≡ least_encoding p.0 = p.2.parts ∙ ap (λ s. s ++ least_encoding p.0) e in
    (p.0, p.1, subst (λ s. IsShortest s p.0) (sym spelled) (is_shortest p.0 p.2.in_range))

-- An encoding that was written is read back as the same item.
pub read-back :
    ((v : Item) (b : List ℕ) → IsShortest b v → IsEncoding v b)
    → ((v w : Item) (b c x y : List ℕ) → IsEncoding v b → IsEncoding w c → b ++ x ≡ c ++ y → (v ≡ w) × (b ≡ c)) → {o : Option Item} {b : List ℕ} (x : Item)
    → ((v : Item) × (o ≡ Some v) × IsShortest b v) → IsEncoding x b
    → o ≡ Some x
read-back is_text one {o} {b} x p read = p.1 ∙ ap Some (one p.0 x b b [] [] (is_text p.0 b p.2) read refl).0
