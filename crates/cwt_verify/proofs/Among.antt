-- Pairs that are among others, by their encodings.
use Rattle.std.proofs.Common.{◌≡◌, ◌↔◌, ◌⊎◌, ◌∙◌, ◌++◌, ◌&&◌, ◌||◌, ℕ, Bool, true, false, true≢false, List, [], ◌∷◌, Ordering, Less, Equal, Greater, Vec, ap, inl, inr, refl, subst, sym}
use Rattle.std.specs.Bool.{IsTrue}
use Rattle.std.specs.BTreeSet.{BTreeSet, IsSubset, insert_key}
use Rattle.std.specs.Cmp.{both_ways}
use Rattle.std.specs.Cmp.Lexicographic.{slice_cmp}
use Rattle.std.specs.Global.{Global}
use Rattle.std.specs.List.{list_all, list_any}
use Rattle.std.specs.Ordering.{is_eq, match_ordering, nat_cmp}
use Rattle.std.proofs.lemmas.Bool.{and_from, and_parts, or_left, or_right}
use Rattle.std.proofs.lemmas.List.{append_cancel_left}
use Rattle.std.proofs.lemmas.Map.Lookups.{exact_bytes}
use Rattle.std.proofs.lemmas.Map.Text.{is_eq-slice_cmp}
use Rattle.std.proofs.lemmas.Slice.Eq.{bytes_eq-Decides}
use Rattle.coset_value.specs.Same.{item_eq}
use Rattle.coset_value.specs.SameLaws.{item_eq-decides}
use Rattle.coset_value.specs.declared.value.Value.{Value}
use Rattle.coset.specs.Grammar.{IsEncoding}
use Rattle.coset.specs.Item.{Item}
use Rattle.coset.specs.Range.{IsInRange}
use Rattle.coset.specs.Shortest.{IsShortest}
use Rattle.coset.specs.View.{value_item, value_pairs}
use Rattle.cwt_verify.specs.HeaderClaims.{all_pairs, has_pair}
use Rattle.cwt_verify.specs.Pairs.{AreEncoded, AreThere, IsEncoded, IsOfOne, IsOneOf}
use Rattle.cwt_verify.proofs.PairTests.{all_pairs-of, any_pair-of}

abbrev text_cmp : Vec ℕ Global → Vec ℕ Global → Ordering
text_cmp a b = slice_cmp nat_cmp a.items b.items

-- ---- one more pair

pub before : (ps : List (Value × Value)) (p : Value × Value) (q : List ℕ) → IsOfOne ps q → IsOfOne (ps ++ p ∷ []) q
before [] p q h = absurd h
before (x ∷ xs) p q (inl h) = inl h
before (x ∷ xs) p q (inr h) = inr (before xs p q h)

pub last : (ps : List (Value × Value)) (p : Value × Value) (q : List ℕ) → IsEncoded p q → IsOfOne (ps ++ p ∷ []) q
last [] p q h = inl h
last (x ∷ xs) p q h = inr (last xs p q h)

-- ---- one more text

-- The texts `x` and `xs` with one more, by its place in the order.
abbrev placed : Ordering → Vec ℕ Global → Vec ℕ Global → List (Vec ℕ Global) → List (Vec ℕ Global)
placed o t x xs = match_ordering o (t ∷ x ∷ xs) (x ∷ xs) (x ∷ insert_key text_cmp xs t)

kept : (ts : List (Vec ℕ Global)) (t : Vec ℕ Global) (q : List ℕ) → IsOneOf ts q → IsOneOf (insert_key text_cmp ts t) q
kept [] t q h = absurd h
kept (x ∷ xs) t q h = go (text_cmp t x) (kept xs t q) h
  where
    go : (o : Ordering) → (IsOneOf xs q → IsOneOf (insert_key text_cmp xs t) q) → IsOneOf (x ∷ xs) q → IsOneOf (placed o t x xs) q
    go Less rest h = inr h
    go Equal rest h = h
    go Greater rest (inl h) = inl h
    go Greater rest (inr h) = inr (rest h)

put : (ts : List (Vec ℕ Global)) (t : Vec ℕ Global) → IsOneOf (insert_key text_cmp ts t) t.items
put [] t = inl refl
put (x ∷ xs) t = go (text_cmp t x) refl (put xs t)
  where
    go : (o : Ordering) → text_cmp t x ≡ o → IsOneOf (insert_key text_cmp xs t) t.items → IsOneOf (placed o t x xs) t.items
    go Less e rest = inl refl
    go Equal e rest = inl (sym (exact_bytes t.items x.items e))
    go Greater e rest = inr rest

either-put : (ts : List (Vec ℕ Global)) (t : Vec ℕ Global) (q : List ℕ) → IsOneOf (insert_key text_cmp ts t) q → IsOneOf ts q ⊎ (t.items ≡ q)
either-put [] t q (inl h) = inr h
either-put [] t q (inr h) = absurd h
either-put (x ∷ xs) t q h = go (text_cmp t x) (either-put xs t q) h
  where
    further : IsOneOf xs q ⊎ (t.items ≡ q) → IsOneOf (x ∷ xs) q ⊎ (t.items ≡ q)
    further (inl g) = inl (inr g)
    further (inr g) = inr g

    go : (o : Ordering) → (IsOneOf (insert_key text_cmp xs t) q → IsOneOf xs q ⊎ (t.items ≡ q)) → IsOneOf (placed o t x xs) q
        → IsOneOf (x ∷ xs) q ⊎ (t.items ≡ q)
    go Less rest (inl h) = inr h
    go Less rest (inr h) = inl h
    go Equal rest h = inl h
    go Greater rest (inl h) = inl (inl h)
    go Greater rest (inr h) = further (rest h)

still-there : (ts us : List (Vec ℕ Global)) (ps : List (Value × Value)) → ((q : List ℕ) → IsOneOf ts q → IsOneOf us q) → AreThere ts ps → AreThere us ps
still-there ts us [] more h = tt
still-there ts us (p ∷ ps) more h = ((h.0.0, h.0.1, more h.0.0 h.0.2), still-there ts us ps more h.1)

one-there : (ts : List (Vec ℕ Global)) (ps : List (Value × Value)) (p : Value × Value) (q : List ℕ) → AreThere ts ps → IsEncoded p q → IsOneOf ts q
    → AreThere ts (ps ++ p ∷ [])
one-there ts [] p q h e i = ((q, e, i), tt)
one-there ts (x ∷ xs) p q h e i = (h.0, one-there ts xs p q h.1 e i)

-- ---- all of them

pub none-encoded : (s : BTreeSet (Vec ℕ Global)) → s.keys ≡ [] → AreEncoded [] s
none-encoded s e = record { known = λ q h. absurd (subst (λ ts. IsOneOf ts q) e h); there = tt }

pub one-encoded :
    (ps : List (Value × Value)) (p : Value × Value) (s n : BTreeSet (Vec ℕ Global)) (t : Vec ℕ Global) → AreEncoded ps s → IsEncoded p t.items
    → n.keys ≡ insert_key text_cmp s.keys t → AreEncoded (ps ++ p ∷ []) n
one-encoded ps p s n t a e is = record { known = λ q h. known-of q (either-put s.keys t q (subst (λ ts. IsOneOf ts q) is h)); there = is-there }
  where
    known-of : (q : List ℕ) → IsOneOf s.keys q ⊎ (t.items ≡ q) → IsOfOne (ps ++ p ∷ []) q
    known-of q (inl h) = before ps p q (a.known q h)
    known-of q (inr h) = last ps p q (subst (IsEncoded p) h e)

    is-there : AreThere n.keys (ps ++ p ∷ [])
    is-there =
        subst (λ ts. AreThere ts (ps ++ p ∷ [])) (sym is)
        (one-there (insert_key text_cmp s.keys t) ps p t.items
        (still-there s.keys (insert_key text_cmp s.keys t) ps (kept s.keys t) a.there) e (put s.keys t))

-- ---- texts of a set

pub contained : (ts : List (Vec ℕ Global)) (k : Vec ℕ Global) → IsOneOf ts k.items → list_any (λ x. is_eq (text_cmp k x)) ts ≡ true
contained [] k h = absurd h
contained (x ∷ xs) k (inl h) =
    or_left (is_eq (text_cmp k x)) (list_any (λ y. is_eq (text_cmp k y)) xs)
    (is_eq-slice_cmp k.items x.items ∙ (bytes_eq-Decides k.items x.items).1 (sym h))
contained (x ∷ xs) k (inr h) = or_right (is_eq (text_cmp k x)) (list_any (λ y. is_eq (text_cmp k y)) xs) (contained xs k h)

pub is-one : (ts : List (Vec ℕ Global)) (k : Vec ℕ Global) → list_any (λ x. is_eq (text_cmp k x)) ts ≡ true → IsOneOf ts k.items
is-one [] k e = absurd (true≢false (sym e))
is-one (x ∷ xs) k e = go (is_eq (text_cmp k x)) refl (is-one xs k)
  where
    go : (b : Bool) → is_eq (text_cmp k x) ≡ b → (list_any (λ y. is_eq (text_cmp k y)) xs ≡ true → IsOneOf xs k.items) → IsOneOf (x ∷ xs) k.items
    go true h rest = inl (sym ((bytes_eq-Decides k.items x.items).0 (sym (is_eq-slice_cmp k.items x.items) ∙ h)))
    go false h rest = inr (rest (sym (ap (λ b. b || list_any (λ y. is_eq (text_cmp k y)) xs) h) ∙ e))

-- One of the texts, which has these bytes.
pick : (ts : List (Vec ℕ Global)) (q : List ℕ) → IsOneOf ts q → (k : Vec ℕ Global) × (k.items ≡ q)
pick [] q h = absurd h
pick (x ∷ xs) q (inl h) = (x, h)
pick (x ∷ xs) q (inr h) = pick xs q h

-- A larger set has the texts of a smaller one.
pub in-larger : (s t : BTreeSet (Vec ℕ Global)) (q : List ℕ) → IsSubset text_cmp s t → IsOneOf s.keys q → IsOneOf t.keys q
in-larger s t q larger h =
    let k = pick s.keys q h in
    subst (IsOneOf t.keys) k.1 (is-one t.keys k.0 (larger k.0 (contained s.keys k.0 (subst (IsOneOf s.keys) (sym k.1) h))))

-- ---- pairs

-- The pair `x` is the same as `p`.
abbrev is_pair : Value × Value → Value × Value → Bool
is_pair p x = item_eq (value_item x.0) (value_item p.0) && item_eq (value_item x.1) (value_item p.1)

same-as : (p x : Value × Value) (q : List ℕ) → is_pair p x ≡ true → IsEncoded p q → IsEncoded x q
same-as p x q e h =
    let es = and_parts (item_eq (value_item x.0) (value_item p.0)) (item_eq (value_item x.1) (value_item p.1)) e in (
      h.0,
      h.1,
      h.2,
      subst (IsShortest h.0) (sym ((item_eq-decides (value_item x.0) (value_item p.0)).0 es.0)) h.3,
      subst (IsShortest h.1) (sym ((item_eq-decides (value_item x.1) (value_item p.1)).0 es.1)) h.4,
    )

is-of-one : (ps : List (Value × Value)) (p : Value × Value) (q : List ℕ) → list_any (is_pair p) ps ≡ true → IsEncoded p q → IsOfOne ps q
is-of-one [] p q e h = absurd (true≢false (sym e))
is-of-one (x ∷ xs) p q e h = go (is_pair p x) refl (λ f. is-of-one xs p q f h)
  where
    go : (b : Bool) → is_pair p x ≡ b → (list_any (is_pair p) xs ≡ true → IsOfOne xs q) → IsOfOne (x ∷ xs) q
    go true f rest = inl (same-as p x q f h)
    go false f rest = inr (rest (sym (ap (λ b. b || list_any (is_pair p) xs) f) ∙ e))

-- A shortest encoding is an encoding, bytes have one item at their start, and an item has one shortest encoding.
abbrev Encodes : Type 0
Encodes = (v : Item) (b : List ℕ) → IsShortest b v → IsEncoding v b

abbrev OneItem : Type 0
OneItem = (v w : Item) (b c x y : List ℕ) → IsEncoding v b → IsEncoding w c → b ++ x ≡ c ++ y → (v ≡ w) × (b ≡ c)

abbrev OneShortest : Type 0
OneShortest = (v : Item) (b c : List ℕ) → IsShortest b v → IsShortest c v → b ≡ c

pub unique-shortest :
    ((v : Item) → IsInRange v → (b : List ℕ) × IsShortest b v × ((c : List ℕ) → IsShortest c v → c ≡ b))
    → ((v : Item) (b : List ℕ) → IsShortest b v → IsInRange v) → OneShortest
unique-shortest one in_range v b c h g = let only = one v (in_range v b h) in only.2 b h ∙ sym (only.2 c g)

module _ (encodes : Encodes) (one_item : OneItem) (one_shortest : OneShortest) where
  unique : (p : Value × Value) (q r : List ℕ) → IsEncoded p q → IsEncoded p r → q ≡ r
  unique p q r h g =
      h.2
      ∙ (ap (λ b. b ++ h.1) (one_shortest (value_item p.0) h.0 g.0 h.3 g.3)
      ∙ (ap (λ c. g.0 ++ c) (one_shortest (value_item p.1) h.1 g.1 h.4 g.4) ∙ sym g.2))

  same-pair : (p x : Value × Value) (q : List ℕ) → IsEncoded p q → IsEncoded x q → is_pair p x ≡ true
  same-pair p x q h g =
      let keys = one_item (value_item x.0) (value_item p.0) g.0 h.0 g.1 h.1 (encodes (value_item x.0) g.0 g.3) (encodes (value_item p.0) h.0 h.3)
      (sym g.2 ∙ h.2) in
      let rest : g.1 ≡ h.1 = append_cancel_left g.0 g.1 h.1 (sym g.2 ∙ (h.2 ∙ ap (λ b. b ++ h.1) (sym keys.1))) in
      let values = one_item (value_item x.1) (value_item p.1) g.1 h.1 [] [] (encodes (value_item x.1) g.1 g.4) (encodes (value_item p.1) h.1 h.4)
      (ap (λ b. b ++ []) rest) in
      and_from (item_eq (value_item x.0) (value_item p.0)) (item_eq (value_item x.1) (value_item p.1))
      ((item_eq-decides (value_item x.0) (value_item p.0)).1 keys.0) ((item_eq-decides (value_item x.1) (value_item p.1)).1 values.0)

  is-found : (ps : List (Value × Value)) (p : Value × Value) (q : List ℕ) → IsEncoded p q → IsOfOne ps q → list_any (is_pair p) ps ≡ true
  is-found [] p q e h = absurd h
  is-found (x ∷ xs) p q e (inl h) = or_left (is_pair p x) (list_any (is_pair p) xs) (same-pair p x q e h)
  is-found (x ∷ xs) p q e (inr h) = or_right (is_pair p x) (list_any (is_pair p) xs) (is-found xs p q e h)

  found-there : (ts : List (Vec ℕ Global)) (ps : List (Value × Value)) (q : List ℕ) → AreThere ts ps → IsOfOne ps q → IsOneOf ts q
  found-there ts [] q h i = absurd i
  found-there ts (p ∷ ps) q h (inl e) = subst (IsOneOf ts) (unique p h.0.0 q h.0.1 e) h.0.2
  found-there ts (p ∷ ps) q h (inr i) = found-there ts ps q h.1 i

  all-found : (s t : BTreeSet (Vec ℕ Global)) (xs ys : List (Value × Value)) → IsSubset text_cmp s t → AreEncoded ys t → AreThere s.keys xs
      → list_all (λ p. list_any (is_pair p) ys) xs ≡ true
  all-found s t [] ys larger b h = refl
  all-found s t (x ∷ xs) ys larger b h =
      and_from (list_any (is_pair x) ys) (list_all (λ p. list_any (is_pair p) ys) xs)
      (is-found ys x h.0.0 h.0.1 (b.known h.0.0 (in-larger s t h.0.0 larger h.0.2))) (all-found s t xs ys larger b h.1)

  among-all : (xs ys : List (Value × Value)) (q : List ℕ) → list_all (λ p. list_any (is_pair p) ys) xs ≡ true → IsOfOne xs q → IsOfOne ys q
  among-all [] ys q e h = absurd h
  among-all (x ∷ xs) ys q e (inl h) = is-of-one ys x q (and_parts (list_any (is_pair x) ys) (list_all (λ p. list_any (is_pair p) ys) xs) e).0 h
  among-all (x ∷ xs) ys q e (inr h) = among-all xs ys q (and_parts (list_any (is_pair x) ys) (list_all (λ p. list_any (is_pair p) ys) xs) e).1 h

  all-subset : (s t : BTreeSet (Vec ℕ Global)) (xs ys : List (Value × Value)) → AreEncoded xs s → AreEncoded ys t
      → list_all (λ p. list_any (is_pair p) ys) xs ≡ true → IsSubset text_cmp s t
  all-subset s t xs ys a b e = λ k h.
      contained t.keys k (found-there t.keys ys k.items b.there (among-all xs ys k.items e (a.known k.items (is-one s.keys k h))))

  one-by-one : (xs ys : List (Value × Value)) → all_pairs (has_pair (value_pairs ys)) (value_pairs xs) ≡ list_all (λ p. list_any (is_pair p) ys) xs
  one-by-one xs ys =
      all_pairs-of (has_pair (value_pairs ys)) xs
      ∙ (λ i. list_all (λ p. any_pair-of (λ l w. item_eq l (value_item p.0) && item_eq w (value_item p.1)) ys i) xs)

  -- The set of some encodings is a subset of the set of others exactly if the pairs are among the others.
  pub subset_tells : (s t : BTreeSet (Vec ℕ Global)) (xs ys : List (Value × Value)) (r : Bool) → AreEncoded xs s → AreEncoded ys t
      → (IsTrue r ↔ IsSubset text_cmp s t) → r ≡ all_pairs (has_pair (value_pairs ys)) (value_pairs xs)
  subset_tells s t xs ys r a b told =
      both_ways r (list_all (λ p. list_any (is_pair p) ys) xs) (λ e. all-found s t xs ys (told.0 e) b a.there)
      (λ e. told.1 (all-subset s t xs ys a b e))
      ∙ sym (one-by-one xs ys)
