-- The encoding with the least heads is the only shortest definite encoding.
use Rattle.std.proofs.Common.{◌≡◌, ℕ, ◌^◌, ◌+◌, ◌<◌, ◌≤◌, true, false, ltb, List, [], ◌++◌, length, refl, sym, ap, ap₂, subst, ◌∙◌, arith, inl, inr, ◌⊎◌}
use Rattle.std.specs.Prelude.{pos, negsuc}
use Rattle.std.proofs.lemmas.Bool.{lt-ltb, le-ltb, cases_lt, ltb-true, cond_both}
use Rattle.std.proofs.lemmas.List.{length-append}
use Rattle.coset_value.specs.Item.{half, single, double, Item, integer, bytes, float, text, boolean, null, tag, array, dict, Items, no_items, item, Pairs}
use Rattle.coset_value.specs.Item.{no_pairs, pair, items_count, pairs_count}
use Rattle.coset_value.specs.Range.{IsInRange, AreInRange, ArePairsInRange}
use Rattle.coset_cbor.specs.Grammar.{HeadWidth, within, one, two, four, eight, Holds, head_in, IsHead, IsHeaded, IsEncoding, AreEncodings, ArePairEncodings}
use Rattle.coset_cbor.specs.Definite.{IsDefiniteEncoding, AreDefiniteEncodings, AreDefinitePairs}
use Rattle.coset_cbor.specs.Shortest.{IsShortest, AppendsShortest}
use Rattle.coset_cbor.specs.Least.{least_width, least_head, least_encoding, least_encodings, least_pair_encodings}

-- ---- the least width

abbrev size : HeadWidth → ℕ
size within = 1
size one = 2
size two = 3
size four = 5
size eight = 9

length-head_in : (p : HeadWidth) (m n : ℕ) → length (head_in p m n) ≡ size p
length-head_in within m n = refl
length-head_in one m n = refl
length-head_in two m n = refl
length-head_in four m n = refl
length-head_in eight m n = refl

least_within : (n : ℕ) → n < 24 → least_width n ≡ within
least_within n h = rw (lt-ltb n 24 h) refl

least_one : (n : ℕ) → 24 ≤ n → n < 2 ^ 8 → least_width n ≡ one
least_one n a h = rw (le-ltb n 24 a, lt-ltb n (2 ^ 8) h) refl

least_two : (n : ℕ) → 2 ^ 8 ≤ n → n < 2 ^ 16 → least_width n ≡ two
least_two n a h = let b : 24 ≤ n = omega arith in rw (le-ltb n 24 b, le-ltb n (2 ^ 8) a, lt-ltb n (2 ^ 16) h) refl

least_four : (n : ℕ) → 2 ^ 16 ≤ n → n < 2 ^ 32 → least_width n ≡ four
least_four n a h =
    let b : 24 ≤ n = omega arith in
    let c : 2 ^ 8 ≤ n = omega arith in
    rw (le-ltb n 24 b, le-ltb n (2 ^ 8) c, le-ltb n (2 ^ 16) a, lt-ltb n (2 ^ 32) h) refl

least_eight : (n : ℕ) → 2 ^ 32 ≤ n → least_width n ≡ eight
least_eight n a =
    let b : 24 ≤ n = omega arith in
    let c : 2 ^ 8 ≤ n = omega arith in
    let d : 2 ^ 16 ≤ n = omega arith in
    rw (le-ltb n 24 b, le-ltb n (2 ^ 8) c, le-ltb n (2 ^ 16) d, le-ltb n (2 ^ 32) a) refl

abbrev IsLeastWidth : HeadWidth → ℕ → Type 0
IsLeastWidth p n = (least_width n ≡ p) ⊎ (size (least_width n) < size p)

smaller : (p q : HeadWidth) (n : ℕ) → least_width n ≡ q → size q < size p → IsLeastWidth p n
smaller p q n e lt = inr (subst (λ (x : HeadWidth). size x < size p) (sym e) lt)

least_of_width : (p : HeadWidth) (n : ℕ) → Holds p n → IsLeastWidth p n
least_of_width within n h = inl (least_within n h)
least_of_width one n h = elim (cases_lt n 24) [
  | inl a ↦ smaller one within n (least_within n a) (omega arith)
  | inr a ↦ inl (least_one n a h)
]
least_of_width two n h = elim (cases_lt n 24) [
  | inl a ↦ smaller two within n (least_within n a) (omega arith)
  | inr a ↦ elim (cases_lt n (2 ^ 8)) [
    | inl b ↦ smaller two one n (least_one n a b) (omega arith)
    | inr b ↦ inl (least_two n b h)
  ]
]
least_of_width four n h = elim (cases_lt n 24) [
  | inl a ↦ smaller four within n (least_within n a) (omega arith)
  | inr a ↦ elim (cases_lt n (2 ^ 8)) [
    | inl b ↦ smaller four one n (least_one n a b) (omega arith)
    | inr b ↦ elim (cases_lt n (2 ^ 16)) [
      | inl c ↦ smaller four two n (least_two n b c) (omega arith)
      | inr c ↦ inl (least_four n c h)
    ]
  ]
]
least_of_width eight n h = elim (cases_lt n 24) [
  | inl a ↦ smaller eight within n (least_within n a) (omega arith)
  | inr a ↦ elim (cases_lt n (2 ^ 8)) [
    | inl b ↦ smaller eight one n (least_one n a b) (omega arith)
    | inr b ↦ elim (cases_lt n (2 ^ 16)) [
      | inl c ↦ smaller eight two n (least_two n b c) (omega arith)
      | inr c ↦ elim (cases_lt n (2 ^ 32)) [
        | inl d ↦ smaller eight four n (least_four n c d) (omega arith)
        | inr d ↦ inl (least_eight n d)
      ]
    ]
  ]
]

-- ---- no encoding is shorter

-- s is at most as long as c, and the two are equal if they are equally long.
record IsLeast (s c : List ℕ) : Type 0 where
  shorter : length s ≤ length c
  same : length c ≤ length s → c ≡ s

least_self : (s : List ℕ) → IsLeast s s
least_self s = record { shorter = omega arith; same = λ h. refl }

least_is : (s c : List ℕ) → c ≡ s → IsLeast s c
least_is s c e = subst (λ (x : List ℕ). IsLeast s x) (sym e) (least_self s)

least_append : (s t c d b : List ℕ) → IsLeast s c → IsLeast t d → b ≡ c ++ d → IsLeast (s ++ t) b
least_append s t c d b p q e =
    let ps = p.shorter in
    let qs = q.shorter in
    let whole : length b ≡ length c + length d = ap length e ∙ length-append c d in
    let least : length (s ++ t) ≡ length s + length t = length-append s t in
    record {
      shorter = omega arith;
      same = λ h. e ∙ ap₂ (λ (x y : List ℕ). x ++ y) (p.same (omega arith)) (q.same (omega arith));
    }

least_in : (p : HeadWidth) (m n : ℕ) → Holds p n → IsLeast (least_head m n) (head_in p m n)
unfolding least_head
least_in p m n h = elim (least_of_width p n h) [
  | inl e ↦ subst (λ (q : HeadWidth). IsLeast (head_in (least_width n) m n) (head_in q m n)) e (least_self (head_in (least_width n) m n))
  | inr lt ↦
      let a = length-head_in (least_width n) m n in
      let b = length-head_in p m n in
      record { shorter = omega arith; same = λ le. absurd (omega arith) }
]

least_of_head : (m n : ℕ) (h : List ℕ) → IsHead m n h → IsLeast (least_head m n) h
least_of_head m n h is = subst (λ (x : List ℕ). IsLeast (least_head m n) x) (sym is.spelled) (least_in is.width m n is.holds)

least_of_headed : (m n : ℕ) (t s b : List ℕ) → IsHeaded m n s b → IsLeast t s → IsLeast (least_head m n ++ t) b
least_of_headed m n t s b is p = least_append (least_head m n) t is.head s b (least_of_head m n is.head is.is_head) p is.parts

mutual
  least_encoding_least : (v : Item) (b : List ℕ) → IsDefiniteEncoding v b → IsLeast (least_encoding v) b
  least_encoding_least (integer (pos n)) b h = least_of_head 0 n b h
  least_encoding_least (integer (negsuc n)) b h = least_of_head 1 n b h
  least_encoding_least (bytes s) b h = least_of_headed 2 (length s) s s b h.1 (least_self s)
  least_encoding_least (float (half n)) b h = least_is _ b h.1
  least_encoding_least (float (single n)) b h = least_is _ b h.1
  least_encoding_least (float (double n)) b h = least_is _ b h.1
  least_encoding_least (text s) b h = least_of_headed 3 (length s) s s b h.1 (least_self s)
  least_encoding_least (boolean false) b h = least_is _ b h
  least_encoding_least (boolean true) b h = least_is _ b h
  least_encoding_least null b h = least_is _ b h
  least_encoding_least (tag t v) b h = least_of_headed 6 t (least_encoding v) h.0 b h.2 (least_encoding_least v h.0 h.1)
  least_encoding_least (array vs) b h = least_of_headed 4 (items_count vs) (least_encodings vs) h.0 b h.2 (least_encodings_least vs h.0 h.1)
  least_encoding_least (dict ps) b h = least_of_headed 5 (pairs_count ps) (least_pair_encodings ps) h.0 b h.2 (least_pair_encodings_least ps h.0 h.1)

  least_encodings_least : (vs : Items) (b : List ℕ) → AreDefiniteEncodings vs b → IsLeast (least_encodings vs) b
  least_encodings_least no_items b h = least_is [] b h
  least_encodings_least (item v vs) b h = least_append (least_encoding v) (least_encodings vs) h.0 h.1 b (least_encoding_least v h.0 h.2)
      (least_encodings_least vs h.1 h.3) h.4

  least_pair_encodings_least : (ps : Pairs) (b : List ℕ) → AreDefinitePairs ps b → IsLeast (least_pair_encodings ps) b
  least_pair_encodings_least no_pairs b h = least_is [] b h
  least_pair_encodings_least (pair k v ps) b h =
      least_append (least_encoding k) (least_encoding v ++ least_pair_encodings ps) h.0 (h.1 ++ h.2) b (least_encoding_least k h.0 h.3)
      (least_append (least_encoding v) (least_pair_encodings ps) h.1 h.2 (h.1 ++ h.2) (least_encoding_least v h.1 h.4)
      (least_pair_encodings_least ps h.2 h.5) refl) h.6

-- ---- the encoding with the least heads is a definite encoding

least_holds : (n : ℕ) → n < 2 ^ 64 → Holds (least_width n) n
least_holds n lt =
    cond_both (ltb n 24) within _ (λ p. Holds p n) (λ e. ltb-true n 24 e) (λ a.
    cond_both (ltb n (2 ^ 8)) one _ (λ p. Holds p n) (λ e. ltb-true n (2 ^ 8) e) (λ b.
    cond_both (ltb n (2 ^ 16)) two _ (λ p. Holds p n) (λ e. ltb-true n (2 ^ 16) e) (λ c.
    cond_both (ltb n (2 ^ 32)) four eight (λ p. Holds p n) (λ e. ltb-true n (2 ^ 32) e) (λ d. lt))))

least_is_head : (m n : ℕ) → n < 2 ^ 64 → IsHead m n (least_head m n)
unfolding least_head
least_is_head m n lt = record { width = least_width n; holds = least_holds n lt; spelled = refl }

least_headed : (m n : ℕ) (s : List ℕ) → n < 2 ^ 64 → IsHeaded m n s (least_head m n ++ s)
least_headed m n s lt = record { head = least_head m n; is_head = least_is_head m n lt; parts = refl }

mutual
  least_encoding_definite : (v : Item) → IsInRange v → IsDefiniteEncoding v (least_encoding v)
  least_encoding_definite (integer (pos n)) h = least_is_head 0 n h
  least_encoding_definite (integer (negsuc n)) h = least_is_head 1 n h
  least_encoding_definite (bytes s) h = (tt, least_headed 2 (length s) s h)
  least_encoding_definite (float (half n)) h = (h, refl)
  least_encoding_definite (float (single n)) h = (h, refl)
  least_encoding_definite (float (double n)) h = (h, refl)
  least_encoding_definite (text s) h = (h.1, least_headed 3 (length s) s h.0)
  least_encoding_definite (boolean false) h = refl
  least_encoding_definite (boolean true) h = refl
  least_encoding_definite null h = refl
  least_encoding_definite (tag t v) h = (least_encoding v, least_encoding_definite v h.1, least_headed 6 t (least_encoding v) h.0)
  least_encoding_definite (array vs) h = (least_encodings vs, least_encodings_definite vs h.1, least_headed 4 (items_count vs) (least_encodings vs) h.0)
  least_encoding_definite (dict ps) h = (
    least_pair_encodings ps,
    least_pair_encodings_definite ps h.1,
    least_headed 5 (pairs_count ps) (least_pair_encodings ps) h.0,
  )

  least_encodings_definite : (vs : Items) → AreInRange vs → AreDefiniteEncodings vs (least_encodings vs)
  least_encodings_definite no_items h = refl
  least_encodings_definite (item v vs) h = (least_encoding v, least_encodings vs, least_encoding_definite v h.0, least_encodings_definite vs h.1, refl)

  least_pair_encodings_definite : (ps : Pairs) → ArePairsInRange ps → AreDefinitePairs ps (least_pair_encodings ps)
  least_pair_encodings_definite no_pairs h = refl
  least_pair_encodings_definite (pair k v ps) h = (
    least_encoding k,
    least_encoding v,
    least_pair_encodings ps,
    least_encoding_definite k h.0,
    least_encoding_definite v h.1,
    least_pair_encodings_definite ps h.2,
    refl,
  )

-- The encoding with the least heads is the shortest encoding.
pub least_is_shortest : (v : Item) → IsInRange v → IsShortest (least_encoding v) v
least_is_shortest v h = record { definite = least_encoding_definite v h; least = λ c d. (least_encoding_least v c d).shorter }

-- The shortest encoding is the one with the least heads.
pub only_least_encoding : (v : Item) → IsInRange v → (b : List ℕ) → IsShortest b v → b ≡ least_encoding v
only_least_encoding v h b is = (least_encoding_least v b is.definite).same (is.least (least_encoding v) (least_encoding_definite v h))

mutual
  -- A definite encoding is an encoding.
  pub definite_is_encoding : (v : Item) (b : List ℕ) → IsDefiniteEncoding v b → IsEncoding v b
  definite_is_encoding (integer n) b h = h
  definite_is_encoding (bytes s) b h = inl h
  definite_is_encoding (float x) b h = h
  definite_is_encoding (text s) b h = inl h
  definite_is_encoding (boolean x) b h = h
  definite_is_encoding null b h = h
  definite_is_encoding (tag t v) b h = (h.0, definite_is_encoding v h.0 h.1, h.2)
  definite_is_encoding (array vs) b h = (h.0, definites_are_encodings vs h.0 h.1, inl h.2)
  definite_is_encoding (dict ps) b h = (h.0, definite_pairs_are_encodings ps h.0 h.1, inl h.2)

  definites_are_encodings : (vs : Items) (b : List ℕ) → AreDefiniteEncodings vs b → AreEncodings vs b
  definites_are_encodings no_items b h = h
  definites_are_encodings (item v vs) b h = (h.0, h.1, definite_is_encoding v h.0 h.2, definites_are_encodings vs h.1 h.3, h.4)

  definite_pairs_are_encodings : (ps : Pairs) (b : List ℕ) → AreDefinitePairs ps b → ArePairEncodings ps b
  definite_pairs_are_encodings no_pairs b h = h
  definite_pairs_are_encodings (pair k v ps) b h = (
    h.0,
    h.1,
    h.2,
    definite_is_encoding k h.0 h.3,
    definite_is_encoding v h.1 h.4,
    definite_pairs_are_encodings ps h.2 h.5,
    h.6,
  )

-- ---- an item with a definite encoding is in range

holds_in_range : (p : HeadWidth) (n : ℕ) → Holds p n → n < 2 ^ 64
holds_in_range within n h = omega arith
holds_in_range one n h = omega arith
holds_in_range two n h = omega arith
holds_in_range four n h = omega arith
holds_in_range eight n h = h

headed_in_range : (m n : ℕ) (s b : List ℕ) → IsHeaded m n s b → n < 2 ^ 64
headed_in_range m n s b is = holds_in_range is.is_head.width n is.is_head.holds

mutual
  -- An item with a definite encoding is in range.
  pub definite_in_range : (v : Item) (b : List ℕ) → IsDefiniteEncoding v b → IsInRange v
  definite_in_range (integer (pos n)) b h = holds_in_range h.width n h.holds
  definite_in_range (integer (negsuc n)) b h = holds_in_range h.width n h.holds
  definite_in_range (bytes s) b h = headed_in_range 2 (length s) s b h.1
  definite_in_range (float (half n)) b h = h.0
  definite_in_range (float (single n)) b h = h.0
  definite_in_range (float (double n)) b h = h.0
  definite_in_range (text s) b h = (headed_in_range 3 (length s) s b h.1, h.0)
  definite_in_range (boolean x) b h = tt
  definite_in_range null b h = tt
  definite_in_range (tag t v) b h = (headed_in_range 6 t h.0 b h.2, definite_in_range v h.0 h.1)
  definite_in_range (array vs) b h = (headed_in_range 4 (items_count vs) h.0 b h.2, definites_in_range vs h.0 h.1)
  definite_in_range (dict ps) b h = (headed_in_range 5 (pairs_count ps) h.0 b h.2, definite_pairs_in_range ps h.0 h.1)

  definites_in_range : (vs : Items) (b : List ℕ) → AreDefiniteEncodings vs b → AreInRange vs
  definites_in_range no_items b h = tt
  definites_in_range (item v vs) b h = (definite_in_range v h.0 h.2, definites_in_range vs h.1 h.3)

  definite_pairs_in_range : (ps : Pairs) (b : List ℕ) → AreDefinitePairs ps b → ArePairsInRange ps
  definite_pairs_in_range no_pairs b h = tt
  definite_pairs_in_range (pair k v ps) b h = (definite_in_range k h.0 h.3, definite_in_range v h.1 h.4, definite_pairs_in_range ps h.2 h.5)

pub appends : (old new : List ℕ) (v : Item) → IsInRange v → new ≡ old ++ least_encoding v → AppendsShortest old new v
appends old new v h e = record { encoding = least_encoding v; is_shortest = least_is_shortest v h; parts = e }
