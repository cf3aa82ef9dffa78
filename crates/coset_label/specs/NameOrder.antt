-- The byte order of shortest heads and of labels' encodings.
use Rattle.std.proofs.Common.{◌≡◌, ℕ, zero, suc, ◌^◌, ◌+◌, ◌*◌, ◌/◌, ◌%◌, ◌<◌, ◌≤◌, List, ◌∷◌, ◌++◌, length, true, refl, sym, ◌∙◌, ap, subst, arith, inl, inr}
use Rattle.std.proofs.Common.{Ordering, Less, Equal, Greater, nat_cmp}
use Rattle.std.proofs.Math.Nat.{mul-le-mul_right, mul_comm, mod-lt, mod-one, mod-eq_of_lt, one-le-pow, pow-succ'}
use Rattle.std.proofs.Math.Arith.{mod-mul}
use Rattle.std.proofs.lemmas.Bool.{cases_order}
use Rattle.std.proofs.lemmas.List.{length-append, append-nil}
use Rattle.std.proofs.lemmas.Map.Lookups.{exact_unsigned, exact_bytes}
use Rattle.std.specs.Prelude.{pos, negsuc}
use Rattle.std.specs.Int.{bytes_high_first, byte_at}
use Rattle.std.specs.Ordering.{ordering_then, is_eq}
use Rattle.std.specs.Cmp.{IsTotalOrder, Equal-is, tied_itself}
use Rattle.std.specs.Cmp.Lexicographic.{slice_cmp}
use Rattle.std.specs.Cmp.Rules.{comparing}
use Rattle.coset_cbor.specs.Grammar.{HeadWidth, within, one, two, four, eight, head_in}
use Rattle.coset_cbor.specs.Least.{least_width, least_head, least_encoding}
use Rattle.coset_label.specs.LabelData.{LabelView, number, text_label, RegisteredLabelView, assigned, private_use, text_name}
use Rattle.coset_label.specs.LabelData.{as_label, private_rank, label_item, major_type, argument, content}
use Rattle.coset_label.specs.LabelData.{label_cmp, registered_cmp, canonical_cmp, length_first_cmp, TellsApart, ArgumentFits, head_length, encoded_length}

-- ---- orderings

-- Chaining orderings is associative.
then-then : (p q r : Ordering) → ordering_then (ordering_then p q) r ≡ ordering_then p (ordering_then q r)
then-then Less q r = refl
then-then Equal q r = refl
then-then Greater q r = refl

-- If a chain of two orderings is `Equal`, the first one is.
then-first : (p q : Ordering) → ordering_then p q ≡ Equal → p ≡ Equal
then-first p q h = grind arith

-- If a chain of two orderings is `Equal`, the second one is.
then-second : (p q : Ordering) → ordering_then p q ≡ Equal → q ≡ Equal
then-second p q h = grind arith

-- A smaller number compares as less.
less : (x y : ℕ) → x < y → nat_cmp x y ≡ Less
less x y h = grind arith

-- A larger number compares as greater.
greater : (x y : ℕ) → y < x → nat_cmp x y ≡ Greater
greater x y h = grind arith

-- ---- the bytes of a number

-- Numbers compare by their quotients by p first, then by their remainders.
digits-compare : (p a b x y : ℕ) → x < p → y < p → nat_cmp (a * p + x) (b * p + y) ≡ ordering_then (nat_cmp a b) (nat_cmp x y)
digits-compare p a b x y hx hy = elim (cases_order a b) [
  | inl e ↦ grind arith
  | inr (inl lt) ↦ let le : suc a * p ≤ b * p = mul-le-mul_right p lt in grind arith
  | inr (inr lt) ↦ let le : suc b * p ≤ a * p = mul-le-mul_right p lt in grind arith
]

-- Byte k is the remainder of a quotient, also for the lowest byte.
byte_at-is : (k n : ℕ) → byte_at k n ≡ n / 256 ^ k % 256
byte_at-is zero n = omega arith
byte_at-is (suc k) n = refl

-- The lowest k bytes of two numbers, highest first, compare as the numbers that these bytes make.
bytes-compare : (k n l : ℕ) (s t : List ℕ)
    → slice_cmp nat_cmp (bytes_high_first k n ++ s) (bytes_high_first k l ++ t) ≡ ordering_then (nat_cmp (n % 256 ^ k) (l % 256 ^ k)) (slice_cmp nat_cmp s t)
bytes-compare zero n l s t = rw (mod-one n, mod-one l)
bytes-compare (suc k) n l s t =
    let p : 0 < 256 ^ k = one-le-pow k 256 (omega arith) in
    let b : 0 < 256 = omega arith in
    let digits = digits-compare (256 ^ k) (n / 256 ^ k % 256) (l / 256 ^ k % 256) (n % 256 ^ k) (l % 256 ^ k) (mod-lt n p) (mod-lt l p) in
    rw (byte_at-is k n, byte_at-is k l, pow-succ' 256 k, mod-mul n b p, mod-mul l b p, digits, then-then, bytes-compare k n l s t)

-- Two numbers of at most k bytes compare as these bytes do.
whole-compare : (k n l : ℕ) (s t : List ℕ) → n < 256 ^ k → l < 256 ^ k
    → slice_cmp nat_cmp (bytes_high_first k n ++ s) (bytes_high_first k l ++ t) ≡ ordering_then (nat_cmp n l) (slice_cmp nat_cmp s t)
whole-compare k n l s t hn hl = rw (mod-eq_of_lt hn, mod-eq_of_lt hl) at (bytes-compare k n l s t)

-- ---- the five forms of a head

-- The argument n is in the range for which this width is the shortest.
abbrev Spans : HeadWidth → ℕ → Type 0
Spans within n = n < 24
Spans one n = (24 ≤ n) × (n < 2 ^ 8)
Spans two n = (2 ^ 8 ≤ n) × (n < 2 ^ 16)
Spans four n = (2 ^ 16 ≤ n) × (n < 2 ^ 32)
Spans eight n = (2 ^ 32 ≤ n) × (n < 2 ^ 64)

-- `least_width` picks the shortest width.
spans : (n : ℕ) → n < 2 ^ 64 → Spans (least_width n) n
spans n h = grind arith

-- The low five bits of a head's first byte.
abbrev low : HeadWidth → ℕ → ℕ
low within n = n
low one n = 24
low two n = 25
low four n = 26
low eight n = 27

-- The number of bytes after the first.
abbrev behind : HeadWidth → ℕ
behind within = 0
behind one = 1
behind two = 2
behind four = 4
behind eight = 8

-- A head is its first byte and the bytes after it.
head-parts : (p : HeadWidth) (m n : ℕ) → head_in p m n ≡ (32 * m + low p n) ∷ bytes_high_first (behind p) n
head-parts within m n = refl
head-parts one m n = refl
head-parts two m n = refl
head-parts four m n = refl
head-parts eight m n = refl

-- The low bits of a first byte are below 32.
low-small : (p : HeadWidth) (n : ℕ) → Spans p n → low p n < 32
low-small p n h = grind arith

-- Smaller low bits belong to a smaller argument.
low-less : (p q : HeadWidth) (n l : ℕ) → Spans p n → Spans q l → low p n < low q l → n < l
low-less p q n l hn hl h = grind arith

-- Equal low bits belong to the same width.
low-same : (p q : HeadWidth) (n l : ℕ) → Spans p n → Spans q l → low p n ≡ low q l → p ≡ q
low-same p q n l hn hl h = grind arith

-- Two ways of comparing two heads with bytes after them agree. One way is by low bits, then by all later bytes. The
-- other way is by argument, then by the bytes after the head.
abbrev Agree : HeadWidth → HeadWidth → ℕ → ℕ → List ℕ → List ℕ → Type 0
Agree p q n l s t =
    ordering_then (nat_cmp (low p n) (low q l)) (slice_cmp nat_cmp (bytes_high_first (behind p) n ++ s) (bytes_high_first (behind q) l ++ t))
    ≡ ordering_then (nat_cmp n l) (slice_cmp nat_cmp s t)

-- The two ways agree for heads of the same width.
same-width : (p : HeadWidth) (n l : ℕ) (s t : List ℕ) → Spans p n → Spans p l → Agree p p n l s t
same-width within n l s t hn hl = refl
same-width one n l s t hn hl = whole-compare 1 n l s t hn.1 hl.1
same-width two n l s t hn hl = whole-compare 2 n l s t hn.1 hl.1
same-width four n l s t hn hl = whole-compare 4 n l s t hn.1 hl.1
same-width eight n l s t hn hl = whole-compare 8 n l s t hn.1 hl.1

-- The two ways agree for heads of any widths.
widths-compare : (p q : HeadWidth) (n l : ℕ) (s t : List ℕ) → Spans p n → Spans q l → Agree p q n l s t
widths-compare p q n l s t hn hl = elim (cases_order (low p n) (low q l)) [
  | inl e ↦ subst (λ (r : HeadWidth). Spans r l → Agree p r n l s t) (low-same p q n l hn hl e) (same-width p n l s t hn) hl
  | inr (inl lt) ↦ rw (less (low p n) (low q l) lt, less n l (low-less p q n l hn hl lt))
  | inr (inr lt) ↦ rw (greater (low p n) (low q l) lt, greater n l (low-less q p l n hl hn lt))
]

-- Two shortest heads with bytes after them compare by major type, then by argument, then by those bytes.
pub heads-compare : (m n k l : ℕ) (s t : List ℕ) → m < 8 → k < 8 → n < 2 ^ 64 → l < 2 ^ 64
    → slice_cmp nat_cmp (least_head m n ++ s) (least_head k l ++ t) ≡ ordering_then (nat_cmp m k) (ordering_then (nat_cmp n l) (slice_cmp nat_cmp s t))
unfolding least_head
heads-compare m n k l s t _ _ hn hl =
    let p = least_width n in
    let q = least_width l in
    let a = spans n hn in
    let b = spans l hl in
    let first = digits-compare 32 m k (low p n) (low q l) (low-small p n a) (low-small q l b) in
    rw (head-parts p m n, head-parts q k l, mul_comm 32 m, mul_comm 32 k, first, then-then, widths-compare p q n l s t a b)

-- ---- labels

-- A label's encoding is its head and its content.
least_encoding-parts : (a : LabelView) → least_encoding (label_item a) ≡ least_head (major_type a) (argument a) ++ content a
least_encoding-parts (number (pos n)) = sym (append-nil (least_head 0 n))
least_encoding-parts (number (negsuc n)) = sym (append-nil (least_head 1 n))
least_encoding-parts (text_label s) = refl

-- A label's major type is below 8.
major_type-small : (a : LabelView) → major_type a < 8
major_type-small a = grind arith

-- The encodings of two labels compare as the labels do.
pub labels-compare : (a b : LabelView) → ArgumentFits a → ArgumentFits b → slice_cmp nat_cmp (least_encoding (label_item a)) (least_encoding (label_item b))
    ≡ label_cmp a b
labels-compare a b ha hb =
    rw (least_encoding-parts a, least_encoding-parts b)
    (heads-compare (major_type a) (argument a) (major_type b) (argument b) (content a) (content b) (major_type-small a) (major_type-small b) ha hb)

-- The length of the shortest head is `head_length`.
length-least_head : (m n : ℕ) → length (least_head m n) ≡ head_length n
unfolding least_head
length-least_head m n = grind arith

-- The length of a label's encoding is `encoded_length`.
pub least_encoding-length : (a : LabelView) → length (least_encoding (label_item a)) ≡ encoded_length a
least_encoding-length a = rw (least_encoding-parts a, length-append, length-least_head)

-- The encodings compare by length first, then by their bytes (RFC 7049, section 3.9), as the labels do.
pub labels-compare-canonical : (a b : LabelView) → ArgumentFits a → ArgumentFits b
    → length_first_cmp (least_encoding (label_item a)) (least_encoding (label_item b)) ≡ canonical_cmp a b
labels-compare-canonical a b ha hb = rw (labels-compare a b ha hb, least_encoding-length a, least_encoding-length b)

-- ---- the laws of labels' orders

-- The three orders of labels are total.
pub label_cmp_total : IsTotalOrder label_cmp
label_cmp_total = search comparing

pub canonical_cmp_total : IsTotalOrder canonical_cmp
canonical_cmp_total = search comparing

pub registered_cmp_total : IsTotalOrder registered_cmp
registered_cmp_total = search comparing depth 9

-- A total order that returns `Equal` only for equal values tells values apart.
tells-apart : {A : Type 0} (R : A → A → Ordering) → IsTotalOrder R → ((a b : A) → R a b ≡ Equal → a ≡ b) → TellsApart R
tells-apart R total only a b = (λ e. only a b ((Equal-is (R a b)).0 e), λ same. subst (λ x. is_eq (R a x) ≡ true) same (ap is_eq (tied_itself total a)))

label_cmp-equal : (a b : LabelView) → label_cmp a b ≡ Equal → a ≡ b
label_cmp-equal (number (pos n)) (number (pos l)) h = ap (λ k. number (pos k)) (exact_unsigned n l (then-first (nat_cmp n l) Equal h))
label_cmp-equal (number (negsuc n)) (number (negsuc l)) h = ap (λ k. number (negsuc k)) (exact_unsigned n l (then-first (nat_cmp n l) Equal h))
label_cmp-equal (text_label s) (text_label t) h = ap text_label (exact_bytes s t (then-second (nat_cmp (length s) (length t)) (slice_cmp nat_cmp s t) h))
label_cmp-equal a b h = grind arith

pub label_cmp-apart : TellsApart label_cmp
label_cmp-apart = tells-apart label_cmp label_cmp_total label_cmp-equal

pub canonical_cmp-apart : TellsApart canonical_cmp
canonical_cmp-apart = tells-apart canonical_cmp canonical_cmp_total
    (λ a b h. label_cmp-equal a b (then-second (nat_cmp (encoded_length a) (encoded_length b)) (label_cmp a b) h))

-- Makes a label of a registry from its number or text and its private-use rank.
registered_of : LabelView → ℕ → RegisteredLabelView
registered_of (number i) zero = assigned i
registered_of (number i) (suc k) = private_use i
registered_of (text_label s) k = text_name s

registered-back : (a : RegisteredLabelView) → registered_of (as_label a) (private_rank a) ≡ a
unfolding registered_of
registered-back (assigned i) = refl
registered-back (private_use i) = refl
registered-back (text_name s) = refl

registered_cmp-equal : (a b : RegisteredLabelView) → registered_cmp a b ≡ Equal → a ≡ b
registered_cmp-equal a b h =
    let same = label_cmp-equal (as_label a) (as_label b) (then-first (label_cmp (as_label a) (as_label b)) (nat_cmp (private_rank a) (private_rank b)) h) in
    let tied = exact_unsigned (private_rank a) (private_rank b)
    (then-second (label_cmp (as_label a) (as_label b)) (nat_cmp (private_rank a) (private_rank b)) h) in
    sym (registered-back a) ∙ (ap (λ x. registered_of x (private_rank a)) same ∙ (ap (registered_of (as_label b)) tied ∙ registered-back b))

pub registered_cmp-apart : TellsApart registered_cmp
registered_cmp-apart = tells-apart registered_cmp registered_cmp_total registered_cmp-equal
