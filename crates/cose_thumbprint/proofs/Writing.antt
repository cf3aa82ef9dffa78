-- The bytes of the map, pair by pair.
use Rattle.std.proofs.Common.{◌≡◌, ◌≤◌, ◌<◌, ◌+◌, ◌^◌, ℕ, suc, ℤ, pos, List, [], ◌∷◌, ◌++◌, length, map, take, get_or, append_assoc}
use Rattle.std.proofs.Common.{refl, sym, ap, subst, arith, ◌∙◌}
use Rattle.std.proofs.lemmas.List.{take_more, map_push}
use Rattle.coset.specs.Item.{Item, integer, pairs_count}
use Rattle.coset.specs.LabelData.{number}
use Rattle.coset.specs.Range.{IsInRange, ArePairsInRange}
use Rattle.coset.specs.Shortest.{IsShortest, AppendsShortest}
use Rattle.coset.specs.View.{pairs_of, value_item}
use Rattle.coset_cbor.specs.Least.{least_head, least_encoding, least_pair_encodings}
use Rattle.coset_cbor.proofs.Kept.{least_pair_encodings-push}
use Rattle.cose_thumbprint.specs.Thumbprint.{pairs, map_of}
use Rattle.cose_thumbprint.specs.Views.{member_view}
use Rattle.cose_thumbprint.specs.declared.member.Member.{Member}

-- The laws of shortest encodings that the proof uses.
abbrev AreLeast : Type 0
AreLeast = (v : Item) (b : List ℕ) → IsInRange v → IsShortest b v → b ≡ least_encoding v

abbrev AreInRanges : Type 0
AreInRanges = (v : Item) (b : List ℕ) → IsShortest b v → IsInRange v

abbrev LeastIsShortest : Type 0
LeastIsShortest = (v : Item) → IsInRange v → IsShortest (least_encoding v) v

-- A member as a pair of items.
abbrev as_pair : ℤ × Item → Item × Item
as_pair e = (integer e.0, e.1)

-- The encodings of a list's pairs, and those of one more.
pairs-push : (es : List (ℤ × Item)) (e : ℤ × Item)
    → least_pair_encodings (pairs (es ++ e ∷ [])) ≡ least_pair_encodings (pairs es) ++ (least_encoding (integer e.0) ++ least_encoding e.1)
pairs-push es e = ap (λ (ps : List (Item × Item)). least_pair_encodings (pairs_of ps)) (map_push as_pair es e)
    ∙ least_pair_encodings-push (map as_pair es) (as_pair e)

pushed_in_range : (es : List (ℤ × Item)) (e : ℤ × Item) → ArePairsInRange (pairs es) → IsInRange (integer e.0) → IsInRange e.1
    → ArePairsInRange (pairs (es ++ e ∷ []))
pushed_in_range [] e h k l = (k, l, tt)
pushed_in_range (f ∷ es) e h k l = (h.0, h.1, pushed_in_range es e h.2 k l)

-- One more element of a list.
one_more : (ms : List Member) (i : ℕ) (m : Member) → i < length ms → m ≡ get_or ms i m
    → map member_view (take (i + 1) ms) ≡ map member_view (take i ms) ++ member_view m ∷ []
one_more ms i m lt is = ap (map member_view) (take_more ms i m lt ∙ ap (λ x. take i ms ++ x ∷ []) (sym is)) ∙ map_push member_view (take i ms) m

-- A value's encoding that was appended.
appended : AreLeast → AreInRanges → (old new : List ℕ) (v : Item) → AppendsShortest old new v → new ≡ old ++ least_encoding v
appended least ranges old new v s = s.parts ∙ ap (λ b. old ++ b) (least v s.encoding (ranges v s.encoding s.is_shortest) s.is_shortest)

pub member_written : AreLeast → AreInRanges → (ms : List Member) (i : ℕ) (m : Member) (l : ℤ) (old middle labelled new : List ℕ)
    → i < length ms → m ≡ get_or ms i m → l ≡ m.label
    → middle ≡ old ++ least_pair_encodings (pairs (map member_view (take i ms))) → labelled ≡ middle ++ least_encoding (integer l)
    → AppendsShortest labelled new (value_item m.value.now)
    → new ≡ old ++ least_pair_encodings (pairs (map member_view (take (i + 1) ms)))
member_written least ranges ms i m l old middle labelled new lt is same so_far label value =
    let es = map member_view (take i ms) in
    let first = least_pair_encodings (pairs es) in
    let key = least_encoding (integer m.label) in
    let content = least_encoding (value_item m.value.now) in
    appended least ranges labelled new (value_item m.value.now) value
    ∙ ap (λ b. b ++ content) (label ∙ (λ j. so_far j ++ least_encoding (integer (same j))))
    ∙ ap (λ b. b ++ content) (append_assoc old first key)
    ∙ append_assoc old (first ++ key) content
    ∙ ap (λ b. old ++ b) (append_assoc first key content ∙ sym (pairs-push es (member_view m)))
    ∙ ap (λ zs. old ++ least_pair_encodings (pairs zs)) (sym (one_more ms i m lt is))

pub member_in_range : AreInRanges → (ms : List Member) (i : ℕ) (m : Member) (l : ℤ) (labelled new : List ℕ)
    → i < length ms → m ≡ get_or ms i m → l ≡ m.label → ArePairsInRange (pairs (map member_view (take i ms))) → IsInRange (integer l)
    → AppendsShortest labelled new (value_item m.value.now)
    → ArePairsInRange (pairs (map member_view (take (i + 1) ms)))
member_in_range ranges ms i m l labelled new lt is same so_far label value =
    subst (λ zs. ArePairsInRange (pairs zs)) (sym (one_more ms i m lt is))
    (pushed_in_range (map member_view (take i ms)) (member_view m) so_far (subst (λ n. IsInRange (integer n)) same label)
    (ranges (value_item m.value.now) value.encoding value.is_shortest))

-- ---- the whole map

count : (es : List (ℤ × Item)) → pairs_count (pairs es) ≡ length es
count [] = refl
count (e ∷ es) = ap suc (count es)

-- The map is written as its head, label 1 with kty, and the members.
pub map_written : LeastIsShortest → (kty one type : ℤ) (es : List (ℤ × Item)) (n : ℕ) (start headed labelled typed new : List ℕ) → one ≡ pos 1 → type ≡ kty
    → start ≡ [] → headed ≡ start ++ least_head 5 n → labelled ≡ headed ++ least_encoding (integer one) → typed ≡ labelled ++ least_encoding (integer type)
    → new ≡ typed ++ least_pair_encodings (pairs es) → n ≡ suc (length es) → length es ≤ 3 → IsInRange (integer type) → ArePairsInRange (pairs es)
    → IsShortest new (map_of (number kty) es)
map_written shortest kty one type es n start headed labelled typed new first same empty head label value rest is few fits fit =
    let front = least_head 5 n in
    let key = least_encoding (integer (pos 1)) in
    let content = least_encoding (integer kty) in
    let more = least_pair_encodings (pairs es) in
    let counted : n ≡ suc (pairs_count (pairs es)) = is ∙ ap suc (sym (count es)) in
    let headed_is : headed ≡ front = head ∙ ap (λ b. b ++ front) empty in
    let labelled_is : labelled ≡ front ++ key = label ∙ (λ i. headed_is i ++ least_encoding (integer (first i))) in
    let typed_is : typed ≡ (front ++ key) ++ content = value ∙ (λ i. labelled_is i ++ least_encoding (integer (same i))) in
    let all : new ≡ least_encoding (map_of (number kty) es) = rest ∙ ap (λ b. b ++ more) typed_is ∙ append_assoc (front ++ key) content more
    ∙ append_assoc front key (content ++ more) ∙ ap (λ k. least_head 5 k ++ (key ++ (content ++ more))) counted in
    let small : suc (pairs_count (pairs es)) < 2 ^ 64 = omega (arith, count es) in
    let in_range : IsInRange (integer kty) = subst (λ k. IsInRange (integer k)) same fits in
    subst (λ b. IsShortest b (map_of (number kty) es)) (sym all) (shortest (map_of (number kty) es) (small, (omega arith, in_range, fit)))
