-- What calls add at the end of bytes.
use Rattle.std.proofs.Common.{◌≡◌, ◌+◌, ◌*◌, ℕ, List, [], ◌∷◌, ◌++◌, ◌∙◌, length, sym, ap, subst, refl, Result, Ok, Err, OnOk, arith, append_assoc}
use Rattle.std.proofs.lemmas.List.{append-nil}
use Rattle.tool_notation.specs.Encoding.{Adds, AreChunks, AreItems, HasHead, IsHead, IsSequence, IsString, IsStringType, items_in, list_type, open_content}
use Rattle.tool_notation.specs.Encoding as encoding
use Rattle.tool_notation.specs.declared.list.List.{List as Kind}
use Rattle.tool_notation.specs.declared.list.List.TheVariants.{Array, Map, Embedded}

-- What is added first, and what is added after it.
pub adds_both :
    (P Q R : List ℕ → Type 0) (old mid new : List ℕ) → ((a b : List ℕ) → P a → Q b → R (a ++ b)) → Adds P old mid → Adds Q mid new → Adds R old new
adds_both P Q R old mid new f p q = (p.0 ++ q.0, q.1 ∙ ap (λ t. t ++ q.0) p.1 ∙ append_assoc old p.0 q.0, f p.0 q.0 p.2 q.2)

-- The bytes that are added have another property.
pub adds_weaker : (P Q : List ℕ → Type 0) (old new : List ℕ) → ((a : List ℕ) → P a → Q a) → Adds P old new → Adds Q old new
adds_weaker P Q old new f p = (p.0, p.1, f p.0 p.2)

pub adds_nothing : (P : List ℕ → Type 0) (old : List ℕ) → P [] → Adds P old old
adds_nothing P old p = ([], sym (append-nil old), p)

-- These bytes are added after others.
pub adds_content :
    (P R : List ℕ → Type 0) (old mid new content : List ℕ) → ((a : List ℕ) → P a → R (a ++ content)) → Adds P old mid → new ≡ mid ++ content
    → Adds R old new
adds_content P R old mid new content f p e =
    adds_both P (λ b. b ≡ content) R old mid new (λ a b h q. subst (λ (t : List ℕ). R (a ++ t)) (sym q) (f a h)) p (content, e, refl)

-- An initial byte, content, and the break.
pub adds_open :
    (R : List ℕ → Type 0) (old mid full new content : List ℕ) (m : ℕ) → mid ≡ old ++ (32 * m + 31) ∷ [] → full ≡ mid ++ content
    → new ≡ full ++ 255 ∷ [] → R (open_content m content) → Adds R old new
adds_open R old mid full new content m begins behind ends r = (
  open_content m content,
  ends
      ∙ ap (λ t. t ++ 255 ∷ []) (behind ∙ ap (λ t. t ++ content) begins ∙ append_assoc old ((32 * m + 31) ∷ []) content)
      ∙ append_assoc old ((32 * m + 31) ∷ content) (255 ∷ []),
  r,
)

pub on_ok_any : {T E P : Type 0} (r : Result T E) → P → OnOk r P
on_ok_any (Ok x) p = p
on_ok_any (Err e) p = tt

-- ---- lists

no_elements : (k : ℕ) → 0 * k ≡ 0
no_elements k = omega arith

pub first_element : (k : ℕ) (old : List ℕ) → Adds (AreItems (0 * k)) old old
first_element k old = adds_nothing (AreItems (0 * k)) old (subst (λ (n : ℕ). AreItems n []) (sym (no_elements k)) encoding.no_items)

times_one : (n : ℕ) → n * 1 ≡ n
times_one n = omega arith

-- An array or a map of definite length.
pub in_list :
    (k : Kind) (n : ℕ) (head content : List ℕ) → HasHead k → IsHead (list_type k) n head → AreItems (n * items_in k) content
    → AreItems 1 (head ++ content)
in_list Array n head content has is items =
    encoding.array n head content is (subst (λ (i : ℕ). AreItems i content) (times_one n) items)
in_list Map n head content has is items = encoding.pairs n head content is items
in_list Embedded n head content has is items = absurd has

-- An array or a map of indefinite length.
pub in_open_list : (k : Kind) (n : ℕ) (content : List ℕ) → HasHead k → AreItems (n * items_in k) content → AreItems 1 (open_content (list_type k) content)
in_open_list Array n content has items = encoding.open_array n content (subst (λ (i : ℕ). AreItems i content) (times_one n) items)
in_open_list Map n content has items = encoding.open_pairs n content items
in_open_list Embedded n content has items = absurd has

distributes : (n k : ℕ) → n * k + k ≡ (n + 1) * k
distributes n k = grind arith

-- One more element.
pub one_element :
    (n k : ℕ) (old mid new : List ℕ) → Adds (AreItems (n * k)) old mid → Adds (AreItems k) mid new → Adds (AreItems ((n + 1) * k)) old new
one_element n k old mid new =
    adds_both (AreItems (n * k)) (AreItems k) (AreItems ((n + 1) * k)) old mid new
    (λ a b p q. subst (λ (i : ℕ). AreItems i (a ++ b)) (distributes n k) (encoding.both (n * k) k a b p q))

pub two_items : (old mid new : List ℕ) → Adds (AreItems 1) old mid → Adds (AreItems 1) mid new → Adds (AreItems 2) old new
two_items old mid new = adds_both (AreItems 1) (AreItems 1) (AreItems 2) old mid new (λ a b p q. encoding.both 1 1 a b p q)

-- A tag's head, and its content.
pub tagged_item : (n : ℕ) (old mid new : List ℕ) → Adds (IsHead 6 n) old mid → Adds (AreItems 1) mid new → Adds (AreItems 1) old new
tagged_item n old mid new = adds_both (IsHead 6 n) (AreItems 1) (AreItems 1) old mid new (λ a b p q. encoding.tagged n a b p q)

-- ---- strings

pub bytes_with : (head content : List ℕ) → IsHead 2 (length content) head → AreItems 1 (head ++ content)
bytes_with head content is =
    encoding.string 2 (head ++ content) (omega arith) (omega arith) (encoding.definite head content is (λ e. absurd (omega (arith, e))))

-- A bignum.
pub big :
    (tag : ℕ) (old tagged headed new first second content : List ℕ) → tagged ≡ old ++ first → headed ≡ tagged ++ second → new ≡ headed ++ content
    → IsHead 6 tag first → IsHead 2 (length content) second → Adds (AreItems 1) old new
big tag old tagged headed new first second content t h c is_tag is_head =
    tagged_item tag old tagged new (first, t, is_tag)
    (second ++ content, c ∙ ap (λ x. x ++ content) h ∙ append_assoc tagged second content, bytes_with second content is_head)

-- ---- chunks

pub no_chunks : (m : ℕ) (old new : List ℕ) → new ≡ old ++ (32 * m + 31) ∷ [] → Adds (AreChunks m) old new
no_chunks m old new e = ((32 * m + 31) ∷ [], e, ([], refl, encoding.no_strings))

pub one_chunk : (m : ℕ) (old mid new : List ℕ) → Adds (AreChunks m) old mid → Adds (IsString m) mid new → Adds (AreChunks m) old new
one_chunk m old mid new =
    adds_both (AreChunks m) (IsString m) (AreChunks m) old mid new
    (λ a b p q. (p.0 ++ b, ap (λ t. t ++ b) p.1, encoding.one_more p.0 b p.2 q))

pub all_chunks : (m : ℕ) (old full new : List ℕ) → IsStringType m → Adds (AreChunks m) old full → new ≡ full ++ 255 ∷ [] → Adds (AreItems 1) old new
all_chunks m old full new type chunks ends =
    adds_content (AreChunks m) (AreItems 1) old full new (255 ∷ [])
    (λ a p. subst (λ (t : List ℕ). AreItems 1 (t ++ 255 ∷ [])) (sym p.1) (encoding.open_string m p.0 type.0 type.1 p.2)) chunks ends

-- A string of indefinite length without chunks.
pub empty_string : (m : ℕ) (old mid new : List ℕ) → IsStringType m → mid ≡ old ++ (32 * m + 31) ∷ [] → new ≡ mid ++ 255 ∷ [] → Adds (AreItems 1) old new
empty_string m old mid new type begins ends = all_chunks m old mid new type (no_chunks m old mid begins) ends

-- ---- sequences

pub first_item : (old new : List ℕ) → old ≡ [] → Adds (AreItems 1) old new → IsSequence new
first_item old new none adds =
    (1, omega arith, subst (AreItems 1) (sym (adds.1 ∙ ap (λ t. t ++ adds.0) none)) adds.2)

pub next_item : (old new : List ℕ) → IsSequence old → Adds (AreItems 1) old new → IsSequence new
next_item old new sequence adds =
    let less = sequence.1 in
    (sequence.0 + 1, omega (arith, less), subst (AreItems (sequence.0 + 1)) (sym adds.1) (encoding.both sequence.0 1 old adds.0 sequence.2 adds.2))
