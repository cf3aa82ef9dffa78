-- The elements after a head.
use Rattle.std.proofs.Common.{◌≡◌, ℕ, suc, ◌+◌, ◌-◌, List, [], ◌∷◌, ◌++◌, length, Option, Some, refl, sym, ap, subst, ◌∙◌, append_assoc, arith}
use Rattle.std.proofs.Common.{inl, inr}
use Rattle.std.proofs.lemmas.List.{append-nil, length-append}
use Rattle.coset.specs.Item.{Item, Items, no_items, item, items_count}
use Rattle.coset.specs.Grammar.{AreEncodings, IsEncoding, IsHead}
use Rattle.coset.specs.Head.{Head}
use Rattle.coset.specs.Heads.{major_type_number}
use Rattle.coset.specs.MajorType.{MajorType}
use Rattle.coset.specs.MajorType.TheVariants.{Tag, Bytes}
use Rattle.coset.specs.ReadHeads.{BeginsWithHead, IsHeadOf, head_number, initial_byte, width_of}
use Rattle.tool_fault.specs.Steps.{Announces, Encloses, Holds, Opening, Opens, BeginsWithItems, Splits}

-- The items, and one more after them.
abbrev and_item : Items → Item → Items
and_item no_items v = item v no_items
and_item (item w ws) v = item w (and_item ws v)

and_item_count : (vs : Items) (v : Item) → items_count (and_item vs v) ≡ suc (items_count vs)
and_item_count no_items v = refl
and_item_count (item w ws) v = ap suc (and_item_count ws v)

and_item_encodings : (vs : Items) (v : Item) (c p : List ℕ) → AreEncodings vs c → IsEncoding v p → AreEncodings (and_item vs v) (c ++ p)
and_item_encodings no_items v c p are is = (p, [], is, refl, ap (λ (x : List ℕ). x ++ p) are ∙ sym (append-nil p))
and_item_encodings (item w ws) v c p (a, d, first, are, parts) is =
    (a, d ++ p, first, and_item_encodings ws v d p are is, ap (λ (x : List ℕ). x ++ p) parts ∙ append_assoc a d p)

pub passes_none : (b : List ℕ) → BeginsWithItems b 0 b
passes_none b = record { items = no_items; encodings = []; are = refl; number = refl; parts = refl }

pub passes_one : (b : List ℕ) (n : ℕ) (r p s : List ℕ) (v : Item) → BeginsWithItems b n r → IsEncoding v p → r ≡ p ++ s → BeginsWithItems b (n + 1) s
passes_one b n r p s v before is parts = record {
  items = and_item before.items v;
  encodings = before.encodings ++ p;
  are = and_item_encodings before.items v before.encodings p before.are is;
  number = omega (arith, and_item_count before.items v, before.number);
  parts = before.parts ∙ ap (λ (x : List ℕ). before.encodings ++ x) parts ∙ sym (append_assoc before.encodings p s);
}

-- ---- where steps lead

-- A head with this argument.
pub is_headed :
    (b : List ℕ) (h : Head) (rest : List ℕ) (n : ℕ) (w : BeginsWithHead b h rest) → head_number h ≡ Some n
    → IsHead (major_type_number h.major_type) n (initial_byte h ∷ w.argument)
is_headed b h rest n w is = subst (λ (o : Option ℕ). IsHeadOf (major_type_number h.major_type) o (initial_byte h ∷ w.argument)) is w.is_head

opening :
    (b : List ℕ) (h : Head) (rest : List ℕ) (i : ℕ) (w : BeginsWithHead b h rest) → Announces h i
    → Opening (major_type_number h.major_type) i (initial_byte h ∷ w.argument)
opening b h rest i w (inl none) = inr (subst (λ (o : Option ℕ). IsHeadOf (major_type_number h.major_type) o (initial_byte h ∷ w.argument)) none w.is_head)
opening b h rest i w (inr (n, is, more)) = inl (n, is_headed b h rest n w is, more)

pub opens :
    (b : List ℕ) (h : Head) (rest part : List ℕ) (major_type : MajorType) (i n : ℕ) → BeginsWithHead b h rest → h.major_type ≡ major_type → Announces h i
    → BeginsWithItems rest i part → n ≡ length b - length part → Splits (Opens (major_type_number major_type) i) b n part
opens b h rest part major_type i n w same announced p is =
    let head = initial_byte h ∷ w.argument in
    let parts : b ≡ (head ++ p.encodings) ++ part =
    w.parts ∙ ap (λ (s : List ℕ). head ++ s) p.parts ∙ sym (append_assoc head p.encodings part) in
    let len : length b ≡ length (head ++ p.encodings) + length part = ap length parts ∙ length-append (head ++ p.encodings) part in
    subst (λ (m : MajorType). Splits (Opens (major_type_number m) i) b n part) same (
      head ++ p.encodings,
      parts,
      omega (arith, len, is),
      record {
        head = head;
        opening = opening b h rest i w announced;
        members = p.encodings;
        passes = record { items = p.items; encodings = p.encodings; are = p.are; number = p.number; parts = sym (append-nil p.encodings) };
        parts = refl;
      },
    )

pub encloses :
    (b : List ℕ) (h : Head) (rest : List ℕ) (n size : ℕ) → BeginsWithHead b h rest → h.major_type ≡ Tag → head_number h ≡ Some n
    → size ≡ 1 + width_of h.info → Splits Encloses b size rest
encloses b h rest n size w same is len = (
  initial_byte h ∷ w.argument,
  w.parts,
  omega (arith, w.width, len),
  (n, subst (λ (m : MajorType). IsHead (major_type_number m) n (initial_byte h ∷ w.argument)) same (is_headed b h rest n w is)),
)

pub holds :
    (b : List ℕ) (h : Head) (tail s rest : List ℕ) (n size : ℕ) → BeginsWithHead b h tail → h.major_type ≡ Bytes → head_number h ≡ Some n
    → size ≡ 1 + width_of h.info → tail ≡ s ++ rest → length s ≡ n → Holds b size s
holds b h tail s rest n size w same is len parts count = (
  initial_byte h ∷ w.argument,
  rest,
  w.parts ∙ ap (λ (t : List ℕ). (initial_byte h ∷ w.argument) ++ t) parts,
  omega (arith, w.width, len),
  subst (λ (k : ℕ). IsHead 2 k (initial_byte h ∷ w.argument)) (sym count)
      (subst (λ (m : MajorType). IsHead (major_type_number m) n (initial_byte h ∷ w.argument)) same (is_headed b h tail n w is)),
)
