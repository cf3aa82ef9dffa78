-- The bytes of a structure determine its parts.
use Rattle.std.proofs.Common.{◌≡◌, ℕ, List, length, cond, eqb, Option, Some, None, refl, sym, ap, ◌∙◌, arith}
use Rattle.coset_cbor.specs.Shortest.{IsShortest}
use Rattle.coset_sign.specs.declared.signature.SignatureContext.{SignatureContext}
use Rattle.coset_sign.specs.declared.signature.SignatureContext.TheVariants.{CoseSignature, CoseSign1, CounterSignature}
use Rattle.coset_core.specs.Structure.{structure}
use Rattle.coset_sign.specs.SignatureStructure.{context_text, signed_parts, signature_structure}

-- ---- contexts, told apart by the lengths of their texts

abbrev context_of_length : ℕ → SignatureContext
context_of_length n = cond (eqb n 9) CoseSignature (cond (eqb n 10) CoseSign1 CounterSignature)

context_again : (c : SignatureContext) → context_of_length (length (context_text c)) ≡ c
context_again CoseSignature = refl
context_again CoseSign1 = refl
context_again CounterSignature = refl

same_context : (c d : SignatureContext) → context_text c ≡ context_text d → c ≡ d
same_context c d e = sym (context_again c) ∙ ap (λ (t : List ℕ). context_of_length (length t)) e ∙ context_again d

-- ---- the parts

same_parts : (p q : List ℕ) (s t : Option (List ℕ)) (a x l m : List ℕ) → signed_parts p s a l ≡ signed_parts q t x m → (p ≡ q) × (s ≡ t) × (a ≡ x) × (l ≡ m)
same_parts p q None None a x l m e = (cc, refl, cc, cc)
same_parts p q None (Some t) a x l m e = absurd (let n = ap length e in omega arith)
same_parts p q (Some s) None a x l m e = absurd (let n = ap length e in omega arith)
same_parts p q (Some s) (Some t) a x l m e = (cc, cc, cc, cc)

-- The bytes of a structure determine its context and its list of parts.
abbrev OneStructure : Type 0
OneStructure = (c d b : List ℕ) (p q : List (List ℕ)) → IsShortest b (structure c p) → IsShortest b (structure d q) → (c ≡ d) × (p ≡ q)

pub same_signed : OneStructure → (c d : SignatureContext) (p q : List ℕ) (s t : Option (List ℕ)) (a x l m b : List ℕ)
    → IsShortest b (signature_structure c p s a l) → IsShortest b (signature_structure d q t x m)
    → (c ≡ d) × (p ≡ q) × (s ≡ t) × (a ≡ x) × (l ≡ m)
same_signed one c d p q s t a x l m b h k =
    let both = one (context_text c) (context_text d) b (signed_parts p s a l) (signed_parts q t x m) h k in
    let parts = same_parts p q s t a x l m both.1 in
    (same_context c d both.0, parts.0, parts.1, parts.2, parts.3)
