-- Structures over payloads that may be detached.
use Rattle.std.proofs.Common.{◌≡◌, ℕ, List, Option, Some, None, Result, Ok, Err, refl, sym, ap, subst, ◌∙◌}
use Rattle.std.specs.Prelude.{IfOk, IfSome, option_map}
use Rattle.coset.specs.Results.{Describes, Writes}
use Rattle.coset.specs.CoseError.{CoseError}
use Rattle.coset.specs.Item.{Item}
use Rattle.coset.specs.Presence.{WritesIfPresent}
use Rattle.coset.specs.Shape.{Shape}
use Rattle.coset.specs.Shortest.{IsShortest}
use Rattle.coset.specs.Signed.{or_empty}
use Rattle.tool_explain.specs.Kind.{Names}
use Rattle.tool_explain.specs.Structure.{IsOver, IsStructure, IsStructureOfNamed, over_payload}
use Rattle.tool_explain.specs.declared.kind.Kind.{Kind}

-- The structure over a payload that is present. A missing payload would count as empty.
pub over_present : (structure : List ℕ → Option Item) (payload : Option (List ℕ)) (v : Item) → (payload ≡ None → ⊥) → structure (or_empty payload) ≡ Some v
    → over_payload structure payload ≡ Some v
over_present structure (Some p) v some e = e
over_present structure None v some e = absurd (some refl)

-- If an option is not `None`, its image is not `None` either.
pub is_there : {T : Type 0} (f : T → List ℕ) (o : Option T) (x : T) → o ≡ Some x → option_map f o ≡ None → ⊥
is_there f o x is none = differ (sym (ap (option_map f) is) ∙ none)
  where
    differ : ◌≡◌ {A = Option (List ℕ)} (Some (f x)) None → ⊥
    differ e = cc

-- The bytes written for a value are its structure.
pub over_any :
    {A V : Type 0} (shape : Shape A) (structure : A → Option Item) (bytes_of : V → List ℕ) (b : List ℕ) (x : A) (r : Result V CoseError)
    → Describes shape b x → Writes (structure x) bytes_of r → IfOk r (λ t. IsOver shape structure b (bytes_of t))
over_any shape structure bytes_of b x (Ok t) is w = (x, is, w.0, w.1, w.2)
over_any shape structure bytes_of b x (Err e) is w = tt

-- The bytes written for a value with a payload are its structure.
pub over_written :
    {A V : Type 0} (shape : Shape A) (structure : A → List ℕ → Option Item) (payload : A → Option (List ℕ)) (bytes_of : V → List ℕ) (b : List ℕ) (x : A)
    (r : Result (Option V) CoseError) → Describes shape b x → WritesIfPresent bytes_of (payload x) (structure x) r
    → IfOk r (λ o. IfSome o (λ t. IsOver shape (λ m. over_payload (structure m) (payload m)) b (bytes_of t)))
over_written {A} {V} shape structure payload bytes_of b x r is writes = go (payload x) r (λ t v e s. (x, is, v, e, s)) writes
  where
    go :
        (p : Option (List ℕ)) (r : Result (Option V) CoseError)
        → ((t : List ℕ) (v : Item) → over_payload (structure x) p ≡ Some v → IsShortest t v
        → IsOver shape (λ m. over_payload (structure m) (payload m)) b t) → WritesIfPresent bytes_of p (structure x) r
        → IfOk r (λ o. IfSome o (λ t. IsOver shape (λ m. over_payload (structure m) (payload m)) b (bytes_of t)))
    go None (Ok None) made w = tt
    go None (Ok (Some b)) made w = absurd cc
    go None (Err e) made w = tt
    go (Some p) (Ok None) made w = absurd w
    go (Some p) (Ok (Some b)) made w = made (bytes_of b) w.0 w.1 w.2
    go (Some p) (Err e) made w = tt

-- The structure of the kind of the tag is a structure of the kind that was given.
of_kind :
    (kind named : Kind) (aad : List ℕ) (i : ℕ) (bytes rest t : List ℕ) → Names kind bytes named rest → IsStructureOfNamed named aad i rest t
    → IsStructure kind aad i bytes t
of_kind kind named aad i bytes rest t names over = record {
  by_tag = λ _. record { kind = named; front = names.behind.0; rest = rest; parts = names.behind.1; over = over };
  named =
      λ no.
      let is = names.same no in
      subst (λ (k : Kind). IsStructureOfNamed k aad i bytes t) is.0 (subst (λ (b : List ℕ). IsStructureOfNamed named aad i b t) is.1 over);
}

pub found_of_kind :
    {V : Type 0} (bytes_of : V → List ℕ) (kind named : Kind) (aad : List ℕ) (i : ℕ) (bytes rest : List ℕ) (o : Option V) → Names kind bytes named rest
    → IfSome o (λ b. IsStructureOfNamed named aad i rest (bytes_of b)) → IfSome o (λ b. IsStructure kind aad i bytes (bytes_of b))
found_of_kind bytes_of kind named aad i bytes rest None names over = tt
found_of_kind bytes_of kind named aad i bytes rest (Some b) names over = of_kind kind named aad i bytes rest (bytes_of b) names over
