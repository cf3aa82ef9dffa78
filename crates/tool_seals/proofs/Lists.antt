-- Lists of seals.
use Rattle.std.proofs.Common.{◌≡◌, ◌<◌, ◌≤◌, ◌+◌, ℕ, suc, zero, List, [], ◌∷◌, ◌++◌, arith, subst, sym, true, take, Option, Some}
use Rattle.std.specs.Prelude.{IfSome}
use Rattle.std.specs.List.{All, slice_index_or}
use Rattle.std.proofs.lemmas.List.Elements.{All-append, All-take}
use Rattle.tool_seals.specs.Seals.{IsCountersignature, IsPart, IsPartOf, is_countersignature}
use Rattle.tool_seals.specs.declared.message.Message.{Message}
use Rattle.tool_seals.specs.declared.seal.Part.{Part}
use Rattle.tool_seals.specs.declared.seal.Part.TheVariants as part
use Rattle.tool_seals.specs.declared.seal.Seal.{Seal}

-- ---- any property

pub all_of_one : (P : Seal → Type 0) (s : Seal) → P s → All P (s ∷ [])
all_of_one P s h zero d less = h
all_of_one P s h (suc k) d less = let below : suc k < 1 = less in absurd (omega (arith, below))

pub one_more : (P : Seal → Type 0) (old new : List Seal) (s : Seal) → new ≡ old ++ (s ∷ []) → All P old → P s → All P new
one_more P old new s is all h = subst (λ (xs : List Seal). All P xs) (sym is) (All-append P old (s ∷ []) all (all_of_one P s h))

pub all_weaker : (P Q : Seal → Type 0) (xs : List Seal) → ((s : Seal) → P s → Q s) → All P xs → All Q xs
all_weaker P Q xs weaker all k d less = weaker (slice_index_or xs k d) (all k d less)

pub all_joined : (P : Seal → Type 0) (xs ys new : List Seal) → new ≡ xs ++ ys → All P xs → All P ys → All P new
all_joined P xs ys new is h g = subst (λ (zs : List Seal). All P zs) (sym is) (All-append P xs ys h g)

-- ---- parts of a message

countersignature_is_part : (p : Part) (m : Message) (aad : List ℕ) (s : Seal) → is_countersignature p ≡ true → IsPartOf p m aad s
countersignature_is_part (part.Countersignature i) m aad s h = tt
countersignature_is_part (part.CountersignatureV2 i) m aad s h = tt
countersignature_is_part part.AbbreviatedV2 m aad s h = tt
countersignature_is_part part.Ciphertext m aad s h = tt
countersignature_is_part part.Signature m aad s h = absurd cc
countersignature_is_part part.Tag m aad s h = absurd cc
countersignature_is_part (part.Signer i) m aad s h = absurd cc

pub countersignatures_are_parts :
    (layer : ℕ) (m : Message) (aad : List ℕ) (xs : List Seal) → All (IsCountersignature layer) xs → All (IsPart layer m aad) xs
countersignatures_are_parts layer m aad xs all =
    all_weaker (IsCountersignature layer) (IsPart layer m aad) xs (λ s h. (h.0, countersignature_is_part s.part m aad s h.1)) all

-- The first seals of the outermost message and of inner ones: those of layer 0 are parts of the outermost message.
pub outermost_parts :
    (m : Message) (aad : List ℕ) (n : ℕ) (xs inner all : List Seal) → all ≡ xs ++ inner → All (IsPart 0 m aad) xs → All (λ s. 1 ≤ s.layer) inner
    → All (λ s. s.layer ≡ 0 → IsPart 0 m aad s) (take n all)
outermost_parts m aad n xs inner all is own deeper =
    All-take (λ s. s.layer ≡ 0 → IsPart 0 m aad s) n all
    (all_joined (λ s. s.layer ≡ 0 → IsPart 0 m aad s) xs inner all is
    (all_weaker (IsPart 0 m aad) (λ s. s.layer ≡ 0 → IsPart 0 m aad s) xs (λ s h outer. h) own)
    (all_weaker (λ s. 1 ≤ s.layer) (λ s. s.layer ≡ 0 → IsPart 0 m aad s) inner (λ s h outer. let below : 1 ≤ s.layer = h in
    let none : s.layer ≡ 0 = outer in absurd (omega (arith, below, none))) deeper))

-- ---- options

pub found : (P : Seal → Type 0) (o : Option Seal) (s : Seal) → IfSome o P → o ≡ Some s → P s
found P o s h is = subst (λ (x : Option Seal). IfSome x P) is h

-- Seals of a layer inside the outermost one.
pub deeper : (outer : ℕ) (m : Message) (aad : List ℕ) (xs : List Seal) → All (IsPart (outer + 1) m aad) xs → All (λ s. 1 ≤ s.layer) xs
deeper outer m aad xs all =
    all_weaker (IsPart (outer + 1) m aad) (λ s. 1 ≤ s.layer) xs (λ s h. let is : s.layer ≡ outer + 1 = h.0 in omega (arith, is)) all
