-- Several steps, one after another.
use Rattle.std.proofs.Common.{◌≡◌, ℕ, ◌+◌, ◌≤◌, List, [], ◌∷◌, ◌++◌, length, refl, ap, subst, arith}
use Rattle.std.proofs.lemmas.List.{length-append}
use Rattle.tool_fault.specs.Steps.{StepTo, PathTo, Splits}
use Rattle.tool_fault.specs.declared.step.Step.{Step}
use Rattle.tool_fault.specs.declared.step.Step.TheVariants.{Element, Key, Value, TagContent, ByteChunk, TextChunk, Content, After}

-- Following one more step.
pub leads_on :
    (steps : List Step) (step : Step) (b s t : List ℕ) (n k m : ℕ) → PathTo steps b n s → StepTo step s k t → m ≡ n + k → PathTo (steps ++ step ∷ []) b m t
leads_on [] step b s t n k m (none, same) goes sum =
    (k, 0, t, subst (λ (x : List ℕ). StepTo step x k t) same goes, (refl, refl), omega (arith, sum, none))
leads_on (first ∷ steps) step b s t n k m (i, j, mid, goes_first, leads, total) goes sum =
    (i, j + k, mid, goes_first, leads_on steps step mid s t j k (j + k) leads goes refl, omega (arith, sum, total))

split_within : (P : List ℕ → Type 0) (b s : List ℕ) (n : ℕ) → Splits P b n s → n + length s ≡ length b
split_within P b s n (o, parts, len, is) = omega (arith, ap length parts, length-append o s, len)

-- A step leads no farther than to the end.
goes_within : (step : Step) (b s : List ℕ) (n : ℕ) → StepTo step b n s → n + length s ≤ length b
goes_within (Element i) b s n goes = omega (arith, split_within _ b s n goes)
goes_within (Key i) b s n goes = omega (arith, split_within _ b s n goes)
goes_within (Value i) b s n goes = omega (arith, split_within _ b s n goes)
goes_within TagContent b s n goes = omega (arith, split_within _ b s n goes)
goes_within (ByteChunk i) b s n goes = omega (arith, split_within _ b s n goes)
goes_within (TextChunk i) b s n goes = omega (arith, split_within _ b s n goes)
goes_within Content b s n (o, rest, parts, len, is) = omega (arith, ap length parts, length-append o (s ++ rest), length-append s rest, len)
goes_within After b s n goes = omega (arith, split_within _ b s n goes)

-- Several steps lead no farther than to the end.
pub leads_within : (steps : List Step) (b t : List ℕ) (n : ℕ) → PathTo steps b n t → n + length t ≤ length b
leads_within [] b t n (none, same) = omega (arith, none, ap length same)
leads_within (step ∷ steps) b t n (i, j, mid, goes, leads, total) =
    omega (arith, goes_within step b mid i goes, leads_within steps mid t j leads, total)
