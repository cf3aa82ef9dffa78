-- Adding one more kind to those that fit.
use Rattle.std.proofs.Common.{◌≡◌, ◌<◌, ℕ, suc, zero, List, [], ◌∷◌, ◌++◌, arith, length, subst, sym, Option, None}
use Rattle.std.specs.List.{All}
use Rattle.std.proofs.lemmas.List.Elements.{All-append}
use Rattle.coset.specs.CoseError.{CoseError}
use Rattle.tool_explain.specs.Refusal.{JudgesAs}
use Rattle.tool_explain.specs.declared.kind.Kind.{Kind}

all_of_one : (P : Kind → Type 0) (kind : Kind) → P kind → All P (kind ∷ [])
all_of_one P kind h zero d less = h
all_of_one P kind h (suc k) d less = let below : suc k < 1 = less in absurd (omega (arith, below))

pub one_more : (P : Kind → Type 0) (kinds items : List Kind) (kind : Kind) → items ≡ kinds ++ (kind ∷ []) → All P kinds → P kind → All P items
one_more P kinds items kind is all h =
    subst (λ (xs : List Kind). All P xs) (sym is) (All-append P kinds (kind ∷ []) all (all_of_one P kind h))

pub judged : (kind : Kind) (bytes : List ℕ) (r : Option CoseError) → JudgesAs kind bytes r → r ≡ None → JudgesAs kind bytes None
judged kind bytes r h is = subst (λ (o : Option CoseError). JudgesAs kind bytes o) is h
