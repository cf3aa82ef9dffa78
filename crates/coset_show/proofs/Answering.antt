-- From a refusal to the output and the exit status.
use Rattle.std.proofs.Common.{◌≡◌, ℕ, List, Some, None, IfSome, refl, sym, ap, ◌∙◌, subst, inl, inr, cond, eqb}
use Rattle.std.specs.Prelude.{Option, sum}
use Rattle.std.specs.Io.KnownBytes.{Appends}
use Rattle.coset_show.specs.declared.kind.Kind.{Kind}
use Rattle.coset_show.specs.declared.kind.Kind.TheVariants.{Value, Sign1, Sign, Mac, Mac0, Encrypt, Encrypt0, Countersignature, Key, Keyset, Claims, Kdf}
use Rattle.coset_show.specs.declared.refusal.Refusal.{Refusal}
use Rattle.coset_show.specs.Refusal.{no_memory}
use Rattle.coset_show.specs.Kind.{kind_name}
use Rattle.coset_show.specs.Answer.{RefusesInput, AnswersInput, refusal_line}

-- This kind if the name is its own, else the other kind. The sums of names tell kinds apart.
abbrev this_or : List ℕ → Kind → Kind → Kind
this_or name k other = cond (eqb (sum name) (sum (kind_name k))) k other

abbrev named : List ℕ → Kind
named name =
    this_or name Value (this_or name Sign1 (this_or name Sign (this_or name Mac (this_or name Mac0 (this_or name Encrypt (this_or name Encrypt0
    (this_or name Countersignature (this_or name Key (this_or name Keyset (this_or name Claims Kdf))))))))))

named_again : (k : Kind) → named (kind_name k) ≡ k
named_again Value = refl
named_again Sign1 = refl
named_again Sign = refl
named_again Mac = refl
named_again Mac0 = refl
named_again Encrypt = refl
named_again Encrypt0 = refl
named_again Countersignature = refl
named_again Key = refl
named_again Keyset = refl
named_again Claims = refl
named_again Kdf = refl

-- Kinds with one name are equal.
pub kind_of_name : (k j : Kind) → kind_name k ≡ kind_name j → k ≡ j
kind_of_name k j e = sym (named_again k) ∙ ap named e ∙ named_again j

-- The line of a true refusal is right for the input.
pub refusal_answers : (known before after : Option (List ℕ)) (k j : Kind) (refusal : Refusal) (lines : List ℕ) (status : ℕ) → k ≡ j
    → lines ≡ refusal_line refusal → Appends before after lines × (status ≡ 1)
    → IfSome known (λ input. RefusesInput j input refusal) → IfSome known (λ input. (x : List ℕ) × Appends before after x × AnswersInput k input x status)
refusal_answers None before after k j refusal lines status same is put refused = tt
refusal_answers (Some input) before after k j refusal lines status same is put refused =
    (lines, put.0, inr (refusal, subst (λ i. RefusesInput i input refusal) (sym same) refused, is, put.1))

-- `OutOfMemory` refuses any input.
pub memory_refuses : (known : Option (List ℕ)) (k : Kind) → IfSome known (λ input. RefusesInput k input no_memory)
memory_refuses None k = tt
memory_refuses (Some input) k = inl refl
