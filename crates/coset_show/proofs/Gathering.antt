-- The bytes of several reads.
use Rattle.std.proofs.Common.{◌≡◌, ℕ, List, [], ◌++◌, take, Some, None, IfSome, sym, ap, ◌∙◌, append-nil}
use Rattle.std.specs.Prelude.{Option}
use Rattle.std.specs.Io.KnownBytes.{Consumes, IsAtEnd}

-- A reader at its end has returned all of its bytes.
pub gave_all : (a b e : Option (List ℕ)) (input buffer : List ℕ) (n : ℕ) → n ≡ 0 → Consumes a b input → Consumes b e (take n buffer) → IsAtEnd e
    → IfSome a (λ xs. input ≡ xs)
gave_all None b e input buffer n zero p q ends = tt
gave_all (Some x) None e input buffer n zero p q ends = absurd p
gave_all (Some x) (Some y) None input buffer n zero p q ends = absurd q
gave_all (Some x) (Some y) (Some z) input buffer n zero p q ends =
    let nothing : y ≡ [] = q ∙ ap (λ m. take m buffer ++ z) zero ∙ ends in
    sym (p ∙ ap (λ l. input ++ l) nothing ∙ append-nil input)
