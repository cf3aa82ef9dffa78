-- Parts of the input.
use Rattle.std.proofs.Common.{◌≡◌, ◌∙◌, ◌++◌, ◌+◌, ◌<◌, ◌^◌, ℕ, List, length, ap, sym, arith}
use Rattle.std.proofs.lemmas.List.{append_assoc, length-append}
use Rattle.coset_seen.specs.declared.message.Part.{Part}
use Rattle.coset_seen.specs.Seen.{IsPart}

-- A part of a part is a part.
pub part_within :
    (b : List ℕ) (o i p : Part) → IsPart b o → IsPart o.bytes.now i → p.bytes.now ≡ i.bytes.now → p.at ≡ o.at + i.at → IsPart b p
part_within b o i p x y same at = record {
  before = x.before ++ y.before;
  behind = y.behind ++ x.behind;
  parts = x.parts ∙ (ap (λ z. x.before ++ (z ++ x.behind)) y.parts ∙ (moved x.before y.before i.bytes.now y.behind x.behind
      ∙ ap (λ z. (x.before ++ y.before) ++ (z ++ (y.behind ++ x.behind))) (sym same)));
  offset = let sum = length-append x.before y.before in let f = x.offset in let g = y.offset in omega (arith, at, f, g, sum);
}
  where
    moved : (a c d e f : List ℕ) → a ++ ((c ++ (d ++ e)) ++ f) ≡ (a ++ c) ++ (d ++ (e ++ f))
    moved a c d e f =
        ap (λ z. a ++ z) (append_assoc c (d ++ e) f ∙ ap (λ z. c ++ z) (append_assoc d e f)) ∙ sym (append_assoc a c (d ++ (e ++ f)))

pub offset_fits : (b : List ℕ) (o i : Part) → length b < 2 ^ 64 → IsPart b o → IsPart o.bytes.now i → o.at + i.at < 2 ^ 64
offset_fits b o i small x y =
    let whole = ap length x.parts ∙ length-append x.before (o.bytes.now ++ x.behind) in
    let rest = length-append o.bytes.now x.behind in
    let inner = ap length y.parts ∙ length-append y.before (i.bytes.now ++ y.behind) in
    let f = x.offset in
    let g = y.offset in
    omega (arith, small, whole, rest, inner, f, g)
