-- Bytes that are one item, or none.
use Rattle.std.specs.Prelude.{IsErrAnd}
use Rattle.std.proofs.Common.{◌≡◌, ◌⊎◌, ℕ, List, [], ◌∷◌, ◌++◌, ◌+◌, suc, Some, Result, Ok, Err, length, take, refl, sym, ap, subst, ◌∙◌}
use Rattle.std.proofs.Common.{inr, append-nil, arith}
use Rattle.std.proofs.Common.{length-append}
use Rattle.std.proofs.Math.Seq.{take-append_seam}
use Rattle.coset_value.specs.Item.{Item}
use Rattle.coset_value.specs.Parts.{as_tag}
use Rattle.coset_cbor.specs.Grammar.{IsEncoding, IsItem}
use Rattle.coset_cbor.specs.ReadErrors.{IsMemory, FaultIn}
use Rattle.coset_cbor.specs.declared.de.EndOfFile.{EndOfFile}
use Rattle.coset_cbor.specs.declared.de.Error.{Error}
use Rattle.coset_cbor.specs.declared.de.Error.TheVariants as errors
use Rattle.coset_codec.specs.declared.error.CoseError.{CoseError}
use Rattle.coset_codec.specs.declared.error.CoseError.TheVariants.{ExtraneousData}
use Rattle.coset_codec.specs.Errors.{decode_failure}
use Rattle.coset_codec.specs.Results.{IsByteFault, IsExtraneous, IsNoItem, IsOnlyItem, Reads, ReadsSlice, ReadsWhole}
use Rattle.coset_codec.specs.Shape.{Shape, tagged}

-- The result is an error with the property W.
pub on_err : {T : Type 0} (it : T → Item) (s : List ℕ) (r : Result T CoseError) (W : CoseError → Type 0) → IsErrAnd r W
    → ((e : CoseError) → W e → (IsByteFault s e ⊎ IsExtraneous s e) × IsNoItem s) → ReadsWhole it s r
on_err it s (Ok x) W h f = absurd h
on_err it s (Err e) W h f = λ _. f e h

pub no_whole : (s : List ℕ) → ((v : Item) (b rest : List ℕ) → s ≡ b ++ rest → IsItem b v → ⊥) → IsNoItem s
no_whole s none v is = none v s [] (sym (append-nil s)) is

-- A fault of the bytes, as the error of a failed decoding.
pub byte_fault : (s : List ℕ) (e : Error EndOfFile) → (IsMemory e → ⊥) → FaultIn s e → IsByteFault s (decode_failure e)
byte_fault s (errors.Io x) n h = (errors.Io (record {}), refl, n, h)
byte_fault s (errors.Syntax i) n h = (errors.Syntax i, refl, n, h)
byte_fault s (errors.Semantic i t) n h = (errors.Semantic i t, refl, n, h)
byte_fault s errors.RecursionLimitExceeded n h = (errors.RecursionLimitExceeded, refl, n, h)
byte_fault s errors.OutOfMemory n h = absurd (n tt)

-- Bytes encode at most one item, and no encoding is a proper prefix of another.
abbrev pub OneItem : Type 0
OneItem = (v w : Item) (b c x y : List ℕ) → IsEncoding v b → IsEncoding w c → b ++ x ≡ c ++ y → (v ≡ w) × (b ≡ c)

pub extraneous : OneItem → (s b rest : List ℕ) (v : Item) → (length rest ≡ 0 → ⊥) → s ≡ b ++ rest → IsItem b v
    → (IsByteFault s ExtraneousData ⊎ IsExtraneous s ExtraneousData) × IsNoItem s
extraneous one s b [] v t e is = absurd (t refl)
extraneous one s b (x ∷ rest) v t e is =
    let more : length s ≡ length b + suc (length rest) = ap length e ∙ length-append b (x ∷ rest) in
    let front : take (length b) s ≡ b = ap (take (length b)) e ∙ take-append_seam b (x ∷ rest) in (
      inr (refl, length b, v, omega (arith, more), subst (λ c. IsItem c v) (sym front) is),
      λ w h.
          let same : s ≡ b = (one w v s b [] (x ∷ rest) h.0 is.0 (append-nil s ∙ e)).1 in
          let as_long : length s ≡ length b = ap length same in
          absurd (omega (arith, more, as_long)),
    )

pub only_item : OneItem → (s b rest : List ℕ) (v : Item) → length rest ≡ 0 → s ≡ b ++ rest → IsItem b v → IsOnlyItem s v
only_item one s b (x ∷ rest) v t e is = absurd (omega (arith, t))
only_item one s b [] v t e is =
    let same : s ≡ b = e ∙ append-nil b in
    let whole : IsItem s v = subst (λ c. IsItem c v) (sym same) is in
    (whole, λ w h. (one w v s s [] [] h.0 whole.0 refl).0)

-- Bytes are at most one item.
pub one_of : OneItem → (s : List ℕ) (v w : Item) → IsItem s v → IsItem s w → v ≡ w
one_of one s v w p q = (one v w s s [] [] p.0 q.0 refl).0

-- Bytes that are a tag of that number are read like the enclosed item.
pub tagged_read :
    {T A : Type 0} (shape : Shape A) (view : T → A) (n : ℕ) (s : List ℕ) (v w : Item) (r : Result T CoseError) → IsItem s v → as_tag v ≡ Some (n, w)
    → Reads shape view w r → ReadsSlice (tagged n shape) view s r
tagged_read shape view n s v w (Ok x) is tag d = (v, is, (w, tag, d))
tagged_read shape view n s v w (Err e) is tag d = λ m. inr (inr (v, is, inr (n, w, tag, inr (refl, d m))))
