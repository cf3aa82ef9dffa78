-- The reason why bytes aren't of a kind, as the library's decoder gives it.
use Rattle.std.specs.Prelude.{◌≡◌, true, false, ℕ, List, ◌++◌, Option, Some, None}
use Rattle.coset.specs.Results.{Describes, SliceFaults, DescribesNothing}
use Rattle.coset.specs.Claims.{claims}
use Rattle.coset.specs.Context.{context}
use Rattle.coset.specs.CoseError.{CoseError}
use Rattle.coset.specs.Encrypt.{encrypt}
use Rattle.coset.specs.Encrypt0.{encrypt0}
use Rattle.coset.specs.Errors.{UnlessMemory}
use Rattle.coset.specs.Headers.{signature}
use Rattle.coset.specs.Keys.{key, key_set}
use Rattle.coset.specs.Mac.{mac}
use Rattle.coset.specs.Mac0.{mac0}
use Rattle.coset.specs.Shape.{Shape, any}
use Rattle.coset.specs.Sign.{sign}
use Rattle.coset.specs.Sign1.{sign1}
use Rattle.coset.specs.PerhapsTagged.{perhaps_tagged}
use Rattle.tool_explain.specs.Kind.{is_by_tag}
use Rattle.tool_explain.specs.declared.kind.Kind.{Kind}
use Rattle.tool_explain.specs.declared.kind.Kind.TheVariants as kinds

-- The result of decoding bytes by a shape. `None` says that the bytes describe a value of the shape. An error names a
-- fault in bytes that describe no value, or is `OutOfMemory`.
abbrev pub Judges : {A : Type 0} → Shape A → List ℕ → Option CoseError → Type 0
Judges {A} shape bytes None = (x : A) × Describes shape bytes x
Judges shape bytes (Some error) = UnlessMemory error (λ e. SliceFaults shape bytes e × DescribesNothing shape bytes)

-- The result for a kind by name, without a look at the tag: `Auto` and `Cwt` are any item. Messages are plain or under
-- their tag (RFC 8152, section 2).
abbrev pub JudgesNamed : Kind → List ℕ → Option CoseError → Type 0
JudgesNamed kinds.Sign1 = Judges (perhaps_tagged 18 sign1)
JudgesNamed kinds.Sign = Judges (perhaps_tagged 98 sign)
JudgesNamed kinds.Mac = Judges (perhaps_tagged 97 mac)
JudgesNamed kinds.Mac0 = Judges (perhaps_tagged 17 mac0)
JudgesNamed kinds.Encrypt = Judges (perhaps_tagged 96 encrypt)
JudgesNamed kinds.Encrypt0 = Judges (perhaps_tagged 16 encrypt0)
JudgesNamed kinds.Countersignature = Judges (perhaps_tagged 19 signature)
JudgesNamed kinds.Key = Judges key
JudgesNamed kinds.Keyset = Judges key_set
JudgesNamed kinds.Claims = Judges claims
JudgesNamed kinds.Kdf = Judges context
JudgesNamed kinds.Auto = Judges any
JudgesNamed kinds.Cwt = Judges any
JudgesNamed kinds.Value = Judges any

-- The result for some kind, over the bytes or a suffix of them.
pub record JudgesSome (bytes : List ℕ) (error : Option CoseError) : Type 0 where
  pub kind : Kind
  pub front : List ℕ
  pub rest : List ℕ
  pub parts : bytes ≡ front ++ rest
  pub judged : JudgesNamed kind rest error

-- The result for any kind. If the tag chooses the type, this doesn't say which type it is.
pub record JudgesAs (kind : Kind) (bytes : List ℕ) (error : Option CoseError) : Type 0 where
  pub by_tag : is_by_tag kind ≡ true → JudgesSome bytes error
  pub named : is_by_tag kind ≡ false → JudgesNamed kind bytes error
