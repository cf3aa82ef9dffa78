-- The meaning of a status of 0.
use Rattle.std.specs.Prelude.{◌≡◌, ℕ, Bool, List, None}
use Rattle.tool_explain.specs.Refusal.{JudgesAs}
use Rattle.tool_explain.specs.declared.kind.Kind.{Kind}
use Rattle.tool_explain.specs.declared.kind.Kind.TheVariants as kinds
use Rattle.tool_view.specs.Meaning.{Means}

-- The library reads the bytes as the kind. If the kind is `Auto`, it reads them as some kind.
pub record Accepts (kind : Kind) (bytes : List ℕ) : Type 0 where
  pub read_as : Kind
  pub named : (kind ≡ kinds.Auto → ⊥) → read_as ≡ kind
  pub judged : JudgesAs read_as bytes None

-- The library reads the bytes of the input, as above.
pub record AcceptsInput (is_notation : Bool) (kind : Kind) (input : List ℕ) : Type 0 where
  pub bytes : List ℕ
  pub means : Means is_notation input bytes
  pub accepted : Accepts kind bytes
