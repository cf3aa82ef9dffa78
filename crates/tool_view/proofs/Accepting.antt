-- The parts of what a status of 0 means.
use Rattle.std.proofs.Common.{◌≡◌, ℕ, List, None}
use Rattle.tool_explain.specs.Refusal.{JudgesAs}
use Rattle.tool_explain.specs.declared.kind.Kind.{Kind}
use Rattle.tool_explain.specs.declared.kind.Kind.TheVariants as kinds
use Rattle.tool_view.specs.Accepted.{Accepts}

pub accepts :
    (kind read_as : Kind) (bytes : List ℕ) → ((kind ≡ kinds.Auto → ⊥) → read_as ≡ kind) → JudgesAs read_as bytes None → Accepts kind bytes
accepts kind read_as bytes named judged = record { read_as = read_as; named = named; judged = judged }
