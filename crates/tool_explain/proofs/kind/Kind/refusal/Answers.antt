use Rattle.std.proofs.Common.{List, ℕ, subst}
use Rattle.tool_explain.specs.declared.kind.Kind.{Kind}
use Rattle.tool_explain.specs.Refusal.{JudgesNamed}
use Rattle.tool_explain.proofs.kind.Kind.refusal.Goals as goal

pub returns : goal.returns
returns c =
    record {
      by_tag = λ _. record {
        kind = c.named-kind.result.0;
        front = c.named-kind.ensures.behind.0;
        rest = c.named-kind.result.1.now;
        parts = c.named-kind.ensures.behind.1;
        judged = c.refusal_of_named.ensures;
      };
      named = λ no.
          let is = c.named-kind.ensures.same no in
          subst (λ (k : Kind). JudgesNamed k c.args.bytes.now c.refusal_of_named.result) is.0
          (subst (λ (b : List ℕ). JudgesNamed c.named-kind.result.0 b c.refusal_of_named.result) is.1 c.refusal_of_named.ensures);
    }
