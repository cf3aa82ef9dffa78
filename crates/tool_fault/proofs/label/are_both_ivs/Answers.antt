use Rattle.std.proofs.Common.{inl, inr}
use Rattle.tool_fault.proofs.Standing.{together, where_ok}
use Rattle.tool_fault.proofs.label.are_both_ivs.Goals as goal

pub returns-then-branch : goal.returns-then-branch
returns-then-branch c =
    where_ok c.is_number-then-branch.result c.is_number-then-branch.ensures (λ second.
    together c.args.one.now c.args.other.now (λ v w p q. inl (p, q)) (c.in_ok-is_number.ensures c.if-branch.true) second)

pub returns-then-branch-2 : goal.returns-then-branch-2
returns-then-branch-2 c =
    where_ok c.is_number-then-branch-2.result c.is_number-then-branch-2.ensures (λ second.
    together c.args.one.now c.args.other.now (λ v w p q. inr (p, q)) (c.in_ok-is_number-2.ensures c.if-branch-2.true) second)
