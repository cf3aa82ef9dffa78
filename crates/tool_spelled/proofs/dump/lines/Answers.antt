use Rattle.std.proofs.Common.{◌∙◌, arith, sym}
use Rattle.tool_spelled.proofs.Dumps.{dump_to_end, one_blank}
use Rattle.tool_spelled.proofs.dump.lines.Goals as goal

pub loop-character-preserved-then-is_blank : goal.loop-character-preserved-then-is_blank
loop-character-preserved-then-is_blank c =
    let less = c.in-Some.ensures.cases.1 in
    let within = c.loop-character.invariant.1 in (
      one_blank c.args.radix c.unwrap_or-first.result c.args.text.now c.loop-character.left.now c.in-Some.behind.now c.loop-character.bytes.items
          c.in-Some.character.now c.in-Some.ensures.cases.0 (sym c.is_blank.ensures ∙ c.if-is_blank.true) c.loop-character.invariant.0,
      omega (arith, less, within),
    )

pub returns-clause-spelled : goal.returns-clause-spelled
returns-clause-spelled c = (
  c.unwrap_or-first.result,
  dump_to_end c.args.radix c.unwrap_or-first.result c.args.text.now c.loop-character.left.now c.loop-character.bytes.items c.in_default.ensures.cases
      c.loop-character.invariant.0,
)
