use Rattle.std.specs.List.{All}
use Rattle.tool_seals.specs.Seals.{IsPart}
use Rattle.tool_seals.specs.declared.message.Message.TheVariants.{Sign}
use Rattle.tool_seals.proofs.own.signers.Given as goal

-- Each seal so far is a signature of the message.
abbrev pub invariant-loop-index : goal.invariant-loop-index
invariant-loop-index l = All (IsPart l.asked.layer (Sign l.message) l.asked.external_aad.now) l.list.items
