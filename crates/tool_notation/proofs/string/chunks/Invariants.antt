use Rattle.tool_notation.specs.Encoding.{Adds, AreChunks, type_of}
use Rattle.tool_notation.proofs.string.chunks.Given as goal

-- The chunks so far are added, after the initial byte.
abbrev pub invariant-loop : goal.invariant-loop
invariant-loop l = Adds (AreChunks (type_of l.major)) l.fn.out.items l.out.items
