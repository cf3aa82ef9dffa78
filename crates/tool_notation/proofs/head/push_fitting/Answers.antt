use Rattle.std.proofs.Common.{sym, ◌∙◌}
use Rattle.std.proofs.lemmas.Result.{on_ok_weaker}
use Rattle.tool_notation.specs.Encoding.{type_of}
use Rattle.tool_notation.proofs.Heads.{fits}
use Rattle.tool_notation.proofs.head.push_fitting.Goals as goal

pub returns : goal.returns
returns c =
    on_ok_weaker c.push_head.result
    (λ e. (_, e, fits c.args.width (type_of c.args.major) c.args.argument (sym c.has_room.ensures ∙ c.if-not-has_room.false) c.ranges.argument.fits))
    c.push_head.ensures
