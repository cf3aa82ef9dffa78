use Rattle.std.proofs.lemmas.Result.{on_ok_weaker}
use Rattle.tool_notation.specs.Encoding.{AreItems, IsString, type_of}
use Rattle.tool_notation.specs.Encoding as encoding
use Rattle.tool_notation.proofs.Steps.{adds_weaker, empty_string}
use Rattle.tool_notation.proofs.string.string.Goals as goal

pub returns-in-Some : goal.returns-in-Some
returns-in-Some c =
    empty_string (type_of c.args.major) c.args.out.now.items c.push_open.new.out.items c.push_break.new.out.items c.requires c.in_ok-push_open.ensures
    c.in_ok-push_break.ensures

pub returns : goal.returns
returns c =
    on_ok_weaker c.definite.result
    (λ h. adds_weaker (IsString (type_of c.args.major)) (AreItems 1) c.args.out.now.items c.definite.new.out.items
    (λ a i. encoding.string (type_of c.args.major) a c.requires.0 c.requires.1 i) h)
    c.definite.ensures
