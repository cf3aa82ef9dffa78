use Rattle.std.proofs.Common.{length}
use Rattle.tool_notation.specs.Encoding.{IsHead, IsString, type_of}
use Rattle.tool_notation.specs.Encoding as encoding
use Rattle.tool_notation.proofs.Steps.{adds_content}
use Rattle.tool_notation.proofs.string.push_string.Goals as goal

pub returns : goal.returns
returns c =
    adds_content (IsHead (type_of c.args.major) (length c.args.content.now)) (IsString (type_of c.args.major)) c.args.out.now.items
    c.push_fitting.new.out.items c.extend_from_slice.new.self.items c.args.content.now
    (λ a h. encoding.definite a c.args.content.now h c.requires) c.in_ok-push_fitting.ensures c.in_ok-extend_from_slice.ensures.items
