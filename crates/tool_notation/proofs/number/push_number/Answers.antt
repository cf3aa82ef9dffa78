use Rattle.std.proofs.Common.{ℕ, arith, sym, subst, ◌∙◌}
use Rattle.std.proofs.lemmas.Result.{on_ok_weaker}
use Rattle.tool_notation.specs.Encoding.{AreItems, IsHead, IsNumber, head_in, type_of, settled}
use Rattle.tool_notation.specs.Encoding as encoding
use Rattle.tool_notation.specs.declared.head.Width.TheVariants.{Least}
use Rattle.tool_notation.proofs.Heads.{fits_least}
use Rattle.tool_notation.proofs.Steps.{adds_weaker, big}
use Rattle.tool_notation.proofs.number.push_number.Goals as goal

pub returns-in-Integer : goal.returns-in-Integer
returns-in-Integer c =
    let number = subst IsNumber c.in-Integer.is c.requires in
    on_ok_weaker c.push_fitting.result
    (λ h. adds_weaker (IsHead (type_of c.in-Integer.major) c.in-Integer.argument) (AreItems 1) c.args.out.now.items c.push_fitting.new.out.items
    (λ a i. encoding.integer (type_of c.in-Integer.major) c.in-Integer.argument a number i) h)
    c.push_fitting.ensures

pub returns-in_ok-extend_from_slice-in-Big : goal.returns-in_ok-extend_from_slice-in-Big
returns-in_ok-extend_from_slice-in-Big c =
    big c.in-Big.tag c.args.out.now.items c.push_head.new.out.items c.push_head-in-Big.new.out.items c.extend_from_slice.new.self.items _
    (head_in (settled Least c.len.result) 2 c.len.result)
    c.deref.result.now c.in_ok-push_head-in-Big.ensures c.in_ok-push_head-in-Big-2.ensures c.in_ok-extend_from_slice-in-Big.ensures.items
    (fits_least 6 c.in-Big.tag (omega arith))
    (subst (λ (n : ℕ). IsHead 2 n (head_in (settled Least c.len.result) 2 c.len.result))
    (c.len.ensures ∙ sym c.deref.ensures.len) (fits_least 2 c.len.result (omega arith)))
