use Rattle.std.proofs.Common.{ℕ, sym, subst}
use Rattle.std.proofs.lemmas.Result.{on_ok_weaker}
use Rattle.tool_notation.specs.Encoding.{AreItems, IsHead, type_of, open_content}
use Rattle.tool_notation.proofs.Steps.{adds_content, adds_open, in_list, in_open_list}
use Rattle.tool_notation.proofs.list.push_list.Goals as goal

pub returns-in_ok-extend_from_slice-in-Definite : goal.returns-in_ok-extend_from_slice-in-Definite
returns-in_ok-extend_from_slice-in-Definite c =
    adds_content (IsHead (type_of c.major.result) c.args.count) (AreItems 1) c.args.out.now.items c.push_fitting.new.out.items
    c.extend_from_slice.new.self.items c.args.content.now
    (λ a h. in_list c.args.list c.args.count a c.args.content.now c.requires.head (subst (λ (m : ℕ). IsHead m c.args.count a) c.major.ensures h)
    c.requires.items)
    c.in_ok-push_fitting-in-Definite.ensures c.in_ok-extend_from_slice-in-Definite.ensures.items

pub returns-in_ok-extend_from_slice-in-Indefinite : goal.returns-in_ok-extend_from_slice-in-Indefinite
returns-in_ok-extend_from_slice-in-Indefinite c =
    on_ok_weaker c.push_break.result
    (λ e. adds_open (AreItems 1) c.args.out.now.items c.push_open.new.out.items c.extend_from_slice-in-Indefinite.new.self.items
    c.push_break.new.out.items c.args.content.now (type_of c.major-in-Indefinite.result) c.in_ok-push_open-in-Indefinite.ensures
    c.in_ok-extend_from_slice-in-Indefinite.ensures.items e
    (subst (λ (m : ℕ). AreItems 1 (open_content m c.args.content.now)) (sym c.major-in-Indefinite.ensures)
    (in_open_list c.args.list c.args.count c.args.content.now c.requires.head c.requires.items)))
    c.push_break.ensures
