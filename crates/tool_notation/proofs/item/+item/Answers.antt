use Rattle.std.proofs.Common.{ℕ, ap, subst, sym, arith}
use Rattle.std.proofs.lemmas.Result.{on_ok_weaker}
use Rattle.tool_notation.specs.Encoding.{Adds, AddsLeaf, AreItems, IsString, items_in}
use Rattle.tool_notation.specs.Encoding as encoding
use Rattle.tool_notation.specs.declared.leaf.Leaf.{Leaf}
use Rattle.tool_notation.proofs.Steps.{adds_weaker, first_element, on_ok_any, one_element, tagged_item, two_items}
use Rattle.tool_notation.proofs.item.+item.Goals as goal

pub element-returns-in_ok-value-in-Map : goal.element-returns-in_ok-value-in-Map
element-returns-in_ok-value-in-Map t c =
    on_ok_weaker c.item-in-Map.result
    (λ h. subst (λ (n : ℕ). Adds (AreItems n) c.args.out.now.items c.item-in-Map.new.out.items) (sym (ap items_in c.in-Map.is))
    (two_items c.args.out.now.items c.item.new.out.items c.item-in-Map.new.out.items c.in_ok-behind.ensures h))
    c.item-in-Map.ensures

pub elements-loop-count-init : goal.elements-loop-count-init
elements-loop-count-init t c = first_element (items_in c.args.list) c.args.out.now.items

pub elements-loop-count-preserved : goal.elements-loop-count-preserved
elements-loop-count-preserved t c =
    one_element c.loop-count.count (items_in c.args.list) c.args.out.now.items c.loop-count.out.items c.element.new.out.items c.loop-count.invariant
    c.in_ok-behind-in-Element.ensures

pub embedded-returns : goal.embedded-returns
embedded-returns t c =
    on_ok_weaker c.push_string.result
    (λ h. adds_weaker (IsString 2) (AreItems 1) c.args.out.now.items c.push_string.new.out.items
    (λ a i. encoding.string 2 a (omega arith) (omega arith) i) h)
    c.push_string.ensures

pub item-returns-in_ok-behind-in-Tag : goal.item-returns-in_ok-behind-in-Tag
item-returns-in_ok-behind-in-Tag t c =
    let tag =
    subst (λ (leaf : Leaf). AddsLeaf leaf c.args.out.now.items c.leaf_or_tag.new.out.items) c.in-Tag.is c.in_ok-rest-in_default.ensures in
    on_ok_any c.behind_parenthesis.result
    (tagged_item tag.0 c.args.out.now.items c.leaf_or_tag.new.out.items c.item.new.out.items tag.1 c.in_ok-behind-in-Tag.ensures)
