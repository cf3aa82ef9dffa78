use Rattle.std.proofs.Common.{◌≡◌, ◌∙◌, ◌++◌, ◌∷◌, [], List, ℕ, ap, length, sym}
use Rattle.std.proofs.lemmas.List.{append-nil, append_assoc}
use Rattle.coset.specs.Item.{bytes, item, no_items}
use Rattle.coset_cbor.specs.Least.{least_head}
use Rattle.coset_core.proofs.Structures.{whole_written}
use Rattle.ffi_query.proofs.borrowed.front_of.Goals as goal

pub returns-clause-front : goal.returns-clause-front
returns-clause-front c =
    let p = c.args.protected.now in
    let aad = c.args.external_aad.now in
    let s = c.args.content.now in
    let b = c.in_ok-front.front.items in
    let head : List ℕ = least_head 2 (length s) in
    let written : c.put_bytes_head.new.out.items ++ s ≡ b ++ ((head ++ s) ++ []) =
    ap (λ x. x ++ s) c.in_ok-put_bytes_head.ensures.ok ∙ (append_assoc b head s ∙ ap (λ x. b ++ x) (sym (append-nil (head ++ s)))) in
    whole_written c.least_encoding_is_shortest.ensures c.args.context.now (p ∷ aad ∷ []) (item (bytes s) no_items) b (c.put_bytes_head.new.out.items ++ s)
    c.in_ok-front.ensures.begins (c.in_ok-put_bytes_head.ensures.small, tt) written
