-- `==` of keys is equality of their views.
use Rattle.std.specs.Prelude.{◌==◌, ◌&&◌, Bool}
use Rattle.std.specs.Cmp.Lexicographic.{pointwise}
use Rattle.std.specs.Option.{option_eq}
use Rattle.std.specs.Ordering.{on}
use Rattle.std.proofs.Common.{ap}
use Rattle.std.proofs.lemmas.Bool.Decides.{Decides-like, Decides-and}
use Rattle.coset_codec.specs.EqDecides.{EqDecides, vec_decides, lists_decides, options_decides}
use Rattle.coset_label.specs.LabelData.{same_label}
use Rattle.coset_label.specs.Same.{algorithm_eq, entry_eq}
use Rattle.coset_label.specs.SameLaws.{same_label-decides, algorithm_decides, entry_decides}
use Rattle.coset_label.specs.Views.{algorithm_view, entry_view}
use Rattle.coset_key.specs.Keys.{key_view, kty_view, operation_view}
use Rattle.coset_key.specs.declared.key.CoseKey.{CoseKey}

-- Each field is the same. Lists have the same length and the same element at each index.
abbrev key_eq : CoseKey → CoseKey → Bool
key_eq k l =
    on kty_view same_label k.kty l.kty
    && (pointwise ◌==◌ k.key_id.items l.key_id.items
    && (option_eq (on algorithm_view algorithm_eq) k.alg l.alg
    && (pointwise (on operation_view same_label) k.key_ops.keys l.key_ops.keys
    && (pointwise ◌==◌ k.base_iv.items l.base_iv.items && pointwise (on entry_view entry_eq) k.params.items l.params.items))))

pub key_decides : EqDecides key_view key_eq
key_decides k l =
    Decides-like (key_eq k l)
    (λ e i. record { kty = e.0 i; key_id = e.1.0 i; alg = e.1.1.0 i; key_ops = e.1.1.1.0 i; base_iv = e.1.1.1.1.0 i; params = e.1.1.1.1.1 i })
    (λ e. (ap (λ x. x.kty) e, (ap (λ x. x.key_id) e, (ap (λ x. x.alg) e, (ap (λ x. x.key_ops) e, (ap (λ x. x.base_iv) e, ap (λ x. x.params) e))))))
    (Decides-and _ _ (same_label-decides (kty_view k.kty) (kty_view l.kty))
    (Decides-and _ _ (vec_decides k.key_id l.key_id)
    (Decides-and _ _ (options_decides algorithm_view _ algorithm_decides k.alg l.alg)
    (Decides-and _ _ (lists_decides operation_view _ (λ x y. same_label-decides (operation_view x) (operation_view y)) k.key_ops.keys l.key_ops.keys)
    (Decides-and _ _ (vec_decides k.base_iv l.base_iv) (lists_decides entry_view _ entry_decides k.params.items l.params.items))))))
