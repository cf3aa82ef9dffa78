-- Texts that are UTF-8, after one more text.
use Rattle.std.proofs.Common.{◌≡◌, ◌<◌, ◌+◌, ◌∙◌, ℕ, List, [], ◌∷◌, ◌++◌, Option, Some, None, ap, append-nil, filter_map, get_or, length, map, sym, take}
use Rattle.std.proofs.lemmas.List.{map-append, take_more}
use Rattle.std.proofs.lemmas.List.Elements.{filter_map-append}
use Rattle.std.specs.Borrow.{Bor}
use Rattle.std.specs.List.{cons_option}
use Rattle.ffi_token.specs.Texts.{text_in, texts_view}
use Rattle.ffi_token.specs.declared.text.Text.{Text}

-- The texts among one more.
more : (ts : List Text) (i : ℕ) (d : Text) → i < length ts
    → filter_map text_in (texts_view (take (i + 1) ts)) ≡ filter_map text_in (texts_view (take i ts)) ++ cons_option (text_in (get_or ts i d).bytes.now) []
more ts i d within =
    let view = ap texts_view (take_more ts i d within) ∙ map-append (λ (t : Text). t.bytes.now) (take i ts) (get_or ts i d ∷ []) in
    ap (filter_map text_in) view ∙ filter_map-append text_in (texts_view (take i ts)) ((get_or ts i d).bytes.now ∷ [])

-- The next one is UTF-8.
pub one_more : (ts : List Text) (i : ℕ) (d : Text) (names : List (Bor (List ℕ))) (name : Bor (List ℕ)) → i < length ts
    → Some name.now ≡ text_in (get_or ts i d).bytes.now → map (λ s. s.now) names ≡ filter_map text_in (texts_view (take i ts))
    → map (λ s. s.now) (names ++ name ∷ []) ≡ filter_map text_in (texts_view (take (i + 1) ts))
one_more ts i d names name within is before =
    map-append (λ (s : Bor (List ℕ)). s.now) names (name ∷ [])
    ∙ (ap (λ xs. xs ++ name.now ∷ []) before
    ∙ (ap (λ o. filter_map text_in (texts_view (take i ts)) ++ cons_option o []) is ∙ sym (more ts i d within)))

-- The next one isn't.
pub none_more : (ts : List Text) (i : ℕ) (d : Text) (names : List (Bor (List ℕ))) → i < length ts
    → None ≡ text_in (get_or ts i d).bytes.now → map (λ s. s.now) names ≡ filter_map text_in (texts_view (take i ts))
    → map (λ s. s.now) names ≡ filter_map text_in (texts_view (take (i + 1) ts))
none_more ts i d names within is before =
    before
    ∙ (sym (append-nil (filter_map text_in (texts_view (take i ts))))
    ∙ (ap (λ o. filter_map text_in (texts_view (take i ts)) ++ cons_option o []) is ∙ sym (more ts i d within)))
