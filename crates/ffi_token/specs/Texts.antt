-- Texts of a caller, which may not be UTF-8.
use Rattle.std.specs.Prelude.{ℕ, List, map, Bool, is_some, Option, Some, None, if◌then◌else◌}
use Rattle.std.specs.List.{list_all}
use Rattle.std.specs.Str.{is_utf8}
use Rattle.ffi_token.specs.declared.text.Text.{Text}

abbrev pub texts_view : List Text → List (List ℕ)
texts_view ts = map (λ t. t.bytes.now) ts

-- The bytes, if they are UTF-8.
abbrev pub text_in : List ℕ → Option (List ℕ)
text_in b = if is_utf8 b then Some b else None

-- Each text is UTF-8.
abbrev pub are_texts : List (List ℕ) → Bool
are_texts ts = list_all (λ b. is_some (text_in b)) ts
