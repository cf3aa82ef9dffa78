-- The layers that a caller opened.
use Rattle.std.specs.Prelude.{◌≡◌, ◌==◌, ◌&&◌, ◌+◌, ℕ, List, [], ◌∷◌, length}
use Rattle.std.specs.Prelude.{drop, take, nat_lt, Bool, true, false, is_some, Option, Some, None, if◌then◌else◌}
use Rattle.std.specs.Cmp.Lexicographic.{pointwise}
use Rattle.std.specs.Option.{option_and_then, option_map_or}
use Rattle.coset.specs.Shape.{both}
use Rattle.cwt_keys.specs.Keys.{KeysView, Name}
use Rattle.cwt_keys.specs.Sealed.{SealView}
use Rattle.cwt_keys.specs.declared.form.Form.{Form}
use Rattle.cwt_keys.specs.declared.form.Form.TheVariants.{Sign1, Mac0, Encrypt0, Sign, Mac, Encrypt}
use Rattle.ffi_token.specs.declared.layer.Waiting.{Waiting}
use Rattle.ffi_token.specs.declared.layer.Waiting.TheVariants.{Layer, OutOfMemory}
use Rattle.ffi_token.specs.declared.opened.Opened.{Opened}
use Rattle.ffi_token.specs.Texts.{text_in}
use Rattle.ffi_token.specs.Waiting.{IsLayer}

-- The number of a form in `coset.h`.
abbrev pub form_number : Form → ℕ
form_number Sign1 = 1
form_number Mac0 = 3
form_number Encrypt0 = 5
form_number Sign = 2
form_number Mac = 4
form_number Encrypt = 6

-- n bytes of b from this offset, if there are that many.
abbrev pub slice_at : List ℕ → ℕ → ℕ → Option (List ℕ)
slice_at b offset n = if nat_lt (length b) (offset + n) then None else Some (take n (drop offset b))

-- The bytes are present, and are t.
abbrev pub is_slice : Option (List ℕ) → List ℕ → Bool
is_slice None t = false
is_slice (Some s) t = pointwise ◌==◌ s t

abbrev pub is_at : List ℕ → ℕ → ℕ → List ℕ → Bool
is_at b offset n t = is_slice (slice_at b offset n) t

-- At the places that o names, b has the structure of this layer, and then its proof. o has the layer's form.
abbrev pub is_of : List ℕ → SealView → Opened → Bool
is_of b s o =
    o.form == form_number s.form
    && is_at b o.offset o.structure_len s.structure
    && is_at b (o.offset + o.structure_len) o.proof_len s.proof

-- The name that the bytes b are: no name if they are empty. The outer `None` means that they aren't UTF-8.
abbrev pub name_of : List ℕ → Option (List ℕ) → Option Name
name_of [] t = Some None
name_of (c ∷ cs) None = None
name_of (c ∷ cs) (Some t) = Some (Some t)

abbrev pub name_in : List ℕ → Option Name
name_in b = name_of b (text_in b)

-- The name of the issuer that o names, if it is in b.
abbrev pub name_at : List ℕ → Opened → Option Name
name_at b o = option_and_then name_in (slice_at b o.issuer o.issuer_len)

-- The name of the issuer is UTF-8, or isn't in b.
abbrev pub has_text : List ℕ → Opened → Bool
has_text b o = option_map_or (λ s. is_some (text_in s)) (slice_at b o.issuer o.issuer_len) true

-- The plaintext and the name of the issuer that o names, if o names this layer.
abbrev pub content_in : List ℕ → SealView → Opened → Option (List ℕ × Name)
content_in b s o = if is_of b s o then both (λ p n. (p, n)) (slice_at b o.plaintext o.plaintext_len) (name_at b o) else None

-- Those of the first entry that has them.
abbrev pub first_content : Option (List ℕ × Name) → Option (List ℕ × Name) → Option (List ℕ × Name)
first_content (Some c) rest = Some c
first_content None rest = rest

abbrev pub opened_in : List ℕ → List Opened → SealView → Option (List ℕ × Name)
opened_in b [] s = None
opened_in b (o ∷ os) s = first_content (content_in b s o) (opened_in b os s)

-- The layer isn't opened, and l has its texts and its view; or an allocation failed.
abbrev pub Waits : List ℕ → List Opened → SealView → Waiting → Type 0
Waits b os s (Layer l) = (opened_in b os s ≡ None) × IsLayer s l
Waits b os s OutOfMemory = Unit {0}

-- Keys that accept exactly the layers that the caller opened.
abbrev pub opened_view : List ℕ → List Opened → KeysView Waiting
opened_view b os = record {
  accepts = λ s n. (p : List ℕ) × (opened_in b os s ≡ Some (p, n));
  not_accepted = λ s e. Waits b os s e;
  decrypts = λ s p n. opened_in b os s ≡ Some (p, n);
  not_decrypted = λ s e. Waits b os s e;
}
