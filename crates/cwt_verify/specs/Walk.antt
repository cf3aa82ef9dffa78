-- The layers of a token, from the outermost in (RFC 8392, section 7.2).
use Rattle.std.specs.Prelude.{◌≡◌, ◌⊎◌, ◌≤◌, ◌<◌, ◌++◌, ◌||◌, ℕ, List, [], ◌∷◌, length, map, option_map, Bool, true, false, Option, Some, None}
use Rattle.std.specs.Prelude.{Result, Ok, Err, Vec}
use Rattle.std.specs.Prelude.{if◌then◌else◌}
use Rattle.std.specs.Borrow.{Bor}
use Rattle.std.specs.Global.{Global}
use Rattle.coset.specs.CoseError.{CoseError}
use Rattle.coset.specs.Results.{AllocatesForItems, Describes, IsRefused}
use Rattle.cwt_keys.specs.Keys.{KeysView, Name, name_view}
use Rattle.coset.specs.Shape.{Shape}
use Rattle.cwt_verify.specs.Admission.{IsAdmitted, RefusesHeaders}
use Rattle.cwt_verify.specs.Layers.{LayerView, PartView, begins_with_tag, headers_of, layer}
use Rattle.cwt_verify.specs.Opening.{HasContent, RefusesContent, VerifiedView, seen, verified_view}
use Rattle.cwt_verify.specs.Policy.{PolicyView, authenticates}
use Rattle.cwt_verify.specs.declared.error.LayerError.{LayerError}
use Rattle.cwt_verify.specs.declared.error.LayerError.TheVariants.{Message}
use Rattle.cwt_verify.specs.declared.error.TokenError.{TokenError}
use Rattle.cwt_verify.specs.declared.error.TokenError.TheVariants.{Layer, TooDeep}
use Rattle.cwt_verify.specs.declared.layer.OpenedLayer.{OpenedLayer}
use Rattle.cwt_verify.specs.declared.layer.VerifiedLayer.{VerifiedLayer}
use Rattle.cwt_verify.specs.declared.layers.Opened.{Opened}

-- The greatest number of layers.
abbrev pub MAX_LAYERS : ℕ
MAX_LAYERS = 4

-- ---- one layer

-- The shape of a layer that the policy names, the outermost or another one.
abbrev pub layer_by : PolicyView → Bool → Shape LayerView
layer_by p outermost = layer p.accept_lists p.untagged_form outermost

-- The bytes `q` are a layer, the outermost or another one, and `R` holds for it.
abbrev pub IsLayer : PolicyView → Bool → List ℕ → (LayerView → Type 0) → Type 0
IsLayer p outermost q R = (l : LayerView) × Describes (layer_by p outermost) q l × R l

-- The first reason against a layer: that against its headers. If the policy admits them, it is the reason why the layer
-- isn't opened.
abbrev pub RefusesRead : {E : Type 0} → KeysView E → PolicyView → LayerView → LayerError E → Type 0
RefusesRead k p l e = RefusesHeaders p (headers_of l) e ⊎ (IsAdmitted p (headers_of l) × RefusesContent k p l e)

-- Reading the bytes is refused. If memory ran out, they are one item.
abbrev pub RefusesBytes : {A : Type 0} → Shape A → List ℕ → CoseError → Type 0
RefusesBytes shape q e = IsRefused shape q e × AllocatesForItems {T = Unit {0}} q (Err e)

-- The first reason against the layer in the bytes `q`, or the fault if they are no layer.
abbrev pub RefusesLayer : {E : Type 0} → KeysView E → PolicyView → Bool → List ℕ → LayerError E → Type 0
RefusesLayer k p outermost q (Message e) = RefusesBytes (layer_by p outermost) q e
RefusesLayer k p outermost q e = IsLayer p outermost q (λ l. RefusesRead k p l e)

-- A layer, the part of it that a key accepted, and the name of the key's issuer.
abbrev pub Accepted : Type 0
Accepted = LayerView × (PartView × Name)

-- The bytes `q` are the layer, the policy admits it, the keys accept it for the issuer of that name, and `c` is its
-- content.
abbrev pub IsOpened : {E : Type 0} → KeysView E → PolicyView → Bool → List ℕ → Accepted → List ℕ → Type 0
IsOpened k p outermost q x c = Describes (layer_by p outermost) q x.0 × IsAdmitted p (headers_of x.0) × HasContent k p x.0 c x.1.0 x.1.1

-- The result of opening one layer.
abbrev pub OpensOne : {E : Type 0} → KeysView E → PolicyView → Bool → List ℕ → Result OpenedLayer (LayerError E) → Type 0
OpensOne k p outermost q (Ok o) = (x : Accepted) × IsOpened k p outermost q x o.content.items × (verified_view o.verified ≡ seen x)
OpensOne k p outermost q (Err e) = RefusesLayer k p outermost q e

-- ---- nested layers

-- Returns true if no layer is around.
abbrev pub is_outside : {A : Type 0} → List A → Bool
is_outside [] = true
is_outside (x ∷ xs) = false

-- Returns true if the bytes are a layer: the outermost, or bytes that begin with a tag.
abbrev pub goes_on : Bool → List ℕ → Bool
goes_on outermost q = outermost || begins_with_tag q

-- The layers `xs`, from the outermost in, lead from the bytes `q` to `c`: each is the content of the one around it, and
-- `c` is the content of the last.
abbrev pub Leads : {E : Type 0} → KeysView E → PolicyView → Bool → List ℕ → List Accepted → List ℕ → Type 0
Leads k p outermost q [] c = c ≡ q
Leads k p outermost q (x ∷ xs) c = (r : List ℕ) × (goes_on outermost q ≡ true) × IsOpened k p outermost q x r × Leads k p false r xs c

-- Some layers of the token `b` lead to the bytes `q`, and `R` holds for both. The bytes `q` are another layer exactly if
-- `more` is true.
abbrev pub Reaches : {E : Type 0} → KeysView E → PolicyView → List ℕ → Bool → (List Accepted → List ℕ → Type 0) → Type 0
Reaches k p b more R = (xs : List Accepted) × (q : List ℕ) × Leads k p true b xs q × (goes_on (is_outside xs) q ≡ more) × R xs q

-- The name of the issuer who vouches for a layer's content: that of the layer itself if it authenticates, else that of
-- the layers around it, if there is one.
abbrev pub vouched : PolicyView → VerifiedView → Option Name → Option Name
vouched p v around = if authenticates p.authenticated_by v.form then Some v.issuer else around

-- The first one that is there, of two.
abbrev pub first_of : {A : Type 0} → Option A → Option A → Option A
first_of None o = o
first_of (Some x) o = Some x

-- The name of the issuer whose key accepted the innermost layer that authenticates.
abbrev pub voucher : PolicyView → List Accepted → Option Name
voucher p [] = None
voucher p (x ∷ xs) = first_of (voucher p xs) (vouched p (seen x) None)

-- `e` is the first reason against the layer at this index, counted from the outermost.
abbrev pub RefusesAt : {E : Type 0} → KeysView E → PolicyView → List ℕ → ℕ → LayerError E → Type 0
RefusesAt k p b index e = Reaches k p b true (λ xs q. (length xs ≡ index) × (index < MAX_LAYERS) × RefusesLayer k p (is_outside xs) q e)

-- Four layers are accepted, and their content is another one.
abbrev pub IsTooDeep : {E : Type 0} → KeysView E → PolicyView → List ℕ → Type 0
IsTooDeep k p b = Reaches k p b true (λ xs q. length xs ≡ MAX_LAYERS)

-- At most four layers are accepted, and their content, for which `R` holds, is no further layer.
abbrev pub Arrives : {E : Type 0} → KeysView E → PolicyView → List ℕ → (List Accepted → List ℕ → Type 0) → Type 0
Arrives k p b R = Reaches k p b false (λ xs c. (length xs ≤ MAX_LAYERS) × R xs c)

-- ---- the steps

abbrev pub verified_views : Vec VerifiedLayer Global → List VerifiedView
verified_views vs = map verified_view vs.items

abbrev pub voucher_view : Option (Option (Bor (List ℕ))) → Option Name
voucher_view o = option_map name_view o

-- The result of opening the layer in the bytes `q`, which is inside these layers, of which this issuer vouches for `q`.
abbrev pub OpensNext : {E : Type 0} → KeysView E → PolicyView → List VerifiedView → Option Name → List ℕ → Result Opened (TokenError E) → Type 0
OpensNext k p vs name q (Ok o) =
    (x : Accepted)
    × IsOpened k p (is_outside vs) q x o.content.items
    × (verified_views o.layers ≡ vs ++ seen x ∷ [])
    × (voucher_view o.voucher ≡ vouched p (seen x) name)
OpensNext k p vs name q (Err (Layer index e)) = (index ≡ length vs) × RefusesLayer k p (is_outside vs) q e
OpensNext k p vs name q (Err e) = ⊥

-- The result of opening all layers: the content of the innermost one, who vouches for it, and the layers.
abbrev pub OpensAll : {E : Type 0} → KeysView E → PolicyView → List ℕ → Result Opened (TokenError E) → Type 0
OpensAll k p b (Ok o) =
    Arrives k p b (λ xs c. (c ≡ o.content.items) × (verified_views o.layers ≡ map seen xs) × (voucher_view o.voucher ≡ voucher p xs))
OpensAll k p b (Err (Layer index e)) = RefusesAt k p b index e
OpensAll k p b (Err TooDeep) = IsTooDeep k p b
OpensAll k p b (Err e) = ⊥
