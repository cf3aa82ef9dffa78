-- Labels that must be understood.
use Rattle.std.proofs.Common.{◌≡◌, ◌∙◌, ◌⊎◌, inl, inr, ◌+◌, ◌<◌, ◌&&◌, ◌||◌, ℕ, ℤ, List, [], ◌∷◌, length, get_or, take}
use Rattle.std.proofs.Common.{Option, Some, None, Result, Ok, Err, Bool, true, false, refl, sym, subst}
use Rattle.std.specs.Prelude.{IfOk, if◌then◌else◌}
use Rattle.std.specs.List.{list_all, list_any}
use Rattle.std.specs.Ordering.{int_eq}
use Rattle.std.proofs.lemmas.Bool.Decides.{Decides-int_eq}
use Rattle.std.proofs.lemmas.List.Folds.{list_any_more}
use Rattle.coset.specs.Item.{Item, Items, no_items, item, array, integer, bytes, float, text, boolean, null, tag, dict}
use Rattle.coset.specs.LabelData.{number}
use Rattle.coset.specs.Parts.{as_integer}
use Rattle.coset.specs.View.{value_items, value_item}
use Rattle.coset_value.specs.declared.value.Value.{Value}
use Rattle.ffi_query.specs.declared.kind.Form as forms
use Rattle.ffi_query.specs.declared.kind.Kind as kinds
use Rattle.ffi_query.specs.declared.kind.Kind.TheVariants.{Sign1, Sign, Mac0, Mac, Encrypt0, Encrypt, Signature, Recipient}
use Rattle.ffi_query.specs.declared.kind.Kind.TheVariants.{Header, Key, KeySet, Claims, Any, KdfContext}
use Rattle.coset_seen.specs.Named.{is_same}
use Rattle.ffi_query.specs.Critical.{ArePresent, AreUnderstood, IsCriticalIn, IsCriticalOf}
use Rattle.ffi_query.specs.Critical.{are_known, each_known, is_among, is_known, is_listed, lists}
use Rattle.ffi_query.specs.Labels.{is_label}

if-and : (t p q : Bool) → p ≡ q → (if t then p else false) ≡ (t && q)
if-and true p q e = e
if-and false p q e = refl

if-or : (t p q : Bool) → p ≡ q → (if t then true else p) ≡ (t || q)
if-or true p q e = refl
if-or false p q e = e

-- Each of a list of values.
pub each_all : (ns : List ℤ) (vs : List Value) → each_known ns (value_items vs) ≡ list_all (λ v. is_known ns (value_item v)) vs
each_all ns [] = refl
each_all ns (v ∷ vs) = if-and (is_known ns (value_item v)) _ _ (each_all ns vs)

-- One of a list of values.
pub one_listed : (n : ℤ) (vs : List Value) → is_listed n (value_items vs) ≡ list_any (λ v. is_label (number n) (value_item v)) vs
one_listed n [] = refl
one_listed n (v ∷ vs) = if-or (is_label (number n) (value_item v)) _ _ (one_listed n vs)

-- ---- integers that are listed and known

among_same : (ns : List ℤ) (o : Option ℤ) (n : ℤ) → is_same int_eq o n ≡ true → is_among ns o ≡ true → is_among ns (Some n) ≡ true
among_same ns None n same among = absurd (cc)
among_same ns (Some m) n same among = subst (λ k. is_among ns (Some k) ≡ true) ((Decides-int_eq m n).0 same) among

first_or_rest :
    {T : Type 0} (known each here later : Bool) → (if known then each else false) ≡ true → (if here then true else later) ≡ true
    → (here ≡ true → known ≡ true → T) → (each ≡ true → later ≡ true → T) → T
first_or_rest true each true later e h first rest = first refl refl
first_or_rest true each false later e h first rest = rest e h
first_or_rest false each here later e h first rest = absurd (cc)

each_among : (ns : List ℤ) (n : ℤ) (vs : Items) → each_known ns vs ≡ true → is_listed n vs ≡ true → is_among ns (Some n) ≡ true
each_among ns n no_items known listed = absurd (cc)
each_among ns n (item v vs) known listed =
    first_or_rest (is_known ns v) (each_known ns vs) (is_label (number n) v) (is_listed n vs) known listed
    (among_same ns (as_integer v) n) (each_among ns n vs)

-- If each of the labels w is in ns, an integer that w lists is in ns.
pub listed_among : (ns : List ℤ) (w : Item) (n : ℤ) → are_known ns w ≡ true → lists w n ≡ true → is_among ns (Some n) ≡ true
listed_among ns (array vs) n known listed = each_among ns n vs known listed
listed_among ns (integer i) n known listed = absurd (cc)
listed_among ns (bytes s) n known listed = absurd (cc)
listed_among ns (float x) n known listed = absurd (cc)
listed_among ns (text s) n known listed = absurd (cc)
listed_among ns (boolean b) n known listed = absurd (cc)
listed_among ns null n known listed = absurd (cc)
listed_among ns (tag t v) n known listed = absurd (cc)
listed_among ns (dict ps) n known listed = absurd (cc)

-- If each of the labels w is known, parameters under the known ones are parameters under all.
pub are_understood :
    (k : kinds.Kind) (v : Item) (ns : List ℤ) (w : Item) (b : Bool) → are_known ns w ≡ true → ArePresent k v ns w b → AreUnderstood k v ns w b
are_understood k v ns w true known present = (known, λ n listed. present n (listed_among ns w n known listed) listed)
are_understood k v ns w false known lacks = inr lacks

-- ---- the known labels, one after another

-- P holds of each integer in the list.
abbrev pub Each : (ℤ → Type 0) → List ℤ → Type 0
Each P ns = (n : ℤ) → is_among ns (Some n) ≡ true → P n

either : (a b : Bool) → (a || b) ≡ true → (a ≡ true) ⊎ (b ≡ true)
either true b h = inl refl
either false b h = inr h

of_either : {A B T : Type 0} → A ⊎ B → (A → T) → (B → T) → T
of_either (inl a) f g = f a
of_either (inr b) f g = g b

pub each_more :
    (P : ℤ → Type 0) (ns : List ℤ) (i : ℕ) (d : ℤ) → i < length ns → Each P (take i ns) → P (get_or ns i d) → Each P (take (i + 1) ns)
each_more P ns i d inside so_far here n among =
    of_either (either (is_among (take i ns) (Some n)) (int_eq (get_or ns i d) n) (sym (list_any_more (λ m. int_eq m n) ns i d inside) ∙ among)) (so_far n)
    (λ e. subst P ((Decides-int_eq (get_or ns i d) n).0 e) here)

-- ---- messages

-- The headers of a message without signers.
pub of_one :
    (k : kinds.Kind) (ns : List ℤ) (v s : Item) (has understood : Bool) → ((f : forms.Form) → k ≡ Sign f → ⊥) → IsCriticalIn k ns v has understood
    → IsCriticalOf k ns v s has understood
of_one (Sign f) ns v s h u never c = absurd (never f refl)
of_one (Sign1 f) ns v s h u never c = c
of_one (Mac0 f) ns v s h u never c = c
of_one (Mac f) ns v s h u never c = c
of_one (Encrypt0 f) ns v s h u never c = c
of_one (Encrypt f) ns v s h u never c = c
of_one Signature ns v s h u never c = c
of_one Recipient ns v s h u never c = c
of_one Header ns v s h u never c = c
of_one Key ns v s h u never c = c
of_one KeySet ns v s h u never c = c
of_one Claims ns v s h u never c = c
of_one Any ns v s h u never c = c
of_one KdfContext ns v s h u never c = c

pub if_ok : {T E : Type 0} (P Q : T → Type 0) (r : Result T E) → ((x : T) → P x → Q x) → IfOk r P → IfOk r Q
if_ok P Q (Ok x) h p = h x p
if_ok P Q (Err e) h p = p
