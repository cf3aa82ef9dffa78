-- The laws of thumbprints' inputs.
use Rattle.std.proofs.Common.{◌≡◌, ℕ, ℤ, pos, List, [], ◌∷◌, ◌++◌, map, Bool, true, false, cond, Option, Some, None, Result, Ok, Err, Vec, Global}
use Rattle.std.proofs.Common.{refl, sym, ap, subst, ◌∙◌}
use Rattle.std.specs.List.{AllByRecursion}
use Rattle.std.specs.List.Sorted.{IsStrictlySortedBy}
use Rattle.std.specs.Map.{lookup, keys_of}
use Rattle.std.specs.Result.{result_ok}
use Rattle.std.proofs.lemmas.Option.{none-some, same_Some}
use Rattle.coset.specs.Item.{Item, integer, text, dict, null, Pairs, no_pairs, pair}
use Rattle.coset.specs.Grammar.{IsEncoding}
use Rattle.coset.specs.Keys.{KeyView}
use Rattle.coset.specs.LabelData.{LabelView, number, text_label, label_item, label_cmp, same_label}
use Rattle.coset.specs.Range.{IsInRange}
use Rattle.coset.specs.Sec1.{param}
use Rattle.coset.specs.Shortest.{IsShortest}
use Rattle.coset.specs.View.{pairs_of}
use Rattle.cose_thumbprint.specs.Thumbprint.{Required, ec2, rsa, single, key_types, required, has_type, other_type, typed, present, then_on}
use Rattle.cose_thumbprint.specs.Thumbprint.{member, members, pairs, map_of, map_if_any, required_map, GivesInput}
use Rattle.cose_thumbprint.specs.ThumbprintLaws.{AgreeInRequired, HasSortedLabels, InputsAgree, InputsAreDeterministic}
use Rattle.cose_thumbprint.specs.declared.error.ThumbprintError.{ThumbprintError}

-- ---- results

err-ok : {A : Type 0} (e : ThumbprintError) (x : A) → ◌≡◌ {A = Result A ThumbprintError} (Err e) (Ok x) → ⊥
err-ok e x p = none-some x (ap result_ok p)

same_ok : {A : Type 0} (x y : A) → ◌≡◌ {A = Result A ThumbprintError} (Ok x) (Ok y) → x ≡ y
same_ok x y p = same_Some x y (ap result_ok p)

-- What a step was applied to.
opened : {A B : Type 0} (r : Result A ThumbprintError) (step : A → Result B ThumbprintError) (y : B) → then_on r step ≡ Ok y
    → (x : A) × (r ≡ Ok x) × (step x ≡ Ok y)
opened (Ok x) step y p = (x, refl, p)
opened (Err e) step y p = absurd (err-ok e y p)

-- ---- the parts of a list and of a map

abbrev first_or : {A : Type 0} → List A → A → A
first_or [] y = y
first_or (x ∷ xs) y = x

abbrev after : {A : Type 0} → List A → List A
after [] = []
after (x ∷ xs) = xs

abbrev label_of : Item → LabelView
label_of (text s) = text_label s
label_of (integer i) = number i
label_of v = number (pos 0)

label-again : (l : LabelView) → label_of (label_item l) ≡ l
label-again (number i) = refl
label-again (text_label s) = refl

abbrev number_of : Item → ℤ
number_of (integer i) = i
number_of v = pos 0

abbrev listed : Pairs → List (ℤ × Item)
listed no_pairs = []
listed (pair k v ps) = (number_of k, v) ∷ listed ps

listed-pairs : (es : List (ℤ × Item)) → listed (pairs es) ≡ es
listed-pairs [] = refl
listed-pairs (e ∷ es) = ap (λ fs. (e.0, e.1) ∷ fs) (listed-pairs es)

abbrev type_in : Item → Item
type_in (dict (pair k v ps)) = v
type_in v = null

abbrev rest_in : Item → Pairs
rest_in (dict (pair k v ps)) = ps
rest_in v = no_pairs

-- Equal maps have equal key types and equal members.
same_type : (k l : LabelView) (es fs : List (ℤ × Item)) → map_of k es ≡ map_of l fs → k ≡ l
same_type k l es fs p = sym (label-again k) ∙ (ap (λ v. label_of (type_in v)) p ∙ label-again l)

same_members : (k l : LabelView) (es fs : List (ℤ × Item)) → map_of k es ≡ map_of l fs → es ≡ fs
same_members k l es fs p = sym (listed-pairs es) ∙ (ap (λ v. listed (rest_in v)) p ∙ listed-pairs fs)

-- ---- the members of a key

-- The key's required members, and their map.
record IsMapOf (k : KeyView) (v : Item) : Type 0 where
  pub labels : List Required
  pub are_required : required k.kty ≡ Some labels
  pub found : List (ℤ × Item)
  pub are_found : members k labels ≡ Ok found
  pub is_map : map_of k.kty found ≡ v

map_opened : (k : KeyView) (v : Item) → required_map k ≡ Ok v → IsMapOf k v
map_opened k v p = from (required k.kty) refl p
  where
    from : (o : Option (List Required)) → required k.kty ≡ o → map_if_any k o ≡ Ok v → IsMapOf k v
    from None is q = absurd (err-ok _ v q)
    from (Some ms) is q =
        let o = opened (members k ms) (λ es. Ok (map_of k.kty es)) v q in
        record { labels = ms; are_required = is; found = o.0; are_found = o.1; is_map = same_ok (map_of k.kty o.0) v o.2 }

typed-same : (b : Bool) (e : ThumbprintError) (v w : Item) → cond b (Ok v) (Err e) ≡ Ok w → v ≡ w
typed-same true e v w p = same_ok v w p
typed-same false e v w p = absurd (err-ok e w p)

present-some : (o : Option Item) (v : Item) → present o ≡ Ok v → o ≡ Some v
present-some None v p = absurd (err-ok _ v p)
present-some (Some w) v p = ap Some (same_ok w v p)

-- A member that was found is a param of the key, under the required label.
member-param : (k : KeyView) (m : Required) (x : ℤ × Item) → member k m ≡ Ok x → (param (number m.0) k ≡ Some x.1) × (x.0 ≡ m.0)
member-param k m x p =
    let o = param (number m.0) k in
    let a = opened (then_on (present o) (typed m.1)) (λ v. Ok (m.0, v)) x p in
    let b = opened (present o) (typed m.1) a.0 a.1 in
    let pair : (m.0, a.0) ≡ x = same_ok (m.0, a.0) x a.2 in
    let content : b.0 ≡ x.1 = typed-same (has_type m.1 b.0) (other_type m.1 b.0) b.0 a.0 b.2 ∙ ap (λ y. y.1) pair in
    (present-some o b.0 b.1 ∙ ap Some content, sym (ap (λ y. y.0) pair))

-- The first member that was found, and those after it.
record IsFirst (k : KeyView) (m : Required) (ms : List Required) (es : List (ℤ × Item)) : Type 0 where
  pub first : ℤ × Item
  pub rest : List (ℤ × Item)
  pub is_first : member k m ≡ Ok first
  pub are_rest : members k ms ≡ Ok rest
  pub parts : first ∷ rest ≡ es

first_of : (k : KeyView) (m : Required) (ms : List Required) (es : List (ℤ × Item)) → members k (m ∷ ms) ≡ Ok es → IsFirst k m ms es
first_of k m ms es p =
    let a = opened (member k m) (λ e. then_on (members k ms) (λ fs. Ok (e ∷ fs))) es p in
    let b = opened (members k ms) (λ fs. Ok (a.0 ∷ fs)) es a.2 in
    record { first = a.0; rest = b.0; is_first = a.1; are_rest = b.1; parts = same_ok (a.0 ∷ b.0) es b.2 }

abbrev Agree : KeyView → KeyView → List Required → Type 0
Agree k l ms = AllByRecursion (λ m. param (number m.0) k ≡ param (number m.0) l) ms

-- Keys with the same members found have the same params under their labels.
agree_if_found : (k l : KeyView) (ms : List Required) (es : List (ℤ × Item)) → members k ms ≡ Ok es → members l ms ≡ Ok es → Agree k l ms
agree_if_found k l [] es p q = tt
agree_if_found k l (m ∷ ms) es p q =
    let a = first_of k m ms es p in
    let b = first_of l m ms es q in
    let both : a.first ∷ a.rest ≡ b.first ∷ b.rest = a.parts ∙ sym b.parts in
    let first : a.first ≡ b.first = ap (λ xs. first_or xs a.first) both in
    let rest : a.rest ≡ b.rest = ap after both in (
      (member-param k m a.first a.is_first).0 ∙ (ap (λ x. Some x.1) first ∙ sym (member-param l m b.first b.is_first).0),
      agree_if_found k l ms a.rest a.are_rest (b.are_rest ∙ ap Ok (sym rest)),
    )

-- Keys with the same params under these labels have the same members.
found_if_agree : (k l : KeyView) (ms : List Required) → Agree k l ms → members k ms ≡ members l ms
found_if_agree k l [] h = refl
found_if_agree k l (m ∷ ms) h =
    let first : member k m ≡ member l m = ap (λ o. then_on (then_on (present o) (typed m.1)) (λ v. Ok (m.0, v))) h.0 in
    λ i. then_on (first i) (λ e. then_on (found_if_agree k l ms h.1 i) (λ es. Ok (e ∷ es)))

-- ---- equal inputs

input_opened : (b : Vec ℕ Global) (o : Result Item ThumbprintError) → GivesInput o (Ok b) → (v : Item) × (o ≡ Ok v) × IsShortest b.items v
input_opened b (Ok v) h = (v, refl, h)
input_opened b (Err e) h = absurd h

pub inputs_agree : ((v w : Item) (b c x y : List ℕ) → IsEncoding v b → IsEncoding w c → b ++ x ≡ c ++ y → (v ≡ w) × (b ≡ c))
    → ((v : Item) → IsInRange v → (b : List ℕ) × IsShortest b v × ((c : List ℕ) → IsShortest c v → c ≡ b))
    → ((v : Item) (b : List ℕ) → IsShortest b v → IsEncoding v b) → ((v : Item) (b : List ℕ) → IsShortest b v → IsInRange v)
    → InputsAgree
inputs_agree one only encodes ranges b c k l p q =
    let i = input_opened b (required_map k) p in
    let j = input_opened c (required_map l) q in
    let v = i.0 in
    let w = j.0 in
    let x = map_opened k v i.1 in
    let y = map_opened l w j.1 in
    let required_again : k.kty ≡ l.kty → x.labels ≡ y.labels = λ e. same_Some x.labels y.labels (sym x.are_required ∙ (ap required e ∙ y.are_required)) in
    let to : b.items ≡ c.items → AgreeInRequired k l = λ e.
    let maps : map_of k.kty x.found ≡ map_of l.kty y.found = x.is_map ∙ ((one v w b.items c.items [] [] (encodes v b.items i.2) (encodes w c.items j.2)
    (ap (λ s. s ++ []) e)).0 ∙ sym y.is_map) in
    let kty = same_type k.kty l.kty x.found y.found maps in
    let found = same_members k.kty l.kty x.found y.found maps in
    let agree = agree_if_found k l x.labels x.found x.are_found
    (subst (λ ms. members l ms ≡ Ok x.found) (sym (required_again kty)) (y.are_found ∙ ap Ok (sym found))) in
    record { kty = kty; members = λ ms is. subst (Agree k l) (same_Some x.labels ms (sym x.are_required ∙ is)) agree } in
    let back : AgreeInRequired k l → b.items ≡ c.items = λ h.
    let found : members k x.labels ≡ members l x.labels = found_if_agree k l x.labels (h.members x.labels x.are_required) in
    let same : x.found ≡ y.found = same_ok x.found y.found (sym x.are_found ∙ (found ∙ (ap (members l) (required_again h.kty) ∙ y.are_found))) in
    let item : v ≡ w = sym x.is_map ∙ ((λ i. map_of (h.kty i) (same i)) ∙ y.is_map) in
    let short = only w (ranges w c.items j.2) in
    short.2 b.items (subst (IsShortest b.items) item i.2) ∙ sym (short.2 c.items j.2) in
    (to, back)

-- ---- the order of the labels

-- The labels of these members come after that of kty, in the order of their encodings.
abbrev IsInOrder : List Required → Type 0
IsInOrder ms = IsStrictlySortedBy label_cmp (number (pos 1) ∷ map (λ m. number m.0) ms)

each_in_order : AllByRecursion (λ e. IsInOrder e.1) key_types
unfolding IsStrictlySortedBy
each_in_order =
    let one : IsInOrder single = ((refl, tt), (tt, tt)) in
    let two : IsInOrder rsa = ((refl, (refl, tt)), ((refl, tt), (tt, tt))) in
    let three : IsInOrder ec2 = ((refl, (refl, (refl, tt))), ((refl, (refl, tt)), ((refl, tt), (tt, tt)))) in
    (two, (three, (two, (one, (one, tt)))))

-- What holds of each value holds of the one that is looked up.
of_found : {K X : Type 0} (P : X → Type 0) (test : K → Bool) (es : List (K × X)) (x : X) → AllByRecursion (λ e. P e.1) es → lookup test es ≡ Some x → P x
of_found P test [] x h p = absurd (none-some x p)
of_found P test (e ∷ es) x h p = here P (test e.0) e.1 (lookup test es) x h.0 (of_found P test es x h.1) p
  where
    here : {X : Type 0} (P : X → Type 0) (b : Bool) (y : X) (o : Option X) (x : X) → P y → (o ≡ Some x → P x) → cond b (Some y) o ≡ Some x → P x
    here P true y o x h k p = subst P (same_Some y x p) h
    here P false y o x h k p = k p

abbrev labelled : ℤ × Item → LabelView × Item
labelled e = (number e.0, e.1)

relabelled : (es : List (ℤ × Item)) → map {B = Item × Item} (λ e. (integer e.0, e.1)) es ≡ map (λ e. (label_item e.0, e.1)) (map labelled es)
relabelled [] = refl
relabelled (e ∷ es) = ap (λ ps. (integer e.0, e.1) ∷ ps) (relabelled es)

found_labels : (k : KeyView) (ms : List Required) (es : List (ℤ × Item)) → members k ms ≡ Ok es → keys_of (map labelled es) ≡ map (λ m. number m.0) ms
found_labels k [] es p = ap (λ fs. keys_of (map labelled fs)) (sym (same_ok [] es p))
found_labels k (m ∷ ms) es p =
    let a = first_of k m ms es p in
    ap (λ fs. keys_of (map labelled fs)) (sym a.parts)
    ∙ (λ i. number ((member-param k m a.first a.is_first).1 i) ∷ found_labels k ms a.rest a.are_rest i)

labels_sorted : (k : KeyView) (v : Item) → IsMapOf k v → HasSortedLabels v
labels_sorted k v x = (
  (number (pos 1), label_item k.kty) ∷ map labelled x.found,
  sym x.is_map ∙ ap (λ ps. dict (pair (integer (pos 1)) (label_item k.kty) (pairs_of ps))) (relabelled x.found),
  subst (λ ls. IsStrictlySortedBy label_cmp (number (pos 1) ∷ ls)) (sym (found_labels k x.labels x.found x.are_found))
      (of_found IsInOrder (λ n. same_label (number n) k.kty) key_types x.labels each_in_order x.are_required),
)

pub inputs_are_deterministic : InputsAreDeterministic
inputs_are_deterministic b k p =
    let i = input_opened b (required_map k) p in
    record { content = i.0; is_map = i.1; is_shortest = i.2; is_sorted = labels_sorted k i.0 (map_opened k i.0 i.1) }
