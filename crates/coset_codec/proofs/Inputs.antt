-- Items and pairs that are read forward, in borrowed bytes.
use Rattle.std.proofs.Common.{◌≡◌, ◌≤◌, ◌<◌, arith, ℕ, List, Bool, true, false, Some, None, Result, Ok, Err, refl, sym, subst, ◌∙◌}
use Rattle.coset_value.specs.Item.{Item, Items, no_items, item, Pairs, no_pairs, pair}
use Rattle.coset_cbor.specs.declared.cursor.Cursor.{Cursor}
use Rattle.coset_cbor.specs.declared.cursor.Remaining.{Remaining}
use Rattle.coset_cbor.specs.Cursors as bytes
use Rattle.coset_cbor.specs.Cursors.{keys_and_values, bytes_left}
use Rattle.coset_codec.specs.declared.error.CoseError.{CoseError}
use Rattle.coset_codec.specs.declared.read.decoder.ArrayElements.{ArrayElements}
use Rattle.coset_codec.specs.declared.read.decoder.ArrayElements.TheVariants as items
use Rattle.coset_codec.specs.declared.read.decoder.MapEntries.{MapEntries}
use Rattle.coset_codec.specs.declared.read.decoder.MapEntries.TheVariants as pairs
use Rattle.coset_codec.specs.Results.{Reads}
use Rattle.coset_codec.specs.Inputs.{State, tree, borrowed, length_left, input_size, items_size, items_turns, pairs_size, pairs_turns}
use Rattle.coset_codec.specs.Inputs.{IsBorrowed, MovesForward, ItemAt, AreWithin, PairsWithin, Nexts, NextsKey}
use Rattle.coset_codec.specs.Shape.{Shape}

lent_is : (s t : List ℕ) → borrowed s ≡ borrowed t → s ≡ t
lent_is s t e = cc

-- ---- elements

by_lent :
    (p q : Remaining) (s : List ℕ) (more : Bool) → ((vs : Items) (a : List ℕ) → bytes.AreWithin p vs s a → bytes.Nexts vs s a q more) → (vs : Items) (z : State)
    → AreWithin (items.Borrowed p) vs (borrowed s) z
    → Nexts vs (borrowed s) z (items.Borrowed q) more
by_lent p q s true next vs z (b, a, at, end, w) =
    let r = next vs a (subst (λ (x : List ℕ). bytes.AreWithin p vs x a) (sym (lent_is s b at)) w) in
    (r.0, r.1, borrowed r.2, r.3, (r.2, refl, r.4), (r.2, a, refl, end, r.5))
by_lent p q s false next vs z (b, a, at, end, w) =
    let r = next vs a (subst (λ (x : List ℕ). bytes.AreWithin p vs x a) (sym (lent_is s b at)) w) in
    (r.0, (s, a, refl, end, r.1))

pub lent_next :
    (p q : Remaining) (k : Cursor) (more : Bool) → ((vs : Items) (a : List ℕ) → bytes.AreWithin p vs (bytes_left k) a → bytes.Nexts vs (bytes_left k) a q more)
    → (vs : Items) (z : State)
    → AreWithin (items.Borrowed p) vs (borrowed (bytes_left k)) z → Nexts vs (borrowed (bytes_left k)) z (items.Borrowed q) more
lent_next p q k more next vs z w = by_lent p q (bytes_left k) more next vs z w

pub lent_size : (m : ArrayElements) (p : Remaining) (t : State) → m ≡ items.Borrowed p → IsBorrowed t → input_size t ≤ items_size m t
lent_size m p (borrowed s) is there = subst (λ (n : ArrayElements). length_left (borrowed s) ≤ items_size n (borrowed s)) (sym is) (omega arith)
lent_size m p (tree w) is there = absurd there

pub lent_turns : (m : ArrayElements) (p : Remaining) (t u : State) → m ≡ items.Borrowed p → IsBorrowed t → MovesForward t u → length_left u < items_turns m t
lent_turns m p (borrowed s) u is there goes = subst (λ (n : ArrayElements). length_left u < items_turns n (borrowed s)) (sym is) goes
lent_turns m p (tree w) u is there goes = absurd there

-- The size of the elements left does not grow if fewer bytes are left.
pub items_smaller : (m : ArrayElements) (s t : State) → length_left t ≤ length_left s → items_size m t ≤ items_size m s
items_smaller (items.Tree it) s t h = omega arith
items_smaller (items.Borrowed p) s t h = h

pub pairs_smaller : (m : MapEntries) (s t : State) → length_left t ≤ length_left s → pairs_size m t ≤ pairs_size m s
pairs_smaller (pairs.Tree it) s t h = omega arith
pairs_smaller (pairs.Borrowed p) s t h = h

pub pairs_fewer : (m : MapEntries) (s t : State) → length_left t ≤ length_left s → pairs_turns m t ≤ pairs_turns m s
pairs_fewer (pairs.Tree it) s t h = omega arith
pairs_fewer (pairs.Borrowed p) s t h = h

-- ---- pairs

item_is : (v w : Item) (vs ws : Items) → item v vs ≡ item w ws → (v ≡ w) × (vs ≡ ws)
item_is v w vs ws e = (cc, cc)

flat_none : (ps : Pairs) → keys_and_values ps ≡ no_items → ps ≡ no_pairs
flat_none no_pairs e = refl
flat_none (pair k v ps) e = absurd cc

module _ {K A : Type 0} (shape : Shape A) (view : K → A) where
  pub key_none : (ps : Pairs) (s z : State) (p : Remaining) → Nexts (keys_and_values ps) s z (items.Borrowed p) false
      → NextsKey shape view ps s z (pairs.Borrowed p) (Ok None)
  key_none ps s z p n = (flat_none ps n.0, n.1)

  -- A key was read, and its value follows.
  pub record Behind (ps : Pairs) (t z : State) (q : Remaining) (r : Result K CoseError) : Type 0 where
    pub key : Item
    pub value : Item
    pub others : Pairs
    pub mid : State
    pub parts : ps ≡ pair key value others
    pub reads : Reads shape view key r
    pub stands : ItemAt value t mid
    pub within : PairsWithin (pairs.Borrowed q) others mid z

  value_behind :
      (k v : Item) (qs : Pairs) (t z : State) (q : Remaining) (r : Result K CoseError) (others : Items) → item v (keys_and_values qs) ≡ others
      → Reads shape view k r → Nexts others t z (items.Borrowed q) true → Behind (pair k v qs) t z q r
  value_behind k v qs t z q r others e reads n =
      let same = item_is n.0 v n.1 (keys_and_values qs) (sym (e ∙ n.3)) in
      record {
        key = k;
        value = v;
        others = qs;
        mid = n.2;
        parts = refl;
        reads = reads;
        stands = subst (λ (w : Item). ItemAt w t n.2) same.0 n.4;
        within = subst (λ (ws : Items). AreWithin (items.Borrowed q) ws n.2 z) same.1 n.5;
      }

  pub key_behind :
      (ps : Pairs) (s t z : State) (p q : Remaining) (r : Result K CoseError) → Nexts (keys_and_values ps) s z (items.Borrowed p) true
      → ((v : Item) (y : State) → ItemAt v s y → (t ≡ y) × Reads shape view v r)
      → ((vs : Items) (y : State) → AreWithin (items.Borrowed p) vs t y → Nexts vs t y (items.Borrowed q) true) → Behind ps t z q r
  key_behind no_pairs s t z p q r n reads next = absurd (none n.3)
    where
      none : no_items ≡ item n.0 n.1 → ⊥
      none h = cc
  key_behind (pair k v qs) s t z p q r n reads next =
      let same = item_is k n.0 (item v (keys_and_values qs)) n.1 n.3 in
      let here = reads n.0 n.2 n.4 in
      value_behind k v qs t z q r n.1 same.1 (subst (λ (w : Item). Reads shape view w r) (sym same.0) here.1)
      (next n.1 z (subst (λ (x : State). AreWithin (items.Borrowed p) n.1 x z) (sym here.0) n.5))

  pub key_read : (ps : Pairs) (t z : State) (q : Remaining) (key : K) → Behind ps t z q (Ok key) → NextsKey shape view ps t z (pairs.Borrowed q) (Ok (Some key))
  key_read ps t z q key x = (x.key, x.value, x.others, x.mid, x.parts, x.reads, x.stands, x.within)

  pub key_refused : (ps : Pairs) (t u z : State) (q : Remaining) (e : CoseError) → Behind ps t z q (Err e) → ((v : Item) (y : State) → ItemAt v t y → u ≡ y)
      → NextsKey shape view ps u z (pairs.Borrowed q) (Err e)
  key_refused ps t u z q e x passes = (
    x.key,
    x.value,
    x.others,
    x.parts,
    subst (λ (y : State). PairsWithin (pairs.Borrowed q) x.others y z) (sym (passes x.value x.mid x.stands)) x.within,
    x.reads,
  )

  -- Every key is followed by its value.
  pub key_without : (ps : Pairs) (s t z : State) (p q : Remaining) (r : Result K CoseError) → Nexts (keys_and_values ps) s z (items.Borrowed p) true
      → ((v : Item) (y : State) → ItemAt v s y → (t ≡ y) × Reads shape view v r)
      → ((vs : Items) (y : State) → AreWithin (items.Borrowed p) vs t y → Nexts vs t y (items.Borrowed q) false) → ⊥
  key_without no_pairs s t z p q r n reads next = none n.3
    where
      none : no_items ≡ item n.0 n.1 → ⊥
      none h = cc
  key_without (pair k v qs) s t z p q r n reads next =
      let same = item_is k n.0 (item v (keys_and_values qs)) n.1 n.3 in
      let here = reads n.0 n.2 n.4 in
      none (same.1 ∙ (next n.1 z (subst (λ (x : State). AreWithin (items.Borrowed p) n.1 x z) (sym here.0) n.5)).0)
    where
      none : item v (keys_and_values qs) ≡ no_items → ⊥
      none h = cc
