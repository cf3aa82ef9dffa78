-- Plain headers: their labels are integers in ascending order. A text as `alg` or content type is allowed here.
use Rattle.std.specs.Prelude.{◌≡◌, ◌≢◌, ◌<ℤ◌, ℕ, ℤ, pos, List, ⊤}
use Rattle.coset.specs.Fields.{content_type}
use Rattle.coset.specs.Item.{Item, Pairs, no_pairs, pair}
use Rattle.coset.specs.LabelData.{LabelView, RegisteredLabelView}
use Rattle.coset.specs.Labels.{algorithm}
use Rattle.coset.specs.Shape.{int64, nonempty_bstr}

-- A plain header may have the value v under the label l. Values under alg, content type, kid and IV have their shapes; others are
-- free. The label isn't `crit`, Partial IV, or one of countersignatures (RFC 8152, section 3.1; RFC 9338, section 2).
pub record IsPlainValue (l : ℤ) (v : Item) : Type 0 where
  pub alg : l ≡ pos 1 → (x : RegisteredLabelView) × algorithm.describes v x
  pub content_type : l ≡ pos 3 → (x : LabelView) × content_type.describes v x
  pub kid : l ≡ pos 4 → (x : List ℕ) × nonempty_bstr.describes v x
  pub iv : l ≡ pos 5 → (x : List ℕ) × nonempty_bstr.describes v x
  pub no_crit : l ≢ pos 2
  pub no_partial_iv : l ≢ pos 6
  pub no_counter_signature : l ≢ pos 7
  pub no_countersignature_v2 : l ≢ pos 11
  pub no_countersignature0_v2 : l ≢ pos 12

-- The labels of the pairs are ascending integers above `last`, and a plain header may have each value under its label.
abbrev pub ArePlain : ℤ → Pairs → Type 0
ArePlain last no_pairs = ⊤
ArePlain last (pair k v ps) = (l : ℤ) × int64.describes k l × (last <ℤ l) × IsPlainValue l v × ArePlain l ps
