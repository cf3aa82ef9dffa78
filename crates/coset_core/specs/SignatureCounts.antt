-- The number of signatures in headers and lists, with all those nested in them.
use Rattle.std.specs.Prelude.{ℕ, suc, ◌+◌, List, map}
use Rattle.coset_core.specs.Headers.{HeaderView, header_of, Signatures, no_signatures, signature_and, signatures_of}
use Rattle.coset_core.specs.Views.{countersignature_view, signature_view}
use Rattle.coset_core.specs.declared.countersignature.CoseCountersignature.{CoseCountersignature}
use Rattle.coset_core.specs.declared.signature.CoseSignature.{CoseSignature}

-- The number of signatures in a header or a list, with those in their headers.
abbrev mutual
  pub header_count : HeaderView → ℕ
  header_count (header_of f ss ts) = signatures_count ss + signatures_count ts

  pub signatures_count : Signatures → ℕ
  signatures_count no_signatures = 0
  signatures_count (signature_and o p u s more) = suc (header_count p + header_count u + signatures_count more)

abbrev pub count_in_list : List CoseSignature → ℕ
count_in_list all = signatures_count (signatures_of (map signature_view all))

-- The number of signatures of both versions, with those in their headers.
abbrev pub count_in_lists : List CoseSignature → List CoseCountersignature → ℕ
count_in_lists all version_2 = count_in_list all + signatures_count (signatures_of (map countersignature_view version_2))
