-- Faults at the front of bytes.
use Rattle.std.proofs.Common.{◌≡◌, ℕ, List, [], ◌∷◌, ◌++◌, length, sym, subst, arith}
use Rattle.coset.specs.Error.TheVariants as errors
use Rattle.coset.specs.Faults.{LacksContent, SyntaxAt}
use Rattle.coset.specs.Head.{Head}
use Rattle.coset.specs.Heads.{major_type_number}
use Rattle.coset.specs.ReadErrors.{FaultIn}
use Rattle.coset.specs.ReadHeads.{BeginsWithHead, initial_byte}
use Rattle.tool_fault.specs.Places.{AnnouncesMore}
use Rattle.tool_fault.proofs.Members.{is_headed}

pub front_syntax : (t : List ℕ) (i : ℕ) → i ≡ 0 → FaultIn t (errors.Syntax i) → SyntaxAt [] t
front_syntax t i zero fault = go fault.0 fault.1 fault.2 fault.3 fault.4
  where
    go : (c s : List ℕ) → t ≡ c ++ s → i ≡ length c → SyntaxAt c s → SyntaxAt [] t
    go [] s parts at found = subst (λ (b : List ℕ). SyntaxAt [] b) (sym parts) found
    go (x ∷ c) s parts at found = absurd (omega (arith, at, zero))

-- The head announces more than there is.
pub lacks : (t : List ℕ) (h : Head) (rest : List ℕ) → BeginsWithHead t h rest → AnnouncesMore h (length rest) → LacksContent t
lacks t h rest b (n, is, more) = record {
  m = major_type_number h.major_type;
  n = n;
  rest = rest;
  headed = record {
    head = initial_byte h ∷ b.argument;
    is_head = is_headed t h rest n b is;
    parts = b.parts;
  };
  lacks = more;
}
