-- The line that the program prints.
use Rattle.std.specs.Prelude.{◌≡◌, ℕ, List, [], ◌∷◌, ◌++◌, Bool, true, false, Some}
use Rattle.coset_claims.specs.Claims.{ClaimsView}
use Rattle.example_subject.specs.declared.Unprinted.{Unprinted}
use Rattle.example_subject.specs.declared.Unprinted.TheVariants.{NotVerified, NoSubject, NotALine, NotWritten}
use Rattle.example_uses.specs.Exchange.{AreVerified}

-- The line is the subject in the claims of a verified token, and a line feed.
pub record IsSubjectLine (accepts : List ℕ → List ℕ → Type 0) (token line : List ℕ) : Type 0 where
  pub claims : ClaimsView
  pub verified : AreVerified accepts [] token claims
  pub subject : List ℕ
  pub is_subject : claims.subject ≡ Some subject
  pub is_line : line ≡ subject ++ 10 ∷ []

-- True for the errors that come before anything is written.
abbrev pub comes_before_writing : Unprinted → Bool
comes_before_writing (NotVerified error) = true
comes_before_writing NoSubject = true
comes_before_writing NotALine = true
comes_before_writing (NotWritten error) = false
