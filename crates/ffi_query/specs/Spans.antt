-- The result of a call that gives a message's texts by their places, in the input or in the bytes that were written.
use Rattle.std.specs.Prelude.{◌≡◌, ◌++◌, ◌-◌, ◌+◌, ℕ, ℤ, List, length, Option, Some, None, Bool, true, false, Result, Ok, Err, if◌then◌else◌}
use Rattle.coset.specs.Item.{Item}
use Rattle.ffi_query.specs.declared.kind.Kind as kinds
use Rattle.ffi_query.specs.declared.kind.Kind.TheVariants.{Encrypt0, Encrypt}
use Rattle.ffi_query.specs.declared.borrowed.Texts.{Texts}
use Rattle.ffi_query.specs.declared.located.Text.{Text}
use Rattle.coset.specs.CoseError.TheVariants as memory
use Rattle.coset_seen.specs.declared.structure.StructureError.{StructureError}
use Rattle.coset_seen.specs.declared.structure.StructureError.TheVariants.{Short, OutOfMemory, NoContent, TwoContents}
use Rattle.ffi_query.specs.declared.refusal.Refusal as refusals
use Rattle.ffi_query.specs.declared.refusal.Refusal.TheVariants as refused
use Rattle.ffi_query.specs.declared.spans.MessageSpans.{MessageSpans}
use Rattle.ffi_query.specs.declared.spans.Start.{Start}
use Rattle.ffi_query.specs.declared.view.MessageView.{MessageView}
use Rattle.ffi_query.specs.Borrowed.{structure_by}
use Rattle.ffi_query.specs.Kinds.{TellsTagOf, tag_of}
use Rattle.ffi_query.specs.Located.{IsTextIn}
use Rattle.ffi_query.specs.Seen.{signed_of}
use Rattle.ffi_query.specs.Structures.{is_given_twice}
use Rattle.ffi_query.specs.View.{IsViewOf}

-- b has the bytes s at the offset `at`.
pub record IsAt (b : List ℕ) (at : ℕ) (s : List ℕ) : Type 0 where
  pub before : List ℕ
  pub behind : List ℕ
  pub parts : b ≡ before ++ (s ++ behind)
  pub offset : at ≡ length before

-- The text s is at that place: in the input b, or in the bytes t that were written.
abbrev pub IsStart : List ℕ → List ℕ → Start → List ℕ → Type 0
IsStart b t p s = IsAt (if p.is_input then b else t) p.at s

-- The result of `message_spans` for the bytes b, which are the message v of kind k. The view is that of `message_view`.
-- t begins with what is signed, authenticated, or goes with the ciphertext. The other texts are at the places in m. The
-- content isn't given twice.
pub record IsMessageSpans (k : kinds.Kind) (i : ℕ) (aad : List ℕ) (d : Option (List ℕ)) (ns : List ℤ) (b : List ℕ) (v : Item) (m : MessageSpans)
    (t : List ℕ) : Type 0 where
  pub text : List ℕ
  pub view : IsViewOf k i aad d ns v m.view text
  pub is_tagged : TellsTagOf (tag_of k) b m.view.is_tagged
  pub is_once : is_given_twice k d v ≡ false
  pub structure : IsAt t 0 view.signed
  pub proof : IsStart b t m.proof view.proof
  pub content : IsStart b t m.content view.content
  pub key_id : IsStart b t m.key_id view.key_id
  pub len : m.len ≡ length t

-- The text s of the input b is at that place.
abbrev pub IsBorrowedStart : List ℕ → Start → Text → Type 0
IsBorrowedStart b p s = (p.is_input ≡ true) × (IsTextIn b s → IsAt b p.at s.bytes.now)

-- The view and the places of the texts x, without the length of the structure. The texts' lengths have the sum n. t says
-- whether the message is under its tag.
pub record AreUnsizedSpans (b : List ℕ) (x : Texts) (t : Bool) (n : ℕ) (m : MessageSpans) : Type 0 where
  pub algorithm : m.view.algorithm ≡ x.algorithm
  pub place : m.view.key_id_place ≡ x.key_id.place
  pub uncritical : m.view.has_critical ≡ false
  pub understood : m.view.is_understood ≡ true
  pub is_tagged : m.view.is_tagged ≡ t
  pub proof_len : m.view.proof_len ≡ length x.proof.bytes.now
  pub content_len : m.view.content_len ≡ length x.content.bytes.now
  pub key_id_len : m.view.key_id_len ≡ length x.key_id.text.bytes.now
  pub len : m.view.len ≡ n
  pub proof : IsBorrowedStart b m.proof x.proof
  pub content : IsBorrowedStart b m.content x.content
  pub key_id : IsBorrowedStart b m.key_id x.key_id.text

-- Items of the kind are encrypted messages.
abbrev pub is_encrypted : kinds.Kind → Bool
is_encrypted (Encrypt0 f) = true
is_encrypted (Encrypt f) = true
is_encrypted k = false

-- The message that carries the content c has the same structure with the given content e as with d.
abbrev pub HasStructureOf : kinds.Kind → Option (List ℕ) → Option (List ℕ) → Option (List ℕ) → Type 0
HasStructureOf k c e d = (aad p : List ℕ) → structure_by k aad p (signed_of c e) ≡ structure_by k aad p (signed_of c d)

-- The same with a structure of length n.
abbrev pub with_structure : MessageSpans → ℕ → MessageSpans
with_structure m n = record m { view = record m.view { structure_len = n; len = m.view.len + n }; len = n }

-- The refusal for an error in writing a structure, unless the error is about the content.
abbrev pub refusal_of : StructureError → Option refusals.Refusal
refusal_of (Short n) = Some (refused.Short n)
refusal_of OutOfMemory = Some (refused.Cose memory.OutOfMemory)
refusal_of NoContent = None
refusal_of TwoContents = None

-- A place in the bytes that were written.
abbrev pub written_at : ℕ → Start
written_at n = record { is_input = false; at = n }

-- The places of texts that were written one after another.
abbrev pub copied_spans : MessageView → MessageSpans
copied_spans n = record {
  view = n;
  proof = written_at n.structure_len;
  content = written_at (n.len - n.key_id_len - n.content_len);
  key_id = written_at (n.len - n.key_id_len);
  len = n.len;
}

abbrev pub copied : Result MessageView refusals.Refusal → Result MessageSpans refusals.Refusal
copied (Ok n) = Ok (copied_spans n)
copied (Err r) = Err r
