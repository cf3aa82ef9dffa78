-- A message's view, as C receives it: a struct of numbers, and a length.
use Rattle.std.specs.Prelude.{◌≡◌, ℕ, ℤ, pos, Bool, Result, Ok, Err, if◌then◌else◌}
use Rattle.ffi_query.specs.declared.refusal.Refusal as refusals
use Rattle.ffi_query.specs.declared.view.Algorithm as algorithms
use Rattle.ffi_query.specs.declared.view.Algorithm.TheVariants as named
use Rattle.ffi_query.specs.declared.view.KeyIdPlace as places
use Rattle.ffi_query.specs.declared.view.KeyIdPlace.TheVariants as found
use Rattle.ffi_query.specs.declared.view.MessageView.{MessageView}
use Rattle.ffi_c.specs.declared.sign1.View.{View}
use Rattle.ffi_c.specs.declared.message.Message.{Message}
use Rattle.ffi_c.specs.Replies.{length_of, reply_status}

-- The algorithm's number and form. The form is 1 for an integer and 2 for a text. Both are 0 if no algorithm is named.
abbrev pub algorithm_numbers : algorithms.Algorithm → ℤ × ℕ
algorithm_numbers named.Absent = (pos 0, 0)
algorithm_numbers (named.Number n) = (n, 1)
algorithm_numbers named.Text = (pos 0, 2)

-- The number of the map that has the key identifier, or 0 if there is none.
abbrev pub number_of_map : places.KeyIdPlace → ℕ
number_of_map found.Absent = 0
number_of_map found.Protected = 1
number_of_map found.Unprotected = 2

-- The struct of a view.
abbrev pub sign1_numbers : MessageView → View
sign1_numbers n = record {
  algorithm = (algorithm_numbers n.algorithm).0;
  algorithm_form = (algorithm_numbers n.algorithm).1;
  key_id_map = number_of_map n.key_id_place;
  has_critical = if n.has_critical then 1 else 0;
  is_tagged = if n.is_tagged then 1 else 0;
  structure_len = n.structure_len;
  signature_len = n.proof_len;
  payload_len = n.content_len;
  key_id_len = n.key_id_len;
}

-- All zeros.
abbrev pub no_view : View
no_view = record {
  algorithm = pos 0;
  algorithm_form = 0;
  key_id_map = 0;
  has_critical = 0;
  is_tagged = 0;
  structure_len = 0;
  signature_len = 0;
  payload_len = 0;
  key_id_len = 0;
}

-- The struct of a result: that of the view, or zeros for an error.
abbrev pub view_of : Result MessageView refusals.Refusal → View
view_of (Ok n) = sign1_numbers n
view_of (Err r) = no_view

-- The length of the texts that go with a view.
abbrev pub texts_len : Result MessageView refusals.Refusal → Result ℕ refusals.Refusal
texts_len (Ok n) = Ok n.len
texts_len (Err r) = Err r

-- The status, the number and the struct are those of a result with property P.
abbrev pub RepliesView : (Result MessageView refusals.Refusal → Type 0) → ℤ → ℕ → View → Type 0
RepliesView P status n view =
    (r : Result MessageView refusals.Refusal) × P r × (status ≡ reply_status r) × (n ≡ length_of (texts_len r)) × (view ≡ view_of r)

-- ---- any message

-- 0 if there are no critical labels, 1 if all of them are understood, else 2.
abbrev pub critical_number : (has understood : Bool) → ℕ
critical_number has understood = if has then (if understood then 1 else 2) else 0

-- The struct of a view.
abbrev pub message_numbers : MessageView → Message
message_numbers n = record {
  algorithm = (algorithm_numbers n.algorithm).0;
  algorithm_form = (algorithm_numbers n.algorithm).1;
  key_id_map = number_of_map n.key_id_place;
  critical = critical_number n.has_critical n.is_understood;
  is_tagged = if n.is_tagged then 1 else 0;
  structure_len = n.structure_len;
  proof_len = n.proof_len;
  content_len = n.content_len;
  key_id_len = n.key_id_len;
}

-- All zeros.
abbrev pub no_message : Message
no_message = record {
  algorithm = pos 0;
  algorithm_form = 0;
  key_id_map = 0;
  critical = 0;
  is_tagged = 0;
  structure_len = 0;
  proof_len = 0;
  content_len = 0;
  key_id_len = 0;
}

-- The struct of a result: that of the view, or zeros for an error.
abbrev pub message_of : Result MessageView refusals.Refusal → Message
message_of (Ok n) = message_numbers n
message_of (Err r) = no_message

-- The status, the number and the struct are those of a result with property P.
abbrev pub RepliesMessage : (Result MessageView refusals.Refusal → Type 0) → ℤ → ℕ → Message → Type 0
RepliesMessage P status n view =
    (r : Result MessageView refusals.Refusal) × P r × (status ≡ reply_status r) × (n ≡ length_of (texts_len r)) × (view ≡ message_of r)
