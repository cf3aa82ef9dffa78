-- A message's view with the places of its texts, as C receives it in a struct of numbers.
use Rattle.std.specs.Prelude.{◌≡◌, ℕ, ℤ, pos, Result, Ok, Err, if◌then◌else◌}
use Rattle.ffi_query.specs.declared.refusal.Refusal as refusals
use Rattle.ffi_query.specs.declared.spans.MessageSpans.{MessageSpans}
use Rattle.ffi_c.specs.declared.spans.Spans.{Spans}
use Rattle.ffi_c.specs.Replies.{length_of, reply_status}
use Rattle.ffi_c.specs.Views.{algorithm_numbers, critical_number, number_of_map}

-- The struct with these places.
abbrev pub spans_numbers : MessageSpans → Spans
spans_numbers m = record {
  algorithm = (algorithm_numbers m.view.algorithm).0;
  algorithm_form = (algorithm_numbers m.view.algorithm).1;
  key_id_map = number_of_map m.view.key_id_place;
  critical = critical_number m.view.has_critical m.view.is_understood;
  is_tagged = if m.view.is_tagged then 1 else 0;
  is_proof_in_input = if m.proof.is_input then 1 else 0;
  is_content_in_input = if m.content.is_input then 1 else 0;
  is_key_id_in_input = if m.key_id.is_input then 1 else 0;
  structure_len = m.view.structure_len;
  proof_at = m.proof.at;
  proof_len = m.view.proof_len;
  content_at = m.content.at;
  content_len = m.view.content_len;
  key_id_at = m.key_id.at;
  key_id_len = m.view.key_id_len;
}

-- All zeros.
abbrev pub no_spans : Spans
no_spans = record {
  algorithm = pos 0;
  algorithm_form = 0;
  key_id_map = 0;
  critical = 0;
  is_tagged = 0;
  is_proof_in_input = 0;
  is_content_in_input = 0;
  is_key_id_in_input = 0;
  structure_len = 0;
  proof_at = 0;
  proof_len = 0;
  content_at = 0;
  content_len = 0;
  key_id_at = 0;
  key_id_len = 0;
}

-- The struct of a result: that of the places, or zeros for an error.
abbrev pub spans_of : Result MessageSpans refusals.Refusal → Spans
spans_of (Ok m) = spans_numbers m
spans_of (Err r) = no_spans

-- The number of bytes that were written.
abbrev pub length_written : Result MessageSpans refusals.Refusal → Result ℕ refusals.Refusal
length_written (Ok m) = Ok m.len
length_written (Err r) = Err r

-- The status, the number and the struct are those of a result with property P.
abbrev pub RepliesSpans : (Result MessageSpans refusals.Refusal → Type 0) → ℤ → ℕ → Spans → Type 0
RepliesSpans P status n view =
    (r : Result MessageSpans refusals.Refusal) × P r × (status ≡ reply_status r) × (n ≡ length_of (length_written r)) × (view ≡ spans_of r)
