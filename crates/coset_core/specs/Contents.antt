-- Reading a header from the content of a byte string.
use Rattle.std.specs.Prelude.{ℕ, List, [], None, Result, Ok, Err}
use Rattle.coset_codec.specs.declared.error.CoseError.{CoseError}
use Rattle.coset_codec.specs.Errors.{UnlessMemory}
use Rattle.coset_codec.specs.Serialized.{ContentDescribes, ContentFaults}
use Rattle.coset_core.specs.Headers.{HeaderView, SignatureView, empty_header, layered_header}

-- The content b describes the header h, with k layers left. Otherwise the error is `OutOfMemory`, or it names a fault
-- in the content.
abbrev pub FillsContent : ℕ → List ℕ → HeaderView → Result (Unit {0}) CoseError → Type 0
FillsContent k b h (Ok u) = ContentDescribes empty_header (layered_header k) b h
FillsContent k b h (Err e) = UnlessMemory e (ContentFaults (layered_header k) b)

-- The signature without bytes and with empty headers.
abbrev pub empty_signature : SignatureView
empty_signature = record { protected = record { original = None; header = empty_header }; unprotected = empty_header; signature = [] }
