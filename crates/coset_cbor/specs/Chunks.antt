-- The views of the iterators over the chunks of a borrowed string.
use Rattle.std.specs.Prelude.{◌≡◌, ℕ, List, [], ◌∷◌, ◌++◌, length, true, false, Option, MatchOption}
use Rattle.std.specs.Borrow.{Bor}
use Rattle.coset_cbor.specs.declared.chunks.ByteChunks.{ByteChunks}
use Rattle.coset_cbor.specs.declared.chunks.TextChunks.{TextChunks}
use Rattle.coset_cbor.specs.Grammar.{IsHeaded}
use Rattle.coset_cbor.specs.StringChunks.{chunk_contents}

-- The remaining bytes of a byte string's chunks.
abbrev pub chunks_bytes : ByteChunks → List ℕ
chunks_bytes c = c.bytes.now

-- The remaining bytes of a text string's chunks.
abbrev pub text_chunks_bytes : TextChunks → List ℕ
text_chunks_bytes c = c.bytes.now

-- The contents of a byte string's remaining chunks. The remaining bytes encode these and no others (the law
-- `borrowed_chunks`).
abbrev pub chunks_left : ByteChunks → List (List ℕ)
chunks_left c = chunk_contents false c.bytes.now

-- The contents of a text string's remaining chunks, as UTF-8.
abbrev pub text_chunks_left : TextChunks → List (List ℕ)
text_chunks_left c = chunk_contents true c.bytes.now

-- A call returned the content of the first remaining chunk, and the other chunks remain. The old bytes were a head, the
-- content, and then the bytes that now remain. Or the call returned `None`, and no chunk remained before or after it.
abbrev pub YieldsChunk : ByteChunks → Option (Bor (List ℕ)) → ByteChunks → Type 0
YieldsChunk old r new = MatchOption r ((chunks_left old ≡ []) × (chunks_left new ≡ [])) (λ s.
    (chunks_left old ≡ s.now ∷ chunks_left new) × IsHeaded 2 (length s.now) (s.now ++ chunks_bytes new) (chunks_bytes old))

abbrev pub YieldsTextChunk : TextChunks → Option (Bor (List ℕ)) → TextChunks → Type 0
YieldsTextChunk old r new = MatchOption r ((text_chunks_left old ≡ []) × (text_chunks_left new ≡ [])) (λ s.
    (text_chunks_left old ≡ s.now ∷ text_chunks_left new) × IsHeaded 3 (length s.now) (s.now ++ text_chunks_bytes new) (text_chunks_bytes old))
