-- Runs of bytes that stand between quotes as they are. The proof of the code that copies them uses these
-- lemmas.
use Rattle.std.proofs.Common.{◌≡◌, ◌<◌, ◌≤◌, ◌++◌, ◌+◌, ◌-◌, ℕ, List, [], ◌∷◌, true, length, take, drop, slice_index, arith, ap, sym, ◌∙◌}
use Rattle.std.specs.List.{flat_map}
use Rattle.std.proofs.Math.Seq.{take-add}
use Rattle.std.proofs.lemmas.Grind.{flat_map-append}
use Rattle.std.proofs.lemmas.List.{take_more, get_or-drop, length-drop, append_assoc, append-nil}
use Rattle.pybuf_value.specs.Quotes.{is_plain, escaped_byte}

-- Such a byte is its own text.
pub plain_is_itself : (quote b : ℕ) → is_plain quote b ≡ true → escaped_byte quote b ≡ b ∷ []
plain_is_itself quote b plain = grind (arith, plain)

-- the bytes from one place up to another
abbrev pub between : ℕ → ℕ → List ℕ → List ℕ
between start i bytes = take (i - start) (drop start bytes)

-- one more byte of them
pub between_more : (bytes : List ℕ) (start i : ℕ) → start ≤ i → i < length bytes →
    between start (i + 1) bytes ≡ between start i bytes ++ slice_index bytes i ∷ []
between_more bytes start i le lt =
    let count : i + 1 - start ≡ (i - start) + 1 = omega (arith, le) in
    let room : i - start < length (drop start bytes) = omega (arith, le, lt, length-drop start bytes) in
    let place : start + (i - start) ≡ i = omega (arith, le) in
    ap (λ n. take n (drop start bytes)) count ∙ take_more (drop start bytes) (i - start) 0 room
    ∙ ap (λ b. between start i bytes ++ b ∷ []) (get_or-drop start bytes (i - start) 0 ∙ ap (slice_index bytes) place)

-- The bytes up to the end of a run are those before it and its own.
pub before_and_between : (bytes : List ℕ) (start i : ℕ) → start ≤ i → take i bytes ≡ take start bytes ++ between start i bytes
before_and_between bytes start i le =
    let place : i ≡ start + (i - start) = omega (arith, le) in
    ap (λ n. take n bytes) place ∙ take-add start (i - start) bytes

-- the texts of one byte
text_of_one : (f : ℕ → List ℕ) (b : ℕ) → flat_map f (b ∷ []) ≡ f b
text_of_one f b = append-nil (f b)

-- The run goes on by a byte that stands as it is.
pub run_goes_on : (quote start i : ℕ) (bytes : List ℕ) → start ≤ i → i < length bytes →
    flat_map (escaped_byte quote) (between start i bytes) ≡ between start i bytes →
    is_plain quote (slice_index bytes i) ≡ true →
    flat_map (escaped_byte quote) (between start (i + 1) bytes) ≡ between start (i + 1) bytes
run_goes_on quote start i bytes le lt run plain =
    let b : ℕ = slice_index bytes i in
    let more = between_more bytes start i le lt in
    let text : flat_map (escaped_byte quote) (b ∷ []) ≡ b ∷ [] = text_of_one (escaped_byte quote) b ∙ plain_is_itself quote b plain in
    ap (flat_map (escaped_byte quote)) more ∙ flat_map-append (escaped_byte quote) (between start i bytes) (b ∷ [])
    ∙ ap (λ front. front ++ flat_map (escaped_byte quote) (b ∷ [])) run ∙ ap (λ back. between start i bytes ++ back) text ∙ sym more

-- One list stands behind what is written.
onto_written : (old out front back whole : List ℕ) → out ≡ old ++ front → whole ≡ front ++ back → out ++ back ≡ old ++ whole
onto_written old out front back whole written parts = ap (λ out. out ++ back) written ∙ append_assoc old front back ∙ ap (λ whole. old ++ whole) (sym parts)

-- the text, by what is written of it and the run behind that
pub written_with_run : (quote start i : ℕ) (bytes old out : List ℕ) → start ≤ i →
    out ≡ old ++ flat_map (escaped_byte quote) (take start bytes) →
    flat_map (escaped_byte quote) (between start i bytes) ≡ between start i bytes →
    out ++ between start i bytes ≡ old ++ flat_map (escaped_byte quote) (take i bytes)
written_with_run quote start i bytes old out le written run =
    let parts : flat_map (escaped_byte quote) (take i bytes) ≡ flat_map (escaped_byte quote) (take start bytes) ++ between start i bytes =
    ap (flat_map (escaped_byte quote)) (before_and_between bytes start i le)
    ∙ flat_map-append (escaped_byte quote) (take start bytes) (between start i bytes)
    ∙ ap (λ back. flat_map (escaped_byte quote) (take start bytes) ++ back) run in
    onto_written old out (flat_map (escaped_byte quote) (take start bytes)) (between start i bytes) (flat_map (escaped_byte quote) (take i bytes)) written parts

-- A run and the byte behind it are written.
pub run_is_written : (quote start i : ℕ) (bytes old out : List ℕ) → start ≤ i → i < length bytes →
    out ≡ old ++ flat_map (escaped_byte quote) (take start bytes) →
    flat_map (escaped_byte quote) (between start i bytes) ≡ between start i bytes →
    (out ++ between start i bytes) ++ escaped_byte quote (slice_index bytes i) ≡ old ++ flat_map (escaped_byte quote) (take (i + 1) bytes)
run_is_written quote start i bytes old out le lt written run =
    let b : ℕ = slice_index bytes i in
    let front = written_with_run quote start i bytes old out le written run in
    let back : flat_map (escaped_byte quote) (take (i + 1) bytes) ≡ flat_map (escaped_byte quote) (take i bytes) ++ escaped_byte quote b =
    ap (flat_map (escaped_byte quote)) (take_more bytes i 0 lt) ∙ flat_map-append (escaped_byte quote) (take i bytes) (b ∷ [])
    ∙ ap (λ text. flat_map (escaped_byte quote) (take i bytes) ++ text) (text_of_one (escaped_byte quote) b) in
    onto_written old (out ++ between start i bytes) (flat_map (escaped_byte quote) (take i bytes)) (escaped_byte quote b)
    (flat_map (escaped_byte quote) (take (i + 1) bytes)) front back

-- A run that begins here is still empty, so nothing of it waits.
pub no_run : (quote start i : ℕ) (bytes : List ℕ) → start ≡ i →
    flat_map (escaped_byte quote) (between start i bytes) ≡ between start i bytes
no_run quote start i bytes same =
    let none : i - start ≡ 0 = omega (arith, same) in
    ap (λ n. flat_map (escaped_byte quote) (take n (drop start bytes))) none ∙ ap (λ n. take n (drop start bytes)) (sym none)
