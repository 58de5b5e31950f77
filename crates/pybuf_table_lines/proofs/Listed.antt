-- The records of bytes that are listed, one after another.
use Rattle.std.proofs.Common.{◌≡◌, ℕ, ◌+◌, ◌-◌, ◌<◌, ◌≤◌, ◌/◌, ◌%◌, Bool, true, false, cond, List, [], ◌∷◌, ◌++◌, length, take, drop, map, Option, Some, None, refl, sym, ◌∙◌, ap, append_assoc, inl, inr, arith}
use Rattle.std.specs.Prelude.{slice_get}
use Rattle.std.specs.List.{filter, enumerate_from, flat_map}
use Rattle.std.proofs.lemmas.Bool.{cases_lt}
use Rattle.std.proofs.lemmas.Grind.{flat_map-append}
use Rattle.std.proofs.lemmas.List.{append-nil, length-drop, length-take-le}
use Rattle.std.proofs.lemmas.List.Elements.{filter-append}
use Rattle.std.proofs.Math.Nat.{mod-eq-sub-mod, mod-eq_of_lt, zero-div}
use Rattle.std.proofs.Math.Seq.{take-length}
use Rattle.pybuf_table.specs.Facts.{rows_more}
use Rattle.pybuf_value.specs.declared.values.Scalar.{Scalar}
use Rattle.pybuf_value.specs.declared.values.Scalar.TheVariants as scalar
use Rattle.pybuf_struct.specs.Formats.{Format}
use Rattle.pybuf_struct.specs.Values.{values}
use Rattle.pybuf_table.specs.Records.{rows, rows_of}
use Rattle.pybuf_table.specs.Chosen.{compares_so, is_chosen}
use Rattle.pybuf_table_lines.specs.declared.queries.Query.{Query}
use Rattle.pybuf_table_lines.specs.Listings.{Listing, rows_listed}
use Rattle.pybuf_table_lines.specs.Texts.{row_line, listing_text}

-- ---- records

-- If there are as many bytes as one record has, there is this single record.
pub row_alone : (f : Format) (alone : List ℕ) → 0 < f.size → length alone ≡ f.size → rows f alone ≡ values f alone ∷ []
row_alone f bytes some long =
    let front : take f.size bytes ≡ bytes = ap (λ (n : ℕ). take n bytes) (sym long) ∙ take-length bytes in
    let rest : length (drop f.size bytes) ≡ 0 = omega (arith, length-drop f.size bytes, long) in
    let none : rows f (drop f.size bytes) ≡ [] = ap (λ (n : ℕ). rows_of f n (drop f.size bytes)) (ap (λ (n : ℕ). n / f.size) rest ∙ zero-div f.size) in
    rows_more f bytes some (omega (arith, long))
    ∙ (ap (λ (front : List ℕ). values f front ∷ rows f (drop f.size bytes)) front
    ∙ ap (λ (others : List (List Scalar)). values f bytes ∷ others) none)

-- The bytes of whole records have a record if there are any bytes.
pub has_record : (f : Format) (bytes : List ℕ) → 0 < f.size → length bytes % f.size ≡ 0 → 0 < length bytes → f.size ≤ length bytes
has_record f bytes size whole some =
    elim (cases_lt (length bytes) f.size) [
      | inl less ↦ let rest : length bytes % f.size ≡ length bytes = mod-eq_of_lt less in absurd (omega (arith, rest, whole, some))
      | inr within ↦ within
    ]

-- Whole records stand behind the first.
pub whole_behind : (f : Format) (bytes : List ℕ) → f.size ≤ length bytes → length bytes % f.size ≡ 0 → length (drop f.size bytes) % f.size ≡ 0
whole_behind f bytes within whole = ap (λ (n : ℕ). n % f.size) (length-drop f.size bytes) ∙ (sym (mod-eq-sub-mod within) ∙ whole)

-- ---- the records that are listed

abbrev answers_so : Query → List Scalar → Bool
answers_so q row = compares_so q.op (scalar.Int q.number) (slice_get row q.field)

-- One more record is chosen or not.
chosen_next : (b : Bool) (n : ℕ) (row : List Scalar) (chosen : List (ℕ × List Scalar)) (kept : List (List Scalar)) → map (λ row. row.1) chosen ≡ kept
    → map (λ row. row.1) (cond b ((n, row) ∷ chosen) chosen) ≡ cond b (row ∷ kept) kept
chosen_next true n row chosen kept same = ap (λ (others : List (List Scalar)). row ∷ others) same
chosen_next false n row chosen kept same = same

-- the values of the records that are chosen, whatever their numbers are
chosen_values : (q : Query) (n : ℕ) (all : List (List Scalar)) →
    map (λ row. row.1) (filter (is_chosen q.field q.op (scalar.Int q.number)) (enumerate_from n all)) ≡ filter (answers_so q) all
chosen_values q n [] = refl
chosen_values q n (row ∷ more) =
    chosen_next (answers_so q row) n row (filter (is_chosen q.field q.op (scalar.Int q.number)) (enumerate_from (n + 1) more)) (filter (answers_so q) more)
    (chosen_values q (n + 1) more)

-- the records that a query chooses, or all of them
abbrev kept : Option Query → List (List Scalar) → List (List Scalar)
kept None all = all
kept (Some q) all = filter (answers_so q) all

listed_kept : (f : Format) (query : Option Query) (bytes : List ℕ) → rows_listed f query bytes ≡ kept query (rows f bytes)
listed_kept f None bytes = refl
listed_kept f (Some q) bytes = chosen_values q 0 (rows f bytes)

kept_append : (query : Option Query) (first rest : List (List Scalar)) → kept query (first ++ rest) ≡ kept query first ++ kept query rest
kept_append None first rest = refl
kept_append (Some q) first rest = filter-append (answers_so q) first rest

-- What is listed is what is listed of the first record, and then of the records behind it.
listed_first : (f : Format) (query : Option Query) (bytes first rest : List ℕ) → 0 < f.size → f.size ≤ length bytes → first ≡ take f.size bytes → rest ≡ drop f.size bytes
    → rows_listed f query bytes ≡ rows_listed f query first ++ rows_listed f query rest
listed_first f query bytes first rest some within first_is rest_is =
    let long : length first ≡ f.size = ap length first_is ∙ length-take-le f.size bytes within in
    let alone : rows f first ≡ values f first ∷ [] = row_alone f first some long in
    let more : rows f bytes ≡ rows f first ++ rows f rest =
    rows_more f bytes some within
    ∙ (ap (λ (x : List ℕ). values f x ∷ rows f (drop f.size bytes)) (sym first_is)
    ∙ (ap (λ (x : List ℕ). values f first ∷ rows f x) (sym rest_is) ∙ ap (λ (front : List (List Scalar)). front ++ rows f rest) (sym alone))) in
    listed_kept f query bytes
    ∙ (ap (kept query) more
    ∙ (kept_append query (rows f first) (rows f rest)
    ∙ (ap (λ (front : List (List Scalar)). front ++ kept query (rows f rest)) (sym (listed_kept f query first))
    ∙ ap (λ (back : List (List Scalar)). rows_listed f query first ++ back) (sym (listed_kept f query rest)))))

-- The text of a table is the line of its first record, if that is listed, and then the text of the records
-- behind it.
pub text_first : (l : Listing) (bytes first rest old new : List ℕ) → 0 < l.records.format.size → l.records.format.size ≤ length bytes
    → first ≡ take l.records.format.size bytes → rest ≡ drop l.records.format.size bytes → new ≡ old ++ listing_text l first
    → new ++ listing_text l rest ≡ old ++ listing_text l bytes
text_first l bytes first rest old new some within first_is rest_is is =
    let f = l.records.format in
    ap (λ (x : List ℕ). x ++ listing_text l rest) is
    ∙ (append_assoc old (listing_text l first) (listing_text l rest)
    ∙ ap (λ (x : List ℕ). old ++ x)
    (sym (ap (flat_map row_line) (listed_first f l.query bytes first rest some within first_is rest_is)
    ∙ flat_map-append row_line (rows_listed f l.query first) (rows_listed f l.query rest))))

-- the text of one record, if all records are listed
pub text_of_all : (l : Listing) (alone : List ℕ) → l.query ≡ None → 0 < l.records.format.size → length alone ≡ l.records.format.size →
    listing_text l alone ≡ row_line (values l.records.format alone)
text_of_all l alone all some long =
    let f = l.records.format in
    ap (λ (query : Option Query). flat_map row_line (rows_listed f query alone)) all
    ∙ (ap (flat_map row_line) (row_alone f alone some long) ∙ append-nil (row_line (values f alone)))
