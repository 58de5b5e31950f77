-- Which records of a table are listed, and how words spell that.
use Rattle.std.specs.Prelude.{◌≡◌, ℕ, true, List, [], ◌∷◌, map, Option, Some, None, Result, Ok, Err, if◌then◌else◌}
use Rattle.pybuf_value.specs.Choosing.{◌>>=◌}
use Rattle.pybuf_value.specs.declared.faults.Fault.{Fault}
use Rattle.pybuf_value.specs.declared.values.Scalar.{Scalar}
use Rattle.pybuf_value.specs.declared.values.Scalar.TheVariants as scalar
use Rattle.pybuf_struct.specs.Formats.{Format}
use Rattle.pybuf_table.specs.Records.{RecordFormat, record_format, rows, IsRecordFormat}
use Rattle.pybuf_table.specs.Chosen.{chosen}
use Rattle.pybuf_table_lines.specs.declared.queries.Query.{Query}
use Rattle.pybuf_table_lines.specs.Queries.{query_in, may_be_asked}

-- a listing of the records of a format, which are all or those that a query chooses
pub record Listing : Type 0 where
  pub records : RecordFormat
  pub query : Option Query

-- If there is a query, it may be asked of the records.
abbrev pub AsksWell : Format → Option Query → Type 0
AsksWell f None = Unit {0}
AsksWell f (Some q) = may_be_asked f q ≡ true

-- what holds of every listing
pub record IsListing (l : Listing) : Type 0 where
  pub format : IsRecordFormat l.records
  pub asks : AsksWell l.records.format l.query

-- ---- words

abbrev pub spelled : Result RecordFormat Fault → Option RecordFormat
spelled (Ok r) = Some r
spelled (Err f) = None

-- the format of records that a word spells, whose records have one byte or more
abbrev pub records_in : List ℕ → Option RecordFormat
records_in word = spelled (record_format word)

abbrev pub listing_of_query : RecordFormat → Query → Option Listing
listing_of_query r q = if may_be_asked r.format q then Some (record { records = r; query = Some q }) else None

-- What words ask to be listed. A format alone asks for each record, and a format with a query for those that
-- the query chooses.
abbrev pub listing_in : List (List ℕ) → Option Listing
listing_in (format ∷ []) = do
  r ← records_in format
  Some (record { records = r; query = None })
listing_in (format ∷ field ∷ operator ∷ number ∷ []) = do
  r ← records_in format
  q ← query_in field operator number
  listing_of_query r q
listing_in _ = None

-- ---- records

-- the values of each record that is listed
abbrev pub rows_listed : Format → Option Query → List ℕ → List (List Scalar)
rows_listed f None bytes = rows f bytes
rows_listed f (Some q) bytes = map (λ row. row.1) (chosen f q.field q.op (scalar.Int q.number) bytes)

abbrev pub listed : Listing → List ℕ → List (List Scalar)
listed l bytes = rows_listed l.records.format l.query bytes
