-- Tables of records, record by record. What was put and what waits are the front of the text that is due, and
-- the text of the records that are left is the rest.
use Rattle.std.proofs.Common.{◌≡◌, ◌⊎◌, ℕ, ◌<◌, ◌≤◌, ◌==◌, Bool, true, false, cond, List, [], ◌++◌, length, map, Option, Some, None, inl, inr, refl, sym, ◌∙◌, ap, subst, arith}
use Rattle.std.specs.Prelude.{nat_lt}
use Rattle.std.specs.List.{flat_map, filter, enumerate_from}
use Rattle.std.proofs.Math.Nat.{zero-div}
use Rattle.std.proofs.lemmas.Bool.{le-ltb, lt-ltb}
use Rattle.std.proofs.lemmas.List.{append_assoc, append-nil}
use Rattle.pybuf_value.specs.declared.values.Scalar.TheVariants as scalar
use Rattle.pybuf_struct.specs.Formats.{Format}
use Rattle.pybuf_table.specs.Records.{rows_of}
use Rattle.pybuf_table.specs.Chosen.{is_chosen}
use Rattle.pybuf_table_lines.specs.declared.queries.Query.{Query}
use Rattle.pybuf_table_lines.specs.Listings.{Listing, rows_listed}
use Rattle.pybuf_table_lines.specs.Texts.{row_line, listing_text, left_over, left_over_text}
use Rattle.pybuf_cli.specs.declared.forms.Form.TheVariants as form
use Rattle.pybuf_cli.specs.declared.status.Status.{Status}
use Rattle.pybuf_cli.specs.declared.status.Status.TheVariants as status
use Rattle.pybuf_cli.specs.Devices.{Took, AtEnd, Put, PutPrefix, Sends}
use Rattle.pybuf_cli.specs.Program.{most, TakesFront}
use Rattle.pybuf_cli.specs.Tables.{text_of_table, ending_of_table, table_text, table_ending, IsListed, IsBadData}
use Rattle.pybuf_cli.specs.Serving.{ServesForm}
use Rattle.pybuf_cli.proofs.Sending.{put_nothing, put_front, sends_more, sends_put, sends_front, sends_then_front}
use Rattle.pybuf_cli.proofs.Served.{took_all, held_is}

-- ---- the records

-- An empty input has no records.
none_listed : (f : Format) (query : Option Query) → rows_listed f query [] ≡ []
none_listed f None = ap (λ (n : ℕ). rows_of f n []) (zero-div f.size)
none_listed f (Some q) = ap (λ (n : ℕ). map (λ row. row.1) (filter (is_chosen q.field q.op (scalar.Int q.number)) (enumerate_from 0 (rows_of f n [])))) (zero-div f.size)

nothing_listed : (l : Listing) → listing_text l [] ≡ []
nothing_listed l = ap (flat_map row_line) (none_listed l.records.format l.query)

-- what was put and what waits for the records before the rest
pub record IsTabling (l : Listing) (input rest : List ℕ) (old : Option (List ℕ)) (waiting : List ℕ) (held : Option (List ℕ)) : Type 0 where
  pub text : List ℕ
  pub due : listing_text l input ≡ text ++ listing_text l rest
  pub sends : Sends old text waiting held

-- the text that is due, with the line of one more record
due_behind : (l : Listing) (input rest after text before line : List ℕ) → listing_text l input ≡ text ++ listing_text l rest → before ≡ [] →
    line ++ listing_text l after ≡ before ++ listing_text l rest → listing_text l input ≡ (text ++ line) ++ listing_text l after
due_behind l input rest after text before line due none is =
    due
    ∙ (ap (λ (x : List ℕ). text ++ x) (sym (is ∙ ap (λ (x : List ℕ). x ++ listing_text l rest) none))
    ∙ sym (append_assoc text line (listing_text l after)))

pub tabling_goes_on : (l : Listing) (input rest after : List ℕ) (old mid new : Option (List ℕ)) (waiting before line left : List ℕ) →
    IsTabling l input rest old waiting mid → before ≡ [] → line ++ listing_text l after ≡ before ++ listing_text l rest →
    Sends mid (waiting ++ line) left new → IsTabling l input after old left new
tabling_goes_on l input rest after old mid new waiting before line left so none is sent = record {
  text = so.text ++ line;
  due = due_behind l input rest after so.text before line so.due none is;
  sends = sends_more old mid new so.text waiting line (waiting ++ line) sent.sent left so.sends refl sent.whole sent.put;
}

-- If there is no memory for a record, the front of what waits is put before it.
pub tabling_stops_before : (l : Listing) (input rest : List ℕ) (old mid new : Option (List ℕ)) (waiting lent : List ℕ) →
    IsTabling l input rest old waiting mid → lent ≡ waiting → PutPrefix mid lent new → PutPrefix old (listing_text l input) new
tabling_stops_before l input rest old mid new waiting lent so same front =
    sends_front old mid new so.text waiting lent (listing_text l rest) (listing_text l input) so.sends so.due same front

pub tabling_stops_behind : (l : Listing) (input rest after : List ℕ) (old mid new : Option (List ℕ)) (waiting before line : List ℕ) →
    IsTabling l input rest old waiting mid → before ≡ [] → line ++ listing_text l after ≡ before ++ listing_text l rest →
    PutPrefix mid (waiting ++ line) new → PutPrefix old (listing_text l input) new
tabling_stops_behind l input rest after old mid new waiting before line so none is front =
    sends_then_front old mid new so.text waiting line (listing_text l after) (listing_text l input) so.sends
    (due_behind l input rest after so.text before line so.due none is) front

-- No byte is left, so what was put and what waits are all that is due.
all_tabled : (l : Listing) (input rest text : List ℕ) → listing_text l input ≡ text ++ listing_text l rest → rest ≡ [] → text ≡ listing_text l input
all_tabled l input rest text due none =
    sym (due ∙ (ap (λ (x : List ℕ). text ++ listing_text l x) none ∙ (ap (λ (x : List ℕ). text ++ x) (nothing_listed l) ∙ append-nil text)))

pub tabling_ends : (l : Listing) (input rest : List ℕ) (old mid new : Option (List ℕ)) (waiting lent : List ℕ) →
    IsTabling l input rest old waiting mid → rest ≡ [] → lent ≡ waiting → Put mid lent new → Put old (listing_text l input) new
tabling_ends l input rest old mid new waiting lent so none same put =
    subst (λ (x : List ℕ). Put old x new) (all_tabled l input rest so.text so.due none) (sends_put old mid new so.text waiting lent so.sends same put)

-- ---- what was read and put, if the source tells its bytes

pub listed_all : (l : Listing) (old new held_before held : Option (List ℕ)) (input bytes lent : List ℕ) → Took old bytes new → AtEnd new →
    length bytes ≤ most → lent ≡ bytes → ((left_over l lent ≡ 0) × Put held_before (listing_text l lent) held) →
    old ≡ Some input → IsListed l input new held_before held
listed_all l old new held_before held input bytes lent took end short same done told =
    let all = took_all old new input bytes took end told in
    let one : lent ≡ input = same ∙ all.0 in
    record {
      all_read = all.1;
      short = omega (arith, short, ap length all.0);
      whole = sym (ap (left_over l) one) ∙ done.0;
      put = subst (λ (x : List ℕ). Put held_before (listing_text l x) held) one done.1;
    }

pub bad_data_told : (l : Listing) (old new held_before held : Option (List ℕ)) (input bytes lent : List ℕ) → Took old bytes new → AtEnd new →
    length bytes ≤ most → lent ≡ bytes → ((0 < left_over l lent) × Put held_before (left_over_text (left_over l lent)) held) →
    old ≡ Some input → IsBadData l input new held_before held
bad_data_told l old new held_before held input bytes lent took end short same bad told =
    let all = took_all old new input bytes took end told in
    let one : lent ≡ input = same ∙ all.0 in
    record {
      all_read = all.1;
      short = omega (arith, short, ap length all.0);
      some_left = subst (λ (x : List ℕ). 0 < left_over l x) one bad.0;
      put = subst (λ (x : List ℕ). Put held_before (left_over_text (left_over l x)) held) one bad.1;
    }

-- ---- bytes in memory

pub quiet_listed : (l : Listing) (input told held_before held out : List ℕ) (left : Option (List ℕ)) → told ≡ input → held_before ≡ [] → out ≡ held →
    IsListed l told left (Some held_before) (Some held) → (left_over l input ≡ 0) × (out ≡ listing_text l input)
quiet_listed l input told held_before held out left same empty kept done = (
  sym (ap (left_over l) same) ∙ done.whole,
  kept ∙ (held_is held_before held (listing_text l told) empty done.put ∙ ap (listing_text l) same),
)

pub quiet_bad_data : (l : Listing) (input told held_before held out : List ℕ) (left : Option (List ℕ)) → told ≡ input → held_before ≡ [] → out ≡ held →
    IsBadData l told left (Some held_before) (Some held) → (0 < left_over l input) × (out ≡ left_over_text (left_over l input))
quiet_bad_data l input told held_before held out left same empty kept bad = (
  subst (λ (x : List ℕ). 0 < left_over l x) same bad.some_left,
  kept ∙ (held_is held_before held (left_over_text (left_over l told)) empty bad.put ∙ ap (λ (x : List ℕ). left_over_text (left_over l x)) same),
)
