-- Views that are out show all bytes, and a number is written through one of them.
use Rattle.std.proofs.Common.{◌≡◌, ℕ, suc, zero, ◌+◌, ◌*◌, ◌<◌, ◌^◌, ◌/◌, ◌%◌, Bool, true, false, not, List, [], ◌∷◌, ◌++◌, length, map, refl, ap, arith, sym, ◌∙◌, subst, set, Some, take, drop}
use Rattle.std.specs.Prelude.{slice_get, slice_index, Result, Ok, Err, MatchResult, OnErr}
use Rattle.std.specs.Result.{result_map_both}
use Rattle.pybuf_value.specs.declared.faults.Fault.{Fault}
use Rattle.pybuf_value.specs.declared.halt.Halt.{Halt}
use Rattle.pybuf_value.specs.declared.halt.Halt.TheVariants as halt
use Rattle.pybuf_value.specs.Refusing.{◌>>=◌}
use Rattle.pybuf_command.specs.declared.commands.LocalReply.{LocalReply}
use Rattle.pybuf_command.specs.declared.commands.LocalReply.TheVariants as reply
use Rattle.pybuf_command.specs.Kinds.{holds_readonly}
use Rattle.pybuf_desc.specs.Layouts.{Layout, bytes_layout}
use Rattle.pybuf_desc.specs.Items.{content_of_layout}
use Rattle.pybuf_state.specs.Answers.{Answers}
use Rattle.pybuf_state.specs.Exporter.{Exporter, View, is_exported, view_at, released_at, released_in, with_view, whole_layout}
use Rattle.pybuf_state.specs.Live.{is_live, is_unreleased, layout_in, layout_of}
use Rattle.pybuf_exporter.specs.Lending.{written_from, overwritten_exporter}
use Rattle.example_users.specs.Lines.{IsSpanned}
use Rattle.example_users.specs.Numbers.{Numbers, numbers_in, IsOut, IsNumberArray}
use Rattle.example_users.proofs.NumberLemmas.{put_sound, put_shown}
use Rattle.example_users.proofs.SpanLemmas.{lent_content, lent_written}

-- A view that is live is out.
shown_live : (views : List View) (k : ℕ) → is_unreleased (slice_get views k) ≡ true → slice_get (map is_exported views) k ≡ Some true
shown_live [] k live = absurd cc
shown_live (v ∷ views) zero live = ap Some live
shown_live (v ∷ views) (suc k) live = shown_live views k live

pub is_out : (a : Numbers) (e : Exporter) (k : ℕ) → numbers_in e ≡ a → is_live e k ≡ true → IsOut a k
is_out a e k shown live = subst (λ b. IsOut b k) shown (shown_live e.views k live)

-- Each view that is live has this layout.
abbrev AllSpan : List View → Layout → Type 0
AllSpan views l = (k : ℕ) → is_unreleased (slice_get views k) ≡ true → layout_in (slice_get views k) ≡ l

span_more : (views : List View) (v : View) (l : Layout) → AllSpan views l → v.layout ≡ l → AllSpan (views ++ v ∷ []) l
span_more [] v l all is zero live = is
span_more [] v l all is (suc k) live = absurd cc
span_more (w ∷ views) v l all is zero live = all zero live
span_more (w ∷ views) v l all is (suc k) live = span_more views v l (λ j. all (suc j)) is k live

released_not : (b : Bool) → b ≡ true → not b ≡ true → ⊥
released_not true is live = cc
released_not false is live = cc

span_back : (views : List View) (i : ℕ) (v : View) (l : Layout) → AllSpan views l → v.released ≡ true → AllSpan (set views i v) l
span_back [] i v l all is k live = absurd cc
span_back (w ∷ views) zero v l all is zero live = absurd (released_not v.released is live)
span_back (w ∷ views) zero v l all is (suc k) live = all (suc k) live
span_back (w ∷ views) (suc i) v l all is zero live = all zero live
span_back (w ∷ views) (suc i) v l all is (suc k) live = span_back views i v l (λ j. all (suc j)) is k live

-- ---- arrays stay arrays

more_sound : (e new : Exporter) → IsNumberArray e → new ≡ (with_view e (whole_layout e)).0 → IsNumberArray new
more_sound e new is now =
    let whole : whole_layout e ≡ bytes_layout (length e.bytes) false = ap (λ kind. bytes_layout (length e.bytes) (holds_readonly kind)) is.kind in
    subst IsNumberArray (sym now) (record { kind = is.kind; pairs = is.pairs; whole = span_more e.views _ _ is.whole whole })

abbrev after_view : Result (Exporter × LocalReply) Fault → Exporter → Exporter
after_view (Ok pair) e = pair.0
after_view (Err f) e = e

same_sound : (e new : Exporter) → IsNumberArray e → new ≡ e → IsNumberArray new
same_sound e new is now = subst IsNumberArray (sym now) is

-- One more view is lent, or none is.
pub lent_sound : (e old new : Exporter) (r : Result ℕ Halt) → IsNumberArray e → old ≡ e → Answers (Ok (with_view old (whole_layout old))) old (result_map_both reply.View (λ h. h) r) new → IsNumberArray new
lent_sound e old new (Ok k) is same answer =
    more_sound e new is (sym (ap (λ r. after_view r e) answer) ∙ ap (λ x. (with_view x (whole_layout x)).0) same)
lent_sound e old new (Err (halt.Refused f)) is same answer = same_sound e new is (answer.1 ∙ same)
lent_sound e old new (Err halt.NoMemory) is same answer = same_sound e new is (answer ∙ same)

back_sound_by : (e new : Exporter) (k : ℕ) (view : Result View Fault) (r : Result Unit Fault) → view ≡ view_at e k → IsNumberArray e
    → MatchResult r (λ _. (view >>= (λ v. Ok (released_at e k v))) ≡ Ok new) (λ f. (view >>= (λ v. Ok (released_at e k v))) ≡ Err f) → OnErr r (new ≡ e)
    → IsNumberArray new
back_sound_by e new k (Ok v) (Ok done) at is exact err =
    let now : new ≡ released_at e k v = cc in
    subst IsNumberArray (sym now) (record { kind = is.kind; pairs = is.pairs; whole = span_back e.views k (record v { released = true }) _ is.whole refl })
back_sound_by e new k (Ok v) (Err f) at is exact err = absurd cc
back_sound_by e new k (Err f) (Ok done) at is exact err = absurd cc
back_sound_by e new k (Err f) (Err g) at is exact err = same_sound e new is err

-- A view is given back, or it was never lent.
pub back_sound : (e new : Exporter) (k : ℕ) (r : Result Unit Fault) → IsNumberArray e
    → MatchResult r (λ _. released_in e k ≡ Ok new) (λ f. released_in e k ≡ Err f) → OnErr r (new ≡ e) → IsNumberArray new
back_sound e new k r is exact err = back_sound_by e new k (view_at e k) r refl is exact err

-- ---- a number that is written through a view

set_got : (numbers : List ℕ) (i n : ℕ) → i < length numbers → slice_get (set numbers i n) i ≡ Some n
set_got [] i n inside = absurd (omega arith)
set_got (m ∷ numbers) zero n inside = refl
set_got (m ∷ numbers) (suc i) n inside = set_got numbers i n (omega arith)

-- The exporter's owner tells that this view is live.
pub live_by : (e seen : Exporter) (view : ℕ) (told : Bool) → seen ≡ e → told ≡ is_live seen view → told ≡ true → is_live e view ≡ true
live_by e seen view told same is holds = sym (ap (λ x. is_live x view) same) ∙ (sym is ∙ holds)

pub is_spanned : (e : Exporter) (view : ℕ) → IsNumberArray e → is_live e view ≡ true → IsSpanned e view
is_spanned e view is live = record { live = live; whole = is.whole view live }

-- an array after the two bytes of a number replaced those at an index, through a view that is out
module _ (a : Numbers) (e lent : Exporter) (view : ℕ) (seen copied : List ℕ) (i n k : ℕ) (array : IsNumberArray e) (shown : numbers_in e ≡ a) (live : is_live e view ≡ true) (same : lent ≡ e) (content : seen ≡ content_of_layout lent.bytes (layout_of lent view)) (copy : copied ≡ n % 256 ∷ n / 256 % 256 ∷ []) (two : k ≡ 2) (small : n < 2 ^ 16) (inside : i < length a.numbers) where
  abbrev pub through : Exporter
  through = written_from lent (slice_index (layout_of lent view).starts 0) (take (2 * i) seen ++ (copied ++ drop k (drop (2 * i) seen)))

  bytes : seen ≡ e.bytes
  bytes = content ∙ lent_content e lent view (is_spanned e view array live) same

  at : through ≡ overwritten_exporter e (take (2 * i) seen ++ (copied ++ drop k (drop (2 * i) seen)))
  at = lent_written e lent view (is_spanned e view array live) same (take (2 * i) seen ++ (copied ++ drop k (drop (2 * i) seen)))

  pub through_sound : IsNumberArray through
  through_sound = subst IsNumberArray (sym at) (put_sound a e seen copied i n k array shown bytes copy two small inside)

  pub through_shown : numbers_in through ≡ record a { numbers = set a.numbers i n }
  through_shown = ap numbers_in at ∙ put_shown a e seen copied i n k array shown bytes copy two small inside

  pub through_got : slice_get (numbers_in through).numbers i ≡ Some n
  through_got = ap (λ (b : Numbers). slice_get b.numbers i) through_shown ∙ set_got a.numbers i n inside
