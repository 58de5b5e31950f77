-- A released view stops no edit.
use Rattle.std.proofs.Common.{◌≡◌, ◌⊎◌, inl, inr, ℕ, zero, suc, ◌+◌, List, [], ◌∷◌, Bool, true, false, true≢false, ap, sym, ◌∙◌, refl, arith}
use Rattle.std.specs.Prelude.{not, cond, nat_lt, count_by, slice_get, Some, Result, Ok}
use Rattle.std.proofs.lemmas.List.Sums.{sum_by-cons}
use Rattle.pybuf_lemmas.proofs.Numbers.{none_counted}
use Rattle.pybuf_state.specs.Facts.{no_exports}
use Rattle.pybuf_value.specs.declared.faults.Fault.{Fault}
use Rattle.pybuf_value.specs.declared.faults.Fault.TheVariants as fault
use Rattle.pybuf_value.specs.Refusing.{◌>>=◌}
use Rattle.pybuf_desc.specs.Layouts.{Layout}
use Rattle.pybuf_command.specs.declared.kinds.Subject.TheVariants as subject
use Rattle.pybuf_command.specs.declared.commands.Verb.{Verb}
use Rattle.pybuf_command.specs.declared.commands.LocalReply.{LocalReply}
use Rattle.pybuf_command.specs.declared.commands.LocalReply.TheVariants as reply
use Rattle.pybuf_command.specs.declared.loans.Loan.{Loan}
use Rattle.pybuf_command.specs.Handles.{handles_of}
use Rattle.pybuf_state.specs.Exporter.{Exporter, View, is_exported, with_view}
use Rattle.pybuf_state.specs.Loans.{are_known}
use Rattle.pybuf_state.specs.Resizing.{has_exports}
use Rattle.pybuf_verbs_edits.specs.Edits.{is_edit}
use Rattle.pybuf_exporter.specs.Step.{settled_answer, estep}
use Rattle.pybuf_exporter.specs.Laws.{AddsItself, ResizingIsRefusedWhileExported}
use Rattle.pybuf_exporter.specs.Handles.{UnknownHandlesAreRefused}
use Rattle.pybuf_exporter.specs.Releasing.{ReleasedViewsDontCount, ReleasedViewsStopNoEdit, ViewsAreReplied}

-- ---- the number of unreleased views

counted_more : (released : Bool) (n : ℕ) → released ≡ true → n ≡ 0 → cond (not released) 1 0 + n ≡ 0
counted_more true n is none = omega (arith, none)
counted_more false n is none = absurd (true≢false (sym is))

none_count : (views : List View) → ((k : ℕ) (v : View) → slice_get views k ≡ Some v → v.released ≡ true) → count_by is_exported views ≡ 0
none_count [] all = refl
none_count (v ∷ views) all =
    sum_by-cons (λ (w : View). cond (is_exported w) 1 0) v views ∙ counted_more v.released (count_by is_exported views) (all 0 v refl) (none_count views (λ k w found. all (suc k) w found))

all_released : (views : List View) → count_by is_exported views ≡ 0 → (k : ℕ) (v : View) → slice_get views k ≡ Some v → v.released ≡ true
all_released [] none k v found = absurd (cc)
all_released (w ∷ views) none zero v found =
    let first = none_counted w.released (count_by is_exported views) (sym (sum_by-cons (λ (x : View). cond (is_exported x) 1 0) w views) ∙ none) in
    let same : w ≡ v = cc in
    ap (λ (x : View). x.released) (sym same) ∙ first.0
all_released (w ∷ views) none (suc k) v found =
    let first = none_counted w.released (count_by is_exported views) (sym (sum_by-cons (λ (x : View). cond (is_exported x) 1 0) w views) ∙ none) in
    all_released views first.1 k v found

pub dont_count : ReleasedViewsDontCount
dont_count e = (λ none. all_released e.views (no_exports e none), λ all. ap (λ (n : ℕ). nat_lt 0 n) (none_count e.views all))

-- ---- edits

itself_alone : (e : Exporter) (X Y : Type 0) → has_exports e ≡ false → (X × (has_exports e ≡ true)) ⊎ Y → Y
itself_alone e X Y none (inl is) = absurd (true≢false (sym is.1 ∙ none))
itself_alone e X Y none (inr is) = is

by_handles : ResizingIsRefusedWhileExported → UnknownHandlesAreRefused → (e : Exporter) (v : Verb) (loans : List (ℕ × Loan)) (known : Bool) → are_known e loans (handles_of v) ≡ known → has_exports e ≡ false → is_edit v ≡ true
    → (estep e subject.Own v loans).1 ≡ reply.Refused fault.Buffer → AddsItself e v loans
by_handles refused unknown e v loans true known none edit is = itself_alone e _ _ none ((refused e v loans edit known).only is)
by_handles refused unknown e v loans false known none edit is =
    let answer : reply.Refused fault.UnknownName ≡ reply.Refused fault.Buffer = sym (ap (λ (after : Exporter × LocalReply). after.1) (unknown.loans e subject.Own v loans known)) ∙ is in absurd (cc)

pub stop_no_edit : ResizingIsRefusedWhileExported → UnknownHandlesAreRefused → ReleasedViewsStopNoEdit
stop_no_edit refused unknown e v loans all edit is = by_handles refused unknown e v loans (are_known e loans (handles_of v)) refl ((dont_count e).1 all) edit is

-- ---- new views

pub are_replied : ViewsAreReplied
are_replied = record {
  own = λ e loans. refl;
  view = λ e k layout loans live. ap (λ (r : Result Layout Fault). settled_answer e (r >>= λ found. Ok (with_view e found))) live;
  refused = λ e k f loans dead. ap (λ (r : Result Layout Fault). settled_answer e (r >>= λ found. Ok (with_view e found))) dead;
}
